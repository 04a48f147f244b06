use Rattle.std.proofs.Common.{◌≡◌, ◌-◌}
use Rattle.std.specs.List.{list_any}
use Rattle.pm_volume.specs.Directory.{entries_from}
use Rattle.pm_volume.specs.Files.{is_named}
use Rattle.pm_volume.proofs.directory.has_name.Given as goal

-- A file in the slots from `n` on has the name if and only if any file in the searched slots has it.
abbrev pub invariant-loop-n : goal.invariant-loop-n
invariant-loop-n l =
    list_any (is_named l.name) (entries_from l.directory l.n (l.to - l.n))
    ≡ list_any (is_named l.name) (entries_from l.directory l.from (l.to - l.from))
