use Rattle.std.proofs.Common.{◌≡◌, ◌++◌, string_bytes, take}
use Rattle.std.specs.List.{flat_map}
use Rattle.pm_check.specs.Report.{left_line}
use Rattle.pm_check.proofs.report.push_all_left.Given as goal

-- The lines of the entries so far have been appended to the text.
abbrev pub invariant-loop-left : goal.invariant-loop-left
invariant-loop-left l = string_bytes l.text ≡ string_bytes l.fn.text ++ flat_map left_line (take l.left-index l.all)
