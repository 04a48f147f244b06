use Rattle.std.proofs.Common.{◌≡◌, ℕ, drop}
use Rattle.std.specs.Prelude.{◌||◌}
use Rattle.std.specs.List.{AllByRecursion}
use Rattle.pm_code.specs.Program.{is_among}
use Rattle.pm_disasm.specs.Views.{IsAlike, IsInside, has}
use Rattle.pm_disasm.proofs.named.add_entries.Given as goal

-- The offsets up to here, and those of the remaining entries, are all offsets.
abbrev pub invariant-loop-entry : goal.invariant-loop-entry
invariant-loop-entry l = record {
  alike : IsAlike l.named l.fn.named;
  within : AllByRecursion (IsInside l.fn.named) (drop l.entry-index l.entries);
  places : (p : ℕ) → (has l.named p || is_among (drop l.entry-index l.entries) p) ≡ (has l.fn.named p || is_among l.entries p);
}
