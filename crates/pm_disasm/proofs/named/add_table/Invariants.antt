use Rattle.std.proofs.Common.{◌≡◌, ◌+◌, ◌*◌, ℕ, true, drop}
use Rattle.std.specs.Prelude.{◌||◌}
use Rattle.std.specs.List.{list_all}
use Rattle.pm_words.specs.Words.{words_of}
use Rattle.pm_code.specs.Program.{is_among}
use Rattle.pm_disasm.specs.Split.{table_places}
use Rattle.pm_disasm.specs.Views.{IsAlike, has}
use Rattle.pm_disasm.proofs.named.add_table.Given as goal

-- The offsets up to here, and the remaining targets, are all offsets. The remaining targets are boundaries.
abbrev pub invariant-loop-k : goal.invariant-loop-k
invariant-loop-k l = record {
  alike : IsAlike l.named l.boundaries;
  within : list_all (has l.boundaries) (table_places (l.at + 2 * l.k) (words_of (drop (2 * l.k) l.words))) ≡ true;
  places : (p : ℕ) → (is_among (table_places (l.at + 2 * l.k) (words_of (drop (2 * l.k) l.words))) p || has l.named p)
      ≡ (is_among (table_places l.at (words_of l.words)) p || has l.fn.named p);
}
