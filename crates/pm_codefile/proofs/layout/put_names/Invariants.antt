use Rattle.std.proofs.Common.{◌≡◌, ◌<◌, ◌++◌, ℕ, [], drop, get_or, length}
use Rattle.pm_codefile.specs.Layout.{names_for}
use Rattle.pm_codefile.proofs.layout.put_names.Given as goal

abbrev pub invariant-loop-n : goal.invariant-loop-n
invariant-loop-n l = record {
  whole : l.file.items ++ names_for (drop l.n l.names) (drop l.n l.lengths) ≡ l.initial.file.items ++ names_for l.names l.lengths;
  eight : (k : ℕ) → k < l.n → length (get_or l.names k []) ≡ 8;
}
