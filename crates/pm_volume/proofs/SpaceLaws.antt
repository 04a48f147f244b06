-- A sum or maximum over the gaps of a directory, computed one gap after the other.
use Rattle.std.proofs.Common.{◌≡◌, ◌<◌, ◌≤◌, ℕ, ◌+◌, ◌-◌, List, arith}
use Rattle.std.specs.List.{fold}
use Rattle.pm_volume.specs.Changes.{gaps}
use Rattle.pm_volume.specs.Directory.{entries_from, entry_in}
use Rattle.pm_volume.specs.declared.gap.Gap.{Gap}
use Rattle.pm_volume.proofs.DirectoryLaws.{entries_from-more}

module _ (f : ℕ → Gap → ℕ) (a : ℕ) (directory : List ℕ) (blocks n from end : ℕ) where
  -- The value over all gaps is the value over the gap before the next entry and then over the gaps after that entry.
  pub fold-next : n < end
      → fold f a (gaps blocks n from (entries_from directory n (end - n)))
      ≡ fold f (f a (record { place = n; begin = from; end = (entry_in directory n).first }))
      (gaps blocks (n + 1) (entry_in directory n).end (entries_from directory (n + 1) (end - (n + 1))))
  unfolding gaps
  fold-next below = rw (entries_from-more directory n end below)

  -- If no entry is left, the only gap left is the gap after the last entry.
  pub fold-last : end ≤ n
      → fold f a (gaps blocks n from (entries_from directory n (end - n))) ≡ f a (record { place = n; begin = from; end = blocks })
  unfolding gaps entries_from
  fold-last over = let e : end - n ≡ 0 = omega arith in rw e

pub ruleset space_steps = (fold-next, fold-last)
