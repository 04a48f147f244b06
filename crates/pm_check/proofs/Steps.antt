-- Laws for one iteration of the loops over slots.
use Rattle.std.proofs.Common.{◌≡◌, ◌<◌, ◌≤◌, ℕ, suc, ◌+◌, ◌-◌, List, [], ◌++◌, arith}
use Rattle.pm_check.specs.Rules.{findings_from, slot_findings}
use Rattle.pm_check.specs.Forms.{note_if}
use Rattle.pm_check.specs.Notes.{differing, differing_from, differs, notes_from, pair_notes, pairs_from, slot_notes}

module _ (directory : List ℕ) (n end : ℕ) where
  pub findings_from-more : n < end
      → findings_from directory n (end - n) ≡ slot_findings directory n ++ findings_from directory (n + 1) (end - (n + 1))
  unfolding findings_from
  findings_from-more below =
      let e : end - n ≡ suc (end - (n + 1)) = omega arith in
      rw e

  pub findings_from-done : end ≤ n → findings_from directory n (end - n) ≡ []
  unfolding findings_from
  findings_from-done over =
      let e : end - n ≡ 0 = omega arith in
      rw e

  pub notes_from-more : n < end
      → notes_from directory n (end - n) ≡ slot_notes directory n ++ notes_from directory (n + 1) (end - (n + 1))
  unfolding notes_from
  notes_from-more below =
      let e : end - n ≡ suc (end - (n + 1)) = omega arith in
      rw e

  pub notes_from-done : end ≤ n → notes_from directory n (end - n) ≡ []
  unfolding notes_from
  notes_from-done over =
      let e : end - n ≡ 0 = omega arith in
      rw e

  pub pairs_from-more : (slot : ℕ) → n < end
      → pairs_from directory slot n (end - n) ≡ pair_notes directory slot n ++ pairs_from directory slot (n + 1) (end - (n + 1))
  unfolding pairs_from
  pairs_from-more slot below =
      let e : end - n ≡ suc (end - (n + 1)) = omega arith in
      rw e

  pub pairs_from-done : (slot : ℕ) → end ≤ n → pairs_from directory slot n (end - n) ≡ []
  unfolding pairs_from
  pairs_from-done slot over =
      let e : end - n ≡ 0 = omega arith in
      rw e

  pub differing_from-more : (other : List ℕ) → n < end
      → differing_from directory other n (end - n)
      ≡ note_if (differs directory other n) (differing n) ++ differing_from directory other (n + 1) (end - (n + 1))
  unfolding differing_from
  differing_from-more other below =
      let e : end - n ≡ suc (end - (n + 1)) = omega arith in
      rw e

  pub differing_from-done : (other : List ℕ) → end ≤ n → differing_from directory other n (end - n) ≡ []
  unfolding differing_from
  differing_from-done other over =
      let e : end - n ≡ 0 = omega arith in
      rw e
