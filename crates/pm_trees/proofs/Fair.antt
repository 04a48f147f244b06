-- Each part pops exactly what its operands push, and what is recorded as missing. A *part* is one item of the code with
-- its stack effect. A *tree* is a part with the trees that push its operands.
use Rattle.std.proofs.Common.{◌≡◌, ◌≤◌, ℕ, zero, suc, ◌+◌, ◌-◌, Bool, true, false, not, List, [], ◌∷◌, ◌++◌, drop, take}
use Rattle.std.proofs.Common.{refl, sym, ap, ◌∙◌, arith, append_assoc}
use Rattle.std.specs.Prelude.{◌==◌, ◌||◌, nat_le, if◌then◌else◌, replicate, Some}
use Rattle.std.proofs.lemmas.Bool.{and_parts}
use Rattle.std.proofs.lemmas.Bool.Decides.{nat_tests}
use Rattle.std.proofs.lemmas.List.{append-nil}
use Rattle.pm_effects.specs.declared.effect.Share.{Share}
use Rattle.pm_effects.specs.declared.effect.Share.TheVariants as share
use Rattle.pm_trees.specs.declared.part.Leaves.{Leaves}
use Rattle.pm_trees.specs.declared.part.Leaves.TheVariants as leaves
use Rattle.pm_trees.specs.declared.part.Takes.{Takes}
use Rattle.pm_trees.specs.Parts.{Part, is_reached, procedure_parts}
use Rattle.pm_trees.specs.Trees.{Forest, Count, CountShare, CountWords, Growing, as_share, back, before_part, behind, closed, front, grown}
use Rattle.pm_trees.specs.Trees.{grown_all, grown_by, is_full, is_none, is_operand, leaves_nothing, leaves_of, lefts_of}
use Rattle.pm_trees.specs.Trees.{no_set, none_missing, one_more, set_count}
use Rattle.pm_trees.specs.Trees.{share_count, statements, takes_count, then_count, words_count, words_left}
use Rattle.pm_trees.specs.Trees.Forest.{Bare, Tree}
use Rattle.pm_trees.specs.Laws.{Entry, OperandsAreWhatIsTaken, TakesItsOperands, entries, entries_of, missing_below, missing_from, missing_of}
use Rattle.pm_trees.specs.Laws.{missing_then, off_share, off_words}
use Rattle.pm_trees.specs.Laws.Entry.{AWord, AConstant}

-- ---- what trees push

off_replicated : (n k : ℕ) (es : List Entry) → k ≤ n → off_words n (replicate k AWord ++ es) ≡ off_words (n - k) es
unfolding off_words
off_replicated n zero es low = ap (λ (i : ℕ). off_words i es) (omega arith)
off_replicated zero (suc k) es low = absurd (omega (arith, low))
off_replicated (suc n) (suc k) es low =
    let e : suc n - suc k ≡ n - k = omega arith in
    off_replicated n k es (omega (arith, low)) ∙ ap (λ (i : ℕ). off_words i es) (sym e)

off_one : (n : ℕ) (c : ℕ) (es : List Entry) → 1 ≤ n → off_words n (AConstant c ∷ es) ≡ off_words (n - 1) es
unfolding off_words
off_one zero c es low = absurd (omega (arith, low))
off_one (suc n) c es low = let e : suc n - 1 ≡ n = omega arith in ap (λ (i : ℕ). off_words i es) (sym e)

off_operand : (n : ℕ) (l : Leaves) (es : List Entry) → is_operand n l ≡ true → off_words n (entries l ++ es) ≡ off_words (n - words_left l) es
off_operand n (leaves.Words k) es h =
    let low : k ≤ n = grind (arith, nat_tests, (and_parts (not (n == 0)) (nat_le k n) h).1) in off_replicated n k es low
off_operand n (leaves.Constant c) es h =
    let low : 1 ≤ n = grind (arith, nat_tests, (and_parts (not (n == 0)) (nat_le 1 n) h).1) in off_one n c es low
off_operand n leaves.Set es h = absurd (grind (arith, nat_tests, h))

-- The entries of the stack that the trees push, the top entry first.
abbrev all_entries : List Leaves → List Entry
all_entries [] = []
all_entries (l ∷ ls) = entries l ++ all_entries ls

entries_front : (k : ℕ) (f : Forest) → entries_of (front k f) ≡ all_entries (take k (leaves_of f))
entries_front zero f = refl
entries_front (suc k) Bare = refl
entries_front (suc k) (Tree p m o before) = ap (λ l. entries p.leaves ++ l) (entries_front k before)

entries_more : (a b : ℕ) (ls : List Leaves) → all_entries (take (a + b) ls) ≡ all_entries (take a ls) ++ all_entries (take b (drop a ls))
entries_more zero b ls = let e : 0 + b ≡ b = omega arith in ap (λ (i : ℕ). all_entries (take i ls)) e
entries_more (suc a) zero [] = let e : suc a + 0 ≡ suc a = omega arith in ap (λ (i : ℕ). all_entries (take i [])) e
entries_more (suc a) (suc b) [] = let e : suc a + suc b ≡ suc (a + suc b) = omega arith in ap (λ (i : ℕ). all_entries (take i [])) e
entries_more (suc a) b (l ∷ ls) =
    let e : suc a + b ≡ suc (a + b) = omega arith in
    ap (λ (i : ℕ). all_entries (take i (l ∷ ls))) e
    ∙ ap (λ es. entries l ++ es) (entries_more a b ls)
    ∙ sym (append_assoc (entries l) (all_entries (take a ls)) (all_entries (take b (drop a ls))))

words_fair : (n : ℕ) (ls : List Leaves) (es : List Entry)
    → off_words n (all_entries (take (words_count n ls).trees ls) ++ es) ≡ off_words (words_count n ls).missing es
unfolding words_count
words_fair n [] es = refl
words_fair n (l ∷ ls) es = by (words_count (n - words_left l) ls) (words_fair (n - words_left l) ls es) (is_operand n l) refl
  where
    by : (c : CountWords) → off_words (n - words_left l) (all_entries (take c.trees ls) ++ es) ≡ off_words c.missing es
        → (b : Bool) → is_operand n l ≡ b
        → off_words n (all_entries (take (if b then one_more c else record { trees = 0; missing = n }).trees (l ∷ ls)) ++ es)
        ≡ off_words (if b then one_more c else record { trees = 0; missing = n }).missing es
    by c e true h =
        ap (λ x. off_words n x) (append_assoc (entries l) (all_entries (take c.trees ls)) es)
        ∙ off_operand n l (all_entries (take c.trees ls) ++ es) h ∙ e
    by c e false h = refl

abbrev Fair : Share → CountShare → List Leaves → List Entry → Type 0
Fair s c ls es = off_share s (all_entries (take c.trees ls) ++ es) ≡ off_share c.missing es

fair_set : (ls : List Leaves) (es : List Entry) → Fair share.Set (set_count ls) ls es
unfolding set_count off_words
fair_set [] es = refl
fair_set (leaves.Words n ∷ ls) es = refl
fair_set (leaves.Set ∷ ls) es = refl
fair_set (leaves.Constant k ∷ ls) es = by (words_count k ls) (words_fair k ls es) ((words_count k ls).missing == 0)
  where
    by : (c : CountWords) → off_words k (all_entries (take c.trees ls) ++ es) ≡ off_words c.missing es
        → (b : Bool) → Fair share.Set (if b then as_share (one_more c) else no_set) (leaves.Constant k ∷ ls) es
    by c e true = e
    by c e false = refl

fair : (s : Share) (ls : List Leaves) (es : List Entry) → Fair s (share_count s ls) ls es
unfolding share_count
fair (share.Words n) ls es = words_fair n ls es
fair share.Set ls es = fair_set ls es

-- From an empty stack nothing can be taken, so the whole share is still needed.
off_none : (s : Share) → off_share s [] ≡ Some (record { wanted = s; stack = [] })
unfolding off_words
off_none (share.Words zero) = refl
off_none (share.Words (suc n)) = refl
off_none share.Set = refl

-- If a share is 0 words, then nothing is taken from the stack.
off_nothing : (s : Share) (es : List Entry) → is_none s ≡ true → off_share s es ≡ Some (record { wanted = share.Words 0; stack = es })
unfolding off_words
off_nothing (share.Words zero) es h = refl
off_nothing (share.Words (suc n)) es h = absurd (grind (arith, nat_tests, h))
off_nothing share.Set es h = cc

-- The count of the trees for both shares of a part, if nothing of the share on top is missing.
abbrev deep : CountShare → CountShare → Count
deep t u = record { trees = t.trees + u.trees; missing = record { top = share.Words 0; below = u.missing } }

abbrev flat : CountShare → Share → Count
flat t below = record { trees = t.trees; missing = record { top = t.missing; below = below } }

missing_then_count : (w : Takes) (ls : List Leaves) → missing_from w (all_entries (take (takes_count w ls).trees ls)) ≡ Some (takes_count w ls).missing
unfolding missing_from takes_count
missing_then_count w ls = by (share_count w.top ls) (share_count w.below (drop (share_count w.top ls).trees ls)) (fair w.top ls)
    (fair w.below (drop (share_count w.top ls).trees ls))
  where
    by : (t u : CountShare) → ((es : List Entry) → Fair w.top t ls es) → ((es : List Entry) → Fair w.below u (drop t.trees ls) es)
        → missing_then w.below (off_share w.top (all_entries (take (then_count t w.below u).trees ls))) ≡ Some (then_count t w.below u).missing
    by t u e g = or (is_none t.missing) refl
      where
        or : (b : Bool) → is_none t.missing ≡ b
            → missing_then w.below (off_share w.top (all_entries (take (if b then deep t u else flat t w.below).trees ls)))
            ≡ Some (if b then deep t u else flat t w.below).missing
        or true h =
            ap (λ l. missing_then w.below (off_share w.top l)) (entries_more t.trees u.trees ls)
            ∙ ap (λ l. missing_then w.below l) (e (all_entries (take u.trees (drop t.trees ls)))
            ∙ off_nothing t.missing (all_entries (take u.trees (drop t.trees ls))) h)
            ∙ ap (λ l. missing_below (off_share w.below l)) (sym (append-nil (all_entries (take u.trees (drop t.trees ls)))))
            ∙ ap missing_below (g [] ∙ off_none u.missing)
        or false h =
            ap (λ l. missing_then w.below (off_share w.top l)) (sym (append-nil (all_entries (take t.trees ls))))
            ∙ ap (λ l. missing_then w.below l) (e [] ∙ off_none t.missing)
            ∙ ap (λ (b : Bool). if b then missing_below (off_share w.below []) else missing_of t.missing w.below []) h

-- ---- statements

record AreFair (g : Growing) : Type 0 where
  done : TakesItsOperands g.done
  pending : TakesItsOperands g.pending

fair_behind : (f before : Forest) → TakesItsOperands f → TakesItsOperands before → TakesItsOperands (behind f before)
fair_behind Bare before f b = b
fair_behind (Tree p m o more) before f b = (f.0, f.1, fair_behind more before f.2 b)

fair_front : (k : ℕ) (f : Forest) → TakesItsOperands f → TakesItsOperands (front k f)
fair_front zero f s = tt
fair_front (suc k) Bare s = tt
fair_front (suc k) (Tree p m o before) s = (s.0, s.1, fair_front k before s.2)

fair_back : (k : ℕ) (f : Forest) → TakesItsOperands f → TakesItsOperands (back k f)
fair_back zero f s = s
fair_back (suc k) Bare s = tt
fair_back (suc k) (Tree p m o before) s = fair_back k before s.2

fair_joins : (p : Part) (c : Count) (g : Growing) → missing_from p.takes (entries_of (front c.trees g.pending)) ≡ Some c.missing → AreFair g
    → AreFair (grown_by p c g)
fair_joins p c g e s = by (leaves_nothing p.leaves) (none_missing c.missing)
  where
    o : TakesItsOperands (front c.trees g.pending)
    o = fair_front c.trees g.pending s.pending

    r : TakesItsOperands (back c.trees g.pending)
    r = fair_back c.trees g.pending s.pending

    by : (x y : Bool)
        → AreFair (if x then record { done = Tree p c.missing (front c.trees g.pending) (behind (back c.trees g.pending) g.done); pending = Bare }
        else if y then record { done = g.done; pending = Tree p c.missing (front c.trees g.pending) (back c.trees g.pending) }
        else record { done = behind (back c.trees g.pending) g.done; pending = Tree p c.missing (front c.trees g.pending) Bare })
    by true y = record { done = (e, o, fair_behind (back c.trees g.pending) g.done r s.done); pending = tt }
    by false true = record { done = s.done; pending = (e, o, r) }
    by false false = record { done = fair_behind (back c.trees g.pending) g.done r s.done; pending = (e, o, tt) }

fair_before : (p : Part) (g : Growing) → AreFair g → AreFair (before_part p g)
fair_before p g s = by (is_reached p.place || is_full (lefts_of g.pending))
  where
    by : (b : Bool) → AreFair (if b then closed g else g)
    by true = record { done = fair_behind g.pending g.done s.pending s.done; pending = tt }
    by false = s

fair_grown : (p : Part) (g : Growing) → AreFair g → AreFair (grown p g)
fair_grown p g s =
    let c = takes_count p.takes (leaves_of g.pending) in
    fair_joins p c g (ap (λ l. missing_from p.takes l) (entries_front c.trees g.pending) ∙ missing_then_count p.takes (leaves_of g.pending)) s

fair_all : (ps : List Part) (g : Growing) → AreFair g → AreFair (grown_all ps g)
fair_all [] g s = s
fair_all (p ∷ ps) g s = fair_all ps (grown p (before_part p g)) (fair_grown p (before_part p g) (fair_before p g s))

pub operands_are_what_is_taken : OperandsAreWhatIsTaken
unfolding statements
operands_are_what_is_taken k p =
    let g : Growing = record { done = Bare; pending = Bare } in
    let ps = procedure_parts k p in
    let s : AreFair (grown_all ps g) = fair_all ps g (record { done = tt; pending = tt }) in
    fair_behind (grown_all ps g).pending (grown_all ps g).done s.pending s.done
