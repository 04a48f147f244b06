-- Lemmas for EXIT in two memories that agree on the bytes that EXIT reads.
use Rattle.std.proofs.Common.{◌≡◌, ◌<◌, ◌≤◌, inl, inr, ℕ, zero, suc, ◌+◌, ◌%◌, ◌==◌, ◌||◌, Bool, true, false, add-one}
use Rattle.std.proofs.Common.{List, [], ◌∷◌, ◌++◌, length, Result, Ok, Err, refl, sym, ap, ◌∙◌, subst, arith}
use Rattle.std.specs.Prelude.{not}
use Rattle.std.proofs.lemmas.Bool.{cases_lt}
use Rattle.pm_words.specs.declared.error.ExecError.{ExecError}
use Rattle.pm_words.specs.declared.error.ExecError.TheVariants.{NoProcedure}
use Rattle.pm_words.specs.Words.{IsMemory, with_word}
use Rattle.pm_words.specs.Stack.{◌>>=◌, demand, load, minus}
use Rattle.pm_words.specs.declared.layout.TheConstants.{SYSTEM_FRAME}
use Rattle.pm_calls.specs.declared.exits.Wanted.{Wanted}
use Rattle.pm_calls.specs.Exits.{control, exit_code, exited, frame_up, is_wanted, last_frame, least_below, met, walked, walked_unless, with_exits}
use Rattle.pm_calls.specs.Places.{Parts}
use Rattle.pm_calls.proofs.ReturnLaws.{bound, passed}
use Rattle.pm_calls.proofs.WalkLaws.{stops, walked-there}
use Rattle.pm_machine.specs.Written.{frames_left, left_by_exit, stretch}
use Rattle.pm_machine.specs.ReadStretches.{asked_read, exit_read, frames_left_read, frames_read, left_read}
use Rattle.law_engine.specs.ReadLaws.{ChangeAlike}
use Rattle.law_engine.proofs.ExitLaws.{found_is_least, last_is_walk, stopped_at}
use Rattle.law_engine.proofs.ReadSteps.{Agree, Both, Same, andthen, bind_same, both, first_same, left_agree, length-with_word, load_same}
use Rattle.law_engine.proofs.ReadSteps.{rest_agree, right_agree}
use Rattle.law_engine.proofs.ReadSteps.{then_alike, unchanged, word_alike_sized}
use Rattle.law_engine.proofs.ReadCalls.{PartsAlike, here_same, loaded_even, loaded_word, parts_in}

-- ---- the words that EXIT checks

pub asked_same : (m n : List ℕ) (p : Wanted) (s j : ℕ) → Same m n s 2 → Same m n j 2 → is_wanted n p s j ≡ is_wanted m p s j
asked_same m n p s j first second = rw (load_same m n s 2 s first (omega arith) (omega arith), load_same m n j 2 j second (omega arith) (omega arith)) refl

-- Both memories agree on the control words of a frame that EXIT leaves, and on the words to which they lead.
pub record LeftSame (m n : List ℕ) (f : ℕ) : Type 0 where
  pub caller : Same m n ((f + 2) % 65536) 2
  pub jtab : Same m n ((f + 4) % 65536) 2
  pub seg : Same m n ((f + 6) % 65536) 2
  pub exit : Same m n (minus (control m f 4) 4) 2
  pub segment : Same m n (control m f 6) 2
  pub procedure : Same m n (control m f 4) 2

left_same : (m n : List ℕ) (f : ℕ) → Agree (left_read m f) m n → LeftSame m n f
left_same m n f agree =
    let five = stretch (control m f 4) 2 ∷ [] in
    let four = stretch (control m f 6) 2 ∷ five in
    let three = stretch (minus (control m f 4) 4) 2 ∷ four in
    let two = stretch ((f + 6) % 65536) 2 ∷ three in
    let one = stretch ((f + 4) % 65536) 2 ∷ two in
    let rest1 = rest_agree (stretch ((f + 2) % 65536) 2) one m n agree in
    let rest2 = rest_agree (stretch ((f + 4) % 65536) 2) two m n rest1 in
    let rest3 = rest_agree (stretch ((f + 6) % 65536) 2) three m n rest2 in
    let rest4 = rest_agree (stretch (minus (control m f 4) 4) 2) four m n rest3 in
    let rest5 = rest_agree (stretch (control m f 6) 2) five m n rest4 in
    record {
      caller = first_same ((f + 2) % 65536) 2 one m n agree;
      jtab = first_same ((f + 4) % 65536) 2 two m n rest1;
      seg = first_same ((f + 6) % 65536) 2 three m n rest2;
      exit = first_same (minus (control m f 4) 4) 2 four m n rest3;
      segment = first_same (control m f 6) 2 five m n rest4;
      procedure = first_same (control m f 4) 2 [] m n rest5;
    }

pub met_same : (m n : List ℕ) (p : Wanted) (f : ℕ) → LeftSame m n f → met n p f ≡ met m p f
unfolding met
met_same m n p f left =
    let at_2 = (f + 2) % 65536 in
    let at_4 = (f + 4) % 65536 in
    let at_6 = (f + 6) % 65536 in
    bind_same (load m at_2) (load n at_2) _ _ (load_same m n at_2 2 at_2 left.caller (omega arith) (omega arith)) (λ caller h.
    bind_same (demand (not (f == SYSTEM_FRAME || caller == SYSTEM_FRAME)) NoProcedure) (demand (not
    (f == SYSTEM_FRAME || caller == SYSTEM_FRAME)) NoProcedure) _ _ refl (λ u g.
    bind_same (load m at_4) (load n at_4) _ _ (load_same m n at_4 2 at_4 left.jtab (omega arith) (omega arith)) (λ jtab k.
    bind_same (load m at_6) (load n at_6) _ _ (load_same m n at_6 2 at_6 left.seg (omega arith) (omega arith)) (λ seg l.
    asked_same m n p seg jtab (subst (λ i. Same m n i 2) (sym (loaded_word m at_6 seg l)) left.segment)
    (subst (λ i. Same m n i 2) (sym (loaded_word m at_4 jtab k)) left.procedure)))))

-- The addresses of the frame and of its JTAB are even.
pub record MetEven (m : List ℕ) (f : ℕ) : Type 0 where
  pub frame : (f + 2) % 65536 % 2 ≡ 0
  pub jtab : control m f 4 % 2 ≡ 0

met_even : (m : List ℕ) (p : Wanted) (f : ℕ) (b : Bool) → met m p f ≡ Ok b → MetEven m f
unfolding met
met_even m p f b h =
    let caller = bound (load m ((f + 2) % 65536)) _ b h in
    let more = passed (not (f == SYSTEM_FRAME || caller.0 == SYSTEM_FRAME)) NoProcedure _ b caller.2 in
    let jtab = bound (load m ((f + 4) % 65536)) _ b more.1 in
    let seg = bound (load m ((f + 6) % 65536)) _ b jtab.2 in
    let segment = bound (load m seg.0) _ b seg.2 in
    let procedure = bound (load m jtab.0) _ b segment.2 in
    record {
      frame = loaded_even m ((f + 2) % 65536) caller.0 caller.1;
      jtab = subst (λ (j : ℕ). j % 2 ≡ 0) (loaded_word m ((f + 4) % 65536) jtab.0 jtab.1) (loaded_even m jtab.0 procedure.0 procedure.1);
    }

-- ---- the frames of a walk

frames_same : (k i : ℕ) (m n : List ℕ) (a : ℕ) → i < k → Agree (frames_read m a k) m n → LeftSame m n (frame_up m a i)
unfolding frames_read
frames_same zero i m n a l agree = absurd (omega (arith, l))
frames_same (suc k) i m n a l agree = elim (cases_lt i k) [
  | inl less ↦ frames_same k i m n a less (right_agree (left_read m (frame_up m a k)) (frames_read m a k) m n agree)
  | inr more ↦
      let same : i ≡ k = omega (arith, l, more) in
      rw same (left_same m n (frame_up m a k) (left_agree (left_read m (frame_up m a k)) (frames_read m a k) m n agree))
]

-- Both memories agree on the first `k` frames from the frame `a` on.
pub record IsMet (m n : List ℕ) (a k : ℕ) : Type 0 where
  pub left : (i : ℕ) → i < k → LeftSame m n (frame_up m a i)
  pub even : (i : ℕ) → i < k → MetEven m (frame_up m a i)

pub frame_same : (i : ℕ) (m n : List ℕ) (a k : ℕ) → i ≤ k → IsMet m n a k → frame_up n a i ≡ frame_up m a i
unfolding frame_up
frame_same zero m n a k l is = refl
frame_same (suc i) m n a k l is =
    let f = frame_up m a i in
    let less : i < k = omega (arith, l) in
    rw (frame_same i m n a k (omega (arith, l)) is) (here_same m n ((f + 2) % 65536) (is.left i less).caller (is.even i less).frame)

exit_code_same : (m n : List ℕ) (j : ℕ) → Same m n (minus j 4) 2 → j % 2 ≡ 0 → exit_code n j ≡ exit_code m j
exit_code_same m n j same even = rw (here_same m n (minus j 4) same (omega (arith, even))) refl

-- `p` and `q` have 32,768 words, and `m` and `n` changed alike to `p` and `q`.
record Pair (m p n q : List ℕ) : Type 0 where
  pub first : length p ≡ 32768
  pub second : length q ≡ 32768
  pub alike : ChangeAlike m p n q

exits_alike : (i : ℕ) (m n : List ℕ) (a k : ℕ) → IsMemory m → IsMemory n → i ≤ k → IsMet m n a k → Pair m (with_exits m a i) n (with_exits n a i)
unfolding with_exits
exits_alike zero m n a k memory other l is = record { first = memory.size; second = other.size; alike = unchanged m n }
exits_alike (suc i) m n a k memory other l is =
    let f = frame_up m a i in
    let less : i < k = omega (arith, l) in
    let at = (f + 8) % 65536 in
    let rest = exits_alike i m n a k memory other (omega (arith, l)) is in
    let p = with_exits m a i in
    let q = with_exits n a i in
    let up = frame_same i m n a k (omega (arith, l)) is in
    let jtab : control n f 4 ≡ control m f 4 = here_same m n ((f + 4) % 65536) (is.left i less).jtab (next_even f (is.even i less).frame) in
    let code = exit_code_same m n (control m f 4) (is.left i less).exit (is.even i less).jtab in
    rw (up, jtab, code) (record {
      first = length-with_word p at (exit_code m (control m f 4)) rest.first;
      second = length-with_word q at (exit_code m (control m f 4)) rest.second;
      alike = then_alike m p (with_word p at (exit_code m (control m f 4))) n q (with_word q at (exit_code m (control m f 4))) rest.alike
          (word_alike_sized p q at (exit_code m (control m f 4)) rest.first rest.second);
    })
  where
    next_even : (f : ℕ) → (f + 2) % 65536 % 2 ≡ 0 → (f + 4) % 65536 % 2 ≡ 0
    next_even f e = omega (arith, e)

-- ---- the walk

pub walk_below : (m : List ℕ) (p : Wanted) (a k : ℕ) → last_frame m p a ≡ Ok k → k < 32768
unfolding last_frame
walk_below m p a k h = (found_is_least (stops m p a) 32768 k (stopped_at m p a k (least_below (stops m p a) 32768) h).0).below

pub walk_met : (m n : List ℕ) (p : Wanted) (a k : ℕ) → last_frame m p a ≡ Ok k → Agree (frames_read m a (suc k)) m n → IsMet m n a (suc k)
walk_met m n p a k h agree =
    let walk = last_is_walk m p a k h in
    record {
      left = λ i l. frames_same (suc k) i m n a l agree;
      even = λ i l. elim (cases_lt i k) [
        | inl less ↦ met_even m p (frame_up m a i) false (walk.before i less)
        | inr more ↦
            let same : i ≡ k = omega (arith, l, more) in
            rw same (met_even m p (frame_up m a k) true walk.there)
      ];
    }

walk_same : (m n : List ℕ) (p : Wanted) (a k : ℕ) → last_frame m p a ≡ Ok k → IsMet m n a (suc k) → walked n p a ≡ Ok (with_exits n a (k + 1))
walk_same m n p a k h is =
    let walk = last_is_walk m p a k h in
    walked-there n p a k (walk_below m p a k h) (λ i l. there i (omega (arith, l)) false (walk.before i l)) (there k (omega arith) true walk.there)
  where
    there : (i : ℕ) → i < suc k → (b : Bool) → met m p (frame_up m a i) ≡ Ok b → met n p (frame_up n a i) ≡ Ok b
    there i l b e = rw (frame_same i m n a (suc k) (omega (arith, l)) is) (met_same m n p (frame_up m a i) (is.left i l) ∙ e)

walk_alike : (m n : List ℕ) (p : Wanted) (a : ℕ) (here : Bool) → IsMemory m → IsMemory n
    → Agree (frames_left_read m a (frames_left here m p a)) m n
    → Both (λ x y. ChangeAlike m x n y) (walked_unless here m p a) (walked_unless here n p a)
unfolding walked
walk_alike m n p a true memory other agree = record { other = n; made = refl; like = unchanged m n }
walk_alike m n p a false memory other agree = of (last_frame m p a) refl agree
  where
    of : (r : Result ℕ ExecError) → last_frame m p a ≡ r → Agree (frames_left_read m a (r >>= λ k. Ok (k + 1))) m n
        → Both (λ x y. ChangeAlike m x n y) (r >>= λ k. Ok (with_exits m a (k + 1))) (walked n p a)
    of (Err e) h more = tt
    of (Ok k) h more =
        let is = walk_met m n p a k h (subst (λ i. Agree (frames_read m a i) m n) (add-one k) more) in
        record {
          other = with_exits n a (k + 1);
          made = walk_same m n p a k h is;
          like = (exits_alike (k + 1) m n a (suc k) memory other (omega arith) is).alike;
        }

-- ---- EXIT

pub exited_alike : (c : Parts) (n : List ℕ) (p : Wanted) → IsMemory c.memory → IsMemory n
    → Agree (exit_read c.registers.jtab ∷ (asked_read c.registers.seg c.registers.jtab
    ++ frames_left_read c.memory c.registers.mp (left_by_exit c p))) c.memory n
    → Both (PartsAlike c.memory n) (exited c p) (exited (parts_in c n) p)
unfolding exited
exited_alike c n p memory other agree =
    let m = c.memory in
    let s = c.registers.seg in
    let j = c.registers.jtab in
    let frames = frames_left_read m c.registers.mp (left_by_exit c p) in
    let rest1 = rest_agree (stretch (minus j 4) 2) (stretch s 2 ∷ stretch j 2 ∷ frames) m n agree in
    let rest2 = rest_agree (stretch s 2) (stretch j 2 ∷ frames) m n rest1 in
    let rest3 = rest_agree (stretch j 2) frames m n rest2 in
    let code = first_same (minus j 4) 2 (stretch s 2 ∷ stretch j 2 ∷ frames) m n agree in
    both (PartsAlike m n) (is_wanted m p s j) (is_wanted n p s j) _ _
    (asked_same m n p s j (first_same s 2 (stretch j 2 ∷ frames) m n rest1) (first_same j 2 frames m n rest2)) (λ here h.
    let segment = bound (load m s) _ here h in
    let procedure = bound (load m j) _ here segment.2 in
    let even = loaded_even m j procedure.0 procedure.1 in
    andthen (λ x y. ChangeAlike m x n y) (PartsAlike m n) (walked_unless here m p c.registers.mp) (walked_unless here n p c.registers.mp) _ _
    (walk_alike m n p c.registers.mp here memory other
    (subst (λ r. Agree (frames_left_read m c.registers.mp r) m n) (ap (λ r. r >>= λ b. frames_left b m p c.registers.mp) h) rest3)) (λ x y g like.
    rw (exit_code_same m n j code even) (record {
      other = _;
      made = refl;
      like = record { memory = y; same = refl; alike = like };
    })))
