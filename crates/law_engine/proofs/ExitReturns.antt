-- Lemmas for the frames to which the returns after EXIT lead.
use Rattle.std.proofs.Common.{◌≡◌, ◌≢◌, ◌<◌, ◌≤◌, ℕ, zero, suc, ◌+◌, ◌-◌, ◌*◌, ◌/◌, ◌%◌, ◌==◌, ◌&&◌, ◌||◌, not, Bool, true, false, List, [], ◌∷◌}
use Rattle.std.proofs.Common.{nat_le, length, Result, Ok, refl, sym, ap, ◌∙◌, subst, arith, add-one, inl, inr}
use Rattle.std.proofs.lemmas.Bool.{and_parts, cases_Bool, cases_lt}
use Rattle.std.proofs.lemmas.Bool.Decides.{nat_tests}
use Rattle.std.proofs.Math.Nat.{mod-lt}
use Rattle.pm_words.specs.declared.error.ExecError.{ExecError}
use Rattle.pm_words.specs.declared.error.ExecError.TheVariants.{InvalidMemory, NoProcedure, StackOverflow}
use Rattle.pm_words.specs.declared.layout.TheConstants.{SYSTEM_FRAME}
use Rattle.pm_words.specs.Words.{IsMemory, copied, word_at}
use Rattle.pm_words.specs.Stack.{◌>>=◌, is_even, load}
use Rattle.pm_words.proofs.Laws.{IsMemory-with_word}
use Rattle.pm_words.proofs.RangeLaws.{IsMemory-copied, word_at-copied_other}
use Rattle.pm_calls.specs.declared.registers.Registers.{Registers}
use Rattle.pm_calls.specs.declared.exits.Wanted.{Wanted}
use Rattle.pm_calls.specs.Places.{Parts}
use Rattle.pm_calls.specs.Returns.{left_to, returned}
use Rattle.pm_calls.specs.Exits.{control, exit_code, exited, frame_up, is_wanted, last_frame, met, walked_unless, with_exits}
use Rattle.law_engine.specs.ExitLaws.{AreStacked, ReturnsLeadOut, all_returned, frames_left, left_by_exit}
use Rattle.pm_calls.proofs.ReturnLaws.{bound, ok_same, passed}
use Rattle.law_engine.proofs.ExitLaws.{AreEven, IsWalk, last_is_walk, others_stay, saved_stands, walk_made}

-- ---- a return

record IsBack (e g : Parts) (words : ℕ) (base : Bool) : Type 0 where
  pub even : e.registers.mp % 2 ≡ 0
  pub source : e.registers.mp + 12 + 2 * words ≤ 65536
  pub target : word_at e.memory (e.registers.mp + 10) ≤ 65504
  pub room : 2 * words ≤ word_at e.memory (e.registers.mp + 10)
  pub registers : g.registers ≡ left_to e.memory e.registers e.registers.mp (word_at e.memory (e.registers.mp + 10) - 2 * words) base
  pub memory : g.memory ≡ copied e.memory ((e.registers.mp + 12) % 65536) (word_at e.memory (e.registers.mp + 10) - 2 * words) (2 * words)

went_back : (e g : Parts) (words : ℕ) (base : Bool) → returned e words base ≡ Ok g → IsBack e g words base
unfolding returned
went_back e g words base h =
    let f = e.registers.mp in
    let above = word_at e.memory (f + 10) in
    let first = passed (is_even f && nat_le (f + 12 + 2 * words) 65536) InvalidMemory _ _ h in
    let second = passed (is_even above && nat_le above 65504) InvalidMemory _ _ first.1 in
    let third = passed (nat_le (e.registers.np + 2 * words) above) StackOverflow _ _ second.1 in
    let parts = and_parts (is_even f) (nat_le (f + 12 + 2 * words) 65536) first.0 in
    let uppers = and_parts (is_even above) (nat_le above 65504) second.0 in
    let same = ok_same _ _ third.1 in
    let fits : e.registers.np + 2 * words ≤ above = grind (arith, nat_tests, third.0) in
    record {
      even = grind (arith, nat_tests, parts.0);
      source = grind (arith, nat_tests, parts.1);
      target = grind (arith, nat_tests, uppers.1);
      room = omega (arith, fits);
      registers = sym (ap (λ (p : Parts). p.registers) same);
      memory = sym (ap (λ (p : Parts). p.memory) same);
    }

-- ---- the frames that EXIT leaves

-- If a frame is left by EXIT, then its control words end below the next frame.
below : (c : Parts) (n i : ℕ) → AreStacked c n → i < n → frame_up c.memory c.registers.mp i + 12 ≤ frame_up c.memory c.registers.mp (suc i)
below c n i h l =
    let here = h i l in
    let words = here.words in
    let caller = rw add-one at here.caller in
    omega (arith, words, caller)

ascend : (c : Parts) (n i j : ℕ) → AreStacked c n → i < j → j ≤ n → frame_up c.memory c.registers.mp i + 12 ≤ frame_up c.memory c.registers.mp j
ascend c n i zero h l k = absurd (omega (arith, l))
ascend c n i (suc j) h l k = elim (cases_lt i j) [
  | inl less ↦
      let first = ascend c n i j h less (omega (arith, k)) in
      let second = below c n j h (omega (arith, k)) in
      omega (arith, first, second)
  | inr more ↦ let same : i ≡ j = omega (arith, l, more) in subst
      (λ (x : ℕ). frame_up c.memory c.registers.mp x + 12 ≤ frame_up c.memory c.registers.mp (suc j)) (sym same)
      (below c n j h (omega (arith, k)))
]

-- If the memory is valid, then each of its words is less than 65,536.
fits : (m : List ℕ) (a : ℕ) → IsMemory m → a < 65536 → word_at m a < 65536
unfolding word_at
fits m a h l = h.fits (a / 2) 0 (omega (arith, h.size))

ends : (c : Parts) (n i : ℕ) → IsMemory c.memory → AreStacked c n → i < n → frame_up c.memory c.registers.mp i + 12 < 65536
ends c n i memory h l =
    let words = (h i l).words in
    let low = fits c.memory ((frame_up c.memory c.registers.mp i + 10) % 65536) memory (mod-lt (frame_up c.memory c.registers.mp i + 10) (omega arith)) in
    omega (arith, words, low)

-- A control word of a frame other than its saved IPC is not at the address of a saved IPC.
apart : (f g t : ℕ) → t < 12 → t ≢ 8 → g + 12 < 65536 → (f ≡ g) → f + t ≢ (g + 8) % 65536
apart f g t low other room same = λ e. other (omega (arith, low, room, same, e))

not_written : (c : Parts) (n i j t : ℕ) → IsMemory c.memory → AreStacked c n → i ≤ n → j < n → t < 12 → t ≢ 8
    → frame_up c.memory c.registers.mp i + t ≢ (frame_up c.memory c.registers.mp j + 8) % 65536
not_written c n i j t memory h l k low other =
    let room = ends c n j memory h k in
    elim (cases_lt i j) [
      | inl less ↦ let up = ascend c n i j h less (omega (arith, k)) in λ e. omega (arith, up, room, low, e)
      | inr more ↦ elim (cases_lt j i) [
        | inl less ↦ let up = ascend c n j i h less l in λ e. omega (arith, up, room, e)
        | inr both ↦ let same : i ≡ j = omega (arith, more, both) in
            apart _ _ t low other room (ap (frame_up c.memory c.registers.mp) same)
      ]
    ]

stays : (c : Parts) (n i t : ℕ) → IsMemory c.memory → AreEven c.memory c.registers.mp n → AreStacked c n → i ≤ n → t < 12 → t ≢ 8 → t % 2 ≡ 0 →
    frame_up c.memory c.registers.mp i % 2 ≡ 0
    → word_at (with_exits c.memory c.registers.mp n) (frame_up c.memory c.registers.mp i + t) ≡ word_at c.memory (frame_up c.memory c.registers.mp i + t)
stays c n i t memory even h l low other et ef =
    others_stay c.memory c.registers.mp n (frame_up c.memory c.registers.mp i + t) even (omega (arith, et, ef))
    (λ j k. not_written c n i j t memory h l k low other)

-- If a control word is in memory, then it is at the address of the frame plus its offset.
control_at : (m : List ℕ) (f t : ℕ) → f + t < 65536 → word_at m (f + t) ≡ control m f t
control_at m f t l = ap (word_at m) (sym (small (f + t) l))
  where
    small : (x : ℕ) → x < 65536 → x % 65536 ≡ x
    small x l = omega (arith, l)

saved : (c : Parts) (n i : ℕ) → IsMemory c.memory → AreEven c.memory c.registers.mp n → AreStacked c n → i < n
    → word_at (with_exits c.memory c.registers.mp n) (frame_up c.memory c.registers.mp i + 8)
    ≡ exit_code c.memory (control c.memory (frame_up c.memory c.registers.mp i) 4)
saved c n i memory even h l =
    let m = c.memory in
    let a = c.registers.mp in
    let room = ends c n i memory h l in
    control_at (with_exits m a n) (frame_up m a i) 8 (omega (arith, room))
    ∙ saved_stands m a n i memory.size even l
    (λ j up k.
    let next = ascend c n i j h up (omega (arith, k)) in
    let high = ends c n j memory h k in
    λ e. omega (arith, room, next, high, e))

-- If a memory is valid, then the memory after EXIT is valid.
exits_are_words : (m : List ℕ) (a n : ℕ) → IsMemory m → IsMemory (with_exits m a n)
unfolding with_exits
exits_are_words m a zero h = h
exits_are_words m a (suc n) h =
    IsMemory-with_word (with_exits m a n) ((frame_up m a n + 8) % 65536) (exit_code m (control m (frame_up m a n) 4)) (exits_are_words m a n h) (omega arith)

-- ---- the procedures that are left

-- `jtab_of` and `seg_of` return the table and the segment of the procedure `n` callers up.
jtab_of : Parts → ℕ → ℕ
jtab_of c zero = c.registers.jtab
jtab_of c (suc n) = control c.memory (frame_up c.memory c.registers.mp n) 4

seg_of : Parts → ℕ → ℕ
seg_of c zero = c.registers.seg
seg_of c (suc n) = control c.memory (frame_up c.memory c.registers.mp n) 6

loaded : (m : List ℕ) (a w : ℕ) → load m a ≡ Ok w → w ≡ word_at m a
loaded m a w h = elim (cases_Bool (is_even a)) [
  | inl e ↦ sym (ok_same (word_at m a) w (rw e at h))
  | inr e ↦ cc
]

wanted_there : (m : List ℕ) (p : Wanted) (f : ℕ) (b : Bool) → met m p f ≡ Ok b → is_wanted m p (control m f 6) (control m f 4) ≡ Ok b
unfolding met
wanted_there m p f b h =
    let caller = bound (load m ((f + 2) % 65536)) _ b h in
    let more = passed (not (f == SYSTEM_FRAME || caller.0 == SYSTEM_FRAME)) NoProcedure _ b caller.2 in
    let jtab = bound (load m ((f + 4) % 65536)) _ b more.1 in
    let seg = bound (load m ((f + 6) % 65536)) _ b jtab.2 in
    subst (λ (s : ℕ). is_wanted m p s (control m f 4) ≡ Ok b) (loaded m ((f + 6) % 65536) seg.0 seg.1)
    (subst (λ (j : ℕ). is_wanted m p seg.0 j ≡ Ok b) (loaded m ((f + 4) % 65536) jtab.0 jtab.1) seg.2)

below_count : (n k : ℕ) → n < k → (n == k) ≡ false
below_count n k l = grind (arith, nat_tests)

at_count : (n k : ℕ) → n ≡ k → (n == k) ≡ true
at_count n k e = grind (arith, nat_tests)

-- Of the procedures from the running procedure to that of the last frame, only the last is the procedure that EXIT
-- names.
wanted_last : (c : Parts) (p : Wanted) (k n : ℕ) → is_wanted c.memory p c.registers.seg c.registers.jtab ≡ Ok false
    → IsWalk c.memory p c.registers.mp k → n ≤ suc k → is_wanted c.memory p (seg_of c n) (jtab_of c n) ≡ Ok (n == suc k)
unfolding seg_of jtab_of
wanted_last c p k zero here walk l = here ∙ ap Ok (sym (below_count zero (suc k) (omega arith)))
wanted_last c p k (suc n) here walk l = elim (cases_lt n k) [
  | inl less ↦ wanted_there c.memory p (frame_up c.memory c.registers.mp n) false (walk.before n less)
      ∙ ap Ok (sym (below_count (suc n) (suc k) (omega (arith, less))))
  | inr more ↦
      let same : n ≡ k = omega (arith, l, more) in
      wanted_there c.memory p (frame_up c.memory c.registers.mp n) true
      (subst (λ (i : ℕ). met c.memory p (frame_up c.memory c.registers.mp i) ≡ Ok true) (sym same) walk.there)
      ∙ ap Ok (sym (at_count (suc n) (suc k) (ap suc same)))
]

wanted_at_last : (c : Parts) (p : Wanted) (b : Bool) (count n : ℕ) → is_wanted c.memory p c.registers.seg c.registers.jtab ≡ Ok b
    → frames_left b c.memory p c.registers.mp ≡ Ok count → n ≤ count → is_wanted c.memory p (seg_of c n) (jtab_of c n) ≡ Ok (n == count)
unfolding seg_of jtab_of
wanted_at_last c p true count n here left l =
    let none : 0 ≡ count = ok_same 0 count left in
    let first : n ≡ 0 = omega (arith, none, l) in
    subst (λ (i : ℕ). is_wanted c.memory p (seg_of c i) (jtab_of c i) ≡ Ok (n == count)) (sym first) (start ∙ ap Ok (sym (at_count n count (first ∙ none))))
  where
    start : is_wanted c.memory p (seg_of c 0) (jtab_of c 0) ≡ Ok true
    start = here
wanted_at_last c p false count n here left l =
    let x = bound (last_frame c.memory p c.registers.mp) (λ k. Ok (k + 1)) count left in
    let walk = last_is_walk c.memory p c.registers.mp x.0 x.1 in
    let same : suc x.0 ≡ count = sym (add-one x.0) ∙ ok_same (x.0 + 1) count x.2 in
    subst (λ (k : ℕ). is_wanted c.memory p (seg_of c n) (jtab_of c n) ≡ Ok (n == k)) same
    (wanted_last c p x.0 n here walk (omega (arith, l, same)))

-- ---- n returns after EXIT

record IsStage (c : Parts) (count n : ℕ) (e : Parts) : Type 0 where
  pub memory : IsMemory e.memory
  pub same : (x : ℕ) → x % 2 ≡ 0 → frame_up c.memory c.registers.mp n ≤ x → word_at e.memory x ≡ word_at (with_exits c.memory c.registers.mp count) x
  pub mp : e.registers.mp ≡ frame_up c.memory c.registers.mp n
  pub jtab : e.registers.jtab ≡ jtab_of c n
  pub seg : e.registers.seg ≡ seg_of c n
  pub ipc : e.registers.ipc ≡ exit_code c.memory (jtab_of c n)

-- A control word that the return after `n` returns reads is the word before EXIT.
word_of : (c e g : Parts) (count n t words : ℕ) (base : Bool) → IsMemory c.memory → AreEven c.memory c.registers.mp count → AreStacked c count →
    IsStage c count n e → n ≤ count → IsBack e g words base → t < 12 → t ≢ 8 → t % 2 ≡ 0
    → word_at e.memory (e.registers.mp + t) ≡ control c.memory (frame_up c.memory c.registers.mp n) t
word_of c e g count n t words base memory even stacked stage l back low other et =
    let f = frame_up c.memory c.registers.mp n in
    let ef : f % 2 ≡ 0 = subst (λ (x : ℕ). x % 2 ≡ 0) stage.mp back.even in
    let room : f + 12 + 2 * words ≤ 65536 = subst (λ (x : ℕ). x + 12 + 2 * words ≤ 65536) stage.mp back.source in
    ap (λ (x : ℕ). word_at e.memory (x + t)) stage.mp
    ∙ stage.same (f + t) (omega (arith, ef, et)) (omega arith)
    ∙ stays c count n t memory even stacked l low other et ef
    ∙ control_at c.memory f t (omega (arith, room, low))

caller_up : (c : Parts) (n : ℕ) → control c.memory (frame_up c.memory c.registers.mp n) 2 ≡ frame_up c.memory c.registers.mp (suc n)
unfolding frame_up
caller_up c n = refl

step : (c e g : Parts) (count n words : ℕ) (base : Bool) → IsMemory c.memory → AreEven c.memory c.registers.mp count → AreStacked c count →
    IsStage c count n e → n < count → returned e words base ≡ Ok g → IsStage c count (suc n) g
unfolding jtab_of seg_of
step c e g count n words base memory even stacked stage l h =
    let m = c.memory in
    let f = frame_up m c.registers.mp n in
    let back = went_back e g words base h in
    let above = word_at e.memory (e.registers.mp + 10) in
    let kept : above ≡ control m f 10 = word_of c e g count n 10 words base memory even stacked stage (omega (arith, l)) back (omega arith)
    (λ x. omega (arith, x)) refl in
    let caller = rw add-one at (stacked n l).caller in
    let source = back.source in
    let target = back.target in
    let room = back.room in
    let up = below c count n stacked l in
    let place = (e.registers.mp + 12) % 65536 in
    let ef : f % 2 ≡ 0 = even n l in
    let goes = ap (λ (r : Registers). r.ipc) back.registers in
    record {
      memory = subst IsMemory (sym back.memory) (IsMemory-copied e.memory place (above - 2 * words) (2 * words) stage.memory (omega (arith, source)) (omega
          (arith, target, room)));
      same = λ x ex lx. ap (λ (k : List ℕ). word_at k x) back.memory
          ∙ word_at-copied_other e.memory place (above - 2 * words) (2 * words) x stage.memory (omega (arith, source)) (omega (arith, target, room)) ex
          (inr (omega (arith, room, kept, caller, lx)))
          ∙ stage.same x ex (omega (arith, up, lx));
      mp = ap (λ (r : Registers). r.mp) back.registers
          ∙ word_of c e g count n 2 words base memory even stacked stage (omega (arith, l)) back (omega arith) (λ x. omega (arith, x)) refl ∙ caller_up c n;
      jtab = ap (λ (r : Registers). r.jtab) back.registers
          ∙ word_of c e g count n 4 words base memory even stacked stage (omega (arith, l)) back (omega arith) (λ x. omega (arith, x)) refl;
      seg = ap (λ (r : Registers). r.seg) back.registers
          ∙ word_of c e g count n 6 words base memory even stacked stage (omega (arith, l)) back (omega arith) (λ x. omega (arith, x)) refl;
      ipc = goes ∙ ap (λ (x : ℕ). word_at e.memory (x + 8)) stage.mp ∙ stage.same (f + 8) (omega (arith, ef)) (omega arith)
          ∙ saved c count n memory even stacked l;
    }

steps : (c : Parts) (count : ℕ) → IsMemory c.memory → AreEven c.memory c.registers.mp count → AreStacked c count
    → (rs : List (ℕ × Bool)) (n k : ℕ) (e g : Parts) →
    IsStage c count n e → k ≡ n + length rs → k ≤ count → all_returned e rs ≡ Ok g → IsStage c count k g
steps c count memory even stacked [] n k e g stage sum l h =
    let same : n ≡ k = omega (arith, sum) in
    subst (λ (x : Parts). IsStage c count k x) (ok_same e g h) (subst (λ (i : ℕ). IsStage c count i e) same stage)
steps c count memory even stacked (r ∷ rs) n k e g stage sum l h =
    let x = bound (returned e r.0 r.1) (λ d. all_returned d rs) g h in
    steps c count memory even stacked rs (suc n) k x.0 g (step c e x.0 count n r.0 r.1 memory even stacked stage (omega (arith, sum, l)) x.1)
    (omega (arith, sum)) l x.2

first_stage : (c d : Parts) (count : ℕ) → IsMemory c.memory → d.memory ≡ with_exits c.memory c.registers.mp count
    → d.registers ≡ record c.registers { ipc = exit_code c.memory c.registers.jtab } → IsStage c count 0 d
unfolding jtab_of seg_of frame_up
first_stage c d count memory written registers = record {
  memory = subst IsMemory (sym written) (exits_are_words c.memory c.registers.mp count memory);
  same = λ x ex lx. ap (λ (k : List ℕ). word_at k x) written;
  mp = ap (λ (r : Registers). r.mp) registers;
  jtab = ap (λ (r : Registers). r.jtab) registers;
  seg = ap (λ (r : Registers). r.seg) registers;
  ipc = ap (λ (r : Registers). r.ipc) registers;
}

same_count : (n k : ℕ) (r : Result ℕ ExecError) → r ≡ Ok n → r ≡ Ok k → n ≡ k
same_count n k r h l = ok_same n k (sym h ∙ l)

pub returns_lead_out : ReturnsLeadOut
unfolding exited
returns_lead_out c d e p count rs memory h frames stacked l all =
    let here = bound (is_wanted c.memory p c.registers.seg c.registers.jtab) _ _ h in
    let left = bound (walked_unless here.0 c.memory p c.registers.mp) _ _ here.2 in
    let same = ok_same _ d left.2 in
    let made = walk_made c.memory left.0 p c.registers.mp here.0 left.1 in
    let is = made.1 in
    let count_is : made.0 ≡ count = same_count made.0 count (left_by_exit c p) (ap (λ r. r >>= λ b. frames_left b c.memory p c.registers.mp) here.1
    ∙ is.frames) frames in
    let leaves : frames_left here.0 c.memory p c.registers.mp ≡ Ok count = is.frames ∙ ap Ok count_is in
    let even : AreEven c.memory c.registers.mp count = subst (AreEven c.memory c.registers.mp) count_is is.even in
    let written : d.memory ≡ with_exits c.memory c.registers.mp count =
    sym (ap (λ (x : Parts). x.memory) same) ∙ is.memory ∙ ap (with_exits c.memory c.registers.mp) count_is in
    let start = first_stage c d count memory written (sym (ap (λ (x : Parts). x.registers) same)) in
    let stage = steps c count memory even stacked rs 0 (length rs) d e start (omega arith) l all in
    record {
      frame = stage.mp;
      ipc = stage.ipc ∙ ap (exit_code c.memory) (sym stage.jtab);
      named = ap (λ (s : ℕ). is_wanted c.memory p s e.registers.jtab) stage.seg ∙ ap (is_wanted c.memory p (seg_of c (length rs))) stage.jtab
          ∙ wanted_at_last c p here.0 count (length rs) here.1 leaves l;
      next = λ g words base back.
          let there = went_back e g words base back in
          ap (λ (r : Registers). r.mp) there.registers
          ∙ word_of c e g count (length rs) 2 words base memory even stacked stage l there (omega arith) (λ x. omega (arith, x)) refl
          ∙ caller_up c (length rs) ∙ ap (frame_up c.memory c.registers.mp) (sym (add-one (length rs)));
    }
