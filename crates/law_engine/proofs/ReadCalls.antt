-- Lemmas for calls and returns in two memories that agree on the bytes that they read. Two memories *changed alike* if
-- each byte is the same in both new memories, or unchanged in both.
use Rattle.std.proofs.Common.{◌≡◌, ◌<◌, ◌≤◌, ◌⊎◌, inl, inr, ℕ, ◌+◌, ◌-◌, ◌*◌, ◌/◌, ◌%◌, ◌==◌, ◌&&◌, Bool, true, false, nat_le, nat_lt}
use Rattle.std.proofs.Common.{List, [], ◌∷◌, ◌++◌, length, Option, Some, None, Result, Ok, Err, refl, sym, ap, ◌∙◌, subst, arith}
use Rattle.std.specs.List.{All}
use Rattle.std.specs.Prelude.{if◌then◌else◌, not, ℤ, pos, negsuc, ◌+ℤ◌, ◌-ℤ◌, int_le, slice_get}
use Rattle.std.proofs.lemmas.Bool.{cases_Bool}
use Rattle.std.proofs.lemmas.Bool.Decides.{nat_tests}
use Rattle.pm_words.specs.declared.error.ExecError.{ExecError}
use Rattle.pm_words.specs.declared.error.ExecError.TheVariants.{InvalidMemory, NoSegment, StackOverflow, Unimplemented}
use Rattle.pm_words.specs.Words.{IsMemory, byte_at, copied, with_bytes, with_word, word_at}
use Rattle.pm_words.specs.Stack.{◌>>=◌, is_even, load, minus}
use Rattle.pm_words.proofs.Laws.{IsMemory-with_bytes}
use Rattle.pm_words.proofs.RangeLaws.{IsMemory-copied}
use Rattle.pm_families.specs.declared.families.Call.{Call}
use Rattle.pm_families.specs.declared.families.Call.TheVariants.{Clp, Cgp, Cbp, Cip, Cxp}
use Rattle.pm_calls.specs.declared.frames.SegmentPlace.{SegmentPlace}
use Rattle.pm_calls.specs.declared.frames.Table.{Table}
use Rattle.pm_calls.specs.declared.registers.Registers.{Registers}
use Rattle.pm_calls.specs.Calls.{Reached, called, called_at, called_loading, called_slot, called_standing, code_fits, entered, frame_top, framed}
use Rattle.pm_calls.specs.Calls.{here, inside, is_base}
use Rattle.pm_calls.specs.Calls.{kept_below, procedure_called, reach_loading, reach_standing, with_control, with_frame, with_old_base}
use Rattle.pm_calls.specs.Laws.{IsCode}
use Rattle.pm_calls.specs.Links.{base_link, inner_link, level_of, link_by, static_link}
use Rattle.pm_calls.specs.Places.{Parts}
use Rattle.pm_calls.specs.Tables.{attributes, self_relative, table_at}
use Rattle.pm_machine.specs.Written.{Stretch, slot_reached, stretch}
use Rattle.pm_machine.specs.ReadStretches.{entry_words, inner_read, links_by, reached_read, static_link_read, table_read}
use Rattle.law_engine.specs.ReadLaws.{ChangeAlike}
use Rattle.law_engine.proofs.ReadSteps.{Agree, Both, RowAlike, RowsAlike, Same, andthen, both, bytes_alike, copy_alike, demanded, done, first_same, left_agree}
use Rattle.law_engine.proofs.ReadSteps.{length-with_word, load_same, rest_agree, right_agree, then_alike, unchanged, word_alike_sized, word_same}
use Rattle.law_engine.proofs.ReadOthers.{link_same}
use Rattle.law_engine.proofs.WrittenCalls.{called_reached}

-- ---- tables

evenly : (a : ℕ) → is_even a ≡ true → a % 2 ≡ 0
evenly a e = grind (arith, nat_tests)

pub loaded_even : (m : List ℕ) (a w : ℕ) → load m a ≡ Ok w → a % 2 ≡ 0
loaded_even m a w h = elim (cases_Bool (is_even a)) [
  | inl e ↦ evenly a e
  | inr e ↦ none (rw e at h)
]
  where
    none : (let r : Result ℕ ExecError = Err InvalidMemory in r ≡ Ok w) → a % 2 ≡ 0
    none k = cc

pub loaded_word : (m : List ℕ) (a w : ℕ) → load m a ≡ Ok w → w ≡ word_at m a
loaded_word m a w h = elim (cases_Bool (is_even a)) [
  | inl e ↦ some (rw e at h)
  | inr e ↦ none (rw e at h)
]
  where
    some : (let r : Result ℕ ExecError = Ok (word_at m a) in r ≡ Ok w) → w ≡ word_at m a
    some k = cc

    none : (let r : Result ℕ ExecError = Err InvalidMemory in r ≡ Ok w) → w ≡ word_at m a
    none k = cc

-- If two memories agree on the two bytes from the even address `a` on, then they have the same word at `a`.
pub here_same : (m n : List ℕ) (a : ℕ) → Same m n a 2 → a % 2 ≡ 0 → word_at n a ≡ word_at m a
here_same m n a same even = word_same m n a 2 a same even (omega arith) (omega arith)

-- Two tables differ at most in the exit address, which a call does not read.
pub record TableSame (t u : Table) : Type 0 where
  pub exit : ℕ
  pub same : u ≡ record t { exit = exit }

pub attributes_alike : (m n : List ℕ) (s p : ℕ) → Agree (table_read m s p) m n → Both TableSame (attributes m s p) (attributes n s p)
unfolding attributes
attributes_alike m n s p agree =
    let x = minus s (2 * p) in
    let j = self_relative m x in
    let five = stretch (minus j 8) 2 ∷ [] in
    let four = stretch (minus j 6) 2 ∷ five in
    let three = stretch (minus j 2) 2 ∷ four in
    let two = stretch j 2 ∷ three in
    let one = stretch x 2 ∷ two in
    let rest1 = rest_agree (stretch s 2) one m n agree in
    let rest2 = rest_agree (stretch x 2) two m n rest1 in
    let rest3 = rest_agree (stretch j 2) three m n rest2 in
    let rest4 = rest_agree (stretch (minus j 2) 2) four m n rest3 in
    let rest5 = rest_agree (stretch (minus j 6) 2) five m n rest4 in
    both TableSame (load m s) (load n s) _ _ (load_same m n s 2 s (first_same s 2 one m n agree) (omega arith) (omega arith)) (λ top h.
    demanded TableSame (nat_lt 0 p && nat_le p (top / 256)) NoSegment _ _ (λ g.
    let even_x : x % 2 ≡ 0 = distance (loaded_even m s top h) in
    let at_x = here_same m n x (first_same x 2 two m n rest1) even_x in
    rw at_x (demanded TableSame (is_even j) NoSegment _ _ (λ e.
    let even_j = evenly j e in
    let at_j = here_same m n j (first_same j 2 three m n rest2) even_j in
    rw at_j (demanded TableSame (not (word_at m j % 256 == 0)) Unimplemented _ _ (λ z.
    let at_2 = here_same m n (minus j 2) (first_same (minus j 2) 2 four m n rest3) (lower j 2 even_j refl) in
    let at_6 = here_same m n (minus j 6) (first_same (minus j 6) 2 five m n rest4) (lower j 6 even_j refl) in
    let at_8 = here_same m n (minus j 8) (first_same (minus j 8) 2 [] m n rest5) (lower j 8 even_j refl) in
    rw (at_2, at_6, at_8) (demanded TableSame (is_even (word_at m (minus j 6)) && is_even (word_at m (minus j 8))) NoSegment _ _ (λ y.
    record {
      other = record (table_at m j) { exit = self_relative n (minus j 4) };
      made = refl;
      like = record { exit = self_relative n (minus j 4); same = refl };
    }))))))))
  where
    distance : s % 2 ≡ 0 → minus s (2 * p) % 2 ≡ 0
    distance e = omega (arith, e)

    lower : (j k : ℕ) → j % 2 ≡ 0 → k % 2 ≡ 0 → minus j k % 2 ≡ 0
    lower j k e f = omega (arith, e, f)

-- ---- static links

base_same : (m n : List ℕ) (r : Registers) (level : ℤ) → Same m n r.base 2 → base_link n r level ≡ base_link m r level
base_same m n r level same = rw (load_same m n r.base 2 r.base same (omega arith) (omega arith)) refl

links_same : (z : ℤ) (m n : List ℕ) (mp : ℕ) → Agree (links_by m mp z) m n → link_by n mp z ≡ link_by m mp z
links_same (pos k) m n mp agree = link_same k m n mp agree
links_same (negsuc k) m n mp agree = refl

inner_same : (m n : List ℕ) (r : Registers) (level : ℤ) → Agree (inner_read m r level) m n → inner_link n r level ≡ inner_link m r level
inner_same m n r level agree =
    let more = links_by m r.mp (level_of (word_at m r.jtab) -ℤ level +ℤ pos 1) in
    rw (load_same m n r.jtab 2 r.jtab (first_same r.jtab 2 more m n agree) (omega arith) (omega arith)) (elim (cases_Bool (is_even r.jtab)) [
      | inl e ↦ rw e (links_same (level_of (word_at m r.jtab) -ℤ level +ℤ pos 1) m n r.mp (rest_agree (stretch r.jtab 2) more m n agree))
      | inr e ↦ rw e refl
    ])

static_same : (call : Call) (m n : List ℕ) (r : Registers) (level : ℤ) → Agree (static_link_read call m r level) m n
    → static_link call n r level ≡ static_link call m r level
unfolding static_link
static_same (Clp p) m n r level agree = refl
static_same (Cgp p) m n r level agree = refl
static_same (Cbp p) m n r level agree = base_same m n r level (first_same r.base 2 [] m n agree)
static_same (Cip p) m n r level agree = inner_same m n r level agree
static_same (Cxp k p) m n r level agree = of (int_le level (pos 0)) agree
  where
    of : (b : Bool) → Agree (if b then stretch r.base 2 ∷ [] else inner_read m r level) m n
        → (if b then base_link n r level else inner_link n r level) ≡ (if b then base_link m r level else inner_link m r level)
    of true h = base_same m n r level (first_same r.base 2 [] m n h)
    of false h = inner_same m n r level h

-- ---- frames

-- If two memories changed alike, then they have changed alike after the same word is written to both.
more_alike : (m p n q : List ℕ) (a w : ℕ) → length p ≡ 32768 → length q ≡ 32768 → ChangeAlike m p n q → ChangeAlike m (with_word p a w) n (with_word q a w)
more_alike m p n q a w first second h = then_alike m p (with_word p a w) n q (with_word q a w) h (word_alike_sized p q a w first second)

-- `p` and `q` have 32,768 words, and `m` and `n` changed alike to `p` and `q`.
record Pair (m p n q : List ℕ) : Type 0 where
  pub first : length p ≡ 32768
  pub second : length q ≡ 32768
  pub alike : ChangeAlike m p n q

another : (m p n q : List ℕ) (a w : ℕ) → Pair m p n q → Pair m (with_word p a w) n (with_word q a w)
another m p n q a w h = record {
  first = length-with_word p a w h.first;
  second = length-with_word q a w h.second;
  alike = more_alike m p n q a w h.first h.second h.alike;
}

control_alike : (m p n q : List ℕ) (f static : ℕ) (r : Registers) (above : ℕ) → Pair m p n q
    → Pair m (with_control p f static r above) n (with_control q f static r above)
unfolding with_control
control_alike m p n q f static r above h =
    let a = another m p n q f static h in
    let b = another m _ n _ (f + 2) r.mp a in
    let c = another m _ n _ (f + 4) r.jtab b in
    let d = another m _ n _ (f + 6) r.seg c in
    let e = another m _ n _ (f + 8) r.ipc d in
    another m _ n _ (f + 10) above e

old_base_alike : (base : Bool) (m p n q : List ℕ) (f old : ℕ) → Pair m p n q → ChangeAlike m (with_old_base base p f old) n (with_old_base base q f old)
old_base_alike true m p n q f old h = more_alike m p n q (f - 2) old h.first h.second h.alike
old_base_alike false m p n q f old h = h.alike

framed_alike : (m n : List ℕ) (s loaded : ℕ) (r : Registers) (base : Bool) (t : Table) (static : ℕ) → IsMemory m → IsMemory n → Same m n r.sp t.parameters
    → RowsAlike m n (framed m s loaded r base t static) (framed n s loaded r base t static)
unfolding framed
framed_alike m n s loaded r base t static memory other same =
    let top = frame_top loaded r.sp t.parameters in
    let size = t.locals + t.parameters + 12 in
    demanded (RowAlike m n) (nat_le (r.sp + t.parameters) 65504) InvalidMemory _ _ (λ g.
    demanded (RowAlike m n) (nat_le (r.np + kept_below base + size) top) StackOverflow _ _ (λ h.
    let f = top - size in
    let source : r.sp + t.parameters ≤ 65504 = grind (arith, nat_tests, g) in
    let fit : r.np + kept_below base + size ≤ top = order (r.np + kept_below base + size) top h in
    let below : top ≤ 65504 = under (nat_lt 0 loaded) source in
    let room : f + 12 + t.parameters ≤ 65536 = omega (arith, fit, below) in
    let p = copied m r.sp (f + 12) t.parameters in
    let q = copied n r.sp (f + 12) t.parameters in
    let from : r.sp + t.parameters ≤ 65536 = omega (arith, source) in
    done m n (with_old_base base (with_frame m f static r t.parameters) f r.base) (with_old_base base (with_frame n f static r t.parameters) f r.base)
    (inside base r s t f)
    (old_base_alike base m (with_frame m f static r t.parameters) n (with_frame n f static r t.parameters) f r.base
    (control_alike m p n q f static r (r.sp + t.parameters) (record {
      first = (IsMemory-copied m r.sp (f + 12) t.parameters memory from room).size;
      second = (IsMemory-copied n r.sp (f + 12) t.parameters other from room).size;
      alike = copy_alike m n r.sp (f + 12) t.parameters same memory other from room;
    })))))
  where
    order : (a b : ℕ) → nat_le a b ≡ true → a ≤ b
    order a b h = grind (arith, nat_tests)

    under : (b : Bool) → r.sp + t.parameters ≤ 65504 → (if b then r.sp - loaded else r.sp + t.parameters) ≤ 65504
    under true h = omega (arith, h)
    under false h = h

-- ---- the call

entered_alike : (m n : List ℕ) (s loaded : ℕ) (r : Registers) (call : Call) → IsMemory m → IsMemory n
    → Agree (table_read m s (procedure_called call) ++ entry_words call m r (attributes m s (procedure_called call))) m n
    → RowsAlike m n (entered m s loaded r call) (entered n s loaded r call)
unfolding entered framed
entered_alike m n s loaded r call memory other agree =
    let p = procedure_called call in
    let words = entry_words call m r (attributes m s p) in
    andthen TableSame (RowAlike m n) (attributes m s p) (attributes n s p) _ _
    (attributes_alike m n s p (left_agree (table_read m s p) words m n agree)) (λ t u h same.
    let rest = subst (λ x. Agree (entry_words call m r x) m n) h (right_agree (table_read m s p) words m n agree) in
    rw same.same (both (RowAlike m n) (static_link call m r t.level) (static_link call n r t.level) _ _
    (static_same call m n r t.level (rest_agree (stretch r.sp t.parameters) (static_link_read call m r t.level) m n rest)) (λ static k.
    framed_alike m n s loaded r (is_base call t.level) t static memory other
    (first_same r.sp t.parameters (static_link_read call m r t.level) m n rest))))

-- `e` equals `d` except for the memory, and both memories changed alike.
pub record PartsAlike (m n : List ℕ) (d e : Parts) : Type 0 where
  pub memory : List ℕ
  pub same : e ≡ record d { memory = memory }
  pub alike : ChangeAlike m d.memory n memory

-- Returns `c` with the memory `n`.
abbrev pub parts_in : Parts → List ℕ → Parts
parts_in c n = record c { memory = n }

-- A call reached the same segment in both memories, which changed alike.
pub record ReachedAlike (m n : List ℕ) (d e : Reached) : Type 0 where
  pub memory : List ℕ
  pub same : e ≡ record d { memory = memory }
  pub alike : ChangeAlike m d.memory n memory
  pub first : IsMemory d.memory
  pub second : IsMemory memory

pub still_agree : (ss : List Stretch) (m p n q : List ℕ) → ChangeAlike m p n q → Agree ss m n → Agree ss p q
still_agree ss m p n q alike agree = λ x t. of x (alike x) (agree x t)
  where
    of : (x : ℕ) → (byte_at q x ≡ byte_at p x) ⊎ ((byte_at p x ≡ byte_at m x) × (byte_at q x ≡ byte_at n x)) → byte_at n x ≡ byte_at m x
        → byte_at q x ≡ byte_at p x
    of x (inl new) old = new
    of x (inr stay) old = stay.1 ∙ old ∙ sym stay.0

at_alike : (c : Parts) (n : List ℕ) (call : Call) (d : Reached) (q : List ℕ) → ChangeAlike c.memory d.memory n q → IsMemory d.memory → IsMemory q
    → Agree (reached_read call c.registers (Ok d)) c.memory n
    → Both (PartsAlike c.memory n) (called_at c call d) (called_at (parts_in c n) call (record d { memory = q }))
unfolding called_at
at_alike c n call d q alike first second agree =
    andthen (RowAlike d.memory q) (PartsAlike c.memory n) (entered d.memory d.place d.loaded c.registers call) (entered q d.place d.loaded c.registers call) _ _
    (entered_alike d.memory q d.place d.loaded c.registers call first second (still_agree (reached_read call c.registers
    (Ok d)) c.memory d.memory n q alike agree)) (λ t u h like.
    record {
      other = record { memory = u.0; registers = u.1; places = d.places };
      made = refl;
      like = record {
        memory = u.0;
        same = ap (λ (r : Registers). record { memory = u.0; registers = r; places = d.places }) like.0;
        alike = then_alike c.memory d.memory t.0 n q u.0 alike like.1;
      };
    })

reach_alike : (c : Parts) (n : List ℕ) (call : Call) (r u : Result Reached ExecError) → Both (ReachedAlike c.memory n) r u
    → Agree (reached_read call c.registers r) c.memory n → Both (PartsAlike c.memory n) (r >>= called_at c call) (u >>= called_at (parts_in c n) call)
reach_alike c n call (Ok d) u h agree =
    rw (h.made, h.like.same) (at_alike c n call d h.like.memory h.like.alike h.like.first h.like.second agree)
reach_alike c n call (Err e) u h agree = tt

pub here_alike : (c : Parts) (n : List ℕ) → IsMemory c.memory → IsMemory n → ReachedAlike c.memory n (here c) (here (parts_in c n))
here_alike c n memory other = record { memory = n; same = refl; alike = unchanged c.memory n; first = memory; second = other }

pub standing_alike : (c : Parts) (n : List ℕ) (k : ℕ) (p : SegmentPlace) → IsMemory c.memory → IsMemory n
    → Both (ReachedAlike c.memory n) (reach_standing c k p) (reach_standing (parts_in c n) k p)
unfolding reach_standing
standing_alike c n k p memory other = elim (cases_Bool (p.place == c.registers.seg)) [
  | inl e ↦ rw e (record { other = here (parts_in c n); made = refl; like = here_alike c n memory other })
  | inr e ↦ rw e (demanded (ReachedAlike c.memory n) (nat_lt p.count 65535) StackOverflow _ _ (λ g.
      record { other = _; made = refl; like = record { memory = n; same = refl; alike = unchanged c.memory n; first = memory; second = other } }))
]

over : (code : List ℕ) (r : Registers) (u : Unit {0}) → (let x : Result (Unit {0}) ExecError = Err StackOverflow in x ≡ Ok u)
    → r.sp - length code + length code ≤ 65536
over code r u k = cc

none : (code : List ℕ) (r : Registers) (u : Unit {0}) → (let x : Result (Unit {0}) ExecError = Err NoSegment in x ≡ Ok u)
    → r.sp - length code + length code ≤ 65536
none code r u k = cc

-- If code fits below SP, then it ends at or before the end of memory.
pub code_room : (r : Registers) (code : List ℕ) (u : Unit {0}) → r.sp ≤ 65504 → code_fits r code ≡ Ok u → r.sp - length code + length code ≤ 65536
code_room r code u top h = elim (cases_Bool (nat_lt 0 (length code))) [
  | inl e ↦ (elim (cases_Bool (nat_le (r.np + length code) r.sp)) [
    | inl f ↦ let l : r.np + length code ≤ r.sp = grind (arith, nat_tests, f) in omega (arith, l, top)
    | inr f ↦ over code r u (rw (e, f) at h)
  ])
  | inr e ↦ none code r u (rw e at h)
]

pub loading_alike : (c : Parts) (n : List ℕ) (k : ℕ) (code : List ℕ) → IsMemory c.memory → IsMemory n → c.registers.sp ≤ 65504 → All (λ b. b < 256) code
    → Both (ReachedAlike c.memory n) (reach_loading c k code) (reach_loading (parts_in c n) k code)
unfolding reach_loading
loading_alike c n k code memory other top bytes =
    both (ReachedAlike c.memory n) (code_fits c.registers code) (code_fits c.registers code) _ _ refl (λ u h.
    let sp = c.registers.sp in
    let room = code_room c.registers code u top h in
    record {
      other = _;
      made = refl;
      like = record {
        memory = with_bytes n (sp - length code) code;
        same = refl;
        alike = bytes_alike c.memory n code (sp - length code) memory other room bytes;
        first = IsMemory-with_bytes c.memory code (sp - length code) memory room bytes;
        second = IsMemory-with_bytes n code (sp - length code) other room bytes;
      };
    })

slot_alike : (c : Parts) (n : List ℕ) (call : Call) (k : ℕ) (code : Option (List ℕ)) (slot : Option (Option SegmentPlace)) → IsMemory c.memory → IsMemory n
    → c.registers.sp ≤ 65504 → IsCode code → Agree (reached_read call c.registers (slot_reached k c slot (Ok code))) c.memory n
    → Both (PartsAlike c.memory n) (called_slot c call k code slot) (called_slot (parts_in c n) call k code slot)
unfolding called_standing called_loading
slot_alike c n call k code None memory other top bytes agree = tt
slot_alike c n call k code (Some (Some p)) memory other top bytes agree =
    reach_alike c n call (reach_standing c k p) (reach_standing (parts_in c n) k p) (standing_alike c n k p memory other) agree
slot_alike c n call k None (Some None) memory other top bytes agree = tt
slot_alike c n call k (Some code) (Some None) memory other top bytes agree =
    reach_alike c n call (reach_loading c k code) (reach_loading (parts_in c n) k code) (loading_alike c n k code memory other top bytes) agree

near_alike : (c : Parts) (n : List ℕ) (call : Call) → IsMemory c.memory → IsMemory n → Agree (reached_read call c.registers (Ok (here c))) c.memory n
    → Both (PartsAlike c.memory n) (called_at c call (here c)) (called_at (parts_in c n) call (here (parts_in c n)))
near_alike c n call memory other agree = at_alike c n call (here c) n (unchanged c.memory n) memory other agree

-- Returns the ranges of memory that a call reads, with the code that it must load.
abbrev pub called_read : Parts → Call → Option (List ℕ) → List Stretch
called_read c call code = reached_read call c.registers (called_reached call c code)

pub called_alike : (call : Call) (c : Parts) (n : List ℕ) (code : Option (List ℕ)) → IsMemory c.memory → IsMemory n → c.registers.sp ≤ 65504 → IsCode code
    → Agree (called_read c call code) c.memory n → Both (PartsAlike c.memory n) (called c call code) (called (parts_in c n) call code)
unfolding called
called_alike (Cxp k p) c n code memory other top bytes agree = slot_alike c n (Cxp k p) k code (slice_get c.places k) memory other top bytes agree
called_alike (Clp p) c n code memory other top bytes agree = near_alike c n (Clp p) memory other agree
called_alike (Cgp p) c n code memory other top bytes agree = near_alike c n (Cgp p) memory other agree
called_alike (Cbp p) c n code memory other top bytes agree = near_alike c n (Cbp p) memory other agree
called_alike (Cip p) c n code memory other top bytes agree = near_alike c n (Cip p) memory other agree
