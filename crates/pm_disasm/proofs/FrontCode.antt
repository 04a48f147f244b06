-- Lemmas about the instruction at an offset of code.
use Rattle.std.proofs.Common.{◌≡◌, ◌<◌, ◌≤◌, ℕ, ◌+◌, ◌-◌, Bool, true, false, cond, List, ◌++◌, length, take, drop, replicate}
use Rattle.std.proofs.Common.{Ok, Err, Some, None, refl, sym, ap, ◌∙◌, arith, inl, inr, length-append, length-drop, drop-drop}
use Rattle.std.proofs.Math.Seq.{drop-append_seam}
use Rattle.std.proofs.lemmas.List.{length-replicate}
use Rattle.std.proofs.lemmas.Bool.{cases_Bool, true≢false}
use Rattle.pm_opcode.specs.declared.operand_form.Form.{Form}
use Rattle.pm_opcode.specs.declared.operand_form.Form.TheVariants.{Plain, Ub, Sb, Db, B, UbB, UbUb, DbB, W, Chars, Words, Jumps, Typed, Unassigned}
use Rattle.pm_opcode.specs.declared.instr.Instr.{Instr}
use Rattle.pm_opcode.specs.declared.instr.Decode.{Decode}
use Rattle.pm_opcode.specs.Table.{form_of}
use Rattle.pm_opcode.specs.Spelling.{is_odd, is_sized, names_bytes, named_by, spelling}
use Rattle.pm_opcode.specs.Standing.{IsSpelledAt, clear}
use Rattle.pm_opcode.specs.Reading.{reading}
use Rattle.pm_opcode.proofs.ReadAgain.{length-named, length-named_by, length-operands}
use Rattle.pm_disasm.specs.Split.{front, has_zero_padding, item_of, standing_at}

-- The bytes from offset `at` of `standing_at at bytes` are `bytes`.
pub drop_standing : (at : ℕ) (bytes : List ℕ) → drop at (standing_at at bytes) ≡ bytes
drop_standing at bytes = ap (λ n. drop n (replicate at 0 ++ bytes)) (sym (length-replicate at 0)) ∙ drop-append_seam (replicate at 0) bytes

-- If `a` and `b` have the same bytes from offset `at` on, then the same instruction is read at `at`.
pub same_reading : (a b : List ℕ) (at : ℕ) → drop at a ≡ drop at b → reading a at ≡ reading b at
unfolding reading
same_reading a b at e = rw e refl

clear_count : (form : Form) (i : Instr) → names_bytes form ≡ false → (clear form i).count ≡ 0
clear_count Plain i h = refl
clear_count Ub i h = refl
clear_count Sb i h = refl
clear_count Db i h = refl
clear_count B i h = refl
clear_count UbB i h = refl
clear_count UbUb i h = refl
clear_count DbB i h = refl
clear_count W i h = refl
clear_count Chars i h = absurd (true≢false h)
clear_count Words i h = absurd (true≢false h)
clear_count Jumps i h = absurd (true≢false h)
clear_count Typed i h = elim (cases_Bool (is_sized i.a)) [ inl e ↦ (rw e refl) | inr e ↦ (rw e refl) ]
clear_count Unassigned i h = refl

-- States that instruction `i` at offset `at` has at least one byte and ends inside `bytes`.
pub record Bounds (bytes : List ℕ) (at : ℕ) (i : Instr) : Type 0 where
  pub some : 0 < i.len
  pub within : at + i.len ≤ length bytes
  pub count : i.count ≤ i.len
  pub start : names_bytes (form_of i.op) ≡ true → at ≤ i.start

pub bounds : (bytes : List ℕ) (at : ℕ) (i : Instr) → IsSpelledAt bytes at i → Bounds bytes at i
bounds bytes at i s =
    let form : Form = form_of i.op in
    let odd : Bool = is_odd at in
    let named : List ℕ = named_by i bytes in
    let len : i.len ≡ length (spelling odd 0 i named) = ap (λ (j : Instr). j.len) s.placed in
    let count : i.count ≡ (clear form i).count = ap (λ (j : Instr). j.count) s.placed in
    let start : i.start ≡ cond (names_bytes form) (at + length (spelling odd 0 i named) - (clear form i).count) 0 = ap (λ (j : Instr). j.start) s.placed in
    let size = length-operands form odd s.spelled.0 i named in
    let long : length (drop at bytes) ≡ length (spelling odd s.spelled.0 i named) + length s.spelled.1 =
    ap length s.spelled.2 ∙ length-append (spelling odd s.spelled.0 i named) s.spelled.1 in
    let small : i.count ≤ i.len = elim (cases_Bool (names_bytes form)) [
      | inl n ↦ omega (arith, length-named form odd 0 i named n, length-named_by i bytes s.ranges n, len)
      | inr n ↦ omega (arith, clear_count form i n, count)
    ] in
    record {
      some = omega (arith, len);
      within = omega (arith, len, size, long, length-drop at bytes);
      count = small;
      start = λ n. let e : i.start ≡ at + length (spelling odd 0 i named) - (clear form i).count = start
          ∙ ap (λ b. cond b (at + length (spelling odd 0 i named) - (clear form i).count) 0) n in omega (arith, e, small, len, count);
    }

same_named : (a b : List ℕ) (at start count : ℕ) → drop at a ≡ drop at b → at ≤ start → take count (drop start a) ≡ take count (drop start b)
same_named a b at start count e h =
    let k : at + (start - at) ≡ start = omega (arith, h) in
    let split : (bs : List ℕ) → drop start bs ≡ drop (start - at) (drop at bs) = λ bs. ap (λ n. drop n bs) (sym k) ∙ sym (drop-drop (start - at) at bs) in
    ap (take count) (split a ∙ ap (drop (start - at)) e ∙ sym (split b))

named_again : (bytes : List ℕ) (at : ℕ) (i : Instr) → Bounds bytes at i → named_by i (standing_at at (drop at bytes)) ≡ named_by i bytes
named_again bytes at i b = elim (cases_Bool (names_bytes (form_of i.op))) [
  | inl n ↦ rw n (same_named (standing_at at (drop at bytes)) bytes at i.start i.count (drop_standing at (drop at bytes)) (b.start n))
  | inr n ↦ rw n refl
]

-- If instruction `i` was decoded at offset `at` and its padding is zero, then `i` is the instruction at the beginning
-- of the bytes from `at` on. If its padding is not zero, then the result is `None`.
pub front_read : (bytes : List ℕ) (at : ℕ) (i : Instr) → reading bytes at ≡ Ok i → IsSpelledAt bytes at i → front at (drop at bytes)
    ≡ cond (has_zero_padding (form_of i.op) (is_odd at) (drop at bytes))
    (Some (record { size = i.len; item = item_of (form_of i.op) i (named_by i bytes) (at + i.len) })) None
unfolding front
front_read bytes at i e s =
    let again : reading (standing_at at (drop at bytes)) at ≡ Ok i =
    same_reading (standing_at at (drop at bytes)) bytes at (drop_standing at (drop at bytes)) ∙ e in
    rw (again, named_again bytes at i (bounds bytes at i s)) refl

pub front_none : (bytes : List ℕ) (at : ℕ) (fault : Decode) → reading bytes at ≡ Err fault → front at (drop at bytes) ≡ None
unfolding front
front_none bytes at fault e =
    let again : reading (standing_at at (drop at bytes)) at ≡ Err fault =
    same_reading (standing_at at (drop at bytes)) bytes at (drop_standing at (drop at bytes)) ∙ e in
    rw again refl
