-- If bytes have the cause of a fault, then reading them returns this fault.
use Rattle.std.proofs.Common.{◌≡◌, ◌<◌, ◌≤◌, ℕ, ◌+◌, ◌-◌, zero, suc, List, [], ◌∷◌, ◌++◌, length, drop, Result, Ok, Err, Some}
use Rattle.std.proofs.Common.{refl, sym, ap, ◌∙◌, arith, length-append, length-drop, append_assoc, IfOk, inl, inr, subst}
use Rattle.std.specs.Prelude.{slice_get}
use Rattle.std.proofs.lemmas.List.{drop-append-le, drop_all}
use Rattle.std.proofs.lemmas.Bool.{and_parts}
use Rattle.pm_opcode.specs.declared.operand_form.Form.TheVariants.{Unassigned}
use Rattle.pm_opcode.specs.declared.instr.Instr.{Instr}
use Rattle.pm_opcode.specs.declared.instr.Decode.{Decode}
use Rattle.pm_opcode.specs.declared.instr.Decode.TheVariants as faults
use Rattle.pm_opcode.specs.Table.{groups, form_of}
use Rattle.pm_opcode.specs.Spelling.{spelling, is_odd, in_range, lies_within, named_by}
use Rattle.pm_opcode.specs.Standing.{placed_at, IsSpelledAt}
use Rattle.pm_opcode.specs.Laws.{IsTruncated, HasBadType}
use Rattle.pm_opcode.specs.Reading.{front_byte, read_typed, reading}
use Rattle.pm_opcode.proofs.Takes.{IsBytes}
use Rattle.pm_opcode.proofs.ReadAgain.{spelled_read, reading_again, length-named_by, length-operands}
use Rattle.pm_opcode.proofs.ReadTakes.{reading_takes}
use Rattle.pm_opcode.proofs.Faults.{unassigned, bad_type}

pub front_of_get : {x : ℕ} (bytes : List ℕ) (at : ℕ) → slice_get bytes at ≡ Some x → (rest : List ℕ) × (drop at bytes ≡ x ∷ rest)
front_of_get [] zero e = cc
front_of_get (b ∷ bs) zero e = (bs, (let w : b ≡ _ = cc in ap (λ n. n ∷ bs) w))
front_of_get [] (suc n) e = cc
front_of_get (b ∷ bs) (suc n) e = front_of_get bs n e

form-210 : form_of 210 ≡ Unassigned
unfolding groups form_of
form-210 = refl

pub unassigned_again : (bytes : List ℕ) (at : ℕ) → (rest : List ℕ) × (drop at bytes ≡ 210 ∷ rest) → reading bytes at ≡ Err faults.Unassigned
unfolding reading front_byte
unassigned_again bytes at (rest, e) = rw (e, form-210) refl

pub bad_type_again : (bytes : List ℕ) (at : ℕ) → HasBadType bytes at → reading bytes at ≡ Err faults.BadType
unfolding reading front_byte read_typed
bad_type_again bytes at (op, type, rest, e, form, sized, unsized) = rw (e, form, sized, unsized) refl

-- If bytes are appended, then the bytes from offset `at` on are the old bytes from `at` on, followed by the appended
-- bytes.
dropped_before : (bytes more front : List ℕ) (at op : ℕ) → drop at bytes ≡ op ∷ front → drop at (bytes ++ more) ≡ op ∷ (front ++ more)
dropped_before bytes more front at op e =
    drop-append-le at bytes more (omega (arith, ap length e, length-drop at bytes)) ∙ ap (λ x. x ++ more) e

-- If an encoding begins at offset `at` of `bytes` and ends in `bytes`, then no encoding at `at` of the longer bytes
-- ends after the end of `bytes`.
not_longer : (bytes more : List ℕ) (at : ℕ) (i j : Instr) → IsSpelledAt (bytes ++ more) at i → IsSpelledAt bytes at j → at + i.len ≤ length bytes
not_longer bytes more at i j s t =
    let named = named_by j bytes in
    let text = spelling (is_odd at) t.spelled.0 j named in
    let len : length text ≡ j.len = ap suc (length-operands (form_of j.op) (is_odd at) t.spelled.0 j named) ∙ sym (ap (λ (k : Instr). k.len) t.placed) in
    let room : length text ≤ length bytes - at = omega (arith, ap length t.spelled.2, length-append text t.spelled.1, length-drop at bytes) in
    let within : at + j.len ≤ length bytes = omega (arith, len, room) in
    let whole : drop at (bytes ++ more) ≡ text ++ (t.spelled.1 ++ more) =
    drop-append-le at bytes more (omega (arith, room)) ∙ ap (λ x. x ++ more) t.spelled.2 ∙ append_assoc text t.spelled.1 more in
    let read : reading (bytes ++ more) at ≡ Ok (placed_at at j named) =
    spelled_read (bytes ++ more) at j named (record {
      ranges = (and_parts (in_range (form_of j.op) j)
          (lies_within (form_of j.op) j (length bytes)) t.ranges).0;
      count = length-named_by j bytes t.ranges;
      pad = t.spelled.0;
      rest = t.spelled.1 ++ more;
      whole = whole;
    }) in
    let one : Ok i ≡ Ok j = sym (reading_again (bytes ++ more) at i s) ∙ read ∙ ap Ok (sym t.placed) in
    let same : i ≡ j = cc in
    subst (λ (k : Instr). at + k.len ≤ length bytes) (sym same) within

-- If `bytes` end within an encoding at offset `at`, then reading `bytes` at `at` fails with `Truncated`.
cut_again : (bytes more : List ℕ) (at : ℕ) (i : Instr) (r : Result Instr Decode) → IsBytes bytes → IsSpelledAt (bytes ++ more) at i → length bytes < at + i.len
    → reading bytes at ≡ r → r ≡ Err faults.Truncated
cut_again bytes more at i (Ok j) b s l e =
    let t : IsSpelledAt bytes at j = subst (λ r. IfOk r (IsSpelledAt bytes at)) e (reading_takes bytes at b) in
    absurd (omega (arith, not_longer bytes more at i j s t, l))
cut_again bytes more at i (Err faults.Truncated) b s l e = refl
cut_again bytes more at i (Err faults.Unassigned) b s l e =
    let (rest, front) = unassigned bytes at b e in
    let apart : Ok i ≡ Err faults.Unassigned = sym (reading_again (bytes ++ more) at i s)
    ∙ unassigned_again (bytes ++ more) at (rest ++ more, dropped_before bytes more rest at 210 front) in
    cc
cut_again bytes more at i (Err faults.BadType) b s l e =
    let w = bad_type bytes at e in
    let front : drop at bytes ≡ w.0 ∷ (w.1 ∷ w.2) = w.3 in
    let apart : Ok i ≡ Err faults.BadType = sym (reading_again (bytes ++ more) at i s)
    ∙ bad_type_again (bytes ++ more) at (w.0, w.1, w.2 ++ more, dropped_before bytes more (w.1 ∷ w.2) at w.0 front, w.4, w.5, w.6) in
    cc

pub cut_short_again : (bytes : List ℕ) (at : ℕ) → IsBytes bytes → IsTruncated bytes at → reading bytes at ≡ Err faults.Truncated
unfolding reading front_byte
cut_short_again bytes at b (inl past) = (let none : drop at bytes ≡ [] = drop_all at bytes past in rw none refl)
cut_short_again bytes at b (inr (more, i, s, l)) = cut_again bytes more at i (reading bytes at) b s l refl
