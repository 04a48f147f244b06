-- The bytes of an instruction are read as this instruction, for any bytes after it.
use Rattle.std.proofs.Common.{◌≡◌, ◌<◌, ℕ, ◌+◌, ◌-◌, ◌*◌, ◌/◌, ◌%◌, Bool, true, false, cond, ltb, List, [], ◌∷◌}
use Rattle.std.proofs.Common.{◌++◌, length, drop, refl, sym, ap, ◌∙◌, arith, inl, inr, append_assoc, Option, Some, Ok}
use Rattle.std.specs.Prelude.{◌&&◌, nat_le, ◌==◌, replicate}
use Rattle.std.specs.List.{AllByRecursion}
use Rattle.std.proofs.Math.Seq.{drop-append_seam}
use Rattle.std.proofs.lemmas.List.{length-replicate}
use Rattle.std.proofs.lemmas.Bool.{le-ltb, lt-ltb, eq-eqb, cases_Bool, cases_lt, true≢false}
use Rattle.std.proofs.lemmas.Bool.Decides.{nat_tests}
use Rattle.pm_opcode.specs.declared.operand_form.Form.{Form}
use Rattle.pm_opcode.specs.declared.operand_form.Form.TheVariants as forms
use Rattle.pm_opcode.specs.declared.instr.Instr.{Instr}
use Rattle.pm_opcode.specs.Table.{groups, form_of}
use Rattle.pm_opcode.specs.Spelling.{spelling, spelled_operands, is_odd, is_sized, in_range, jump_count, names_bytes, named_by, signed_byte}
use Rattle.pm_opcode.specs.Standing.{clear, placed_at}
use Rattle.pm_opcode.specs.Reading.{reading}
use Rattle.pm_opcode.proofs.ReadAgain.{spelled_read, named_at}
use Rattle.pm_words.specs.Words.{words_of}
use Rattle.pm_code.specs.Item.{Item, Target, IsItem, IsPlain, IsCase, IsNear, item_bytes, size}
use Rattle.pm_code.specs.Item.{is_instruction, names_place, jump_byte, table_place, table_words}
use Rattle.pm_code.specs.Item.Item.{Plain, Jump, Case, OneByte}
use Rattle.pm_code.specs.Item.Target.{To, Through}
use Rattle.pm_disasm.specs.Split.{Front, front, front_by, item_of, has_zero_padding, standing_at, target_of, jump_item, table_places, by_operands}
use Rattle.pm_code.proofs.ItemBytes.{jump_byte-is_byte}
use Rattle.pm_code.proofs.Sizes.{length-table_words, length-item}

pub drop-standing : (at : ℕ) (bytes : List ℕ) → drop at (standing_at at bytes) ≡ bytes
drop-standing at bytes = ap (λ n. drop n (standing_at at bytes)) (sym (length-replicate at 0)) ∙ drop-append_seam (replicate at 0) bytes

-- If an instruction is spelled with a padding byte of zero, then `has_zero_padding` is true.
padded_zero : (form : Form) (odd : Bool) (i : Instr) (named rest : List ℕ)
    → has_zero_padding form odd (i.op ∷ (spelled_operands form odd 0 i named ++ rest)) ≡ true
padded_zero forms.Words true i named rest = refl
padded_zero forms.Words false i named rest = refl
padded_zero forms.Jumps true i named rest = refl
padded_zero forms.Jumps false i named rest = refl
padded_zero _ odd i named rest = refl

-- If the form of instruction `i` has no bytes that belong to the instruction, then `i.count` is 0.
pub no_count : (form : Form) (i : Instr) → names_bytes form ≡ false → clear form i ≡ i → i.count ≡ 0
no_count forms.Chars i n e = absurd (true≢false n)
no_count forms.Words i n e = absurd (true≢false n)
no_count forms.Jumps i n e = absurd (true≢false n)
no_count forms.Typed i n e = elim (cases_Bool (is_sized i.a)) [
  | inl s ↦ (let f = rw s at e in sym (ap (λ (j : Instr). j.count) f))
  | inr s ↦ (let f = rw s at e in sym (ap (λ (j : Instr). j.count) f))
]
no_count _ i n e = sym (ap (λ (j : Instr). j.count) e)

nothing_named : (named : List ℕ) → length named ≡ 0 → [] ≡ named
nothing_named [] e = refl
nothing_named (x ∷ named) e = absurd (omega arith)

-- States that instruction `i` uses only the fields of its form, and that the bytes `named` belong to it.
pub record IsClear (i : Instr) (named : List ℕ) : Type 0 where
  pub ranges : in_range (form_of i.op) i ≡ true
  pub fields : clear (form_of i.op) i ≡ i
  pub count : length named ≡ i.count

-- The instruction `i` with its position and its length, if it begins at offset `at`.
abbrev pub placed : ℕ → Instr → List ℕ → Instr
placed at i named = let len = length (spelling (is_odd at) 0 i named) in
    record i { start = cond (names_bytes (form_of i.op)) (at + len - i.count) 0; len = len }

placed_names : (at : ℕ) (i : Instr) (named rest : List ℕ) → IsClear i named
    → named_by (placed at i named) (standing_at at (spelling (is_odd at) 0 i named ++ rest)) ≡ named
placed_names at i named rest h =
    let all : List ℕ = standing_at at (spelling (is_odd at) 0 i named ++ rest) in
    elim (cases_Bool (names_bytes (form_of i.op))) [
      | inl n ↦ rw n (named_at all at i named rest 0 (at + length (spelling (is_odd at) 0 i named) - i.count) n h.count
          (drop-standing at (spelling (is_odd at) 0 i named ++ rest)) refl)
      | inr n ↦ rw n (nothing_named named (h.count ∙ no_count (form_of i.op) i n h.fields))
    ]

-- The bytes of such an instruction are read as this instruction, for any bytes after it.
pub clear_read : (at : ℕ) (i : Instr) (named rest : List ℕ) → IsClear i named
    → front at (spelling (is_odd at) 0 i named ++ rest) ≡ Some (record {
      size = length (spelling (is_odd at) 0 i named);
      item = item_of (form_of i.op) (placed at i named) named (at + length (spelling (is_odd at) 0 i named));
    })
unfolding front
clear_read at i named rest h =
    let bytes : List ℕ = spelling (is_odd at) 0 i named ++ rest in
    let read : reading (standing_at at bytes) at ≡ Ok (placed_at at i named) =
    spelled_read (standing_at at bytes) at i named (record {
      ranges = h.ranges;
      count = λ n. h.count;
      pad = 0;
      rest = rest;
      whole = drop-standing at bytes;
    }) in
    let len = length (spelling (is_odd at) 0 i named) in
    let here : placed_at at i named ≡ placed at i named = ap (λ (j : Instr). record j {
      start = cond (names_bytes (form_of i.op)) (at + len - j.count) 0;
      len = len;
    }) h.fields in
    ap (front_by at bytes) (read ∙ ap Ok here)
    ∙ rw (padded_zero (form_of i.op) (is_odd at) i named rest) (ap
    (λ names. Some (record { size = len; item = item_of (form_of i.op) (placed at i named) names (at + len) })) (placed_names at i named rest h))

-- If the form of instruction `i` has no target, then its item is the instruction itself.
plain_item : (form : Form) (i : Instr) (named : List ℕ) (end : ℕ) → names_place form ≡ false → item_of form i named end ≡ Some (Plain (by_operands i) named)
plain_item forms.Sb i named end n = absurd (true≢false n)
plain_item forms.Jumps i named end n = absurd (true≢false n)
plain_item _ i named end n = refl

by_operands_alone : (i : Instr) → i.start ≡ 0 → i.len ≡ 0 → by_operands i ≡ i
by_operands_alone i s l = ap (λ n. record i { start = n; len = 0 }) (sym s) ∙ ap (λ n. record i { len = n }) (sym l)

-- The result of reading `item` at the beginning of bytes at offset `at`.
abbrev pub found : ℕ → Item ℕ → Option Front
found at item = Some (record { size = size at item; item = Some item })

plain_read : (at : ℕ) (i : Instr) (named rest : List ℕ) → IsPlain i named → front at (item_bytes at (Plain i named) ++ rest) ≡ found at (Plain i named)
plain_read at i named rest h =
    let len = length (spelling (is_odd at) 0 i named) in
    clear_read at i named rest (record { ranges = h.ranges; fields = h.fields; count = h.count })
    ∙ ap (λ item. Some (record { size = len; item = item })) (plain_item (form_of i.op) (placed at i named) named (at + len) h.form
    ∙ ap (λ j. Some (Plain j named)) (by_operands_alone i h.nowhere.0 h.nowhere.1))

-- If a short jump can lead to `target`, then its operand byte is read as `target`.
pub target_again : (next : ℕ) (target : Target ℕ) → IsNear next target → target_of next (jump_byte next target) ≡ Some target
target_again next (To place) h =
    let t : ltb (place - next) 128 ≡ true = lt-ltb _ _ (omega (arith, h.0, h.1)) in
    let e : next + (place - next) ≡ place = omega (arith, h.0) in
    rw t (rw e refl)
target_again next (Through k) h =
    let t : ltb (246 - 2 * k) 128 ≡ false = le-ltb _ _ (omega (arith, h)) in
    let even : (246 - 2 * k) % 2 ≡ 0 = omega (arith, h) in
    let u : (((246 - 2 * k) % 2 == 0) && nat_le (246 - 2 * k) 246) ≡ true = grind (arith, nat_tests) in
    let e : (246 - (246 - 2 * k)) / 2 ≡ k = omega (arith, h) in
    rw (t, u) (rw e refl)

pub signed_byte-low : (b : ℕ) → b < 256 → signed_byte b % 256 ≡ b
signed_byte-low b h = elim (cases_lt b 128) [
  | inl l ↦ (let t : ltb b 128 ≡ true = lt-ltb _ _ l in rw t (omega (arith, h)))
  | inr l ↦ (let t : ltb b 128 ≡ false = le-ltb _ _ l in rw t (omega (arith, h)))
]

-- The instruction of a short jump with the opcode `op` and the operand byte `b`.
abbrev jump_instr : ℕ → ℕ → Instr
jump_instr op b = record { op = op; a = signed_byte b; b = 0; c = 0; long = false; start = 0; count = 0; len = 0 }

jump_read : (at op : ℕ) (target : Target ℕ) (rest : List ℕ) → form_of op ≡ forms.Sb → IsNear (at + 2) target
    → front at (item_bytes at (Jump op target) ++ rest) ≡ found at (Jump op target)
jump_read at op target rest f h =
    let b = jump_byte (at + 2) target in
    let i = jump_instr op b in
    let low : signed_byte b % 256 ≡ b = signed_byte-low b (jump_byte-is_byte (at + 2) target h) in
    let clear : IsClear i [] = record { ranges = rw f (eq-eqb _ _ (ap signed_byte low)); fields = rw f refl; count = refl } in
    let text : spelling (is_odd at) 0 i [] ≡ op ∷ b ∷ [] = rw f (ap (λ c. op ∷ c ∷ []) low) in
    ap (λ bs. front at (bs ++ rest)) (sym text)
    ∙ clear_read at i [] rest clear
    ∙ rw f (ap (λ c. Some (record { size = 2; item = jump_item op (target_of (at + 2) c) })) low
    ∙ ap (λ t. Some (record { size = 2; item = jump_item op t })) (target_again (at + 2) target h))

pub case_form : form_of 172 ≡ forms.Jumps
unfolding form_of groups
case_form = refl

-- The words of a table with the targets `places` are read as `places`.
pub places_again : (at : ℕ) (places : List ℕ) → AllByRecursion (λ place. place < 65536) places → table_places at (words_of (table_words at places)) ≡ places
unfolding words_of
places_again at [] h = refl
places_again at (place ∷ places) h =
    let w = (at + 65536 - place) % 65536 in
    let e : w % 256 + 256 * (w / 256) ≡ w = omega arith in
    let p : (at + 65536 - w) % 65536 ≡ place = omega (arith, h.0) in
    rw (e, p) (ap (λ ps. place ∷ ps) (places_again (at + 2) places h.1))

-- The instruction of a case jump with the given bounds, the byte `b` of its UJP, and `count` bytes of its table.
abbrev case_instr : ℕ → ℕ → ℕ → ℕ → Instr
case_instr low high b count = record { op = 172; a = low; b = high; c = 185 + 256 * b; long = false; start = 0; count = count; len = 0 }

case_read : (at low high : ℕ) (otherwise : Target ℕ) (places rest : List ℕ) → IsCase at low high otherwise places
    → front at (item_bytes at (Case low high otherwise places) ++ rest) ≡ found at (Case low high otherwise places)
case_read at low high otherwise places rest h =
    let table = table_place at in
    let b = jump_byte table otherwise in
    let named = table_words table places in
    let count = 2 * jump_count low high in
    let i = case_instr low high b count in
    let long : length named ≡ count = length-table_words table places ∙ ap (λ n. 2 * n) h.count in
    let clear : IsClear i named = record { ranges = rw case_form (eq-eqb count count refl); fields = rw case_form refl; count = long } in
    let first : (185 + 256 * b) % 256 ≡ 185 = omega arith in
    let second : (185 + 256 * b) / 256 ≡ b = omega arith in
    let text : spelling (is_odd at) 0 i named ≡ item_bytes at (Case low high otherwise places) = rw case_form (simp (append_assoc, first, second) refl) in
    let len : length (spelling (is_odd at) 0 i named) ≡ size at (Case low high otherwise places) =
    ap length text ∙ length-item at (Case low high otherwise places) in
    let begins : at + size at (Case low high otherwise places) - count ≡ table = omega (arith, h.count) in
    ap (λ bs. front at (bs ++ rest)) (sym text)
    ∙ clear_read at i named rest clear
    ∙ rw (len, case_form) (rw (first, begins, second, target_again table otherwise h.near, places_again table places h.within) refl)

-- The bytes of an instruction are read as this instruction, for any bytes after it.
pub instruction_is_read : (at : ℕ) (item : Item ℕ) (rest : List ℕ) → IsItem at item → is_instruction item ≡ true
    → front at (item_bytes at item ++ rest) ≡ found at item
instruction_is_read at (Plain i named) rest h e = plain_read at i named rest h
instruction_is_read at (Jump op target) rest h e = jump_read at op target rest h.0 h.2
instruction_is_read at (Case low high otherwise places) rest h e = case_read at low high otherwise places rest h
instruction_is_read at (OneByte b) rest h e = absurd (true≢false (sym e))
