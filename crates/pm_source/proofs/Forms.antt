-- If the operands of an instruction are in range, then its item is valid (`IsGood`).
use Rattle.std.proofs.Common.{◌≡◌, ◌<◌, ◌≤◌, ℕ, ◌+◌, ◌-◌, Bool, true, false, List, [], ◌∷◌, refl, sym, ap, subst, arith, Option, Some, None, inl, inr}
use Rattle.std.specs.Prelude.{zero, suc, nat_eq, nat_lt, nat_le, ◌&&◌, if◌then◌else◌}
use Rattle.std.proofs.lemmas.Bool.{lt-ltb, leb-true, eqb-true, cases_lt}
use Rattle.pm_opcode.specs.declared.operand_form.Form.{Form}
use Rattle.pm_opcode.specs.declared.operand_form.Form.TheVariants as forms
use Rattle.pm_opcode.specs.declared.instr.Instr.{Instr}
use Rattle.pm_opcode.specs.Table.{form_of, groups}
use Rattle.pm_code.specs.Item.{Item}
use Rattle.pm_source.specs.declared.number.Numeral.{Numeral}
use Rattle.pm_source.specs.Words.{within, stored, number}
use Rattle.pm_source.specs.Source.{Name}
use Rattle.pm_codefile.specs.Segments.{◌>>=◌}
use Rattle.pm_source.specs.Line.{Operand, byte_operand, number_operand, bare, plain, short_range, short_opcode, short_number}
use Rattle.pm_source.specs.Line.{short_instruction, bare_instruction, one_number, one_long_number, two_bytes, byte_and_number}
use Rattle.pm_source.proofs.Numerals.{bound, both, pair_is, some_is, stored_small}
use Rattle.pm_source.proofs.Goods.{IsGood, IsNumber, well, is_right, byte_ranged, number_ranged}

-- If the opcode `op` has no operands, then its item is valid.
pub bare_good : (op : ℕ) → op < 256 → form_of op ≡ forms.Plain → IsGood (plain (bare op))
bare_good op o f = well forms.Plain (bare op) [] o f refl refl (omega arith) refl (refl, refl) refl tt

-- Whether an operand format has no operands. Opcodes that contain their number have this format.
is_plain_form : Form → Bool
is_plain_form forms.Plain = true
is_plain_form _ = false

plain_form : (F : Form) → is_plain_form F ≡ true → F ≡ forms.Plain
unfolding is_plain_form
plain_form forms.Plain e = refl
plain_form forms.Ub e = absurd (cc)
plain_form forms.Sb e = absurd (cc)
plain_form forms.Db e = absurd (cc)
plain_form forms.B e = absurd (cc)
plain_form forms.UbB e = absurd (cc)
plain_form forms.UbUb e = absurd (cc)
plain_form forms.DbB e = absurd (cc)
plain_form forms.W e = absurd (cc)
plain_form forms.Chars e = absurd (cc)
plain_form forms.Words e = absurd (cc)
plain_form forms.Jumps e = absurd (cc)
plain_form forms.Typed e = absurd (cc)
plain_form forms.Unassigned e = absurd (cc)

abbrev all_plain : ℕ → ℕ → Bool
all_plain at zero = true
all_plain at (suc count) = is_plain_form (form_of at) && all_plain (at + 1) count

plain_at : (at count op : ℕ) → all_plain at count ≡ true → at ≤ op → op < at + count → form_of op ≡ forms.Plain
plain_at at zero op e low high = absurd (omega (arith, low, high))
plain_at at (suc count) op e low high =
    let parts = both (is_plain_form (form_of at)) (all_plain (at + 1) count) e in
    elim (cases_lt at op) [
      | inl less ↦ plain_at (at + 1) count op parts.1 (omega (arith, less)) (omega (arith, high))
      | inr more ↦ (let same : at ≡ op = omega (arith, low, more) in subst (λ k. form_of k ≡ forms.Plain) same (plain_form (form_of at) parts.0))
    ]

first_run : all_plain 0 128 ≡ true
unfolding form_of groups is_plain_form
first_run = refl

second_run : all_plain 216 16 ≡ true
unfolding form_of groups is_plain_form
second_run = refl

third_run : all_plain 232 16 ≡ true
unfolding form_of groups is_plain_form
third_run = refl

last_run : all_plain 248 8 ≡ true
unfolding form_of groups is_plain_form
last_run = refl

-- States that all opcodes for the numbers from `least` to `greatest` have no operands. `op` is the opcode for `least`.
record Runs (op least greatest : ℕ) : Type 0 where
  plain : (n : ℕ) → least ≤ n → n ≤ greatest → form_of (op + (n - least)) ≡ forms.Plain
  below : (n : ℕ) → least ≤ n → n ≤ greatest → op + (n - least) < 256
  top : greatest < 256

runs : (op : ℕ) (range : ℕ × ℕ) → short_range op ≡ Some range → Runs op range.0 range.1
runs op range e = by (nat_eq op 0) (nat_eq op 216) (nat_eq op 232) (nat_eq op 248) refl refl refl refl e
  where
    given : (least greatest at count : ℕ) → op ≡ at → all_plain at count ≡ true → greatest < least + count → at + count ≤ 256 → greatest < 256
        → Some (least, greatest) ≡ Some range → Runs op range.0 range.1
    given least greatest at count o c g w l e =
        let r : Runs op least greatest = record {
          plain = λ n low high. plain_at at count (op + (n - least)) c (omega (arith, o)) (omega (arith, o, low, high, g));
          below = λ n low high. omega (arith, o, low, high, g, w);
          top = l;
        } in
        let p : ◌≡◌ {A = ℕ × ℕ} (least, greatest) range = some_is (least, greatest) range e in
        subst (λ x. Runs op x.0 x.1) p r

    by : (a b c d : Bool) → nat_eq op 0 ≡ a → nat_eq op 216 ≡ b → nat_eq op 232 ≡ c → nat_eq op 248 ≡ d
        → (if a then Some (0, 127) else if b then Some (1, 16) else if c then Some (1, 16) else if d then Some (0, 7) else None) ≡ Some range
        → Runs op range.0 range.1
    by true b c d f g h i e = given 0 127 0 128 (eqb-true op 0 f) first_run (omega arith) (omega arith) (omega arith) e
    by false true c d f g h i e = given 1 16 216 16 (eqb-true op 216 g) second_run (omega arith) (omega arith) (omega arith) e
    by false false true d f g h i e = given 1 16 232 16 (eqb-true op 232 h) third_run (omega arith) (omega arith) (omega arith) e
    by false false false true f g h i e = given 0 7 248 8 (eqb-true op 248 i) last_run (omega arith) (omega arith) (omega arith) e
    by false false false false f g h i e = absurd (cc)

short_good : (op : ℕ) (range : ℕ × ℕ) (texts : List (List ℕ)) (x : Item Name) → short_range op ≡ Some range → short_instruction op range texts ≡ Some (x, true)
    → IsGood x
short_good op range [] x f e = absurd (cc)
short_good op range (text ∷ other ∷ others) x f e = absurd (cc)
short_good op range (text ∷ []) x f e =
    let r : Runs op range.0 range.1 = runs op range f in
    let b = bound (number text) (λ n. Some (short_number op range n)) (x, true) e in
    let n : Numeral = b.value in
    let v : ℕ = stored 256 n in
    let inside : Bool = nat_le range.0 v && within 0 range.1 n in
    let parts = pair_is (plain (bare (short_opcode op range.0 inside v))) x inside true b.next in
    let tests = both (nat_le range.0 v) (within 0 range.1 n) parts.1 in
    let low : range.0 ≤ v = leb-true range.0 v tests.0 in
    let high : v ≤ range.1 = stored_small range.1 256 n r.top tests.1 in
    let good : IsGood (plain (bare (short_opcode op range.0 true v))) = bare_good (op + (v - range.0)) (r.below v low high) (r.plain v low high) in
    subst IsGood parts.0 (subst (λ c. IsGood (plain (bare (short_opcode op range.0 c v)))) (sym parts.1) good)

pub plain_good : (op : ℕ) (texts : List (List ℕ)) (x : Item Name) → op < 256 → form_of op ≡ forms.Plain
    → bare_instruction op (short_range op) texts ≡ Some (x, true) → IsGood x
plain_good op texts x o f e = by (short_range op) texts refl e
  where
    by : (range : Option (ℕ × ℕ)) (texts : List (List ℕ)) → short_range op ≡ range → bare_instruction op range texts ≡ Some (x, true) → IsGood x
    by (Some range) texts s e = short_good op range texts x s e
    by None [] s e = let p = pair_is (plain (bare op)) x true true e in subst IsGood p.0 (bare_good op o f)
    by None (text ∷ texts) s e = absurd (cc)

-- The result of reading an instruction with one number, which is the field `a`.
abbrev stored_at : ℕ → ℕ × Bool → Operand (Item Name)
stored_at op a = Some (plain (record (bare op) { a = a.0 }), a.1)

pub one_good : (operand : List ℕ → Operand ℕ) (op : ℕ) (texts : List (List ℕ)) (x : Item Name)
    → ((text : List ℕ) (v : ℕ × Bool) → operand text ≡ Some v → IsGood (plain (record (bare op) { a = v.0 })))
    → one_number operand op texts ≡ Some (x, true) → IsGood x
one_good operand op [] x h e = absurd (cc)
one_good operand op (text ∷ other ∷ others) x h e = absurd (cc)
one_good operand op (text ∷ []) x h e =
    let b = bound (operand text) (stored_at op) (x, true) e in
    let v = b.value in
    let parts = pair_is (plain (record (bare op) { a = v.0 })) x v.1 true b.next in
    subst IsGood parts.0 (h text v b.first)

abbrev long_at : ℕ → (ℕ × Bool) × Bool → Operand (Item Name)
long_at op a = let n = a.0 in Some (plain (record (bare op) { a = n.0; long = n.1 }), a.1)

pub long_good : (op : ℕ) (texts : List (List ℕ)) (x : Item Name) → op < 256 → form_of op ≡ forms.B → one_long_number op texts ≡ Some (x, true) → IsGood x
long_good op [] x o f e = absurd (cc)
long_good op (text ∷ other ∷ others) x o f e = absurd (cc)
long_good op (text ∷ []) x o f e =
    let b = bound (number_operand text) (long_at op) (x, true) e in
    let v = b.value in
    let n = v.0 in
    let parts = pair_is (plain (record (bare op) { a = n.0; long = n.1 })) x v.1 true b.next in
    let r : IsNumber n.0 n.1 = number_ranged text n (is_right (number_operand text) v b.first parts.1) in
    let i : Instr = record (bare op) { a = n.0; long = n.1 } in
    subst IsGood parts.0 (well forms.B i [] o f refl (lt-ltb n.0 32768 r.below) (omega (arith, r.below))
    (ap (λ l. record (bare op) { a = n.0; long = l }) r.short) (refl, refl) refl tt)

abbrev bytes_at : ℕ → ℕ × Bool → ℕ × Bool → Operand (Item Name)
bytes_at op a b = Some (plain (record (bare op) { a = a.0; b = b.0 }), a.1 && b.1)

pub bytes_good : (op : ℕ) (texts : List (List ℕ)) (x : Item Name) → op < 256 → form_of op ≡ forms.UbUb → two_bytes op texts ≡ Some (x, true) → IsGood x
bytes_good op [] x o f e = absurd (cc)
bytes_good op (text ∷ []) x o f e = absurd (cc)
bytes_good op (text ∷ other ∷ more ∷ others) x o f e = absurd (cc)
bytes_good op (text ∷ other ∷ []) x o f e =
    let c = bound (byte_operand text) (λ a. byte_operand other >>= bytes_at op a) (x, true) e in
    let a = c.value in
    let d = bound (byte_operand other) (bytes_at op a) (x, true) c.next in
    let b = d.value in
    let parts = pair_is (plain (record (bare op) { a = a.0; b = b.0 })) x (a.1 && b.1) true d.next in
    let first : a.0 < 256 = byte_ranged text a c.first in
    let second : b.0 < 256 = byte_ranged other b d.first in
    let s : nat_lt a.0 256 ≡ true = lt-ltb a.0 256 first in
    let t : nat_lt b.0 256 ≡ true = lt-ltb b.0 256 second in
    subst IsGood parts.0 (well forms.UbUb (record (bare op) { a = a.0; b = b.0 }) [] o f refl (rw (s, t) refl) (omega (arith, first)) refl (refl, refl) refl tt)

abbrev mixed_at : ℕ → ℕ × Bool → (ℕ × Bool) × Bool → Operand (Item Name)
mixed_at op a b = let n = b.0 in Some (plain (record (bare op) { a = a.0; b = n.0; long = n.1 }), a.1 && b.1)

pub mixed_good : (F : Form) (op : ℕ) (texts : List (List ℕ)) (x : Item Name)
    → ((a b : ℕ) (long : Bool) → a < 256 → IsNumber b long → IsGood (plain (record (bare op) { a = a; b = b; long = long })))
    → byte_and_number op texts ≡ Some (x, true) → IsGood x
mixed_good F op [] x h e = absurd (cc)
mixed_good F op (text ∷ []) x h e = absurd (cc)
mixed_good F op (text ∷ other ∷ more ∷ others) x h e = absurd (cc)
mixed_good F op (text ∷ other ∷ []) x h e =
    let c = bound (byte_operand text) (λ a. number_operand other >>= mixed_at op a) (x, true) e in
    let a = c.value in
    let d = bound (number_operand other) (mixed_at op a) (x, true) c.next in
    let b = d.value in
    let n = b.0 in
    let parts = pair_is (plain (record (bare op) { a = a.0; b = n.0; long = n.1 })) x (a.1 && b.1) true d.next in
    let tests = both a.1 b.1 parts.1 in
    subst IsGood parts.0 (h a.0 n.0 n.1 (byte_ranged text a c.first) (number_ranged other n (is_right (number_operand other) b d.first tests.1)))
