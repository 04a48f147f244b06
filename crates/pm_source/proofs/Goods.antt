-- Valid items and operands of a text: those whose values are in their ranges.
use Rattle.std.proofs.Common.{◌≡◌, ◌<◌, ◌≤◌, ℕ, ◌-◌, Bool, true, false, List, [], ◌∷◌, length, refl, sym, ap, subst, ◌∙◌, arith, Some}
use Rattle.std.specs.Prelude.{nat_eq, nat_lt, take, ◌&&◌, if◌then◌else◌}
use Rattle.std.specs.List.{AllByRecursion}
use Rattle.std.proofs.lemmas.Bool.{lt-ltb}
use Rattle.pm_opcode.specs.declared.operand_form.Form.{Form}
use Rattle.pm_opcode.specs.declared.operand_form.Form.TheVariants as forms
use Rattle.pm_opcode.specs.declared.instr.Instr.{Instr}
use Rattle.pm_opcode.specs.Table.{form_of}
use Rattle.pm_opcode.specs.Spelling.{jump_count, in_range}
use Rattle.pm_opcode.specs.Standing.{clear}
use Rattle.pm_code.specs.Item.{Item, Target, IsByte, IsPlain, names_place}
use Rattle.pm_code.specs.Item.Item.{Plain, Jump, Case, OneByte}
use Rattle.pm_code.specs.Item.Target.{To, Through}
use Rattle.pm_source.specs.Source.{Name}
use Rattle.pm_codefile.specs.Segments.{◌>>=◌}
use Rattle.pm_source.specs.Line.{Operand, numeral_operand, byte_operand, word_operand, bound_operand}
use Rattle.pm_source.specs.Line.{number_operand, is_marked, jump_operand, label_operand, all_operands}
use Rattle.pm_source.proofs.Numerals.{bound, pair_is, some_is, numeral_small, numeral_below}

abbrev pub IsGoodTarget : Target Name → Type 0
IsGoodTarget (To name) = Unit {0}
IsGoodTarget (Through k) = k < 60

-- States that an item of a text is valid: its values are in their ranges.
abbrev pub IsGood : Item Name → Type 0
IsGood (Plain i named) = IsPlain i named
IsGood (Jump op target) = (form_of op ≡ forms.Sb) × (op < 256) × IsGoodTarget target
IsGood (Case low high otherwise labels) = (low < 65536) × (high < 65536) × IsGoodTarget otherwise × (length labels ≡ jump_count low high)
IsGood (OneByte b) = b < 256

-- If an instruction has none of the special operand formats, and its named bytes are bytes, then its item is valid.
pub well : (F : Form) (i : Instr) (named : List ℕ) → i.op < 256 → form_of i.op ≡ F → names_place F ≡ false → in_range F i ≡ true → i.a < 65536 → clear F i ≡ i
    → (i.start ≡ 0) × (i.len ≡ 0)
    → length named ≡ i.count → AllByRecursion IsByte named → IsPlain i named
well F i named o f n r w c z l b = record {
  opcode = o;
  form = ap names_place f ∙ n;
  ranges = ap (λ g. in_range g i) f ∙ r;
  word = w;
  fields = ap (λ g. clear g i) f ∙ c;
  nowhere = z;
  count = l;
  bytes = b;
}

abbrev some_with : {A : Type 0} → A → Bool → Operand A
some_with v in_range = Some (v, in_range)

-- If an operand has the value `v` and is in range, then its result is the value of `v` and true.
pub is_right : {A : Type 0} (o : Operand A) (v : A × Bool) → o ≡ Some v → v.1 ≡ true → o ≡ Some (v.0, true)
is_right o v e f = e ∙ ap (some_with v.0) f

pub byte_ranged : (text : List ℕ) (v : ℕ × Bool) → byte_operand text ≡ Some v → v.0 < 256
byte_ranged text v e = numeral_below 0 255 256 text v.0 v.1 (omega arith) e

pub word_ranged : (text : List ℕ) (v : ℕ × Bool) → word_operand text ≡ Some v → v.0 < 65536
word_ranged text v e = numeral_below 32768 65535 65536 text v.0 v.1 (omega arith) e

pub bound_ranged : (text : List ℕ) (v : ℕ × Bool) → bound_operand text ≡ Some v → v.0 < 65536
bound_ranged text v e = numeral_below 32768 32767 65536 text v.0 v.1 (omega arith) e

-- States that `n` is a number of one or two bytes, and that `long` is true only if `n` is below 128.
pub record IsNumber (n : ℕ) (long : Bool) : Type 0 where
  pub below : n < 32768
  pub short : (long && nat_lt n 128) ≡ long

abbrev marked : Bool → ℕ × Bool → Operand (ℕ × Bool)
marked long n = Some ((n.0, long), n.1)

marked_ranged : (above : ℕ) (long : Bool) (text : List ℕ) (v : ℕ × Bool) → above < 65536
    → (numeral_operand 0 above 65536 text >>= marked long) ≡ Some (v, true) → (v.0 ≤ above) × (v.1 ≡ long)
marked_ranged above long text v h e =
    let b = bound (numeral_operand 0 above 65536 text) (marked long) (v, true) e in
    let n = b.value in
    let parts = pair_is (n.0, long) v n.1 true b.next in
    let small : n.0 ≤ above = numeral_small above 65536 text n.0 h (is_right (numeral_operand 0 above 65536 text) n b.first parts.1) in
    (subst (λ k. k ≤ above) (ap (λ x. x.0) parts.0) small, sym (ap (λ x. x.1) parts.0))

pub number_ranged : (text : List ℕ) (v : ℕ × Bool) → number_operand text ≡ Some (v, true) → IsNumber v.0 v.1
number_ranged text v e = by (is_marked text) e
  where
    by : (b : Bool) → (if b then (numeral_operand 0 127 65536 (take (length text - 1) text) >>= marked true) else
        (numeral_operand 0 32767 65536 text >>= marked false)) ≡ Some (v, true) → IsNumber v.0 v.1
    by true e =
        let r = marked_ranged 127 true (take (length text - 1) text) v (omega arith) e in
        let t : nat_lt v.0 128 ≡ true = lt-ltb v.0 128 (omega (arith, r.0)) in
        record { below = omega (arith, r.0); short = rw t (rw r.1 refl) }
    by false e =
        let r = marked_ranged 32767 false text v (omega arith) e in
        record { below = omega (arith, r.0); short = rw r.1 refl }

abbrev through : ℕ × Bool → Operand (Target Name)
through k = Some (Through k.0, k.1)

abbrev to_label : Name × Bool → Operand (Target Name)
to_label label = Some (To label.0, label.1)

pub target_ranged : (text : List ℕ) (target : Target Name) → jump_operand text ≡ Some (target, true) → IsGoodTarget target
target_ranged [] target e = absurd (cc)
target_ranged (c ∷ cs) target e = by (nat_eq c 94) e
  where
    by : (b : Bool) → (if b then (numeral_operand 0 59 256 cs >>= through) else label_operand (c ∷ cs) >>= to_label) ≡ Some (target, true) → IsGoodTarget target
    by true e =
        let b = bound (numeral_operand 0 59 256 cs) through (target, true) e in
        let k = b.value in
        let parts = pair_is (Through k.0) target k.1 true b.next in
        let small : k.0 ≤ 59 = numeral_small 59 256 cs k.0 (omega arith) (is_right (numeral_operand 0 59 256 cs) k b.first parts.1) in
        subst IsGoodTarget parts.0 (omega (arith, small))
    by false e =
        let b = bound (label_operand (c ∷ cs)) to_label (target, true) e in
        let label = b.value in
        let parts = pair_is (To label.0) target label.1 true b.next in
        subst IsGoodTarget parts.0 tt

-- The result of one operand, put before the results of the other operands.
abbrev onto : {A : Type 0} → A × Bool → List A × Bool → Operand (List A)
onto x more = Some (x.0 ∷ more.0, x.1 && more.1)

pub all_ranged : {A : Type 0} (P : A → Type 0) (operand : List ℕ → Operand A) → ((text : List ℕ) (v : A × Bool) → operand text ≡ Some v → P v.0)
    → (texts : List (List ℕ)) (v : List A × Bool) → all_operands operand texts ≡ Some v → AllByRecursion P v.0
all_ranged {A = A} P operand h [] v e =
    let none : List A × Bool = ([], true) in
    subst (λ x. AllByRecursion P x.0) (some_is none v e) tt
all_ranged {A = A} P operand h (text ∷ texts) v e =
    let a = bound (operand text) (λ x. all_operands operand texts >>= onto x) v e in
    let b = bound (all_operands operand texts) (onto a.value) v a.next in
    let x = a.value in
    let more = b.value in
    let joined : List A × Bool = (x.0 ∷ more.0, x.1 && more.1) in
    let same : joined ≡ v = some_is joined v b.next in
    subst (λ y. AllByRecursion P y.0) same (h text x a.first, all_ranged P operand h texts more b.first)
