-- If a line has an instruction and no flaw, then its item is valid (`IsGood`).
use Rattle.std.proofs.Common.{◌≡◌, ◌<◌, ◌≤◌, ℕ, ◌*◌, Bool, true, false, List, [], ◌∷◌, length, refl, ap, subst, ◌∙◌, arith, Option, Some, None}
use Rattle.std.specs.Prelude.{nat_lt, ◌&&◌, ◌==◌, if◌then◌else◌}
use Rattle.std.specs.Map.{lookup}
use Rattle.std.specs.List.{AllByRecursion}
use Rattle.std.specs.Str.{bytes_eq}
use Rattle.std.proofs.lemmas.Bool.{lt-ltb, leb-true, eq-eqb, eqb-true}
use Rattle.pm_opcode.specs.declared.operand_form.Form.{Form}
use Rattle.pm_opcode.specs.declared.operand_form.Form.TheVariants as forms
use Rattle.pm_opcode.specs.Table.{form_of}
use Rattle.pm_opcode.specs.Spelling.{jump_count, in_range}
use Rattle.pm_opcode.specs.Standing.{clear}
use Rattle.pm_code.specs.Item.{Item, Target, IsByte}
use Rattle.pm_code.specs.Item.Item.{Plain, Jump, Case}
use Rattle.pm_source.specs.Words.{words}
use Rattle.pm_source.specs.Source.{Name}
use Rattle.pm_codefile.specs.Segments.{◌>>=◌}
use Rattle.pm_source.specs.Line.{Operand, byte_operand, word_operand, number_operand, bound_operand, jump_operand, label_operand, text_operand, all_operands}
use Rattle.pm_source.specs.Line.{bare, plain, few, one_number, text_item, one_text, flat_words, words_item, many_words, one_jump, case_jump, instruction}
use Rattle.pm_source.specs.Line.{instruction_said, checked, type_words, sized_type_words, sized_comparison, comparison_by, comparison, one_comparison}
use Rattle.pm_source.specs.Line.Flaw.{NoFlaw, OutOfRange, UnknownType}
use Rattle.pm_source.proofs.Numerals.{bound, both, pair_is, some_is}
use Rattle.pm_source.proofs.Goods.{IsGood, IsGoodTarget, IsNumber, well, is_right, byte_ranged, word_ranged}
use Rattle.pm_source.proofs.Goods.{bound_ranged, number_ranged, target_ranged, all_ranged}
use Rattle.pm_source.proofs.Forms.{plain_good, one_good, long_good, bytes_good, mixed_good}
use Rattle.pm_source.proofs.Texts.{text_bytes, words_bytes, words_length}

-- If a checked operand has no flaw, then the operand is in range.
pub checked_is : {A : Type 0} (o : Operand A) (x : A) → checked o ≡ Some (x, NoFlaw) → o ≡ Some (x, true)
checked_is None x e = absurd (cc)
checked_is (Some (y, true)) x e = let p = pair_is y x NoFlaw NoFlaw e in ap (λ z. Some (z, true)) p.0
checked_is (Some (y, false)) x e = absurd (let p = pair_is y x OutOfRange NoFlaw e in let q = p.1 in cc)

abbrev text_at : ℕ → List ℕ → Operand (Item Name)
text_at op t = Some (text_item op t, few t)

text_well : (op : ℕ) (t : List ℕ) → op < 256 → form_of op ≡ forms.Chars → few t ≡ true → AllByRecursion IsByte t → IsGood (text_item op t)
text_well op t o f s b =
    let short : length t ≤ 255 = leb-true (length t) 255 s in
    let l : nat_lt (length t) 256 ≡ true = lt-ltb (length t) 256 (omega (arith, short)) in
    let same : (length t == length t) ≡ true = eq-eqb (length t) (length t) refl in
    let good : IsGood (Plain (record (bare op) { a = length t; count = length t }) t) =
    well forms.Chars (record (bare op) { a = length t; count = length t }) t o f refl (rw (l, same) refl) (omega (arith, short)) refl (refl, refl) refl b in
    rw s good

text_good : (op : ℕ) (texts : List (List ℕ)) (x : Item Name) → op < 256 → form_of op ≡ forms.Chars → one_text op texts ≡ Some (x, true) → IsGood x
text_good op [] x o f e = absurd (cc)
text_good op (text ∷ other ∷ others) x o f e = absurd (cc)
text_good op (text ∷ []) x o f e =
    let b = bound (text_operand text) (text_at op) (x, true) e in
    let t : List ℕ = b.value in
    let parts = pair_is (text_item op t) x (few t) true b.next in
    subst IsGood parts.0 (text_well op t o f parts.1 (text_bytes text t b.first))

words_well : (op : ℕ) (ws : List ℕ) → op < 256 → form_of op ≡ forms.Words → few ws ≡ true → AllByRecursion (λ w. w < 65536) ws → IsGood (words_item op ws)
words_well op ws o f s b =
    let short : length ws ≤ 255 = leb-true (length ws) 255 s in
    let l : nat_lt (length ws) 256 ≡ true = lt-ltb (length ws) 256 (omega (arith, short)) in
    let same : (2 * length ws == 2 * length ws) ≡ true = eq-eqb (2 * length ws) (2 * length ws) refl in
    let good : IsGood (Plain (record (bare op) { a = length ws; count = 2 * length ws }) (flat_words ws)) =
    well forms.Words (record (bare op) { a = length ws; count = 2 * length ws }) (flat_words ws) o f refl (rw (l, same) refl) (omega (arith, short)) refl
    (refl, refl) (words_length ws) (words_bytes ws b) in
    rw s good

abbrev words_at : ℕ → List ℕ × Bool → Operand (Item Name)
words_at op ws = Some (words_item op ws.0, ws.1 && few ws.0)

words_good : (op : ℕ) (texts : List (List ℕ)) (x : Item Name) → op < 256 → form_of op ≡ forms.Words → many_words op texts ≡ Some (x, true) → IsGood x
words_good op texts x o f e =
    let b = bound (all_operands word_operand texts) (words_at op) (x, true) e in
    let ws = b.value in
    let parts = pair_is (words_item op ws.0) x (ws.1 && few ws.0) true b.next in
    let tests = both ws.1 (few ws.0) parts.1 in
    subst IsGood parts.0 (words_well op ws.0 o f tests.1 (all_ranged (λ w. w < 65536) word_operand word_ranged texts ws b.first))

abbrev jump_at : ℕ → Target Name × Bool → Operand (Item Name)
jump_at op t = Some (Jump op t.0, t.1)

jump_good : (op : ℕ) (texts : List (List ℕ)) (x : Item Name) → op < 256 → form_of op ≡ forms.Sb → one_jump op texts ≡ Some (x, true) → IsGood x
jump_good op [] x o f e = absurd (cc)
jump_good op (text ∷ other ∷ others) x o f e = absurd (cc)
jump_good op (text ∷ []) x o f e =
    let b = bound (jump_operand text) (jump_at op) (x, true) e in
    let t = b.value in
    let parts = pair_is (Jump op t.0) x t.1 true b.next in
    subst IsGood parts.0 (f, o, target_ranged text t.0 (is_right (jump_operand text) t b.first parts.1))

abbrev case_at : ℕ × Bool → ℕ × Bool → Target Name × Bool → List Name × Bool → Operand (Item Name)
case_at low high otherwise places =
    Some (Case low.0 high.0 otherwise.0 places.0, low.1 && high.1 && otherwise.1 && (length places.0 == jump_count low.0 high.0))

case_good : (texts : List (List ℕ)) (x : Item Name) → case_jump texts ≡ Some (x, true) → IsGood x
case_good [] x e = absurd (cc)
case_good (text ∷ []) x e = absurd (cc)
case_good (text ∷ other ∷ []) x e = absurd (cc)
case_good (text ∷ other ∷ target ∷ labels) x e =
    let a = bound (bound_operand text)
    (λ low. bound_operand other >>= λ high. jump_operand target >>= λ otherwise. all_operands label_operand labels >>= case_at low high otherwise)
    (x, true) e in
    let low = a.value in
    let b = bound (bound_operand other) (λ high. jump_operand target >>= λ otherwise. all_operands label_operand labels >>= case_at low high otherwise)
    (x, true) a.next in
    let high = b.value in
    let c = bound (jump_operand target) (λ otherwise. all_operands label_operand labels >>= case_at low high otherwise) (x, true) b.next in
    let otherwise = c.value in
    let d = bound (all_operands label_operand labels) (case_at low high otherwise) (x, true) c.next in
    let places = d.value in
    let counts : Bool = length places.0 == jump_count low.0 high.0 in
    let parts = pair_is (Case low.0 high.0 otherwise.0 places.0) x (low.1 && high.1 && otherwise.1 && counts) true d.next in
    let tests = last_two low.1 high.1 otherwise.1 counts parts.1 in
    let near : IsGoodTarget otherwise.0 = target_ranged target otherwise.0 (is_right (jump_operand target) otherwise c.first tests.0) in
    let count : length places.0 ≡ jump_count low.0 high.0 = eqb-true (length places.0) (jump_count low.0 high.0) tests.1 in
    let good : IsGood (Case low.0 high.0 otherwise.0 places.0) = (bound_ranged text low a.first, bound_ranged other high b.first, near, count) in
    subst IsGood {x = Case low.0 high.0 otherwise.0 places.0} parts.0 good
  where
    last_two : (a b c d : Bool) → (a && b && c && d) ≡ true → (c ≡ true) × (d ≡ true)
    last_two true true true true e = (refl, refl)
    last_two true true true false e = absurd (cc)
    last_two true true false d e = absurd (cc)
    last_two true false c d e = absurd (cc)
    last_two false b c d e = absurd (cc)

-- Laws of comparisons. If a property is true for all entries of a table, then it is true for the entry that is found.
pub found_in : {K X : Type 0} (P : X → Type 0) (test : K → Bool) (es : List (K × X)) (x : X) → AllByRecursion (λ e. P e.1) es → lookup test es ≡ Some x → P x
found_in P test [] x h e = absurd (cc)
found_in P test (one ∷ es) x h e = by (test one.0) e (λ f. found_in P test es x h.1 f)
  where
    by : (b : Bool) → (if b then Some one.1 else lookup test es) ≡ Some x → (lookup test es ≡ Some x → P x) → P x
    by true e more = subst P (some_is one.1 x e) h.0
    by false e more = more e

abbrev IsSized : ℕ → ℕ → Type 0
IsSized op type = (n : ℕ) (long : Bool) → IsNumber n long → IsGood (plain (record (bare op) { a = type; b = n; long = long }))

all_unsized : (op : ℕ) → op < 256 → form_of op ≡ forms.Typed → AllByRecursion (λ (e : Name × ℕ). IsGood (plain (record (bare op) { a = e.1 }))) type_words
all_unsized op o f = (one 2 refl (omega arith) refl, (one 4 refl (omega arith) refl, (one 6 refl (omega arith) refl, (one 8 refl (omega arith) refl, tt))))
  where
    one : (type : ℕ) → in_range forms.Typed (record (bare op) { a = type }) ≡ true → type < 65536
        → clear forms.Typed (record (bare op) { a = type }) ≡ record (bare op) { a = type } → IsGood (plain (record (bare op) { a = type }))
    one type r w c = well forms.Typed (record (bare op) { a = type }) [] o f refl r w c (refl, refl) refl tt

all_sized : (op : ℕ) → op < 256 → form_of op ≡ forms.Typed → AllByRecursion (λ (e : Name × ℕ). IsSized op e.1) sized_type_words
all_sized op o f = (one 10 (λ n long. refl) (omega arith) (λ n long. refl), (one 12 (λ n long. refl) (omega arith) (λ n long. refl), tt))
  where
    one : (type : ℕ) → ((n : ℕ) (long : Bool) → in_range forms.Typed (record (bare op) { a = type; b = n; long = long }) ≡ nat_lt n 32768) → type < 65536
        → ((n : ℕ) (long : Bool) → clear forms.Typed (record (bare op) { a = type; b = n; long = long })
        ≡ record (bare op) { a = type; b = n; long = long && nat_lt n 128 }) → IsSized op type
    one type r w c n long s = well forms.Typed (record (bare op) { a = type; b = n; long = long }) [] o f refl (r n long ∙ lt-ltb n 32768 s.below) w
        (c n long ∙ ap (λ l. record (bare op) { a = type; b = n; long = l }) s.short) (refl, refl) refl tt

abbrev size_at : ℕ → ℕ → (ℕ × Bool) × Bool → Operand (Item Name)
size_at op type b = Some (plain (record (bare op) { a = type; b = b.0.0; long = b.0.1 }), b.1)

sized_good : (op : ℕ) (texts : List (List ℕ)) (found : Option ℕ) (x : Item Name) → ((type : ℕ) → found ≡ Some type → IsSized op type)
    → sized_comparison op texts found ≡ Some (x, NoFlaw) → IsGood x
sized_good op [] (Some type) x h e = absurd (cc)
sized_good op (text ∷ other ∷ others) (Some type) x h e = absurd (cc)
sized_good op (text ∷ []) (Some type) x h e =
    let right = checked_is (number_operand text >>= size_at op type) x e in
    let b = bound (number_operand text) (size_at op type) (x, true) right in
    let v = b.value in
    let n = v.0 in
    let parts = pair_is (plain (record (bare op) { a = type; b = n.0; long = n.1 })) x v.1 true b.next in
    subst IsGood parts.0 (h type refl n.0 n.1 (number_ranged text n (is_right (number_operand text) v b.first parts.1)))
sized_good op [] None x h e = absurd (let p = pair_is (plain (bare op)) x UnknownType NoFlaw e in let q = p.1 in cc)
sized_good op (text ∷ []) None x h e = absurd (let p = pair_is (plain (bare op)) x UnknownType NoFlaw e in let q = p.1 in cc)
sized_good op (text ∷ other ∷ others) None x h e = absurd (let p = pair_is (plain (bare op)) x UnknownType NoFlaw e in let q = p.1 in cc)

typed_good : (op : ℕ) (texts : List (List ℕ)) (x : Item Name) → op < 256 → form_of op ≡ forms.Typed → comparison op texts ≡ Some (x, NoFlaw) → IsGood x
typed_good op [] x o f e = absurd (cc)
typed_good op (name ∷ others) x o f e = by (lookup (bytes_eq name) type_words) others refl e
  where
    by : (found : Option ℕ) (others : List (List ℕ)) → lookup (bytes_eq name) type_words ≡ found → comparison_by op name others found ≡ Some (x, NoFlaw)
        → IsGood x
    by (Some type) [] l e =
        let p = pair_is (plain (record (bare op) { a = type })) x NoFlaw NoFlaw e in
        subst IsGood p.0 (found_in (λ t. IsGood (plain (record (bare op) { a = t }))) (bytes_eq name) type_words type (all_unsized op o f) l)
    by (Some type) (other ∷ others) l e = absurd (cc)
    by None others l e = sized_good op others (lookup (bytes_eq name) sized_type_words) x
        (λ type g. found_in (IsSized op) (bytes_eq name) sized_type_words type (all_sized op o f) g) e

comparison_good : (op : ℕ) (texts : List (List ℕ)) (x : Item Name) → op < 256 → form_of op ≡ forms.Typed → one_comparison op texts ≡ Some (x, NoFlaw) → IsGood x
comparison_good op [] x o f e = absurd (cc)
comparison_good op (text ∷ other ∷ others) x o f e = absurd (cc)
comparison_good op (text ∷ []) x o f e = typed_good op (words text) x o f e

two : (a b : ℕ) → a < 256 → b < 32768 → (nat_lt a 256 && nat_lt b 32768) ≡ true
two a b h k = let s : nat_lt a 256 ≡ true = lt-ltb a 256 h in let t : nat_lt b 32768 ≡ true = lt-ltb b 32768 k in rw (s, t) refl

byte_good : (F : Form) (op : ℕ) → op < 256 → ((v : ℕ) → v < 256 → IsGood (plain (record (bare op) { a = v }))) → (texts : List (List ℕ)) (x : Item Name)
    → one_number byte_operand op texts ≡ Some (x, true) → IsGood x
byte_good F op o h texts x e = one_good byte_operand op texts x (λ text v g. h v.0 (byte_ranged text v g)) e

-- If an instruction has no flaw, then its item is valid. The cases are the operand formats.
pub instruction_good : (F : Form) (op : ℕ) (texts : List (List ℕ)) (x : Item Name) → op < 256 → form_of op ≡ F → instruction_said F op texts ≡ Some (x, NoFlaw)
    → IsGood x
instruction_good forms.Typed op texts x o f e = comparison_good op texts x o f e
instruction_good forms.Unassigned op texts x o f e = absurd (cc)
instruction_good forms.Plain op texts x o f e = plain_good op texts x o f (checked_is (instruction forms.Plain op texts) x e)
instruction_good forms.Ub op texts x o f e =
    byte_good forms.Ub op o (λ v h. well forms.Ub (record (bare op) { a = v }) [] o f refl (lt-ltb v 256 h) (omega (arith, h)) refl
    (refl, refl) refl tt) texts x (checked_is (instruction forms.Ub op texts) x e)
instruction_good forms.Db op texts x o f e =
    byte_good forms.Db op o (λ v h. well forms.Db (record (bare op) { a = v }) [] o f refl (lt-ltb v 256 h) (omega (arith, h)) refl
    (refl, refl) refl tt) texts x (checked_is (instruction forms.Db op texts) x e)
instruction_good forms.W op texts x o f e =
    one_good word_operand op texts x (λ text v g. well forms.W (record (bare op) { a = v.0 }) [] o f refl refl (word_ranged text v g) refl
    (refl, refl) refl tt) (checked_is (instruction forms.W op texts) x e)
instruction_good forms.B op texts x o f e = long_good op texts x o f (checked_is (instruction forms.B op texts) x e)
instruction_good forms.UbUb op texts x o f e = bytes_good op texts x o f (checked_is (instruction forms.UbUb op texts) x e)
instruction_good forms.UbB op texts x o f e =
    mixed_good forms.UbB op texts x (λ a b long h s. well forms.UbB (record (bare op) { a = a; b = b; long = long }) [] o f refl (two a b h s.below)
    (omega (arith, h)) (ap (λ l. record (bare op) { a = a; b = b; long = l }) s.short) (refl, refl) refl tt)
    (checked_is (instruction forms.UbB op texts) x e)
instruction_good forms.DbB op texts x o f e =
    mixed_good forms.DbB op texts x (λ a b long h s. well forms.DbB (record (bare op) { a = a; b = b; long = long }) [] o f refl (two a b h s.below)
    (omega (arith, h)) (ap (λ l. record (bare op) { a = a; b = b; long = l }) s.short) (refl, refl) refl tt)
    (checked_is (instruction forms.DbB op texts) x e)
instruction_good forms.Chars op texts x o f e = text_good op texts x o f (checked_is (instruction forms.Chars op texts) x e)
instruction_good forms.Words op texts x o f e = words_good op texts x o f (checked_is (instruction forms.Words op texts) x e)
instruction_good forms.Sb op texts x o f e = jump_good op texts x o f (checked_is (instruction forms.Sb op texts) x e)
instruction_good forms.Jumps op texts x o f e = case_good texts x (checked_is (instruction forms.Jumps op texts) x e)
