-- Lemmas: a number is read as its value, in every notation.
use Rattle.std.proofs.Common.{◌≡◌, ◌<◌, ◌-◌, ℕ, zero, suc, Bool, true, false, List, [], ◌∷◌, ◌++◌, length}
use Rattle.std.proofs.Common.{map, reverse, refl, sym, ap, subst, ◌∙◌, arith, inl, inr, Option, Some, None}
use Rattle.std.specs.Prelude.{◌==◌, ◌&&◌, ◌||◌, not, is_some, min, nat_lt, slice_index, if◌then◌else◌}
use Rattle.std.specs.Char.{digit_value, is_ascii_digit, is_ascii_hexdigit}
use Rattle.std.specs.Fmt.{decimal}
use Rattle.std.specs.List.{AllZip, list_all}
use Rattle.std.specs.Map.{lookup}
use Rattle.std.specs.Str.{bytes_eq}
use Rattle.std.specs.Str.Parse.{digits_value}
use Rattle.std.proofs.lemmas.Bool.Decides.{nat_tests}
use Rattle.pm_codefile.specs.Segments.{◌>>=◌}
use Rattle.pm_opcode.specs.declared.operand_form.Form.{Form}
use Rattle.pm_opcode.specs.declared.operand_form.Form.TheVariants as forms
use Rattle.pm_opcode.specs.Table.{form_of}
use Rattle.pm_code.specs.Item.Item.{OneByte}
use Rattle.pm_code.specs.Item.Target.{Through}
use Rattle.pm_code.specs.Program.{is_name_character}
use Rattle.pm_source.specs.declared.number.Numeral.{Numeral}
use Rattle.pm_source.specs.Words.{begins_name, decimal_number, hexadecimal_number, is_empty, number, stored, within, words}
use Rattle.pm_source.specs.Line.{Keyword, Operand, all_operands, bare_instruction, byte_and_number, byte_operand, bytes_said, case_jump, checked, comparison}
use Rattle.pm_source.specs.Line.{comparison_by, instruction, instruction_said, is_marked, items_said, jump_operand, label_operand, number_operand}
use Rattle.pm_source.specs.Line.{numeral_operand, one_comparison, one_item, one_jump, one_long_number, one_number, one_text, operands, procedure_operands}
use Rattle.pm_source.specs.Line.{segment_operands, short_range, size_operand, sized_comparison, sized_type_words, text_operand, two_bytes, type_words, unquoted}
use Rattle.pm_source.specs.Line.{word_operand}
use Rattle.pm_source.specs.Line.Keyword.{OfSegment, OfProcedure, OfExit, OfJump, OfEnd, OfBytes, Mnemonic}
use Rattle.law_text.specs.Same.{BaseSaysNothing, IsOneOperand, NumberWithoutZero, NumbersSayValues}
use Rattle.law_text.proofs.Cutting.{and_parts, and_turned}
use Rattle.law_text.proofs.Numbers.{number_shown}
use Rattle.law_text.proofs.Quoting.{all_but_last, marked, one_less}
use Rattle.law_text.proofs.Operanded.{append_nil, first_of_words}

-- A zero before the digits of a number does not change its value.
pub number_without_zero : NumberWithoutZero
number_without_zero c digits h =
    let minus : (c == 45) ≡ false = grind (arith, nat_tests) in
    let dollar : (c == 36) ≡ false = grind (arith, nat_tests) in
    (rw (minus, dollar) refl, refl)

digit_small : (d : ℕ) → is_ascii_hexdigit d ≡ true → digit_value d < 16
digit_small d h = grind (arith, nat_tests)

four_small : (ds : List ℕ) → nat_lt 4 (length ds) ≡ false → list_all is_ascii_hexdigit ds ≡ true → digits_value 16 ds < 65536
four_small [] f h = omega arith
four_small (a ∷ []) f h = let x = digit_small a (and_parts _ _ h).0 in omega (arith, x)
four_small (a ∷ b ∷ []) f h =
    let p = and_parts _ _ h in
    let x = digit_small a p.0 in
    let y = digit_small b (and_parts _ _ p.1).0 in
    omega (arith, x, y)
four_small (a ∷ b ∷ c ∷ []) f h =
    let p = and_parts _ _ h in
    let q = and_parts _ _ p.1 in
    let x = digit_small a p.0 in
    let y = digit_small b q.0 in
    let z = digit_small c (and_parts _ _ q.1).0 in
    omega (arith, x, y, z)
four_small (a ∷ b ∷ c ∷ d ∷ []) f h =
    let p = and_parts _ _ h in
    let q = and_parts _ _ p.1 in
    let r = and_parts _ _ q.1 in
    let x = digit_small a p.0 in
    let y = digit_small b q.0 in
    let z = digit_small c r.0 in
    let w = digit_small d (and_parts _ _ r.1).0 in
    omega (arith, x, y, z, w)
four_small (a ∷ b ∷ c ∷ d ∷ e ∷ ds) f h = absurd (more (length ds) f)
  where
    more : (n : ℕ) → nat_lt 4 (suc (suc (suc (suc (suc n))))) ≡ false → ⊥
    more n f = grind (arith, nat_tests)

pub base_says_nothing : BaseSaysNothing
base_says_nothing digits h = by (is_empty digits) (nat_lt 4 (length digits)) (list_all is_ascii_hexdigit digits) refl refl refl h
  where
    by : (a b c : Bool) → is_empty digits ≡ a → nat_lt 4 (length digits) ≡ b → list_all is_ascii_hexdigit digits ≡ c
        → is_some {T = Numeral} (if a || b || not c then None else Some (record { negative = false; magnitude = digits_value 16 digits })) ≡ true
        → number (36 ∷ digits) ≡ number (decimal (digits_value 16 digits))
    by false false true e f g k =
        let small = four_small digits f g in
        let shown = number_shown (digits_value 16 digits) (omega (arith, small)) in
        rw (e, f, g, shown) refl
    by true b c e f g k = absurd (cc)
    by false true c e f g k = absurd (cc)
    by false false false e f g k = absurd (cc)

-- Returns whether the character can be in the text of a number.
abbrev is_numberly : ℕ → Bool
is_numberly c = is_ascii_hexdigit c || (c == 45) || (c == 36)

record IsNumber (t : List ℕ) : Type 0 where
  first : ℕ
  others : List ℕ
  text : t ≡ first ∷ others
  begins : (is_ascii_digit first || (first == 45) || (first == 36)) ≡ true
  all : list_all is_numberly others ≡ true

decimals : (negative : Bool) (ds : List ℕ) → is_some (decimal_number negative ds) ≡ true → (is_empty ds ≡ false) × (list_all is_ascii_digit ds ≡ true)
decimals negative ds h = by (is_empty ds) (list_all is_ascii_digit ds) refl refl h
  where
    by : (a b : Bool) → is_empty ds ≡ a → list_all is_ascii_digit ds ≡ b
        → is_some {T = Numeral} (if a || not b then None else Some (record { negative = negative; magnitude = min 1000000 (digits_value 10 ds) })) ≡ true
        → (is_empty ds ≡ false) × (list_all is_ascii_digit ds ≡ true)
    by false true e f k = (e, f)
    by true b e f k = absurd (cc)
    by false false e f k = absurd (cc)

hexadecimals : (ds : List ℕ) → is_some (hexadecimal_number ds) ≡ true → list_all is_ascii_hexdigit ds ≡ true
hexadecimals ds h = by (is_empty ds) (nat_lt 4 (length ds)) (list_all is_ascii_hexdigit ds) refl h
  where
    by : (a b c : Bool) → list_all is_ascii_hexdigit ds ≡ c
        → is_some {T = Numeral} (if a || b || not c then None else Some (record { negative = false; magnitude = digits_value 16 ds })) ≡ true
        → list_all is_ascii_hexdigit ds ≡ true
    by false false true f k = f
    by true b c f k = absurd (cc)
    by false true c f k = absurd (cc)
    by false false false f k = absurd (cc)

of_digits : (ds : List ℕ) → list_all is_ascii_digit ds ≡ true → list_all is_numberly ds ≡ true
of_digits [] h = refl
of_digits (d ∷ ds) h = let parts = and_parts _ _ h in and_turned _ _ (one d parts.0) (of_digits ds parts.1)
  where
    one : (d : ℕ) → is_ascii_digit d ≡ true → is_numberly d ≡ true
    one d h = grind (arith, nat_tests)

of_hexdigits : (ds : List ℕ) → list_all is_ascii_hexdigit ds ≡ true → list_all is_numberly ds ≡ true
of_hexdigits [] h = refl
of_hexdigits (d ∷ ds) h = let parts = and_parts _ _ h in and_turned _ _ (one d parts.0) (of_hexdigits ds parts.1)
  where
    one : (d : ℕ) → is_ascii_hexdigit d ≡ true → is_numberly d ≡ true
    one d h = grind (arith, nat_tests)

is_number : (t : List ℕ) → is_some (number t) ≡ true → IsNumber t
is_number [] h = absurd (cc)
is_number (c ∷ cs) h = by (c == 45) (c == 36) refl refl h
  where
    signed : (c == 45) ≡ true → (is_ascii_digit c || (c == 45) || (c == 36)) ≡ true
    signed e = grind (arith, nat_tests)

    dollar : (c == 36) ≡ true → (is_ascii_digit c || (c == 45) || (c == 36)) ≡ true
    dollar e = grind (arith, nat_tests)

    digit : is_ascii_digit c ≡ true → (is_ascii_digit c || (c == 45) || (c == 36)) ≡ true
    digit e = rw e refl

    by : (a b : Bool) → (c == 45) ≡ a → (c == 36) ≡ b
        → is_some {T = Numeral} (if a then decimal_number true cs else if b then hexadecimal_number cs else decimal_number false (c ∷ cs)) ≡ true
        → IsNumber (c ∷ cs)
    by true b e f k = record { first = c; others = cs; text = refl; begins = signed e; all = of_digits cs (decimals true cs k).1 }
    by false true e f k = record { first = c; others = cs; text = refl; begins = dollar f; all = of_hexdigits cs (hexadecimals cs k) }
    by false false e f k =
        let parts = and_parts (is_ascii_digit c) (list_all is_ascii_digit cs) (decimals false (c ∷ cs) k).1 in
        record { first = c; others = cs; text = refl; begins = digit parts.0; all = of_digits cs parts.1 }

-- If each character of `cs` can be in the text of a number, then no character of `cs` is an exclamation mark.
unmarked_from : (cs : List ℕ) (i : ℕ) → list_all is_numberly cs ≡ true → (slice_index cs i == 33) ≡ false
unmarked_from [] i h = refl
unmarked_from (c ∷ cs) zero h = one c (and_parts _ _ h).0
  where
    one : (c : ℕ) → is_numberly c ≡ true → (c == 33) ≡ false
    one c h = grind (arith, nat_tests)
unmarked_from (c ∷ cs) (suc i) h = unmarked_from cs i (and_parts _ _ h).1

-- The operand `t` is read by its value as a number, and as no other kind of operand.
record IsRead (t : List ℕ) : Type 0 where
  marked : is_marked t ≡ false
  jump : jump_operand t ≡ None
  label : label_operand t ≡ None
  quoted : text_operand t ≡ None
  compared : (op : ℕ) → comparison op (words t) ≡ comparison op ((48 ∷ []) ∷ [])

no_quoted : (c : ℕ) (ds : List ℕ) → (c == 34) ≡ false → unquoted c ds ≡ None
no_quoted c [] h = refl
no_quoted c (d ∷ ds) h = rw h refl

numberly_names : (cs : List ℕ) → list_all is_numberly cs ≡ true → list_all is_name_character cs ≡ true
numberly_names [] h = refl
numberly_names (c ∷ cs) h = let parts = and_parts _ _ h in and_turned _ _ (one c parts.0) (numberly_names cs parts.1)
  where
    one : (c : ℕ) → is_numberly c ≡ true → is_name_character c ≡ true
    one c h = grind (arith, nat_tests)

and_false : (a b : Bool) → b ≡ false → (a && b) ≡ false
and_false true b e = e
and_false false b e = refl

unread : (c : ℕ) (cs : List ℕ) → (is_ascii_digit c || (c == 45) || (c == 36)) ≡ true → list_all is_numberly cs ≡ true → IsRead (c ∷ cs)
unread c cs b a =
    let first : is_numberly c ≡ true = grind (arith, nat_tests) in
    let name : begins_name c ≡ false = grind (arith, nat_tests) in
    let quote : (c == 34) ≡ false = grind (arith, nat_tests) in
    let entry : (c == 94) ≡ false = grind (arith, nat_tests) in
    let all : list_all is_numberly (c ∷ cs) ≡ true = and_turned _ _ first a in
    let word : words (c ∷ cs) ≡ (c ∷ cs) ∷ [] =
    ap words (sym (append_nil (c ∷ cs))) ∙ first_of_words (c ∷ cs) [] refl (numberly_names (c ∷ cs) all) refl in
    let r : (c == 82) ≡ false = grind (arith, nat_tests) in
    let s : (c == 83) ≡ false = grind (arith, nat_tests) in
    let o : (c == 66) ≡ false = grind (arith, nat_tests) in
    let w : (c == 87) ≡ false = grind (arith, nat_tests) in
    record {
      marked = and_false _ _ (unmarked_from (c ∷ cs) (length (c ∷ cs) - 1) all);
      jump = rw (entry, name) refl;
      label = rw name refl;
      quoted = no_quoted c (reverse cs) quote;
      compared = λ op. ap (comparison op) word ∙ rw (r, s, o) (rw (o, w) refl);
    }

read_number : (t : List ℕ) → is_some (number t) ≡ true → IsRead t
read_number t h = let n = is_number t h in subst IsRead (sym n.text) (unread n.first n.others n.begins n.all)

abbrev IsSame : List ℕ → List ℕ → Type 0
IsSame t u = (is_some (number t) ≡ true) × (number t ≡ number u)

other_number : (t u : List ℕ) → IsSame t u → IsRead u
other_number t u h = read_number u (ap is_some (sym h.1) ∙ h.0)

-- If `t` and `u` are equal operands, or numbers of the same value, then they are read as the same number.
number_one : (t u : List ℕ) → IsOneOperand t u → number t ≡ number u
number_one t u (inl e) = ap number e
number_one t u (inr h) = h.1

numeral_one : (below above w : ℕ) (t u : List ℕ) → IsOneOperand t u → numeral_operand below above w t ≡ numeral_operand below above w u
numeral_one below above w t u h = ap (λ o. o >>= λ n. Some (stored w n, within below above n)) (number_one t u h)

long_one : (t u : List ℕ) → IsOneOperand t u → number_operand t ≡ number_operand u
long_one t u (inl e) = ap number_operand e
long_one t u (inr h) =
    let m = (read_number t h.0).marked in
    let k = (other_number t u h).marked in
    rw (m, k) (ap (λ o. o >>= λ n. Some ((n.0, false), n.1)) (numeral_one 0 32767 65536 t u (inr h)))

jump_one : (t u : List ℕ) → IsOneOperand t u → jump_operand t ≡ jump_operand u
jump_one t u (inl e) = ap jump_operand e
jump_one t u (inr h) = (read_number t h.0).jump ∙ sym (other_number t u h).jump

label_one : (t u : List ℕ) → IsOneOperand t u → label_operand t ≡ label_operand u
label_one t u (inl e) = ap label_operand e
label_one t u (inr h) = (read_number t h.0).label ∙ sym (other_number t u h).label

text_one : (t u : List ℕ) → IsOneOperand t u → text_operand t ≡ text_operand u
text_one t u (inl e) = ap text_operand e
text_one t u (inr h) = (read_number t h.0).quoted ∙ sym (other_number t u h).quoted

compared_one : (op : ℕ) (t u : List ℕ) → IsOneOperand t u → comparison op (words t) ≡ comparison op (words u)
compared_one op t u (inl e) = ap (λ v. comparison op (words v)) e
compared_one op t u (inr h) = (read_number t h.0).compared op ∙ sym ((other_number t u h).compared op)

all_one : {A : Type 0} (operand : List ℕ → Operand A) (k : (t u : List ℕ) → IsOneOperand t u → operand t ≡ operand u) (ts us : List (List ℕ))
    → AllZip IsOneOperand ts us → all_operands operand ts ≡ all_operands operand us
all_one operand k [] [] z = refl
all_one operand k (t ∷ ts) (u ∷ us) z =
    ap (λ o. o >>= λ x. all_operands operand ts >>= λ more. Some (x.0 ∷ more.0, x.1 && more.1)) (k t u z.0)
    ∙ ap (λ o. operand u >>= λ x. o >>= λ more. Some (x.0 ∷ more.0, x.1 && more.1)) (all_one operand k ts us z.1)
all_one operand k [] (u ∷ us) z = absurd z
all_one operand k (t ∷ ts) [] z = absurd z

-- If `f` gives the same result for lists of one operand with the same value, and for all lists of two or more operands,
-- then `f` gives the same result for `ts` and `us`.
single : {A : Type 0} (f : List (List ℕ) → A) → ((t u : List ℕ) → IsOneOperand t u → f (t ∷ []) ≡ f (u ∷ []))
    → ((t s u r : List ℕ) (ts us : List (List ℕ)) → f (t ∷ s ∷ ts) ≡ f (u ∷ r ∷ us)) → (ts us : List (List ℕ)) → AllZip IsOneOperand ts us → f ts ≡ f us
single f one more [] [] z = refl
single f one more (t ∷ []) (u ∷ []) z = one t u z.0
single f one more (t ∷ s ∷ ts) (u ∷ r ∷ us) z = more t s u r ts us
single f one more [] (u ∷ us) z = absurd z
single f one more (t ∷ ts) [] z = absurd z
single f one more (t ∷ []) (u ∷ r ∷ us) z = absurd z.1
single f one more (t ∷ s ∷ ts) (u ∷ []) z = absurd z.1

double : {A : Type 0} (f : List (List ℕ) → A) → ((t u : List ℕ) → f (t ∷ []) ≡ f (u ∷ []))
    → ((t s u r : List ℕ) → IsOneOperand t u → IsOneOperand s r → f (t ∷ s ∷ []) ≡ f (u ∷ r ∷ []))
    → ((t s q u r p : List ℕ) (ts us : List (List ℕ)) → f (t ∷ s ∷ q ∷ ts) ≡ f (u ∷ r ∷ p ∷ us)) → (ts us : List (List ℕ)) → AllZip IsOneOperand ts us
    → f ts ≡ f us
double f one two more [] [] z = refl
double f one two more (t ∷ []) (u ∷ []) z = one t u
double f one two more (t ∷ s ∷ []) (u ∷ r ∷ []) z = two t s u r z.0 z.1.0
double f one two more (t ∷ s ∷ q ∷ ts) (u ∷ r ∷ p ∷ us) z = more t s q u r p ts us
double f one two more [] (u ∷ us) z = absurd z
double f one two more (t ∷ ts) [] z = absurd z
double f one two more (t ∷ []) (u ∷ r ∷ us) z = absurd z.1
double f one two more (t ∷ s ∷ ts) (u ∷ []) z = absurd z.1
double f one two more (t ∷ s ∷ []) (u ∷ r ∷ p ∷ us) z = absurd z.1.1
double f one two more (t ∷ s ∷ q ∷ ts) (u ∷ r ∷ []) z = absurd z.1.1

bare_one : (op : ℕ) (range : Option (ℕ × ℕ)) (ts us : List (List ℕ)) → AllZip IsOneOperand ts us → bare_instruction op range ts ≡ bare_instruction op range us
bare_one op (Some range) ts us z =
    single (bare_instruction op (Some range)) (λ t u h. let e = number_one t u h in rw e refl) (λ t s u r ts us. refl) ts us z
bare_one op None [] [] z = refl
bare_one op None (t ∷ ts) (u ∷ us) z = refl
bare_one op None [] (u ∷ us) z = absurd z
bare_one op None (t ∷ ts) [] z = absurd z

case_one : (ts us : List (List ℕ)) → AllZip IsOneOperand ts us → case_jump ts ≡ case_jump us
case_one (t ∷ s ∷ q ∷ ts) (u ∷ r ∷ p ∷ us) z =
    let a = numeral_one 32768 32767 65536 t u z.0 in
    let b = numeral_one 32768 32767 65536 s r z.1.0 in
    let c = jump_one q p z.1.1.0 in
    let d = all_one label_operand label_one ts us z.1.1.1 in
    rw (a, b, c, d) refl
case_one [] [] z = refl
case_one (t ∷ []) (u ∷ []) z = refl
case_one (t ∷ s ∷ []) (u ∷ r ∷ []) z = refl
case_one [] (u ∷ us) z = absurd z
case_one (t ∷ ts) [] z = absurd z
case_one (t ∷ []) (u ∷ r ∷ us) z = absurd z.1
case_one (t ∷ s ∷ ts) (u ∷ []) z = absurd z.1
case_one (t ∷ s ∷ []) (u ∷ r ∷ p ∷ us) z = absurd z.1.1
case_one (t ∷ s ∷ q ∷ ts) (u ∷ r ∷ []) z = absurd z.1.1

instruction_one : (form : Form) (op : ℕ) (ts us : List (List ℕ)) → AllZip IsOneOperand ts us → instruction form op ts ≡ instruction form op us
instruction_one forms.Plain op ts us z = bare_one op (short_range op) ts us z
instruction_one forms.Ub op ts us z =
    single (one_number byte_operand op) (λ t u h. let e = numeral_one 0 255 256 t u h in rw e refl) (λ t s u r ts us. refl) ts us z
instruction_one forms.Db op ts us z =
    single (one_number byte_operand op) (λ t u h. let e = numeral_one 0 255 256 t u h in rw e refl) (λ t s u r ts us. refl) ts us z
instruction_one forms.W op ts us z =
    single (one_number word_operand op) (λ t u h. let e = numeral_one 32768 65535 65536 t u h in rw e refl) (λ t s u r ts us. refl) ts us z
instruction_one forms.B op ts us z = single (one_long_number op) (λ t u h. let e = long_one t u h in rw e refl) (λ t s u r ts us. refl) ts us z
instruction_one forms.UbUb op ts us z =
    double (two_bytes op) (λ t u. refl) (λ t s u r h k. let e = numeral_one 0 255 256 t u h in let f = numeral_one 0 255 256 s r k in rw (e, f) refl)
    (λ t s q u r p ts us. refl) ts us z
instruction_one forms.UbB op ts us z =
    double (byte_and_number op) (λ t u. refl) (λ t s u r h k. let e = numeral_one 0 255 256 t u h in let f = long_one s r k in rw (e, f) refl)
    (λ t s q u r p ts us. refl) ts us z
instruction_one forms.DbB op ts us z =
    double (byte_and_number op) (λ t u. refl) (λ t s u r h k. let e = numeral_one 0 255 256 t u h in let f = long_one s r k in rw (e, f) refl)
    (λ t s q u r p ts us. refl) ts us z
instruction_one forms.Chars op ts us z = single (one_text op) (λ t u h. let e = text_one t u h in rw e refl) (λ t s u r ts us. refl) ts us z
instruction_one forms.Words op ts us z = let e = all_one word_operand (numeral_one 32768 65535 65536) ts us z in rw e refl
instruction_one forms.Sb op ts us z = single (one_jump op) (λ t u h. let e = jump_one t u h in rw e refl) (λ t s u r ts us. refl) ts us z
instruction_one forms.Jumps op ts us z = case_one ts us z
instruction_one forms.Typed op ts us z = refl
instruction_one forms.Unassigned op ts us z = refl

said_one : (form : Form) (op : ℕ) (ts us : List (List ℕ)) → AllZip IsOneOperand ts us → instruction_said form op ts ≡ instruction_said form op us
said_one forms.Typed op ts us z = single (one_comparison op) (λ t u h. compared_one op t u h) (λ t s u r ts us. refl) ts us z
said_one forms.Plain op ts us z = ap checked (instruction_one forms.Plain op ts us z)
said_one forms.Ub op ts us z = ap checked (instruction_one forms.Ub op ts us z)
said_one forms.Db op ts us z = ap checked (instruction_one forms.Db op ts us z)
said_one forms.W op ts us z = ap checked (instruction_one forms.W op ts us z)
said_one forms.B op ts us z = ap checked (instruction_one forms.B op ts us z)
said_one forms.UbUb op ts us z = ap checked (instruction_one forms.UbUb op ts us z)
said_one forms.UbB op ts us z = ap checked (instruction_one forms.UbB op ts us z)
said_one forms.DbB op ts us z = ap checked (instruction_one forms.DbB op ts us z)
said_one forms.Chars op ts us z = ap checked (instruction_one forms.Chars op ts us z)
said_one forms.Words op ts us z = ap checked (instruction_one forms.Words op ts us z)
said_one forms.Sb op ts us z = ap checked (instruction_one forms.Sb op ts us z)
said_one forms.Jumps op ts us z = ap checked (instruction_one forms.Jumps op ts us z)
said_one forms.Unassigned op ts us z = refl

bytes_one : (ts us : List (List ℕ)) → AllZip IsOneOperand ts us → bytes_said ts ≡ bytes_said us
bytes_one [] [] z = refl
bytes_one (t ∷ ts) (u ∷ us) z =
    let e = all_one byte_operand (numeral_one 0 255 256) (t ∷ ts) (u ∷ us) z in ap (λ o. o >>= λ bs. Some (map OneByte bs.0, bs.1)) e
bytes_one [] (u ∷ us) z = absurd z
bytes_one (t ∷ ts) [] z = absurd z

items_one : (keyword : Keyword) (rest other : List ℕ) → AllZip IsOneOperand (operands rest) (operands other)
    → items_said keyword rest ≡ items_said keyword other
items_one OfBytes rest other z = ap checked (bytes_one (operands rest) (operands other) z)
items_one (Mnemonic op) rest other z = ap (λ said. said >>= one_item) (said_one (form_of op) op (operands rest) (operands other) z)
items_one OfSegment rest other z = refl
items_one OfProcedure rest other z = refl
items_one OfExit rest other z = refl
items_one OfJump rest other z = refl
items_one OfEnd rest other z = refl

size_one : (t u : List ℕ) → IsOneOperand t u → size_operand t ≡ size_operand u
size_one t u h = let e = numeral_one 0 65534 65536 t u h in rw e refl

procedures_one : (ts us : List (List ℕ)) → AllZip IsOneOperand ts us → procedure_operands ts ≡ procedure_operands us
procedures_one (a ∷ b ∷ c ∷ d ∷ []) (e ∷ f ∷ g ∷ h ∷ []) z =
    let p = numeral_one 0 255 256 a e z.0 in
    let q = numeral_one 128 127 256 b f z.1.0 in
    let r = size_one c g z.1.1.0 in
    let s = size_one d h z.1.1.1.0 in
    rw (p, q) (rw (r, s) refl)
procedures_one [] [] z = refl
procedures_one (a ∷ []) (e ∷ []) z = refl
procedures_one (a ∷ b ∷ []) (e ∷ f ∷ []) z = refl
procedures_one (a ∷ b ∷ c ∷ []) (e ∷ f ∷ g ∷ []) z = refl
procedures_one (a ∷ b ∷ c ∷ d ∷ x ∷ xs) (e ∷ f ∷ g ∷ h ∷ y ∷ ys) z = refl
procedures_one [] (e ∷ es) z = absurd z
procedures_one (a ∷ os) [] z = absurd z
procedures_one (a ∷ []) (e ∷ f ∷ es) z = absurd z.1
procedures_one (a ∷ b ∷ os) (e ∷ []) z = absurd z.1
procedures_one (a ∷ b ∷ []) (e ∷ f ∷ g ∷ es) z = absurd z.1.1
procedures_one (a ∷ b ∷ c ∷ os) (e ∷ f ∷ []) z = absurd z.1.1
procedures_one (a ∷ b ∷ c ∷ []) (e ∷ f ∷ g ∷ h ∷ es) z = absurd z.1.1.1
procedures_one (a ∷ b ∷ c ∷ d ∷ os) (e ∷ f ∷ g ∷ []) z = absurd z.1.1.1
procedures_one (a ∷ b ∷ c ∷ d ∷ []) (e ∷ f ∷ g ∷ h ∷ y ∷ ys) z = absurd z.1.1.1.1
procedures_one (a ∷ b ∷ c ∷ d ∷ x ∷ xs) (e ∷ f ∷ g ∷ h ∷ []) z = absurd z.1.1.1.1

segments_one : (n m name : List ℕ) → IsOneOperand n m → segment_operands (n ∷ name ∷ []) ≡ segment_operands (m ∷ name ∷ [])
segments_one n m name h = let e = number_one n m h in rw e refl

-- If `n` and `m` are equal operands, or numbers of the same value, then they are read alike with the mark `!` after
-- them.
marked_one : (n m : List ℕ) → IsOneOperand n m → number_operand (n ++ 33 ∷ []) ≡ number_operand (m ++ 33 ∷ [])
marked_one n m h = part n ∙ ap (λ o. o >>= λ v. Some ((v.0, true), v.1)) (numeral_one 0 127 65536 n m h) ∙ sym (part m)
  where
    part : (n : List ℕ) → number_operand (n ++ 33 ∷ []) ≡ (numeral_operand 0 127 65536 n >>= λ v. Some ((v.0, true), v.1))
    part n =
        let mark = marked n in
        let less = one_less n 33 in
        let front = all_but_last n 33 in
        rw (mark, less, front) refl

entry_one : (n m : List ℕ) → IsOneOperand n m → jump_operand (94 ∷ n) ≡ jump_operand (94 ∷ m)
entry_one n m h = ap (λ o. o >>= λ k. Some (Through k.0, k.1)) (numeral_one 0 59 256 n m h)

size_behind : (op : ℕ) (type n m : List ℕ) → IsOneOperand n m → comparison op (type ∷ n ∷ []) ≡ comparison op (type ∷ m ∷ [])
size_behind op type n m h = by (lookup (bytes_eq type) type_words) (lookup (bytes_eq type) sized_type_words)
  where
    sized : (found : Option ℕ) → sized_comparison op (n ∷ []) found ≡ sized_comparison op (m ∷ []) found
    sized None = refl
    sized (Some code) = let e = long_one n m h in rw e refl

    by : (found other : Option ℕ) → comparison_by op type (n ∷ []) found ≡ comparison_by op type (m ∷ []) found
    by None other = sized (lookup (bytes_eq type) sized_type_words)
    by (Some code) other = refl

pub numbers_say_values : NumbersSayValues
numbers_say_values = record {
  items = items_one;
  procedures = procedures_one;
  segments = segments_one;
  marked = marked_one;
  entries = entry_one;
  sizes = size_behind;
}
