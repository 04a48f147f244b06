-- Lemmas: the operands of an instruction without a jump target are read again, form by form.
use Rattle.std.proofs.Common.{◌≡◌, ◌<◌, ℕ, zero, suc, ◌+◌, ◌*◌, ◌/◌, ◌%◌, Bool, true, false, eqb}
use Rattle.std.proofs.Common.{List, [], ◌∷◌, ◌++◌, length, refl, sym, ap, subst, ◌∙◌, arith, Some}
use Rattle.std.specs.Prelude.{◌&&◌, ◌==◌, nat_le, nat_lt, codes, if◌then◌else◌}
use Rattle.std.specs.List.{AllByRecursion}
use Rattle.std.specs.Fmt.{decimal}
use Rattle.std.proofs.lemmas.Bool.{eqb-true}
use Rattle.std.proofs.lemmas.Bool.Decides.{nat_tests}
use Rattle.pm_words.specs.Words.{words_of}
use Rattle.pm_opcode.specs.declared.operand_form.Form.{Form}
use Rattle.pm_opcode.specs.declared.operand_form.Form.TheVariants as forms
use Rattle.pm_opcode.specs.declared.instr.Instr.{Instr}
use Rattle.pm_opcode.specs.Spelling.{in_range, is_sized, is_unsized}
use Rattle.pm_opcode.specs.Standing.{clear}
use Rattle.pm_code.specs.Item.{Item, IsByte, names_place}
use Rattle.pm_code.specs.Item.Item.{Plain}
use Rattle.pm_code.specs.Text.{operand_texts, number_text, type_text}
use Rattle.pm_source.specs.Source.{Name}
use Rattle.pm_source.specs.Words.{words}
use Rattle.pm_source.specs.Line.{Said, bare, flat_words, instruction_said, one_comparison, comparison}
use Rattle.pm_source.specs.Line.Flaw.{NoFlaw}
use Rattle.law_text.proofs.Cutting.{and_parts}
use Rattle.law_text.proofs.Operanded.{IsOperand, IsWord, of_word, append_nil, first_of_words, two_words}
use Rattle.law_text.proofs.Numbers.{decimal_word, byte_shown, word_shown}
use Rattle.law_text.proofs.Quoting.{number_text_shown, marked_word, words_again, words_operands, quoted_operand, text_shown}
use Rattle.law_text.proofs.Mnemonics.{is_plain}

-- The operands of the instruction `i` are in the ranges of the form `form`, and `named` are its operand bytes.
pub record IsOfForm (form : Form) (i : Instr) (named : List ℕ) : Type 0 where
  pub ranges : in_range form i ≡ true
  pub word : i.a < 65536
  pub fields : clear form i ≡ i
  pub nowhere : (i.start ≡ 0) × (i.len ≡ 0)
  pub count : length named ≡ i.count
  pub bytes : AllByRecursion IsByte named

-- Returns the meaning of an instruction with these operand bytes.
abbrev pub said_plain : Instr → List ℕ → Said (Item Name)
said_plain i named = Some (Plain i named, NoFlaw)

abbrev pub IsReadAs : Form → Instr → List ℕ → Type 0
IsReadAs form i named = AllByRecursion IsOperand (operand_texts form i named) × (instruction_said form i.op (operand_texts form i named) ≡ said_plain i named)

abbrev placed : Instr → Instr
placed i = record i { start = 0; len = 0 }

rebuilt : (i : Instr) → (i.start ≡ 0) × (i.len ≡ 0) → placed i ≡ i
rebuilt i h = ap (λ s. record i { start = s; len = 0 }) (sym h.0) ∙ ap (λ l. record i { len = l }) (sym h.1)

pub cleared : (form : Form) (i : Instr) (named : List ℕ) → IsOfForm form i named → clear form (placed i) ≡ i
cleared form i named h = ap (clear form) (rebuilt i h.nowhere) ∙ h.fields

none_named : (named : List ℕ) (n : ℕ) → length named ≡ n → 0 ≡ n → [] ≡ named
none_named [] n e f = refl
none_named (b ∷ named) n e f = absurd (omega (arith, e, f))

-- If an instruction has no operand bytes, then its meaning is the one with an empty list of operand bytes.
pub unnamed : (i j : Instr) (named : List ℕ) → j ≡ i → length named ≡ i.count → j.count ≡ 0 → said_plain j [] ≡ said_plain i named
unnamed i j named e l z = ap (λ k. said_plain k []) e ∙ ap (said_plain i) (none_named named i.count l (sym z ∙ ap (λ k. k.count) e))

below : (n m : ℕ) → nat_lt n m ≡ true → n < m
below n m h = grind (arith, nat_tests)

byte_operand_is : (b : ℕ) → b < 256 → IsOperand (decimal b)
byte_operand_is b h = of_word (decimal b) (decimal_word b (omega (arith, h)))

one_byte_is : (i : Instr) (named : List ℕ) → IsOfForm forms.Ub i named → IsReadAs forms.Ub i named
one_byte_is i named h =
    let small : i.a < 256 = below i.a 256 h.ranges in
    let read = byte_shown i.a small in
    ((byte_operand_is i.a small, tt), rw read (unnamed i (clear forms.Ub (placed i)) named (cleared forms.Ub i named h) h.count refl))

data_byte_is : (i : Instr) (named : List ℕ) → IsOfForm forms.Db i named → IsReadAs forms.Db i named
data_byte_is i named h =
    let small : i.a < 256 = below i.a 256 h.ranges in
    let read = byte_shown i.a small in
    ((byte_operand_is i.a small, tt), rw read (unnamed i (clear forms.Db (placed i)) named (cleared forms.Db i named h) h.count refl))

word_is : (i : Instr) (named : List ℕ) → IsOfForm forms.W i named → IsReadAs forms.W i named
word_is i named h =
    let small : i.a < 65536 = h.word in
    let read = word_shown i.a small in (
      (of_word (decimal i.a) (decimal_word i.a (omega arith)), tt),
      rw read (unnamed i (clear forms.W (placed i)) named (cleared forms.W i named h) h.count refl),
    )

number_is : (n : ℕ) (long : Bool) → n < 32768 → IsOperand (number_text n long)
number_is n long h = of_word (number_text n long) (marked_word n long (omega (arith, h)))

big_is : (i : Instr) (named : List ℕ) → IsOfForm forms.B i named → IsReadAs forms.B i named
big_is i named h =
    let small : i.a < 32768 = below i.a 32768 h.ranges in
    let read = number_text_shown i.a i.long small in
    ((number_is i.a i.long small, tt), rw read (unnamed i (clear forms.B (placed i)) named (cleared forms.B i named h) h.count refl))

two_bytes_is : (i : Instr) (named : List ℕ) → IsOfForm forms.UbUb i named → IsReadAs forms.UbUb i named
two_bytes_is i named h =
    let parts = and_parts (nat_lt i.a 256) (nat_lt i.b 256) h.ranges in
    let small : i.a < 256 = below i.a 256 parts.0 in
    let other : i.b < 256 = below i.b 256 parts.1 in
    let read = byte_shown i.a small in
    let more = byte_shown i.b other in (
      (byte_operand_is i.a small, (byte_operand_is i.b other, tt)),
      rw (read, more) (unnamed i (clear forms.UbUb (placed i)) named (cleared forms.UbUb i named h) h.count refl),
    )

byte_and_big_is : (i : Instr) (named : List ℕ) → IsOfForm forms.UbB i named → IsReadAs forms.UbB i named
byte_and_big_is i named h =
    let parts = and_parts (nat_lt i.a 256) (nat_lt i.b 32768) h.ranges in
    let small : i.a < 256 = below i.a 256 parts.0 in
    let other : i.b < 32768 = below i.b 32768 parts.1 in
    let read = byte_shown i.a small in
    let more = number_text_shown i.b i.long other in (
      (byte_operand_is i.a small, (number_is i.b i.long other, tt)),
      rw (read, more) (unnamed i (clear forms.UbB (placed i)) named (cleared forms.UbB i named h) h.count refl),
    )

data_and_big_is : (i : Instr) (named : List ℕ) → IsOfForm forms.DbB i named → IsReadAs forms.DbB i named
data_and_big_is i named h =
    let parts = and_parts (nat_lt i.a 256) (nat_lt i.b 32768) h.ranges in
    let small : i.a < 256 = below i.a 256 parts.0 in
    let other : i.b < 32768 = below i.b 32768 parts.1 in
    let read = byte_shown i.a small in
    let more = number_text_shown i.b i.long other in (
      (byte_operand_is i.a small, (number_is i.b i.long other, tt)),
      rw (read, more) (unnamed i (clear forms.DbB (placed i)) named (cleared forms.DbB i named h) h.count refl),
    )

equal : (m n : ℕ) → (m == n) ≡ true → m ≡ n
equal m n h = grind (arith, nat_tests)

chars_is : (i : Instr) (named : List ℕ) → IsOfForm forms.Chars i named → IsReadAs forms.Chars i named
chars_is i named h =
    let parts = and_parts (nat_lt i.a 256) (i.count == i.a) h.ranges in
    let small : i.a < 256 = below i.a 256 parts.0 in
    let size : length named ≡ i.a = h.count ∙ equal i.count i.a parts.1 in
    let short : nat_le (length named) 255 ≡ true = at_most (length named) (omega (arith, size, small)) in
    let read = text_shown named h.bytes in
    let same : record (bare i.op) { a = length named; count = length named } ≡ i =
    ap (λ n. record (bare i.op) { a = n; count = length named }) size ∙ ap (λ n. record (bare i.op) { a = i.a; count = n }) h.count
    ∙ cleared forms.Chars i named h in
    ((quoted_operand named h.bytes, tt), rw read (rw short (ap (λ j. said_plain j named) same)))
  where
    at_most : (n : ℕ) → n < 256 → nat_le n 255 ≡ true
    at_most n h = grind (arith, nat_tests)

-- The list `ws` consists of words, and `bytes` are the bytes of these words.
record AreWordsOf (bytes ws : List ℕ) : Type 0 where
  flat : flat_words ws ≡ bytes
  ranges : AllByRecursion (λ w. w < 65536) ws
  size : 2 * length ws ≡ length bytes

words_again_of : (bytes : List ℕ) (n : ℕ) → AllByRecursion IsByte bytes → length bytes ≡ 2 * n → AreWordsOf bytes (words_of bytes)
unfolding words_of
words_again_of [] n h e = record { flat = refl; ranges = tt; size = refl }
words_again_of (low ∷ []) n h e = absurd (omega (arith, e))
words_again_of (low ∷ high ∷ bytes) zero h e = absurd (omega (arith, e))
words_again_of (low ∷ high ∷ bytes) (suc n) h e =
    let more : AreWordsOf bytes (words_of bytes) = words_again_of bytes n h.1.1 (omega (arith, e)) in
    let first : (low + 256 * high) % 256 ≡ low = omega (arith, h.0, h.1.0) in
    let second : (low + 256 * high) / 256 ≡ high = omega (arith, h.0, h.1.0) in
    record {
      flat = ap (λ b. b ∷ (low + 256 * high) / 256 ∷ flat_words (words_of bytes)) first ∙ ap (λ b. low ∷ b ∷ flat_words (words_of bytes)) second
          ∙ ap (λ bs. low ∷ high ∷ bs) more.flat;
      ranges = (omega (arith, h.0, h.1.0), more.ranges);
      size = omega (arith, more.size);
    }

words_is : (i : Instr) (named : List ℕ) → IsOfForm forms.Words i named → IsReadAs forms.Words i named
words_is i named h =
    let parts = and_parts (nat_lt i.a 256) (i.count == 2 * i.a) h.ranges in
    let small : i.a < 256 = below i.a 256 parts.0 in
    let twice : i.count ≡ 2 * i.a = equal i.count (2 * i.a) parts.1 in
    let w : AreWordsOf named (words_of named) = words_again_of named i.a h.bytes (h.count ∙ twice) in
    let size : length (words_of named) ≡ i.a = omega (arith, w.size, h.count, twice) in
    let bytes : 2 * length (words_of named) ≡ i.count = w.size ∙ h.count in
    let short : nat_le (length (words_of named)) 255 ≡ true = at_most (length (words_of named)) (omega (arith, size, small)) in
    let read = words_again (words_of named) w.ranges in
    let same : record (bare i.op) { a = length (words_of named); count = 2 * length (words_of named) } ≡ i =
    ap (λ n. record (bare i.op) { a = n; count = 2 * length (words_of named) }) size ∙ ap (λ n. record (bare i.op) { a = i.a; count = n }) bytes
    ∙ cleared forms.Words i named h in
    let moved : said_plain (record (bare i.op) { a = length (words_of named); count = 2 * length (words_of named) }) (flat_words (words_of named))
    ≡ said_plain i (flat_words (words_of named)) = ap (λ j. said_plain j (flat_words (words_of named))) same in
    let ended : said_plain i (flat_words (words_of named)) ≡ said_plain i named = ap (said_plain i) w.flat in
    (words_operands (words_of named) w.ranges, rw read (rw short (moved ∙ ended)))
  where
    at_most : (n : ℕ) → n < 256 → nat_le n 255 ≡ true
    at_most n h = grind (arith, nat_tests)

-- Returns the comparison `op` of the type `type`. The size and the mark are set only if the type has a size.
abbrev compared : ℕ → ℕ → Bool → ℕ → Instr
compared op size long type =
    record (bare op) { a = type; b = if is_sized type then size else 0; long = if is_sized type then long && nat_lt size 128 else false }

abbrev IsType : ℕ → ℕ → Bool → ℕ → Type 0
IsType op size long type =
    IsOperand (type_text type size long) × (one_comparison op (type_text type size long ∷ []) ≡ said_plain (compared op size long type) [])

word_of : (w : List ℕ) → IsWord w → words w ≡ w ∷ []
word_of w h = ap words (sym (append_nil w)) ∙ first_of_words w [] h.some h.plain refl

unsized_is : (op size : ℕ) (long : Bool) (type : ℕ) (w : List ℕ) → type_text type size long ≡ w → IsWord w
    → comparison op (w ∷ []) ≡ said_plain (compared op size long type) [] → IsType op size long type
unsized_is op size long type w t h e = (subst IsOperand (sym t) (of_word w h), ap (λ u. comparison op (words u)) t ∙ ap (comparison op) (word_of w h) ∙ e)

-- If a text has two words with a space between them, then these words are read.
two_words_of : (a b : List ℕ) → IsWord a → IsWord b → words (a ++ 32 ∷ b) ≡ a ∷ b ∷ []
two_words_of a b h k = first_of_words a (32 ∷ b) h.some h.plain refl ∙ ap (λ ws. a ∷ ws) (word_of b k)

sized_is : (op size : ℕ) (long : Bool) (type : ℕ) (w : List ℕ) → type_text type size long ≡ w ++ 32 ∷ number_text size long → IsWord w → size < 32768
    → comparison op (w ∷ number_text size long ∷ []) ≡ said_plain (compared op size long type) [] → IsType op size long type
sized_is op size long type w t h l e =
    let n : IsWord (number_text size long) = marked_word size long (omega (arith, l)) in (
      subst IsOperand (sym t) (two_words w (number_text size long) (of_word w h) (of_word (number_text size long) n)),
      ap (λ u. comparison op (words u)) t ∙ ap (comparison op) (two_words_of w (number_text size long) h n) ∙ e,
    )

types : (op size : ℕ) (long : Bool) (type : ℕ) → (if is_sized type then nat_lt size 32768 else is_unsized type) ≡ true → IsType op size long type
types op size long type h = two (eqb type 2) refl
  where
    at : (t : ℕ) → eqb type t ≡ true → IsType op size long t → IsType op size long type
    at t e g = subst (IsType op size long) (sym (eqb-true _ _ e)) g

    small : (t : ℕ) → eqb type t ≡ true → is_sized t ≡ true → size < 32768
    small t e s = below size 32768 (sym (ap (λ b. if b then nat_lt size 32768 else is_unsized type) (ap is_sized (eqb-true _ _ e) ∙ s)) ∙ h)

    twelve : (b : Bool) → eqb type 12 ≡ b → eqb type 10 ≡ false → eqb type 8 ≡ false → eqb type 6 ≡ false → eqb type 4 ≡ false → eqb type 2 ≡ false
        → IsType op size long type
    twelve true e e10 e8 e6 e4 e2 =
        let l : size < 32768 = small 12 e refl in
        let read = number_text_shown size long l in
        at 12 e (sized_is op size long 12 (codes "WORDS") refl (record { some = refl; plain = refl }) l (rw read refl))
    twelve false e e10 e8 e6 e4 e2 = absurd (let no : (if is_sized type then nat_lt size 32768 else is_unsized type)
        ≡ false = rw (e, e10, e8, e6, e4, e2) refl in cc)

    ten : (b : Bool) → eqb type 10 ≡ b → eqb type 8 ≡ false → eqb type 6 ≡ false → eqb type 4 ≡ false → eqb type 2 ≡ false → IsType op size long type
    ten true e e8 e6 e4 e2 =
        let l : size < 32768 = small 10 e refl in
        let read = number_text_shown size long l in
        at 10 e (sized_is op size long 10 (codes "BYTES") refl (record { some = refl; plain = refl }) l (rw read refl))
    ten false e e8 e6 e4 e2 = twelve (eqb type 12) refl e e8 e6 e4 e2

    eight : (b : Bool) → eqb type 8 ≡ b → eqb type 6 ≡ false → eqb type 4 ≡ false → eqb type 2 ≡ false → IsType op size long type
    eight true e e6 e4 e2 = at 8 e (unsized_is op size long 8 (codes "SET") refl (record { some = refl; plain = refl }) refl)
    eight false e e6 e4 e2 = ten (eqb type 10) refl e e6 e4 e2

    six : (b : Bool) → eqb type 6 ≡ b → eqb type 4 ≡ false → eqb type 2 ≡ false → IsType op size long type
    six true e e4 e2 = at 6 e (unsized_is op size long 6 (codes "BOOL") refl (record { some = refl; plain = refl }) refl)
    six false e e4 e2 = eight (eqb type 8) refl e e4 e2

    four : (b : Bool) → eqb type 4 ≡ b → eqb type 2 ≡ false → IsType op size long type
    four true e e2 = at 4 e (unsized_is op size long 4 (codes "STR") refl (record { some = refl; plain = refl }) refl)
    four false e e2 = six (eqb type 6) refl e e2

    two : (b : Bool) → eqb type 2 ≡ b → IsType op size long type
    two true e = at 2 e (unsized_is op size long 2 (codes "REAL") refl (record { some = refl; plain = refl }) refl)
    two false e = four (eqb type 4) refl e

typed_is : (i : Instr) (named : List ℕ) → IsOfForm forms.Typed i named → IsReadAs forms.Typed i named
typed_is i named h =
    let t : IsType i.op i.b i.long i.a = types i.op i.b i.long i.a h.ranges in
    ((t.0, tt), t.1 ∙ unnamed i (compared i.op i.b i.long i.a) named (as_clear (is_sized i.a) ∙ cleared forms.Typed i named h) h.count refl)
  where
    as_clear : (s : Bool) → record (bare i.op) { a = i.a; b = if s then i.b else 0; long = if s then i.long && nat_lt i.b 128 else false }
        ≡ (if s then record (placed i) { c = 0; long = i.long && nat_lt i.b 128; count = 0 } else record (placed i) { b = 0; c = 0; long = false; count = 0 })
    as_clear true = refl
    as_clear false = refl

-- If a form names no offset and has operands, then the operands of an instruction of this form are read again.
pub read_as : (form : Form) (i : Instr) (named : List ℕ) → names_place form ≡ false → is_plain form ≡ false → IsOfForm form i named → IsReadAs form i named
read_as forms.Plain i named p q h = absurd (cc)
read_as forms.Ub i named p q h = one_byte_is i named h
read_as forms.Sb i named p q h = absurd (cc)
read_as forms.Db i named p q h = data_byte_is i named h
read_as forms.B i named p q h = big_is i named h
read_as forms.UbB i named p q h = byte_and_big_is i named h
read_as forms.UbUb i named p q h = two_bytes_is i named h
read_as forms.DbB i named p q h = data_and_big_is i named h
read_as forms.W i named p q h = word_is i named h
read_as forms.Chars i named p q h = chars_is i named h
read_as forms.Words i named p q h = words_is i named h
read_as forms.Jumps i named p q h = absurd (cc)
read_as forms.Typed i named p q h = typed_is i named h
read_as forms.Unassigned i named p q h = absurd (let r : false ≡ true = h.ranges in cc)
