-- Lemmas: the names of the instructions are read again as their opcodes.
use Rattle.std.proofs.Common.{◌≡◌, ◌<◌, ◌≤◌, ℕ, zero, suc, ◌+◌, ◌-◌, Bool, true, false, eqb, not}
use Rattle.std.proofs.Common.{List, [], ◌∷◌, refl, sym, ap, subst, ◌∙◌, arith, Option, Some, None}
use Rattle.std.specs.Prelude.{◌&&◌, ◌||◌, ◌==◌, is_none, nat_le, if◌then◌else◌}
use Rattle.std.specs.List.{list_all}
use Rattle.std.specs.Str.{bytes_eq}
use Rattle.std.specs.Map.{lookup}
use Rattle.std.proofs.lemmas.Bool.{eqb-true}
use Rattle.std.proofs.lemmas.Bool.Decides.{nat_tests}
use Rattle.pm_opcode.specs.declared.operand_form.Form.{Form}
use Rattle.pm_opcode.specs.declared.operand_form.Form.TheVariants as forms
use Rattle.pm_opcode.specs.Table.{groups, form_of, implied, mnemonic_of}
use Rattle.pm_code.specs.Program.{is_name_character}
use Rattle.pm_source.specs.Words.{is_empty}
use Rattle.pm_source.specs.Line.{directives, keyword_of, keyword_or, mnemonic_keyword, named_from, label_of, short_range}
use Rattle.pm_source.specs.Line.Keyword.{Mnemonic}
use Rattle.law_text.proofs.Cutting.{IsFront, and_parts}

abbrev pub is_unassigned : Form → Bool
is_unassigned forms.Unassigned = true
is_unassigned _ = false

abbrev pub is_plain : Form → Bool
is_plain forms.Plain = true
is_plain _ = false

-- Returns the names of the opcodes from `op` on. The second argument is their number.
names_from : ℕ → ℕ → List (List ℕ)
names_from op zero = []
names_from op (suc count) = mnemonic_of op ∷ names_from (op + 1) count

named_in : List ℕ → ℕ → List (List ℕ) → Option ℕ
named_in name op [] = None
named_in name op (n ∷ names) = if bytes_eq name n then Some op else named_in name (op + 1) names

named_by_table : (name : List ℕ) (op count : ℕ) → named_from name op count ≡ named_in name op (names_from op count)
unfolding names_from named_in
named_by_table name op zero = refl
named_by_table name op (suc count) = ap (λ rest. if bytes_eq name (mnemonic_of op) then Some op else rest) (named_by_table name (op + 1) count)

-- Returns whether the number `n` is in the range of the opcode `first` and leads from `first` to the opcode `op`.
gives : ℕ → ℕ → ℕ → Option (ℕ × ℕ) → Bool
gives op first n None = false
gives op first n (Some range) = nat_le range.0 n && (nat_le n range.1 && (nat_le n 127 && (first + (n - range.0) == op)))

-- Returns whether the first opcode of a name, with the number in the name, is read as the opcode `op`.
found : ℕ → Option ℕ → Option ℕ → Bool
found op number None = false
found op None (Some first) = (first == op) && is_none (short_range op)
found op (Some n) (Some first) = is_plain (form_of first) && (is_plain (form_of op) && gives op first n (short_range first))

is_read : List (List ℕ) → ℕ → List ℕ → Bool
is_read names op name =
    is_unassigned (form_of op)
    || (not (is_empty name) && (list_all is_name_character name &&
    (is_none (label_of name) && (is_none (lookup (bytes_eq name) directives) && found op (implied op) (named_in name 0 names)))))

all_read : List (List ℕ) → ℕ → List (List ℕ) → Bool
all_read names op [] = true
all_read names op (name ∷ more) = is_read names op name && all_read names (op + 1) more

table_is_read : all_read (names_from 0 256) 0 (names_from 0 256) ≡ true
unfolding all_read is_read found gives named_in names_from mnemonic_of form_of implied groups directives
table_is_read = refl

each_read : (names : List (List ℕ)) (op count k : ℕ) → all_read names op (names_from op count) ≡ true → op ≤ k → k < op + count
    → is_read names k (mnemonic_of k) ≡ true
unfolding all_read names_from
each_read names op zero k h l m = absurd (omega (arith, l, m))
each_read names op (suc count) k h l m =
    let parts = and_parts (is_read names op (mnemonic_of op)) (all_read names (op + 1) (names_from (op + 1) count)) h in
    go (eqb op k) refl parts.0 (λ less. each_read names (op + 1) count k parts.1 less (omega (arith, m)))
  where
    differ : (op k : ℕ) → (op == k) ≡ false → op ≤ k → op + 1 ≤ k
    differ op k e l = grind (arith, nat_tests)

    go : (b : Bool) → eqb op k ≡ b → is_read names op (mnemonic_of op) ≡ true → (op + 1 ≤ k → is_read names k (mnemonic_of k) ≡ true)
        → is_read names k (mnemonic_of k) ≡ true
    go true e h f = subst (λ j. is_read names j (mnemonic_of j) ≡ true) (eqb-true _ _ e) h
    go false e h f = f (differ op k e l)

not_true : (b : Bool) → not b ≡ true → b ≡ false
not_true false e = refl
not_true true e = absurd (cc)

none_is : {A : Type 0} (label : Option A) → is_none label ≡ true → label ≡ None
none_is None e = refl
none_is (Some x) e = absurd (cc)

pub or_false : (a b : Bool) → a ≡ false → (a || b) ≡ true → b ≡ true
or_false false b e h = h
or_false true b e h = absurd (cc)

-- The name of the opcode `op` can begin a line, is read as a keyword, and leads to `op` again.
record IsKnown (op : ℕ) : Type 0 where
  front : IsFront (mnemonic_of op)
  keyword : keyword_of (mnemonic_of op) ≡ mnemonic_keyword (named_from (mnemonic_of op) 0 256)
  found : found op (implied op) (named_from (mnemonic_of op) 0 256) ≡ true

known : (op : ℕ) → op < 256 → is_unassigned (form_of op) ≡ false → IsKnown op
unfolding is_read keyword_of
known op l u =
    let word : List ℕ = mnemonic_of op in
    let names : List (List ℕ) = names_from 0 256 in
    let all = or_false (is_unassigned (form_of op)) (not (is_empty word)
    && (list_all is_name_character word && (is_none (label_of word)
    && (is_none (lookup (bytes_eq word) directives) && found op (implied op) (named_in word 0 names))))) u
    (each_read names 0 256 op table_is_read (omega arith) (omega (arith, l))) in
    let one = and_parts (not (is_empty word)) (list_all is_name_character word
    && (is_none (label_of word) && (is_none (lookup (bytes_eq word) directives) && found op (implied op) (named_in word 0 names)))) all in
    let two = and_parts (list_all is_name_character word) (is_none (label_of word)
    && (is_none (lookup (bytes_eq word) directives) && found op (implied op) (named_in word 0 names))) one.1 in
    let three = and_parts (is_none (label_of word)) (is_none (lookup (bytes_eq word) directives) && found op (implied op) (named_in word 0 names)) two.1 in
    let four = and_parts (is_none (lookup (bytes_eq word) directives)) (found op (implied op) (named_in word 0 names)) three.1 in
    record {
      front = record { some = not_true (is_empty word) one.0; plain = two.0; unmarked = none_is (label_of word) three.0 };
      keyword = ap (keyword_or word) (none_is (lookup (bytes_eq word) directives) four.0);
      found = ap (found op (implied op)) (named_by_table word 0 256) ∙ four.1;
    }

-- The name of the opcode `op` can begin a line and is read as `op`. No range of numbers belongs to `op`.
pub record IsNamed (op : ℕ) : Type 0 where
  pub front : IsFront (mnemonic_of op)
  pub keyword : keyword_of (mnemonic_of op) ≡ Some (Mnemonic op)
  pub alone : short_range op ≡ None

-- A name of several opcodes: the first opcode, and the range of the numbers in the names.
pub record IsShort (op n : ℕ) : Type 0 where
  pub front : IsFront (mnemonic_of op)
  pub first : ℕ
  pub keyword : keyword_of (mnemonic_of op) ≡ Some (Mnemonic first)
  pub form : form_of first ≡ forms.Plain
  pub range : ℕ × ℕ
  pub known : short_range first ≡ Some range
  pub low : nat_le range.0 n ≡ true
  pub high : nat_le n range.1 ≡ true
  pub small : nat_le n 127 ≡ true
  pub opcode : first + (n - range.0) ≡ op

pub plain_is : (form : Form) → is_plain form ≡ true → form ≡ forms.Plain
plain_is forms.Plain h = refl
plain_is forms.Ub h = absurd (cc)
plain_is forms.Sb h = absurd (cc)
plain_is forms.Db h = absurd (cc)
plain_is forms.B h = absurd (cc)
plain_is forms.UbB h = absurd (cc)
plain_is forms.UbUb h = absurd (cc)
plain_is forms.DbB h = absurd (cc)
plain_is forms.W h = absurd (cc)
plain_is forms.Chars h = absurd (cc)
plain_is forms.Words h = absurd (cc)
plain_is forms.Jumps h = absurd (cc)
plain_is forms.Typed h = absurd (cc)
plain_is forms.Unassigned h = absurd (cc)

pub is_named : (op : ℕ) → op < 256 → is_unassigned (form_of op) ≡ false → implied op ≡ None → IsNamed op
unfolding found
is_named op l u e =
    let k : IsKnown op = known op l u in go (named_from (mnemonic_of op) 0 256) refl
    (subst (λ number. found op number (named_from (mnemonic_of op) 0 256) ≡ true) e k.found) k
  where
    go : (m : Option ℕ) → named_from (mnemonic_of op) 0 256 ≡ m → found op None (named_from (mnemonic_of op) 0 256) ≡ true → IsKnown op → IsNamed op
    go None s h k = absurd (let no : false ≡ true = ap (found op None) (sym s) ∙ h in cc)
    go (Some first) s h k =
        let parts = and_parts (first == op) (is_none (short_range op)) (ap (found op None) (sym s) ∙ h) in
        record {
          front = k.front;
          keyword = k.keyword ∙ ap mnemonic_keyword s ∙ ap (λ o. Some (Mnemonic o)) (eqb-true _ _ parts.0);
          alone = none_is (short_range op) parts.1;
        }

pub is_short : (op n : ℕ) → op < 256 → is_unassigned (form_of op) ≡ false → implied op ≡ Some n → IsShort op n
unfolding found gives
is_short op n l u e =
    let k : IsKnown op = known op l u in go (named_from (mnemonic_of op) 0 256) refl
    (subst (λ number. found op number (named_from (mnemonic_of op) 0 256) ≡ true) e k.found) k
  where
    within : (first : ℕ) (r : Option (ℕ × ℕ)) → short_range first ≡ r → gives op first n r ≡ true → form_of first ≡ forms.Plain
        → keyword_of (mnemonic_of op) ≡ Some (Mnemonic first) → IsKnown op → IsShort op n
    within first None s h f w k = absurd (cc)
    within first (Some range) s h f w k =
        let one = and_parts (nat_le range.0 n) (nat_le n range.1 && (nat_le n 127 && (first + (n - range.0) == op))) h in
        let two = and_parts (nat_le n range.1) (nat_le n 127 && (first + (n - range.0) == op)) one.1 in
        let three = and_parts (nat_le n 127) (first + (n - range.0) == op) two.1 in
        record {
          front = k.front;
          first = first;
          keyword = w;
          form = f;
          range = range;
          known = s;
          low = one.0;
          high = two.0;
          small = three.0;
          opcode = eqb-true _ _ three.1;
        }

    go : (m : Option ℕ) → named_from (mnemonic_of op) 0 256 ≡ m → found op (Some n) (named_from (mnemonic_of op) 0 256) ≡ true → IsKnown op → IsShort op n
    go None s h k = absurd (let no : false ≡ true = ap (found op (Some n)) (sym s) ∙ h in cc)
    go (Some first) s h k =
        let parts = and_parts (is_plain (form_of first)) (is_plain (form_of op) && gives op first n (short_range first)) (ap (found op (Some n)) (sym s) ∙ h) in
        let more = and_parts (is_plain (form_of op)) (gives op first n (short_range first)) parts.1 in
        within first (short_range first) refl more.1 (plain_is (form_of first) parts.0) (k.keyword ∙ ap mnemonic_keyword s) k

-- Only opcodes without operands have a number in their name.
pub no_number : (op : ℕ) → op < 256 → is_unassigned (form_of op) ≡ false → is_plain (form_of op) ≡ false → implied op ≡ None
unfolding found
no_number op l u f = let k : IsKnown op = known op l u in go (implied op) refl (named_from (mnemonic_of op) 0 256) k.found
  where
    go : (number : Option ℕ) → implied op ≡ number → (m : Option ℕ) → found op (implied op) m ≡ true → implied op ≡ None
    go None e m h = e
    go (Some n) e None h = absurd (let no : false ≡ true = ap (λ number. found op number None) (sym e) ∙ h in cc)
    go (Some n) e (Some first) h =
        let parts = and_parts (is_plain (form_of first)) (is_plain (form_of op) && gives op first n (short_range first))
        (ap (λ number. found op number (Some first)) (sym e) ∙ h) in
        absurd (let plain : is_plain (form_of op) ≡ true = (and_parts (is_plain (form_of op)) (gives op first n (short_range first)) parts.1).0 in cc)
