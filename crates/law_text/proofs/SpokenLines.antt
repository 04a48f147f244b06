-- Lemmas: each kind of shown line is read again.
use Rattle.std.proofs.Common.{◌≡◌, ◌<◌, ◌≤◌, ℕ, ◌%◌, Bool, true, false, List, [], ◌∷◌, ◌++◌, length, map, refl, sym, ap, subst, ◌∙◌, arith, Option, Some, None}
use Rattle.std.specs.Prelude.{◌&&◌, ◌==◌, nat_le, codes}
use Rattle.std.specs.List.{list_all, AllByRecursion}
use Rattle.std.specs.Fmt.{decimal}
use Rattle.std.proofs.lemmas.List.{reverse-reverse, reverse-append}
use Rattle.std.proofs.lemmas.List.Folds.{list_all-append}
use Rattle.std.proofs.lemmas.Bool.Decides.{nat_tests}
use Rattle.pm_opcode.specs.declared.operand_form.Form.{Form}
use Rattle.pm_opcode.specs.declared.operand_form.Form.TheVariants as forms
use Rattle.pm_opcode.specs.declared.instr.Instr.{Instr}
use Rattle.pm_opcode.specs.Table.{groups, form_of, implied, mnemonic_of}
use Rattle.pm_opcode.specs.Spelling.{in_range, jump_count}
use Rattle.pm_opcode.specs.Standing.{clear}
use Rattle.pm_code.specs.Item.{Item, Target, IsItem, IsPlain, IsCase, case_opcode}
use Rattle.pm_code.specs.Item.Item.{Plain, Jump, Case, OneByte}
use Rattle.pm_code.specs.Program.{is_name_character, is_segment_name}
use Rattle.pm_code.specs.Text.{operands_text, operand_texts, signed_text}
use Rattle.pm_code.specs.Shown.{words_text, label_text, target_text, level_text, shown_item, item_operands, entry_line}
use Rattle.pm_source.specs.Words.{cut, words}
use Rattle.pm_source.specs.Source.{Name, Statement}
use Rattle.pm_source.specs.Source.Row.{Items, Exit}
use Rattle.pm_source.specs.Source.Statement.{Segment, Begin, Code, Entry, End}
use Rattle.pm_source.specs.Line.{Keyword, directives, keyword_of, instruction_said, saying, spoken, line_of, label_of, label_before, said, bare}
use Rattle.pm_source.specs.Line.Flaw.{NoFlaw}
use Rattle.pm_source.specs.Line.Line.{Says}
use Rattle.pm_source.specs.Line.Keyword.{OfSegment, OfProcedure, OfExit, OfJump, OfEnd, OfBytes, Mnemonic}
use Rattle.law_text.proofs.Cutting.{IsCut, IsFront, cut_behind, by_cut, spoken_line, indented, and_turned}
use Rattle.law_text.proofs.Operanded.{IsOperand, IsWord, of_word, operands_shown, operands_rest, words_shown, words_rest, append_nil}
use Rattle.law_text.proofs.Numbers.{decimal_word, label_word, label_name, number_shown, byte_shown, slot_shown}
use Rattle.law_text.proofs.Numbers.{size_shown, level_word, level_shown, bound_word, bound_shown}
use Rattle.law_text.proofs.Quoting.{shown_target, IsWritable, target_shown, target_word, labels_again, labels_operands, same_count}
use Rattle.law_text.proofs.Mnemonics.{IsNamed, IsShort, is_named, is_short, is_plain, plain_is, is_unassigned, no_number}
use Rattle.law_text.proofs.ShownInstructions.{IsOfForm, IsReadAs, said_plain, cleared, unnamed, read_as}

-- Returns an item as a text spells it, with labels for its targets.
abbrev pub labelled_item : Item ℕ → Item Name
labelled_item (Plain i named) = Plain i named
labelled_item (Jump op target) = Jump op (shown_target target)
labelled_item (Case low high otherwise places) = Case low high (shown_target otherwise) (map label_text places)
labelled_item (OneByte b) = OneByte b

abbrev pub IsWritableItem : Item ℕ → Type 0
IsWritableItem (Jump op target) = IsWritable target
IsWritableItem (Case low high otherwise places) = IsWritable otherwise × AllByRecursion (λ p. p < 100000) places
IsWritableItem _ = Unit {0}

-- The names of the directives are read as their keywords.
bytes_word : keyword_of (codes ".BYTE") ≡ Some OfBytes
unfolding keyword_of directives
bytes_word = refl

segment_word : keyword_of (codes ".SEG") ≡ Some OfSegment
unfolding keyword_of directives
segment_word = refl

procedure_word : keyword_of (codes ".PROC") ≡ Some OfProcedure
unfolding keyword_of directives
procedure_word = refl

exit_word : keyword_of (codes ".EXIT") ≡ Some OfExit
unfolding keyword_of directives
exit_word = refl

jump_word : keyword_of (codes ".JUMP") ≡ Some OfJump
unfolding keyword_of directives
jump_word = refl

end_word : keyword_of (codes ".END") ≡ Some OfEnd
unfolding keyword_of directives
end_word = refl

-- If the operands `ts` are read as the statement `s`, then the line with the name `front` and `ts` is read as `s`.
spoken_item : (n : ℕ) (front : List ℕ) (ts : List (List ℕ)) (keyword : Keyword) (s : Statement) → IsFront front → keyword_of front ≡ Some keyword
    → AllByRecursion IsOperand ts → said n keyword (operands_text ts) ≡ Some (s, NoFlaw)
    → line_of n (32 ∷ 32 ∷ front ++ operands_text ts) ≡ Says s NoFlaw
spoken_item n front ts keyword s f k o e =
    indented n (32 ∷ front ++ operands_text ts)
    ∙ indented n (front ++ operands_text ts)
    ∙ spoken_line n front (operands_text ts) f (operands_rest ts o)
    ∙ ap (spoken n (operands_text ts)) k
    ∙ ap (saying _) e

instruction_line : (n op first : ℕ) (form : Form) (ts : List (List ℕ)) (item : Item Name) → IsFront (mnemonic_of op)
    → keyword_of (mnemonic_of op) ≡ Some (Mnemonic first) → form_of first ≡ form → AllByRecursion IsOperand ts
    → instruction_said form first ts ≡ Some (item, NoFlaw) → line_of n (32 ∷ 32 ∷ mnemonic_of op ++ operands_text ts)
    ≡ Says (Code (Items n None (item ∷ []))) NoFlaw
instruction_line n op first form ts item front keyword f o e =
    let again = operands_shown ts o in
    spoken_item n (mnemonic_of op) ts (Mnemonic first) (Code (Items n None (item ∷ []))) front keyword o (rw (again, f, e) refl)

assigned : (form : Form) (i : Instr) → in_range form i ≡ true → is_unassigned form ≡ false
assigned forms.Plain i h = refl
assigned forms.Ub i h = refl
assigned forms.Sb i h = refl
assigned forms.Db i h = refl
assigned forms.B i h = refl
assigned forms.UbB i h = refl
assigned forms.UbUb i h = refl
assigned forms.DbB i h = refl
assigned forms.W i h = refl
assigned forms.Chars i h = refl
assigned forms.Words i h = refl
assigned forms.Jumps i h = refl
assigned forms.Typed i h = refl
assigned forms.Unassigned i h = absurd (cc)

abbrev PlainLine : ℕ → Instr → List ℕ → List (List ℕ) → Type 0
PlainLine n i named ts = line_of n (32 ∷ 32 ∷ mnemonic_of i.op ++ operands_text ts) ≡ Says (Code (Items n None (Plain i named ∷ []))) NoFlaw

-- If an instruction has the form `Plain`, then its line is read again.
bare_line : (n : ℕ) (i : Instr) (named : List ℕ) → i.op < 256 → form_of i.op ≡ forms.Plain → IsOfForm forms.Plain i named
    → PlainLine n i named (operand_texts forms.Plain i named)
bare_line n i named l f h = go (implied i.op) refl
  where
    whole : said_plain (bare i.op) [] ≡ said_plain i named
    whole = unnamed i (bare i.op) named (cleared forms.Plain i named h) h.count refl

    go : (number : Option ℕ) → implied i.op ≡ number → PlainLine n i named (operand_texts forms.Plain i named)
    go None e =
        let k : IsNamed i.op = is_named i.op l (ap is_unassigned f) e in
        let alone = k.alone in
        rw e (instruction_line n i.op i.op forms.Plain [] (Plain i named) k.front k.keyword f tt (rw alone whole))
    go (Some m) e =
        let k : IsShort i.op m = is_short i.op m l (ap is_unassigned f) e in
        let known = k.known in
        let low = k.low in
        let high = k.high in
        let small : m ≤ 127 = at_most m k.small in
        let read = number_shown m (omega (arith, small)) in
        let kept : m % 256 ≡ m = omega (arith, small) in
        let opcode = k.opcode in
        let o : AllByRecursion IsOperand (decimal m ∷ []) = (of_word (decimal m) (decimal_word m (omega (arith, small))), tt) in
        rw e (instruction_line n i.op k.first forms.Plain (decimal m ∷ []) (Plain i named) k.front k.keyword k.form o
        (rw (known, read) (rw kept (rw (low, high, opcode) whole))))
      where
        at_most : (m : ℕ) → nat_le m 127 ≡ true → m ≤ 127
        at_most m h = grind (arith, nat_tests)

of_form : (form : Form) (i : Instr) (named : List ℕ) → form_of i.op ≡ form → IsPlain i named → IsOfForm form i named
of_form form i named e h = record {
  ranges = ap (λ f. in_range f i) (sym e) ∙ h.ranges;
  word = h.word;
  fields = ap (λ f. clear f i) (sym e) ∙ h.fields;
  nowhere = h.nowhere;
  count = h.count;
  bytes = h.bytes;
}

plain_line : (n : ℕ) (i : Instr) (named : List ℕ) → IsPlain i named → PlainLine n i named (operand_texts (form_of i.op) i named)
plain_line n i named h = go (is_plain (form_of i.op)) refl
  where
    go : (b : Bool) → is_plain (form_of i.op) ≡ b → PlainLine n i named (operand_texts (form_of i.op) i named)
    go true e =
        let f : form_of i.op ≡ forms.Plain = plain_is (form_of i.op) e in
        subst (λ form. PlainLine n i named (operand_texts form i named)) (sym f) (bare_line n i named h.opcode f (of_form forms.Plain i named f h))
    go false e =
        let u : is_unassigned (form_of i.op) ≡ false = assigned (form_of i.op) i h.ranges in
        let k : IsNamed i.op = is_named i.op h.opcode u (no_number i.op h.opcode u e) in
        let r : IsReadAs (form_of i.op) i named = read_as (form_of i.op) i named h.form e (of_form (form_of i.op) i named refl h) in
        instruction_line n i.op i.op (form_of i.op) (operand_texts (form_of i.op) i named) (Plain i named) k.front k.keyword refl r.0 r.1

jump_line : (n op : ℕ) (target : Target ℕ) → form_of op ≡ forms.Sb → op < 256 → IsWritable target
    → line_of n (32 ∷ 32 ∷ mnemonic_of op ++ operands_text (target_text target ∷ [])) ≡ Says (Code (Items n None (Jump op (shown_target target) ∷ []))) NoFlaw
jump_line n op target f l w =
    let u : is_unassigned (form_of op) ≡ false = ap is_unassigned f in
    let k : IsNamed op = is_named op l u (no_number op l u (ap is_plain f)) in
    let read = target_shown target w in
    instruction_line n op op forms.Sb (target_text target ∷ []) (Jump op (shown_target target)) k.front k.keyword f
    (of_word (target_text target) (target_word target w), tt) (rw read refl)

case_form : form_of case_opcode ≡ forms.Jumps
unfolding form_of groups
case_form = refl

case_line : (n at low high : ℕ) (otherwise : Target ℕ) (places : List ℕ) → IsCase at low high otherwise places → IsWritable otherwise
    → AllByRecursion (λ p. p < 100000) places
    → line_of n (32 ∷ 32 ∷ mnemonic_of case_opcode ++ operands_text (item_operands (Case low high otherwise places)))
    ≡ Says (Code (Items n None (Case low high (shown_target otherwise) (map label_text places) ∷ []))) NoFlaw
case_line n at low high otherwise places h w s =
    let u : is_unassigned (form_of case_opcode) ≡ false = ap is_unassigned case_form in
    let k : IsNamed case_opcode = is_named case_opcode (omega arith) u (no_number case_opcode (omega arith) u (ap is_plain case_form)) in
    let o : AllByRecursion IsOperand (item_operands (Case low high otherwise places)) = (
      of_word (signed_text low) (bound_word low h.least),
      (
        of_word (signed_text high) (bound_word high h.greatest),
        (of_word (target_text otherwise) (target_word otherwise w), labels_operands places s),
      ),
    ) in
    let least = bound_shown low h.least in
    let greatest = bound_shown high h.greatest in
    let target = target_shown otherwise w in
    let labels = labels_again places s in
    let count : (length (map label_text places) == jump_count low high) ≡ true =
    same (length (map label_text places)) (jump_count low high) (same_count places ∙ h.count) in
    instruction_line n case_opcode case_opcode forms.Jumps (item_operands (Case low high otherwise places))
    (Case low high (shown_target otherwise) (map label_text places)) k.front k.keyword case_form o
    (rw (least, greatest, target, labels) (rw count refl))
  where
    same : (m n : ℕ) → m ≡ n → (m == n) ≡ true
    same m n e = grind (arith, nat_tests)

byte_line : (n b : ℕ) → b < 256 → line_of n (32 ∷ 32 ∷ codes ".BYTE" ++ operands_text (decimal b ∷ [])) ≡ Says (Code (Items n None (OneByte b ∷ []))) NoFlaw
byte_line n b h =
    let o : AllByRecursion IsOperand (decimal b ∷ []) = (of_word (decimal b) (decimal_word b (omega (arith, h))), tt) in
    let again = operands_shown (decimal b ∷ []) o in
    let read = byte_shown b h in
    spoken_item n (codes ".BYTE") (decimal b ∷ []) OfBytes (Code (Items n None (OneByte b ∷ [])))
    (record { some = refl; plain = refl; unmarked = refl }) bytes_word o (rw (again, read) refl)

-- The line of an item is read again.
pub item_line : (n at : ℕ) (item : Item ℕ) → IsItem at item → IsWritableItem item
    → line_of n (32 ∷ 32 ∷ shown_item item) ≡ Says (Code (Items n None (labelled_item item ∷ []))) NoFlaw
unfolding shown_item
item_line n at (Plain i named) h w = plain_line n i named h
item_line n at (Jump op target) h w = jump_line n op target h.0 h.1 w
item_line n at (Case low high otherwise places) h w = case_line n at low high otherwise places h w.0 w.1
item_line n at (OneByte b) h w = byte_line n b h

-- If the words `ws` are read as the statement `s`, then the line with the directive `front` and `ws` is read as `s`.
directive_line : (n : ℕ) (front : List ℕ) (ws : List (List ℕ)) (keyword : Keyword) (s : Statement) → IsFront front → keyword_of front ≡ Some keyword
    → AllByRecursion IsWord ws → said n keyword (words_text ws) ≡ Some (s, NoFlaw)
    → line_of n (front ++ words_text ws) ≡ Says s NoFlaw
directive_line n front ws keyword s f k o e = spoken_line n front (words_text ws) f (words_rest ws o) ∙ ap (spoken n (words_text ws)) k ∙ ap (saying _) e

pub exit_line : (n : ℕ) → line_of n (codes ".EXIT") ≡ Says (Code Exit) NoFlaw
exit_line n = directive_line n (codes ".EXIT") [] OfExit (Code Exit) (record { some = refl; plain = refl; unmarked = refl }) exit_word tt refl

pub end_line : (n : ℕ) → line_of n (codes ".END") ≡ Says End NoFlaw
end_line n = directive_line n (codes ".END") [] OfEnd End (record { some = refl; plain = refl; unmarked = refl }) end_word tt refl

pub jump_entry_line : (n place : ℕ) → place < 100000 → line_of n (entry_line place) ≡ Says (Entry n (label_text place)) NoFlaw
jump_entry_line n place h =
    let w : AllByRecursion IsWord (label_text place ∷ []) = (label_word place (omega arith), tt) in
    let again = words_shown (label_text place ∷ []) w in
    let name = label_name place h in
    directive_line n (codes ".JUMP") (label_text place ∷ []) OfJump (Entry n (label_text place))
    (record { some = refl; plain = refl; unmarked = refl }) jump_word w (rw again (rw name refl))

pub begin_line : (n number level parameters locals : ℕ) → number < 256 → level < 256 → parameters < 65536 → parameters % 2 ≡ 0 → locals < 65536 → locals % 2 ≡ 0
    → line_of n (codes ".PROC" ++ words_text (decimal number ∷ level_text level ∷ decimal parameters ∷ decimal locals ∷ []))
    ≡ Says (Begin number level parameters locals) NoFlaw
begin_line n number level parameters locals hn hl hp ep hs es =
    let ws : List (List ℕ) = decimal number ∷ level_text level ∷ decimal parameters ∷ decimal locals ∷ [] in
    let w : AllByRecursion IsWord ws = (
      decimal_word number (omega arith),
      (level_word level hl, (decimal_word parameters (omega arith), (decimal_word locals (omega arith), tt))),
    ) in
    let again : words (words_text ws) ≡ ws = words_shown ws w in
    let a = byte_shown number hn in
    let b = level_shown level hl in
    let c = size_shown parameters hp ep in
    let d = size_shown locals hs es in
    directive_line n (codes ".PROC") ws OfProcedure (Begin number level parameters locals)
    (record { some = refl; plain = refl; unmarked = refl }) procedure_word w (rw again (rw (a, b, c, d) refl))

-- The line of a label is read again as this label.
pub label_line : (n place : ℕ) → place < 100000 → line_of n (label_text place ++ 58 ∷ []) ≡ Says (Code (Items n (Some (label_text place)) [])) NoFlaw
unfolding cut
label_line n place h =
    let label : List ℕ = label_text place in
    let w : List ℕ = label ++ 58 ∷ [] in
    let l : IsWord label = label_word place (omega arith) in
    let plain : list_all is_name_character w ≡ true = list_all-append is_name_character label (58 ∷ []) ∙ and_turned _ _ l.plain refl in
    let c : IsCut (w ++ []) w [] = cut_behind w [] refl plain (record { behind = refl; characters = refl; whole = refl }) in
    let marked : label_of w ≡ Some label = ap label_before (reverse-append label (58 ∷ [])) ∙ ap Some (reverse-reverse label) in
    let name = label_name place h in
    ap (line_of n) (sym (append_nil w)) ∙ by_cut n (w ++ []) w [] c ∙ rw marked (rw name refl)

segment_name_word : (name : List ℕ) → is_segment_name name ≡ true → IsWord name
segment_name_word [] h = absurd (cc)
segment_name_word (c ∷ name) h =
    record { some = refl; plain = last (nat_le 1 (length (c ∷ name))) (nat_le (length (c ∷ name)) 8) (list_all is_name_character (c ∷ name)) h }
  where
    last : (a b c : Bool) → (a && b && c) ≡ true → c ≡ true
    last true true c e = e
    last true false c e = absurd (cc)
    last false b c e = absurd (cc)

pub segment_line_again : (n k : ℕ) (name : List ℕ) → k < 16 → is_segment_name name ≡ true
    → line_of n (codes ".SEG" ++ words_text (decimal k ∷ name ∷ [])) ≡ Says (Segment k name) NoFlaw
segment_line_again n k name h s =
    let ws : List (List ℕ) = decimal k ∷ name ∷ [] in
    let w : AllByRecursion IsWord ws = (decimal_word k (omega arith), (segment_name_word name s, tt)) in
    let again : words (words_text ws) ≡ ws = words_shown ws w in
    let read = slot_shown k h in
    directive_line n (codes ".SEG") ws OfSegment (Segment k name) (record { some = refl; plain = refl; unmarked = refl }) segment_word w
    (rw again (rw (s, read) refl))
