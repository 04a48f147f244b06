-- The pieces of a text, joined in order, are the text.
use Rattle.std.proofs.Common.{◌≡◌, ℕ, zero, suc, ◌+◌, ◌==◌, Bool, true, false, List, [], ◌∷◌, ◌++◌, Option, Some, None, if◌then◌else◌}
use Rattle.std.proofs.Common.{refl, sym, ap, ◌∙◌, append_assoc, append-nil}
use Rattle.pm_codefile.specs.declared.table.Attributes.{Attributes}
use Rattle.pm_codefile.specs.Dictionary.{segment_in, slot_in}
use Rattle.pm_codefile.specs.Segments.{attributes_in, procedures_in}
use Rattle.pm_code.specs.Image.{listed_line}
use Rattle.pm_code.specs.Laws.{name_of}
use Rattle.pm_code.specs.Shown.{joined, segment_line}
use Rattle.pm_disasm.specs.Listing.{file_listing, slot_listing, slots_listing, stored_dictionary, table_listing_or, tables_listing}
use Rattle.pm_disasm.specs.Shown.{file_text, procedure_text, shown_name, slot_head, slot_lines, slots_lines, table_lines_or, tables_lines}
use Rattle.pm_notes.specs.Lines.{named_from, named_line, with_names}
use Rattle.pm_notes.specs.Marks.{is_native, note_on, slot_said}
use Rattle.pm_notes.specs.Names.{name_called, standard_called, system_called}
use Rattle.pm_writing.specs.declared.form.Form.{Form}
use Rattle.pm_writing.specs.declared.form.Form.TheVariants as forms
use Rattle.pm_writing.specs.Pieces.{form_text, number_piece, pieces, slot_piece, slots_pieces}

joined_append : (xs ys : List (List ℕ)) → joined (xs ++ ys) ≡ joined xs ++ joined ys
joined_append [] ys = refl
joined_append (x ∷ xs) ys = ap (λ t. x ++ (10 ∷ t)) (joined_append xs ys) ∙ sym (append_assoc x (10 ∷ joined xs) (joined ys))

-- ---- the text

number_text : (file : List ℕ) (slot : ℕ) (segment : List ℕ) (p : ℕ) (a : Option Attributes)
    → number_piece forms.Text file slot segment p a ≡ joined (table_lines_or segment p a)
unfolding procedure_text
number_text file slot segment p None = refl
number_text file slot segment p (Some a) = refl

numbers_text : (file : List ℕ) (slot : ℕ) (segment : List ℕ) (p count : ℕ)
    → pieces forms.Text file slot segment p count ≡ joined (tables_lines segment p count)
numbers_text file slot segment p zero = refl
numbers_text file slot segment p (suc count) =
    ap (λ t. t ++ pieces forms.Text file slot segment (p + 1) count) (number_text file slot segment p (attributes_in segment p))
    ∙ ap (λ t. joined (table_lines_or segment p (attributes_in segment p)) ++ t) (numbers_text file slot segment (p + 1) count)
    ∙ sym (joined_append (table_lines_or segment p (attributes_in segment p)) (tables_lines segment (p + 1) count))

slot_text : (file : List ℕ) (n : ℕ) (found : Option (List ℕ)) → segment_in file n ≡ found
    → slot_piece forms.Text file n found ≡ joined (slot_lines n (name_of (slot_in file n)) found)
slot_text file n None is = refl
slot_text file n (Some segment) is =
    let name : List ℕ = name_of (slot_in file n) in
    let line : List ℕ = segment_line n (shown_name name) in
    let numbers : List ℕ = pieces forms.Text file n segment 1 (procedures_in segment) in
    ap (λ s. slot_head n name s ++ (numbers ++ [])) is
    ∙ append_assoc line (10 ∷ []) (numbers ++ [])
    ∙ ap (λ t. line ++ (10 ∷ t)) (append-nil numbers ∙ numbers_text file n segment 1 (procedures_in segment))

slots_text : (file : List ℕ) (n count : ℕ) → slots_pieces forms.Text file n count ≡ joined (slots_lines file n count)
slots_text file n zero = refl
slots_text file n (suc count) =
    let lines : List (List ℕ) = slot_lines n (name_of (slot_in file n)) (segment_in file n) in
    ap (λ t. t ++ slots_pieces forms.Text file (n + 1) count) (slot_text file n (segment_in file n) refl)
    ∙ ap (λ t. joined lines ++ t) (slots_text file (n + 1) count)
    ∙ sym (joined_append lines (slots_lines file (n + 1) count))

-- ---- the listing

number_listed : (file : List ℕ) (slot : ℕ) (segment : List ℕ) (p : ℕ) (a : Option Attributes)
    → number_piece forms.Listing file slot segment p a ≡ table_listing_or slot segment p a
number_listed file slot segment p None = refl
number_listed file slot segment p (Some a) = refl

numbers_listed : (file : List ℕ) (slot : ℕ) (segment : List ℕ) (p count : ℕ)
    → pieces forms.Listing file slot segment p count ≡ tables_listing slot segment p count
numbers_listed file slot segment p zero = refl
numbers_listed file slot segment p (suc count) =
    ap (λ t. t ++ pieces forms.Listing file slot segment (p + 1) count) (number_listed file slot segment p (attributes_in segment p))
    ∙ ap (λ t. table_listing_or slot segment p (attributes_in segment p) ++ t) (numbers_listed file slot segment (p + 1) count)

slot_listed : (file : List ℕ) (n : ℕ) (found : Option (List ℕ)) → slot_piece forms.Listing file n found ≡ slot_listing n found
slot_listed file n None = refl
slot_listed file n (Some segment) =
    ap (λ t. t ++ listed_line n (stored_dictionary segment)) (numbers_listed file n segment 1 (procedures_in segment))

slots_listed : (file : List ℕ) (n count : ℕ) → slots_pieces forms.Listing file n count ≡ slots_listing file n count
slots_listed file n zero = refl
slots_listed file n (suc count) =
    ap (λ t. t ++ slots_pieces forms.Listing file (n + 1) count) (slot_listed file n (segment_in file n))
    ∙ ap (λ t. slot_listing n (segment_in file n) ++ t) (slots_listed file (n + 1) count)

-- ---- notes: the notes of two joined texts, of which the first ends with a line feed, are the notes of each

empty_line : (file : List ℕ) → named_line file [] ≡ []
unfolding named_line note_on name_called standard_called system_called is_native slot_said
empty_line file = refl

empty_text : (file : List ℕ) → with_names file [] ≡ []
unfolding with_names named_from
empty_text file = empty_line file

split : (file line text rest : List ℕ)
    → named_from file line (text ++ 10 ∷ rest) ≡ named_from file line (text ++ 10 ∷ []) ++ named_from file [] rest
unfolding named_from
split file line [] rest =
    sym (ap (λ e. (named_line file line ++ 10 ∷ e) ++ named_from file [] rest) (empty_line file)
    ∙ append_assoc (named_line file line) (10 ∷ []) (named_from file [] rest))
split file line (c ∷ cs) rest = step (c == 10) (split file [] cs rest) (split file (line ++ c ∷ []) cs rest)
  where
    step : (ends : Bool)
        → named_from file [] (cs ++ 10 ∷ rest) ≡ named_from file [] (cs ++ 10 ∷ []) ++ named_from file [] rest
        → named_from file (line ++ c ∷ []) (cs ++ 10 ∷ rest) ≡ named_from file (line ++ c ∷ []) (cs ++ 10 ∷ []) ++ named_from file [] rest
        → (if ends then named_line file line ++ 10 ∷ named_from file [] (cs ++ 10 ∷ rest) else named_from file (line ++ c ∷ []) (cs ++ 10 ∷ rest))
        ≡ (if ends then named_line file line ++ 10 ∷ named_from file [] (cs ++ 10 ∷ []) else named_from file (line ++ c ∷ []) (cs ++ 10 ∷ []))
        ++ named_from file [] rest
    step true ended going =
        ap (λ t. named_line file line ++ 10 ∷ t) ended
        ∙ sym (append_assoc (named_line file line) (10 ∷ named_from file [] (cs ++ 10 ∷ [])) (named_from file [] rest))
    step false ended going = going

-- The notes of `joined lines ++ rest` are the notes of `joined lines`, followed by the notes of `rest`.
named_joined : (file : List ℕ) (lines : List (List ℕ)) (rest : List ℕ)
    → with_names file (joined lines ++ rest) ≡ with_names file (joined lines) ++ with_names file rest
unfolding with_names
named_joined file [] rest = sym (ap (λ e. e ++ with_names file rest) (empty_text file))
named_joined file (l ∷ ls) rest =
    ap (with_names file) (append_assoc l (10 ∷ joined ls) rest)
    ∙ split file [] l (joined ls ++ rest)
    ∙ ap (λ t. named_from file [] (l ++ 10 ∷ []) ++ t) (named_joined file ls rest)
    ∙ sym (append_assoc (named_from file [] (l ++ 10 ∷ [])) (with_names file (joined ls)) (with_names file rest))
    ∙ ap (λ t. t ++ with_names file rest) (sym (split file [] l (joined ls)))

named_both : (file : List ℕ) (xs ys : List (List ℕ))
    → with_names file (joined (xs ++ ys)) ≡ with_names file (joined xs) ++ with_names file (joined ys)
named_both file xs ys = ap (with_names file) (joined_append xs ys) ∙ named_joined file xs (joined ys)

number_named : (file : List ℕ) (slot : ℕ) (segment : List ℕ) (p : ℕ) (a : Option Attributes)
    → number_piece forms.Names file slot segment p a ≡ with_names file (joined (table_lines_or segment p a))
unfolding procedure_text
number_named file slot segment p None = refl
number_named file slot segment p (Some a) = refl

numbers_named : (file : List ℕ) (slot : ℕ) (segment : List ℕ) (p count : ℕ)
    → pieces forms.Names file slot segment p count ≡ with_names file (joined (tables_lines segment p count))
numbers_named file slot segment p zero = sym (empty_text file)
numbers_named file slot segment p (suc count) =
    ap (λ t. t ++ pieces forms.Names file slot segment (p + 1) count) (number_named file slot segment p (attributes_in segment p))
    ∙ ap (λ t. with_names file (joined (table_lines_or segment p (attributes_in segment p))) ++ t) (numbers_named file slot segment (p + 1) count)
    ∙ sym (named_both file (table_lines_or segment p (attributes_in segment p)) (tables_lines segment (p + 1) count))

slot_named : (file : List ℕ) (n : ℕ) (found : Option (List ℕ)) → segment_in file n ≡ found
    → slot_piece forms.Names file n found ≡ with_names file (joined (slot_lines n (name_of (slot_in file n)) found))
slot_named file n None is = sym (empty_text file)
slot_named file n (Some segment) is =
    let name : List ℕ = name_of (slot_in file n) in
    let line : List ℕ = segment_line n (shown_name name) in
    let numbers : List ℕ = pieces forms.Names file n segment 1 (procedures_in segment) in
    ap (λ s. with_names file (slot_head n name s) ++ (numbers ++ [])) is
    ∙ ap (λ t. with_names file (joined (line ∷ [])) ++ t) (append-nil numbers ∙ numbers_named file n segment 1 (procedures_in segment))
    ∙ sym (named_both file (line ∷ []) (tables_lines segment 1 (procedures_in segment)))

slots_named : (file : List ℕ) (n count : ℕ) → slots_pieces forms.Names file n count ≡ with_names file (joined (slots_lines file n count))
slots_named file n zero = sym (empty_text file)
slots_named file n (suc count) =
    let lines : List (List ℕ) = slot_lines n (name_of (slot_in file n)) (segment_in file n) in
    ap (λ t. t ++ slots_pieces forms.Names file (n + 1) count) (slot_named file n (segment_in file n) refl)
    ∙ ap (λ t. with_names file (joined lines) ++ t) (slots_named file (n + 1) count)
    ∙ sym (named_both file lines (slots_lines file (n + 1) count))

pub pieces_are_text : (form : Form) (file : List ℕ) → slots_pieces form file 0 16 ≡ form_text form file
unfolding file_text file_listing
pieces_are_text forms.Text file = slots_text file 0 16
pieces_are_text forms.Names file = slots_named file 0 16
pieces_are_text forms.Listing file = slots_listed file 0 16
