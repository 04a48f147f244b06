-- The pieces of the texts of a code file. A piece is the text of one procedure, or the text before or after the
-- procedures of a segment.
use Rattle.std.specs.Prelude.{ℕ, zero, suc, ◌+◌, List, [], ◌++◌, Option, Some, None}
use Rattle.pm_codefile.specs.declared.table.Attributes.{Attributes}
use Rattle.pm_codefile.specs.Dictionary.{segment_in, slot_in}
use Rattle.pm_codefile.specs.Segments.{attributes_in, procedures_in}
use Rattle.pm_code.specs.Image.{listed_line}
use Rattle.pm_code.specs.Laws.{name_of}
use Rattle.pm_code.specs.Shown.{joined}
use Rattle.pm_disasm.specs.Listing.{file_listing, stored_dictionary, table_listing}
use Rattle.pm_disasm.specs.Shown.{file_text, missing_line, procedure_text, slot_head}
use Rattle.pm_notes.specs.Lines.{with_names}
use Rattle.pm_writing.specs.declared.form.Form.{Form}
use Rattle.pm_writing.specs.declared.form.Form.TheVariants as forms

-- The piece `text` in the given form. If the form is `Names`, notes are added to its lines.
abbrev pub told : Form → List ℕ → List ℕ → List ℕ
told forms.Text file text = text
told forms.Names file text = with_names file text
told forms.Listing file text = text

-- The text of the procedure that has the attribute table `a`, without notes.
abbrev pub raw_table : Form → ℕ → List ℕ → Attributes → List ℕ
raw_table forms.Text slot segment a = procedure_text segment a
raw_table forms.Names slot segment a = procedure_text segment a
raw_table forms.Listing slot segment a = table_listing slot segment a

abbrev pub table_piece : Form → List ℕ → ℕ → List ℕ → Attributes → List ℕ
table_piece form file slot segment a = told form file (raw_table form slot segment a)

-- The piece of the procedure with the number `number`, which has no attribute table.
abbrev pub missing_piece : Form → List ℕ → ℕ → List ℕ
missing_piece form file number = told form file (joined (missing_line number))

-- The piece of the procedure with the number `p` of `segment`: that of its attribute table, or that of a missing
-- procedure.
abbrev pub number_piece : Form → List ℕ → ℕ → List ℕ → ℕ → Option Attributes → List ℕ
number_piece form file slot segment p None = missing_piece form file p
number_piece form file slot segment p (Some a) = table_piece form file slot segment a

-- The pieces of `count` procedures of `segment`, from number `p` on.
abbrev pub pieces : Form → List ℕ → ℕ → List ℕ → ℕ → ℕ → List ℕ
pieces form file slot segment p zero = []
pieces form file slot segment p (suc count) =
    number_piece form file slot segment p (attributes_in segment p) ++ pieces form file slot segment (p + 1) count

-- The text before the procedures of the segment in slot `n`, without notes.
abbrev pub raw_head : Form → List ℕ → ℕ → List ℕ
raw_head forms.Text file n = slot_head n (name_of (slot_in file n)) (segment_in file n)
raw_head forms.Names file n = slot_head n (name_of (slot_in file n)) (segment_in file n)
raw_head forms.Listing file n = []

abbrev pub head_piece : Form → List ℕ → ℕ → List ℕ
head_piece form file n = told form file (raw_head form file n)

-- The piece after the procedures of `segment` in slot `n`: the line of the dictionary in a listing, else empty.
abbrev pub foot_piece : Form → ℕ → List ℕ → List ℕ
foot_piece forms.Text n segment = []
foot_piece forms.Names n segment = []
foot_piece forms.Listing n segment = listed_line n (stored_dictionary segment)

-- The pieces of slot `n`, joined. The result is empty if the slot has no segment.
abbrev pub slot_piece : Form → List ℕ → ℕ → Option (List ℕ) → List ℕ
slot_piece form file n None = []
slot_piece form file n (Some segment) = head_piece form file n
    ++ (pieces form file n segment 1 (procedures_in segment) ++ foot_piece form n segment)

-- The pieces of `count` slots of `file`, from slot `n` on, joined.
abbrev pub slots_pieces : Form → List ℕ → ℕ → ℕ → List ℕ
slots_pieces form file n zero = []
slots_pieces form file n (suc count) =
    slot_piece form file n (segment_in file n) ++ slots_pieces form file (n + 1) count

-- The whole text of `file` in the given form.
abbrev pub form_text : Form → List ℕ → List ℕ
form_text forms.Text file = file_text file
form_text forms.Names file = with_names file (file_text file)
form_text forms.Listing file = file_listing file
