-- Facts about segments and procedures that the text of a code file does not state, such as that code is not p-code of
-- this machine.
use Rattle.std.specs.Prelude.{ℕ, Bool, not, List, [], ◌∷◌, ◌++◌, length, take, nat_le, ◌==◌, ◌&&◌, ◌||◌}
use Rattle.std.specs.Prelude.{if◌then◌else◌, codes, is_some, slice_index, Option, Some, None}
use Rattle.std.specs.Fmt.{decimal}
use Rattle.std.specs.List.{list_all}
use Rattle.std.specs.Map.{lookup}
use Rattle.std.specs.Option.{option_and_then, option_or}
use Rattle.std.specs.Str.{bytes_eq}
use Rattle.pm_codefile.specs.Dictionary.{segment_in, slot_in}
use Rattle.pm_codefile.specs.Segments.{◌>>=◌, demanded, less_or_none}
use Rattle.pm_notes.specs.Names.{behind, name_called, number_in}

-- The names of the kinds of slots, by their number, except the kind of a linked segment of a program.
unfoldable pub kind_names : List (ℕ × List ℕ)
kind_names =
    (1, codes "HOSTSEG, not linked") ∷
    (2, codes "SEGPROC") ∷
    (3, codes "UNITSEG, not linked") ∷
    (4, codes "SEPRTSEG, not linked") ∷
    (5, codes "UNLINKED_INTRINS, not linked") ∷
    (6, codes "LINKED_INTRINS") ∷
    (7, codes "DATASEG") ∷
    []

unfoldable pub kind_name : ℕ → Option (List ℕ)
kind_name n = lookup (λ m. m == n) kind_names

-- The name of the kind of slot `n`, or `None` if it has none.
unfoldable pub kind_told : List ℕ → ℕ → Option (List ℕ)
kind_told file n = slot_in file n >>= λ slot. kind_name slot.kind

-- The number in the low byte of the highest word of the segment in slot `n`, or `None` if this number is `n`.
unfoldable pub other_number : List ℕ → ℕ → Option ℕ
other_number file n = do
  segment ← segment_in file n
  at ← less_or_none (length segment) 2
  _ ← demanded (not (slice_index segment at == n))
  Some (slice_index segment at)

abbrev pub number_note : ℕ → List ℕ
number_note number = codes "number " ++ (decimal number ++ codes " in its highest word")

-- Two notes on a slot, joined to one note.
abbrev pub notes_joined : Option ℕ → Option (List ℕ) → Option (List ℕ)
notes_joined (Some number) (Some kind) = Some (number_note number ++ (codes ", " ++ kind))
notes_joined (Some number) None = Some (number_note number)
notes_joined None kind = kind

-- The note on slot `n` of the code file `file`, or `None`.
abbrev pub slot_note : List ℕ → ℕ → Option (List ℕ)
slot_note file n = notes_joined (other_number file n) (kind_told file n)

-- Whether `line` has only characters that an assembly text may contain, and no quote. Only then a comment can follow
-- it.
abbrev pub is_unquoted : List ℕ → Bool
is_unquoted line = list_all (λ c. nat_le 32 c && nat_le c 126 && not (c == 34)) line

-- The number that the one or two digits before the first space write, or `None`.
abbrev pub number_before_blank : List ℕ → Option ℕ
number_before_blank text =
    if slice_index text 1 == 32 then number_in (take 1 text)
    else if slice_index text 2 == 32 then number_in (take 2 text)
    else None

-- The number of the slot, if `line` is the line of a segment.
unfoldable pub slot_said : List ℕ → Option ℕ
slot_said line =
    behind (codes ".SEG ") line >>= λ text. if is_unquoted line then number_before_blank text else None

-- Whether `line` is the line of a procedure with number 0, which is native code.
unfoldable pub is_native : List ℕ → Bool
is_native line =
    bytes_eq line (codes "; procedure 0") || (is_some (behind (codes ".PROC 0 ") line) && is_unquoted line)

abbrev pub native_note : List ℕ → Option (List ℕ)
native_note line = if is_native line then Some (codes "native code") else None

-- The note on `line`: the name of the procedure that it calls, or that the procedure is native code, or the note on the
-- slot of its segment.
unfoldable pub note_on : List ℕ → List ℕ → Option (List ℕ)
note_on file line =
    option_or (name_called line) (option_or (native_note line) (option_and_then (slot_note file) (slot_said line)))
