use Rattle.std.proofs.Common.{◌≡◌, ◌++◌, string_bytes, take}
use Rattle.std.specs.List.{flat_map}
use Rattle.pm_check.specs.Checked.{note_line}
use Rattle.pm_check.proofs.checked.push_notes.Given as goal

-- The lines of the notes so far have been appended to the text.
abbrev pub invariant-loop-note : goal.invariant-loop-note
invariant-loop-note l = string_bytes l.text ≡ string_bytes l.fn.text ++ flat_map note_line (take l.note-index l.notes)
