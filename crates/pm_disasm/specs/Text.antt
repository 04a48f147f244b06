-- The text of an address in memory.
use Rattle.std.specs.Prelude.{ℕ, List, ◌++◌, codes, slice_index, Result, Ok, Err}
use Rattle.std.specs.Fmt.{decimal}
use Rattle.pm_opcode.specs.declared.instr.Instr.{Instr}
use Rattle.pm_opcode.specs.declared.instr.Decode.{Decode}
use Rattle.pm_opcode.specs.Spelling.{named_by}
use Rattle.pm_opcode.specs.Reading.{reading}
use Rattle.pm_words.specs.Words.{bytes_of}
use Rattle.pm_code.specs.Text.{item_text}

-- The text of a byte that is not part of an instruction.
abbrev pub byte_text : ℕ → List ℕ
byte_text byte = codes ".BYTE " ++ decimal byte

-- The text of offset `at` from its decoded instruction, or the text of the byte if no instruction was decoded.
abbrev pub shown : Result Instr Decode → List ℕ → ℕ → List ℕ
shown (Ok i) bytes at = item_text i (named_by i bytes)
shown (Err fault) bytes at = byte_text (slice_index bytes at)

-- The text of offset `at` of `bytes`: the instruction that begins there, or the byte.
unfoldable pub text_at : List ℕ → ℕ → List ℕ
text_at bytes at = shown (reading bytes at) bytes at

-- The text of an address in memory.
unfoldable pub line_text : List ℕ → ℕ → List ℕ
line_text words address = text_at (bytes_of words) address
