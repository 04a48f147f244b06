-- The job on an assembler source text.
use Rattle.std.specs.Prelude.{ℕ, Bool, List, [], ◌∷◌, ◌++◌, map, Option, Some, None, Result, Ok, Err}
use Rattle.std.specs.Prelude.{if◌then◌else◌, nat_le}
use Rattle.pm_asm.specs.Assembled.{assembled, wanted}
use Rattle.pm_asm.specs.Each.{all_faults}
use Rattle.pm_asm.specs.Symbols.{symbol_text}
use Rattle.pm_source.specs.declared.fault.AsmFault.{AsmFault}
use Rattle.pm_batch.specs.declared.refusal.Refusal.{Refusal}
use Rattle.pm_batch.specs.declared.refusal.Refusal.TheVariants as refusals
use Rattle.pm_batch.specs.Refusals.{refusal_text}
use Rattle.pm_batch.specs.Products.{Product, Judged, Written, Refused}

-- Returns the character of a byte. A byte above 127 is character 127, which is not valid in a source text.
abbrev pub character_of : ℕ → ℕ
character_of byte = if nat_le byte 127 then byte else 127

-- Returns the source text in `input`: one character for each byte.
unfoldable pub text_of_input : List ℕ → List ℕ
text_of_input input = map character_of input

-- The product with the bytes, or the refusal with the fault.
abbrev pub made_bytes : Result (List ℕ) AsmFault → Product
made_bytes (Ok bytes) = Written bytes
made_bytes (Err fault) = Refused (refusals.Asm fault)

-- The product of the job for the listing (`list` is true) or for the code file of the source text in `input`.
abbrev pub made_asm : Bool → List ℕ → Product
made_asm list input = made_bytes (wanted list (assembled (text_of_input input)))

-- The product of the job that lists the procedures and labels of the source text in `input`.
abbrev pub made_symbols : List ℕ → Product
made_symbols input = made_bytes (symbol_text (text_of_input input))

-- Returns the line for `fault`, with a line feed. It has the text that a refusal with this fault prints.
unfoldable pub fault_line : AsmFault → List ℕ
fault_line fault = refusal_text (refusals.Asm fault) ++ 10 ∷ []

abbrev pub fault_lines : List AsmFault → List ℕ
fault_lines [] = []
fault_lines (fault ∷ faults) = fault_line fault ++ fault_lines faults

-- Returns the refusal of a source text with these faults: the first of them. Returns None if the list is empty.
abbrev pub first_refusal : List AsmFault → Option Refusal
first_refusal [] = None
first_refusal (fault ∷ faults) = Some (refusals.Asm fault)

-- The product of the job for all faults: a line for each fault, and the refusal.
abbrev pub judged_faults : List AsmFault → Product
judged_faults faults = Judged (fault_lines faults) (first_refusal faults)

-- The product of the job that lists all faults of the source text in `input`.
abbrev pub made_faults : List ℕ → Product
made_faults input = judged_faults (all_faults (text_of_input input))
