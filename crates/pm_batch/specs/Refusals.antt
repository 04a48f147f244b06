-- The refusals of an input, with their numbers and texts.
use Rattle.std.specs.Prelude.{ℕ, Bool, true, false, List, [], ◌∷◌, ◌++◌, Option, None, Some, codes}
use Rattle.std.specs.Fmt.{decimal}
use Rattle.pm_words.specs.Errors.{number_of}
use Rattle.pm_machine.specs.Faults.{boot_number}
use Rattle.pm_machine.specs.declared.state.BootFault.{BootFault}
use Rattle.pm_machine.specs.declared.state.BootFault.TheVariants as boot
use Rattle.pm_volume.specs.Faults.{detail_of, number_of as volume_number}
use Rattle.pm_volume.specs.declared.fault.VolumeFault.{VolumeFault}
use Rattle.pm_volume.specs.declared.fault.VolumeFault.TheVariants as volume
use Rattle.pm_textfile.specs.Faults.{place_of_text_fault, number_of as text_number}
use Rattle.pm_textfile.specs.declared.fault.TextFault.{TextFault}
use Rattle.pm_textfile.specs.declared.fault.TextFault.TheVariants as texts
use Rattle.pm_codefile.specs.Faults.{slot_of_fault, number_of as code_number}
use Rattle.pm_codefile.specs.declared.fault.CodeFault.{CodeFault}
use Rattle.pm_source.specs.FaultNumbers.{number_of as asm_number, place_of as asm_place}
use Rattle.pm_source.specs.declared.fault.AsmFault.{AsmFault}
use Rattle.pm_source.specs.declared.fault.AsmFault.TheVariants as asm
use Rattle.pm_filer.specs.declared.fault.FilerFault.{FilerFault}
use Rattle.pm_filer.specs.declared.fault.FilerFault.TheVariants as filer
use Rattle.pm_filer.specs.declared.system_fault.SystemFault.{SystemFault}
use Rattle.pm_filer.specs.declared.system_fault.SystemFault.TheVariants as system
use Rattle.pm_batch.specs.declared.refusal.Refusal.{Refusal}
use Rattle.pm_batch.specs.declared.refusal.Refusal.TheVariants as refusals

-- Returns a space and the number of the execution error if a start fails with an execution error. Otherwise returns no
-- text.
abbrev pub error_text : BootFault → List ℕ
error_text boot.NoFile = []
error_text boot.NotCode = []
error_text boot.BadCode = []
error_text (boot.Exec error) = 32 ∷ decimal (number_of error)
error_text boot.NoMemory = []

-- Returns a space and `entry`, or no text for None. `entry` is the number that a fault names: an entry of the
-- directory, the fault of the first copy, a slot, a line or a position.
abbrev pub entry_text : Option ℕ → List ℕ
entry_text None = []
entry_text (Some entry) = 32 ∷ decimal entry

-- Returns the number of a fault of a start. If the fault is an execution error, the number of the error follows.
abbrev pub boot_text : BootFault → List ℕ
boot_text fault = decimal (boot_number fault) ++ error_text fault

-- Returns the number of a fault of a volume. If the fault names an entry or the fault of the first copy, this number
-- follows.
abbrev pub volume_text : VolumeFault → List ℕ
volume_text fault = decimal (volume_number fault) ++ entry_text (detail_of fault)

-- Returns the number of a fault of a text. If the fault names a line or a position, it follows.
abbrev pub text_fault_text : TextFault → List ℕ
text_fault_text fault = decimal (text_number fault) ++ entry_text (place_of_text_fault fault)

-- Returns the number of a fault of a volume command. If the fault contains another fault, the number of that fault
-- follows.
abbrev pub filer_text : FilerFault → List ℕ
filer_text (filer.Volume fault) = 49 ∷ 32 ∷ volume_text fault
filer_text (filer.Text fault) = 50 ∷ 32 ∷ text_fault_text fault
filer_text filer.BadDate = 51 ∷ []
filer_text filer.NoMemory = 52 ∷ []

-- Returns the number of a fault of a code file. If the fault names a slot, it follows.
abbrev pub code_text : CodeFault → List ℕ
code_text fault = decimal (code_number fault) ++ entry_text (slot_of_fault fault)

-- Returns the number of a fault of an assembler source text. If the fault names a line or a segment, it follows.
abbrev pub asm_text : AsmFault → List ℕ
asm_text fault = decimal (asm_number fault) ++ entry_text (asm_place fault)

-- Returns the number of a fault of the system segment. If the fault contains another fault, the number of that fault
-- follows.
abbrev pub system_text : SystemFault → List ℕ
system_text (system.NoCode fault) = 49 ∷ 32 ∷ code_text fault
system_text system.NoSegment = 50 ∷ []
system_text (system.NoProgram fault) = 51 ∷ 32 ∷ code_text fault
system_text system.Taken = 52 ∷ []
system_text (system.Volume fault) = 53 ∷ 32 ∷ volume_text fault
system_text system.NoMemory = 54 ∷ []

abbrev pub refusal_text : Refusal → List ℕ
refusal_text refusals.Hex = codes "refused hex 1"
refusal_text (refusals.Volume fault) = codes "refused volume " ++ volume_text fault
refusal_text (refusals.Code fault) = codes "refused code " ++ code_text fault
refusal_text (refusals.Asm fault) = codes "refused asm " ++ asm_text fault
refusal_text (refusals.System fault) = codes "refused system " ++ system_text fault
refusal_text (refusals.Filer fault) = codes "refused filer " ++ filer_text fault
refusal_text (refusals.Boot fault) = codes "refused boot " ++ boot_text fault

-- Is true if the fault means out of memory. Out of memory is not reported as a refusal.
abbrev pub is_boot_want : BootFault → Bool
is_boot_want boot.NoFile = false
is_boot_want boot.NotCode = false
is_boot_want boot.BadCode = false
is_boot_want (boot.Exec error) = false
is_boot_want boot.NoMemory = true

abbrev pub is_volume_want : VolumeFault → Bool
is_volume_want volume.NotBlocks = false
is_volume_want volume.TooShort = false
is_volume_want volume.BadHeader = false
is_volume_want (volume.BadEntry x) = false
is_volume_want volume.TooManyFiles = false
is_volume_want volume.PastEnd = false
is_volume_want volume.NoRoom = false
is_volume_want volume.DirectoryFull = false
is_volume_want volume.Duplicate = false
is_volume_want volume.BadName = false
is_volume_want volume.NoFile = false
is_volume_want volume.NoMemory = true
is_volume_want (volume.FirstCopyBad x) = false
is_volume_want volume.Occupied = false

abbrev pub is_text_want : TextFault → Bool
is_text_want texts.NoHeader = false
is_text_want texts.NoMemory = true
is_text_want (texts.LineTooLong x) = false
is_text_want (texts.BadByte x) = false

abbrev pub is_filer_want : FilerFault → Bool
is_filer_want (filer.Volume fault) = is_volume_want fault
is_filer_want (filer.Text fault) = is_text_want fault
is_filer_want filer.BadDate = false
is_filer_want filer.NoMemory = true

abbrev pub is_asm_want : AsmFault → Bool
is_asm_want (asm.Syntax x) = false
is_asm_want (asm.Unknown x) = false
is_asm_want (asm.Range x) = false
is_asm_want (asm.NoLabel x) = false
is_asm_want (asm.Twice x) = false
is_asm_want (asm.Far x) = false
is_asm_want (asm.TooLong x) = false
is_asm_want asm.NoMemory = true

abbrev pub is_system_want : SystemFault → Bool
is_system_want (system.NoCode x) = false
is_system_want system.NoSegment = false
is_system_want (system.NoProgram x) = false
is_system_want system.Taken = false
is_system_want (system.Volume fault) = is_volume_want fault
is_system_want system.NoMemory = true

abbrev pub is_want : Refusal → Bool
is_want refusals.Hex = false
is_want (refusals.Volume fault) = is_volume_want fault
is_want (refusals.Code fault) = false
is_want (refusals.Asm fault) = is_asm_want fault
is_want (refusals.System fault) = is_system_want fault
is_want (refusals.Filer fault) = is_filer_want fault
is_want (refusals.Boot fault) = is_boot_want fault
