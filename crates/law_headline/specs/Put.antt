-- The law of an assembled code file that is put on a volume and booted.
use Rattle.std.specs.Prelude.{◌≡◌, ℕ, List, Option, Some, Ok}
use Rattle.pm_asm.specs.Assembled.{assembled}
use Rattle.pm_code.specs.Program.{Segment, segment_numbered}
use Rattle.pm_filer.specs.Filed.{Filed, Put, filed}
use Rattle.pm_filer.specs.Laws.{IsVolumeOfBytes}
use Rattle.pm_machine.specs.Boot.{boot_start, code_file, image_of}
use Rattle.pm_machine.specs.State.{State}
use Rattle.pm_source.specs.Meaning.{Spells}
use Rattle.pm_volume.specs.declared.entry.Entry.{Entry}
use Rattle.pm_words.specs.declared.layout.TheConstants.{SYSTEM_FRAME}
use Rattle.law_engine.specs.Loads.{IsImage}
use Rattle.law_jobs.specs.Loaded.{StandsAsListed}

-- If a text has a segment 1, and its code file is put under a name with kind 2, then a boot of this name from the new
-- volume finds the code file.
abbrev pub PutProgramIsFound : Type 0
PutProgramIsFound =
    (text shown file : List ℕ) (program : List Segment) (segment : Segment) (image name : List ℕ) (f : Filed)
    (images : List (Option (List ℕ))) (unit : ℕ) →
    assembled text ≡ Ok (file, shown) → Spells text program → segment_numbered 1 program ≡ Some segment →
    IsVolumeOfBytes image → filed image (Put name 2 file) ≡ Ok f → image_of images unit ≡ Some f.image →
    (entry : Entry) × (code_file images unit name ≡ Ok (entry, file))

-- If the code file of a text is put under a name with kind 2, and a machine is booted by this name from the new volume,
-- then segment 1 is in memory as the listing of the text states it, directly below 65,492.
abbrev pub PutProgramIsBooted : Type 0
PutProgramIsBooted =
    (text shown file image name : List ℕ) (f : Filed) (images : List (Option (List ℕ))) (unit clock : ℕ) (s : State) →
    assembled text ≡ Ok (file, shown) → IsVolumeOfBytes image → filed image (Put name 2 file) ≡ Ok f →
    IsImage f.image → image_of images unit ≡ Some f.image → boot_start images unit name clock ≡ Ok s →
    StandsAsListed text shown 1 SYSTEM_FRAME s.memory
