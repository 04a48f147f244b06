-- The text of each broken rule, without the line feed.
use Rattle.std.specs.Prelude.{ℕ, List, ◌∷◌, ◌++◌, codes}
use Rattle.std.specs.Fmt.{decimal}
use Rattle.pm_check.specs.declared.finding.Finding.{Finding}
use Rattle.pm_check.specs.declared.finding.Finding.TheVariants as findings
use Rattle.pm_check.specs.declared.finding.SlotFinding.{SlotFinding}
use Rattle.pm_check.specs.declared.finding.SlotFinding.TheVariants as slots

abbrev pub slot_text : SlotFinding → List ℕ
slot_text (slots.Name length) = codes "name has " ++ (decimal length ++ codes " characters, not 1 to 15")
slot_text (slots.First first begin) = codes "first block " ++ (decimal first ++ (codes " is below " ++ decimal begin))
slot_text (slots.End end first) =
    codes "end " ++ (decimal end ++ (codes " is below the first block " ++ decimal first))
slot_text (slots.PastVolume end blocks) = codes "end " ++ (decimal end ++ (codes " is above " ++ decimal blocks))
slot_text (slots.LastBytes bytes) = codes "last block has " ++ (decimal bytes ++ codes " bytes, not 1 to 512")
slot_text (slots.Order first end) =
    codes "first block " ++ (decimal first ++ (codes " is below " ++ (decimal end
    ++ codes ", the end of the slot before")))

abbrev pub finding_text : Finding → List ℕ
finding_text (findings.NotBlocks bytes) = codes "length " ++ (decimal bytes ++ codes " is no multiple of 512")
finding_text (findings.TooShort bytes) = codes "length " ++ (decimal bytes ++ codes " is below 3072")
finding_text (findings.VolumeName length) =
    codes "header name has " ++ (decimal length ++ codes " characters, not 1 to 7")
finding_text (findings.FilesBegin begin) =
    codes "header files begin at " ++ (decimal begin ++ codes ", not 6 or 10")
finding_text (findings.FewBlocks blocks begin) =
    codes "header blocks " ++ (decimal blocks ++ (codes " are below " ++ (decimal begin
    ++ codes ", where files begin")))
finding_text (findings.PastImage blocks image) =
    codes "header blocks " ++ (decimal blocks ++ (codes " are above " ++ (decimal image
    ++ codes ", those of the image")))
finding_text (findings.ManyFiles files) = codes "header files " ++ (decimal files ++ codes " are above 77")
finding_text (findings.Slot slot finding) = codes "slot " ++ (decimal slot ++ (32 ∷ slot_text finding))
