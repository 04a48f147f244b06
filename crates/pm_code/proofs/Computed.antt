-- The worked example, computed.
use Rattle.std.proofs.Common.{refl}
use Rattle.std.specs.Fmt.{digits}
use Rattle.pm_opcode.specs.Table.{form_of, groups, implied, mnemonic_of}
use Rattle.pm_code.specs.Image.{listing}
use Rattle.pm_code.specs.Shown.{padded, shown_item}
use Rattle.pm_code.specs.Text.{item_text}
use Rattle.pm_code.specs.Worked.{WorkedListing}

pub worked_listing : WorkedListing
unfolding listing digits padded shown_item item_text mnemonic_of form_of groups implied
worked_listing = record { lines = refl }
