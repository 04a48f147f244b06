use Rattle.law_text.proofs.disasm.listing_is_of_the_file.Goals as goal
use Rattle.law_text.proofs.OwnListing.{listing_is_programmed}
use Rattle.pm_disasm.proofs.Stores.{lines_are_stored}

pub returns-clause-stored : goal.returns-clause-stored
returns-clause-stored c = lines_are_stored

pub returns-clause-programmed : goal.returns-clause-programmed
returns-clause-programmed c = listing_is_programmed
