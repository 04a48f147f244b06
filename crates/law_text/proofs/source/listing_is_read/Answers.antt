use Rattle.law_text.proofs.Denoting.{listing_denotes_segments, listing_is_read}
use Rattle.law_text.proofs.source.listing_is_read.Goals as goal

pub returns-clause-law : goal.returns-clause-law
returns-clause-law c = listing_is_read

pub returns-clause-segments : goal.returns-clause-segments
returns-clause-segments c = listing_denotes_segments
