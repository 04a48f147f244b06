-- The laws and the worked examples of comparisons, computed.
use Rattle.std.proofs.Common.{refl}
use Rattle.pm_filer.specs.Listing.{printable_name}
use Rattle.pm_volume.specs.Names.{characters_of}
use Rattle.pm_compare.specs.Worked.{WorkedVerdicts, WorkedLines, WorkedPairs}
use Rattle.pm_compare.proofs.Differences.{byte_law, kind_law, same_law}
use Rattle.pm_compare.proofs.Pairing.{counted, missing, no_difference, only_here, order, paired, with_itself}

pub worked_verdicts : WorkedVerdicts
worked_verdicts = record {
  same = same_law;
  kind = kind_law;
  byte = byte_law;
  longer = refl;
  shorter = refl;
  empty = refl;
  second = refl;
  other_kind = refl;
}

pub worked_pairs : WorkedPairs
worked_pairs = record {
  order = order;
  paired = paired;
  only_here = only_here;
  missing = missing;
  counted = counted;
  itself = with_itself;
  no_difference = no_difference;
}

pub worked_lines : WorkedLines
unfolding characters_of printable_name
worked_lines = record {
  only_here = refl;
  only_there = refl;
  same = refl;
  byte = refl;
  kind = refl;
  shown = refl;
  several = refl;
  different = refl;
}
