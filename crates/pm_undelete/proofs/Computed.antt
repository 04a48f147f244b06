-- The laws and the worked examples of removed files, computed.
use Rattle.std.proofs.Common.{refl}
use Rattle.pm_undelete.specs.Worked.{WorkedCandidates, WorkedFoundLines, WorkedFree, WorkedLooks}
use Rattle.pm_undelete.proofs.Areas.{complete, sound}
use Rattle.pm_undelete.proofs.FreeAreas.{in_areas}
use Rattle.pm_undelete.proofs.FreeBlocks.{each}
use Rattle.pm_undelete.proofs.Sizes.{bytes, free}

pub worked_candidates : WorkedCandidates
worked_candidates = record {
  sound = sound;
  complete = complete;
  free = free;
  code_first = refl;
  text = refl;
  neither = refl;
}

pub worked_free : WorkedFree
worked_free = record {
  areas = in_areas;
  each = each;
  bytes = bytes;
  before = refl;
  behind = refl;
  first_block = refl;
  last_block = refl;
  empty = refl;
}

pub worked_looks : WorkedLooks
worked_looks = record {
  one_byte = refl;
  whole_block = refl;
  next_block = refl;
  no_segment = refl;
  in_dictionary = refl;
  after_dictionary = refl;
  unused = refl;
  unprintable = refl;
  lowest = refl;
  below = refl;
  highest = refl;
  above = refl;
  feed = refl;
  tab = refl;
  no_page = refl;
  one_page = refl;
  two_pages = refl;
}

pub worked_found_lines : WorkedFoundLines
worked_found_lines = record {
  text = refl;
  code = refl;
  none = refl;
}
