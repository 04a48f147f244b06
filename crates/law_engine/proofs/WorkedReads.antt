-- The stretches that are read are computed.
use Rattle.std.proofs.Common.{refl}
use Rattle.pm_words.specs.Words.{byte_at, bytes_of, word_at}
use Rattle.pm_calls.specs.Links.{link, up}
use Rattle.pm_calls.specs.Tables.{attributes}
use Rattle.pm_machine.specs.ReadStretches.{frames_read, links_read}
use Rattle.law_engine.specs.WorkedReads.{WorkedReads}

pub worked_reads : WorkedReads
unfolding word_at byte_at bytes_of link up links_read frames_read attributes
worked_reads = record {
  loaded = λ s. refl;
  address = λ s. refl;
  put = λ s. refl;
  outer = λ s. refl;
  stored = refl;
  two_stored = refl;
  around = refl;
  three_loaded = refl;
  three_moved = refl;
  byte = refl;
  character = refl;
  characters = refl;
  indexed = refl;
  unpacked = refl;
  packed = refl;
  union = refl;
  case = λ r. refl;
  taken = λ r. refl;
  passed = λ r. refl;
  alike = λ r. refl;
  different = λ r. refl;
  returned = refl;
  base_returned = refl;
  table = refl;
  called = λ s. refl;
  left = λ s. refl;
  moved = refl;
  moved_up = refl;
  scanned = refl;
  scanned_up = refl;
  not_scanned = refl;
  scanned_low = refl;
  unit_written = refl;
}
