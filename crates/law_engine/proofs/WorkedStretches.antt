-- The stretches are computed.
use Rattle.std.proofs.Common.{refl}
use Rattle.pm_words.specs.Words.{byte_at, bytes_of, word_at}
use Rattle.pm_calls.specs.Exits.{frame_up}
use Rattle.pm_calls.specs.Tables.{attributes}
use Rattle.pm_machine.specs.Written.{ips_written}
use Rattle.law_engine.specs.WorkedStretches.{WorkedFrames, WorkedProcedures, WorkedRows, WorkedStretches, WorkedTouches}

worked_touches : WorkedTouches
worked_touches = record {
  first = refl;
  last = refl;
  under = refl;
  over = refl;
  none = refl;
  of_none = refl;
}

worked_rows : WorkedRows
unfolding word_at byte_at bytes_of
worked_rows = record {
  added = refl;
  constant = refl;
  without_room = refl;
  two_bytes = refl;
  variable = refl;
  stored = refl;
  two_stored = refl;
  three_loaded = refl;
  three_moved = refl;
  packed = refl;
  unpacked = refl;
  byte = refl;
  field = refl;
  character = refl;
  characters = refl;
  indexed = refl;
  union = refl;
  intersection = refl;
  difference = refl;
  compared = refl;
  member = refl;
  adjusted = refl;
  singleton = refl;
  subrange = refl;
  empty = refl;
}

worked_frames : WorkedFrames
unfolding word_at frame_up ips_written attributes
worked_frames = record {
  frame = refl;
  base_frame = refl;
  part = refl;
  called = λ s. refl;
  returned = refl;
  returned_low = refl;
  ips = refl;
  left = λ s. refl;
  kept = refl;
  kept_low = refl;
}

worked_procedures : WorkedProcedures
unfolding word_at
worked_procedures = record {
  new = refl;
  mark = refl;
  result = refl;
  scan = refl;
  five = refl;
  none = refl;
  below_none = refl;
  filled = refl;
  read = refl;
  not_read = refl;
  busy = refl;
  time = refl;
}

pub worked_stretches : WorkedStretches
worked_stretches = record {
  touches = worked_touches;
  rows = worked_rows;
  frames = worked_frames;
  procedures = worked_procedures;
}
