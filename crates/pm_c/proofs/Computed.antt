-- The checker computes the numbers of the worked examples.
use Rattle.std.proofs.Common.{refl}
use Rattle.pm_c.specs.Worked.{WorkedAnswers, WorkedErrors, WorkedRefusals, WorkedStops}

pub worked_answers : WorkedAnswers
worked_answers = record {
  done = refl;
  too_long = refl;
  no_memory = refl;
  too_short = refl;
  no_machine = refl;
  has_machine = refl;
  odd_address = refl;
  no_disk = refl;
  no_text = refl;
  no_place = refl;
  no_kind = refl;
  at_break = refl;
  changed = refl;
  no_format = refl;
  nothing = refl;
  different = refl;
  waiting = refl;
  ended = refl;
  refused = refl;
  failed = refl;
  stopped = refl;
  version = refl;
  even = refl;
  odd = refl;
  job_done = refl;
  job_refused = refl;
  job_failed = refl;
  job_stopped = refl;
}

pub worked_stops : WorkedStops
worked_stops = record {
  went = refl;
  waiting = refl;
  ended = refl;
  halted = refl;
  running = refl;
  has_ended = refl;
  has_halted = refl;
  limit = refl;
  waits = refl;
  comes_to_its_end = refl;
  at_breakpoint = refl;
  word_changed = refl;
  fails = refl;
}

pub worked_errors : WorkedErrors
worked_errors = record {
  index = refl;
  segment = refl;
  procedure = refl;
  overflow = refl;
  zero = refl;
  memory = refl;
  system_io = refl;
  user_io = refl;
  unimplemented = refl;
  string = refl;
  halt = refl;
}

pub worked_refusals : WorkedRefusals
worked_refusals = record {
  no_file = refl;
  not_code = refl;
  bad_code = refl;
  no_room = refl;
  no_unit = refl;
  taken = refl;
  a_volume = refl;
  not_blocks = refl;
  short = refl;
  header = refl;
  entry = refl;
  many = refl;
  past_end = refl;
  full = refl;
  slots = refl;
  twice = refl;
  name = refl;
  none = refl;
  first_copy = refl;
  occupied = refl;
  too_many = refl;
  not_set = refl;
  odd_word = refl;
  too_deep = refl;
  nothing_left = refl;
}
