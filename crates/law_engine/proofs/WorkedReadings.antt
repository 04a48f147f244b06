-- The readings are computed.
use Rattle.std.proofs.Common.{refl}
use Rattle.pm_opcode.specs.Reading.{front_byte, front_number, read_number, reading, read_typed}
use Rattle.pm_opcode.specs.Table.{form_of, groups}
use Rattle.law_engine.specs.WorkedReadings.{WorkedReadings}

pub worked_readings : WorkedReadings
unfolding reading front_byte front_number read_number read_typed form_of groups
worked_readings = record { large = refl; small = refl; marked = refl; cut_off = refl; no_row = refl; no_type = refl }
