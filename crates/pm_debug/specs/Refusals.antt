-- Refusals of the debugger.
use Rattle.std.specs.Prelude.{ℕ, Result, Ok, Err}
use Rattle.pm_words.specs.declared.error.ExecError.{ExecError}
use Rattle.pm_words.specs.declared.error.ExecError.TheVariants as errors
use Rattle.pm_debug.specs.declared.refusal.DebugRefusal.{DebugRefusal}
use Rattle.pm_debug.specs.declared.refusal.DebugRefusal.TheVariants.{Full, NotSet, OddAddress, NoMemory, TooDeep}
use Rattle.pm_debug.specs.declared.refusal.DebugRefusal.TheVariants.{NothingLeft}

abbrev pub number_of : DebugRefusal → ℕ
number_of Full = 1
number_of NotSet = 2
number_of OddAddress = 3
number_of NoMemory = 4
number_of TooDeep = 5
number_of NothingLeft = 6

-- The refusal of a read that failed. It is `TooDeep` for too many static links, and `OddAddress` for an odd address.
abbrev pub refusal_of : ExecError → DebugRefusal
refusal_of errors.NoSegment = TooDeep
refusal_of errors.InvalidIndex = OddAddress
refusal_of errors.NoProcedure = OddAddress
refusal_of errors.StackOverflow = OddAddress
refusal_of errors.DivideByZero = OddAddress
refusal_of errors.InvalidMemory = OddAddress
refusal_of errors.SystemIo = OddAddress
refusal_of errors.UserIo = OddAddress
refusal_of errors.Unimplemented = OddAddress
refusal_of errors.StringTooLong = OddAddress
refusal_of errors.Halt = OddAddress

-- The word that was read, or the refusal of the read.
abbrev pub or_refused : Result ℕ ExecError → Result ℕ DebugRefusal
or_refused (Ok word) = Ok word
or_refused (Err error) = Err (refusal_of error)
