-- The states of a source and of a sink, and how reads and writes change these states.
-- The bytes of a stream are `Some` list if they are known, and None if the stream does not report its bytes.
use Rattle.std.specs.Prelude.{◌≡◌, ℕ, ◌+◌, ◌==◌, ◌<◌, ◌≤◌, ◌⊎◌, Bool, true}
use Rattle.std.specs.Prelude.{false, List, [], ◌∷◌, ◌++◌, length, Option, None}
use Rattle.std.specs.Prelude.{Some, Result, Ok, Err}
use Rattle.std.specs.Io.KnownBytes.{Appends, Consumes, IsAtEnd, Keeps}
use Rattle.pm_jobs.specs.declared.fault.Fault.{Fault}
use Rattle.pm_jobs.specs.declared.fault.Fault.TheVariants as faults
use Rattle.pm_jobs.specs.declared.source.TheConstants.{INPUT_LIMIT}

-- The state of a source.
pub record Incoming : Type 0 where
  -- the bytes that can still be read, if they are known
  pub remaining : Option (List ℕ)
  -- whether a read has returned an error
  pub failed : Bool
  -- the number of bytes that were read, at most 2^64 - 1
  pub given : ℕ

-- The state of a sink.
pub record Outgoing : Type 0 where
  -- the bytes that were written, if they are known
  pub contents : Option (List ℕ)
  -- whether a write has returned an error or has written no byte
  pub failed : Bool

-- The two streams of a job.
pub record Streams : Type 0 where
  pub source : Incoming
  pub sink : Outgoing

abbrev pub both : Incoming → Outgoing → Streams
both source sink = record { source = source; sink = sink }

-- Neither stream of `s` has failed.
abbrev pub AreWell : Streams → Type 0
AreWell s = (s.source.failed ≡ false) × (s.sink.failed ≡ false)

-- Is true if a write with this result failed: the write returned an error or wrote 0 bytes.
abbrev pub took_nothing : {E : Type 0} → Result ℕ E → Bool
took_nothing (Ok n) = n == 0
took_nothing (Err e) = true

-- `front` is a prefix of `text`
abbrev pub IsFront : List ℕ → List ℕ → Type 0
IsFront front text = (rest : List ℕ) × (text ≡ front ++ rest)

-- The written bytes changed from `old` to `new`: some prefix of `text` was appended.
abbrev pub AppendsFront : Option (List ℕ) → Option (List ℕ) → List ℕ → Type 0
AppendsFront old new text = (front : List ℕ) × Appends old new front × IsFront front text

-- The written bytes changed from `old` to `new`: `text` without its last bytes `held_back` was appended.
abbrev pub AppendsBut : Option (List ℕ) → Option (List ℕ) → List ℕ → List ℕ → Type 0
AppendsBut old new held_back text = (written : List ℕ) × Appends old new written × (text ≡ written ++ held_back)

-- All bytes that remained in `old` were read as `input`, none remain in `new`, and `input` is not longer than the
-- limit.
abbrev pub ReadsAll : Option (List ℕ) → Option (List ℕ) → List ℕ → Type 0
ReadsAll old new input = Consumes old new input × IsAtEnd new × (length input ≤ INPUT_LIMIT)

-- A read of at most one byte changed the remaining bytes from `old` to `new`. None: `old` was at its end and `new` is
-- the same. `Some byte`: `byte` was read.
abbrev pub ReadsByte : Option (List ℕ) → Option (List ℕ) → Option ℕ → Type 0
ReadsByte old new None = Keeps old new × IsAtEnd new
ReadsByte old new (Some byte) = Consumes old new (byte ∷ [])

-- The fault of a job that has read the bytes `read` agrees with the state of its streams. For `Read`, the source has
-- failed or `read` is longer than the limit. For `Write`, only the sink has failed. For `NoMemory`, no stream has
-- failed.
abbrev pub IsCause : Fault → Bool → Bool → List ℕ → Type 0
IsCause faults.Read source_failed sink_failed read = (sink_failed ≡ false) ×
    ((source_failed ≡ true) ⊎ (INPUT_LIMIT < length read))
IsCause faults.Write source_failed sink_failed read = (sink_failed ≡ true) × (source_failed ≡ false) ×
    (length read ≤ INPUT_LIMIT)
IsCause faults.NoMemory source_failed sink_failed read = (sink_failed ≡ false) × (source_failed ≡ false) ×
    (length read ≤ INPUT_LIMIT)

-- ---- counts

-- Returns the number of bytes that a read returned, or 0 if the read returned an error.
abbrev pub count_of : {E : Type 0} → Result ℕ E → ℕ
count_of (Ok n) = n
count_of (Err e) = 0

-- A read with this result changes the count of a source from `old` to `new`: the number of bytes that the read returned
-- is added. Nothing is stated if the sum exceeds 2^64 - 1.
abbrev pub Counts : {E : Type 0} → ℕ → ℕ → Result ℕ E → Type 0
Counts old new result = old + count_of result ≤ 18446744073709551615 → new ≡ old + count_of result

-- A read of at most one byte changes the count of a source from `old` to `new`: by 1 for a byte, by 0 at the end.
-- Nothing is stated if `old` is 2^64 - 1 or more.
abbrev pub CountsByte : ℕ → ℕ → Option ℕ → Type 0
CountsByte old new None = old < 18446744073709551615 → new ≡ old
CountsByte old new (Some byte) = old < 18446744073709551615 → new ≡ old + 1

-- The source has returned `given` bytes, and `given` is at most 2^63. The premise of clauses about the count of a
-- source.
abbrev pub CountsOn : ℕ → Type 0
CountsOn given = given ≤ 9223372036854775808

-- If the count `old` is at most 2^63, at most `INPUT_LIMIT` bytes were read before the count became `new`.
abbrev pub IsWithin : ℕ → ℕ → Type 0
IsWithin old new = CountsOn old → new ≤ old + INPUT_LIMIT

-- If a job is aborted with a read fault, the source has failed or the job has read more than `INPUT_LIMIT` bytes. For
-- any other fault, the job has read at most `INPUT_LIMIT` bytes. Both are stated only if `old` is at most 2^63.
abbrev pub IsBound : Fault → ℕ → ℕ → Bool → Type 0
IsBound faults.Read old new source_failed = CountsOn old → (source_failed ≡ true) ⊎ (old + INPUT_LIMIT < new)
IsBound faults.Write old new source_failed = IsWithin old new
IsBound faults.NoMemory old new source_failed = IsWithin old new

-- The number of bytes that a job reads, by the counts of its source before and after the job. If the job succeeds, at
-- most `INPUT_LIMIT` bytes were read. If the job is aborted, its fault satisfies `IsBound`.
abbrev pub IsCounted : {A : Type 0} → Incoming → Incoming → Result A Fault → Type 0
IsCounted old new (Ok a) = IsWithin old.given new.given
IsCounted old new (Err fault) = IsBound fault old.given new.given new.failed

-- ---- one byte of a limited input

-- Either the next byte of an input was accepted, or no byte remained. The job had accepted `before` bytes before this
-- read, and has accepted `after` bytes after it.
abbrev pub TakesByte : Incoming → Incoming → ℕ → ℕ → Option ℕ → Type 0
TakesByte old new before after None =
    ReadsByte old.remaining new.remaining None × CountsByte old.given new.given None × (after ≡ before)
TakesByte old new before after (Some byte) =
    ReadsByte old.remaining new.remaining (Some byte) × CountsByte old.given new.given (Some byte)
    × (after ≡ before + 1) × (before < INPUT_LIMIT)

-- One byte was read. Its value is not stated.
abbrev pub IsByteMore : Incoming → Incoming → Type 0
IsByteMore old new =
    (byte : ℕ) × Consumes old.remaining new.remaining (byte ∷ []) × CountsByte old.given new.given (Some byte)

-- No byte was accepted, for one of two reasons. Either the read failed and read no byte; or the job had already
-- accepted at least `INPUT_LIMIT` bytes, and one more byte was read.
abbrev pub TakesNone : Incoming → Incoming → ℕ → Type 0
TakesNone old new before =
    ((new.failed ≡ true) × Keeps old.remaining new.remaining)
    ⊎ ((new.failed ≡ false) × (INPUT_LIMIT ≤ before) × IsByteMore old new)
