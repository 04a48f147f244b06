-- A debugger session, whose answers are written while it is executed.
use Rattle.std.specs.Prelude.{◌≡◌, ◌≤◌, ℕ, Bool, true, List, [], ◌++◌, length}
use Rattle.std.specs.Io.KnownBytes.{Appends, Consumes, IsAtEnd}
use Rattle.pm_debug.specs.Session.{Session}
use Rattle.pm_jobs.specs.declared.fault.Fault.{Fault}
use Rattle.pm_jobs.specs.declared.source.TheConstants.{INPUT_LIMIT}
use Rattle.pm_session.specs.Sessions.{told, whole_lines}
use Rattle.pm_jobs.specs.Streams.{Streams, IsCause, IsFront}

-- The session has ended. The bytes `read` were read, and the answers `shown` were written. If the session ended because
-- the input ended (`ended`), no bytes remain.
pub record IsAnswered (old new : Streams) (began : Session) : Type 0 where
  pub read : List ℕ
  pub shown : List ℕ
  pub ended : Bool
  pub few : length read ≤ INPUT_LIMIT
  pub reads : Consumes old.source.remaining new.source.remaining read
  pub writes : Appends old.sink.contents new.sink.contents shown
  pub all : (rest : List ℕ) → (ended ≡ true → rest ≡ [])
      → told (read ++ rest) began ≡ record { text = shown; unread = rest }
  pub drained : ended ≡ true → IsAtEnd new.source.remaining

-- A fault stopped the session. The bytes `front` that were written are a prefix of the answers for any further input.
-- If a read failed, they are the answers to all whole lines that were read: each line is answered before the next line
-- is read.
pub record IsInterrupted (old new : Streams) (began : Session) (fault : Fault) : Type 0 where
  pub read : List ℕ
  pub front : List ℕ
  pub ended : Bool
  pub reads : Consumes old.source.remaining new.source.remaining read
  pub writes : Appends old.sink.contents new.sink.contents front
  pub begins : (rest : List ℕ) → (ended ≡ true → rest ≡ []) → IsFront front (told (read ++ rest) began).text
  pub drained : ended ≡ true → IsAtEnd new.source.remaining
  pub prompt : new.source.failed ≡ true → (told (whole_lines read) began).text ≡ front
  pub cause : IsCause fault new.source.failed new.sink.failed read
