use Rattle.std.proofs.Common.{◌≡◌, drop}
use Rattle.pm_debug.specs.Session.{session_of}
use Rattle.pm_session.specs.Answers.{after_keys}
use Rattle.pm_session.proofs.typed.keys.Given as goal

-- If the remaining bytes are appended, then the session is that after all bytes.
abbrev pub invariant-loop-byte : goal.invariant-loop-byte
invariant-loop-byte l = record {
  session : after_keys l.bytes (session_of l.fn.debugger) ≡ after_keys (drop l.byte-index l.bytes) (session_of l.debugger);
}
