use Rattle.std.proofs.Common.{◌≡◌, drop}
use Rattle.pm_tool.specs.Said.{typed_into}
use Rattle.pm_tool.proofs.talk.type_into.Given as goal

-- To append the remaining bytes to the queue of the current machine gives the same machine as to append all bytes to
-- the queue of the first machine.
abbrev pub invariant-loop-byte : goal.invariant-loop-byte
invariant-loop-byte l = record {
  typed : typed_into l.bytes l.fn.machine.state ≡ typed_into (drop l.byte-index l.bytes) l.machine.state;
}
