use Rattle.std.proofs.Common.{◌≡◌, ◌-◌, ◌<◌, ℕ, None}
use Rattle.pm_codefile.specs.Dictionary.{first_slot_fault, slot_fault}
use Rattle.pm_codefile.proofs.file.first_fault.Given as goal

-- No slot before `n` has a fault, and the search continues with slot `n`.
abbrev pub invariant-loop-n : goal.invariant-loop-n
invariant-loop-n l = record {
  rest : first_slot_fault l.bytes 0 16 ≡ first_slot_fault l.bytes l.n (16 - l.n);
  sound : (k : ℕ) → k < l.n → slot_fault l.bytes k ≡ None;
}
