use Rattle.std.proofs.Common.{◌≡◌, ◌-◌, ◌++◌}
use Rattle.pm_words.specs.Words.{bytes_of}
use Rattle.pm_debug.specs.Ahead.{addresses_from}
use Rattle.pm_debug.proofs.ahead.addresses_from.Given as goal

-- The addresses up to here, followed by the remaining ones, are all addresses.
abbrev pub invariant-loop : goal.invariant-loop
invariant-loop l = record {
  rest : addresses_from (bytes_of l.memory.words) l.limit l.first
      ≡ l.addresses.items ++ addresses_from (bytes_of l.memory.words) (l.limit - l.counter) l.address;
}
