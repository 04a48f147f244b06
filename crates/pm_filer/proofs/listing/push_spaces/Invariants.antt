use Rattle.std.proofs.Common.{◌≡◌, ◌++◌, ◌-◌, string_bytes}
use Rattle.pm_filer.specs.Listing.{spaces}
use Rattle.pm_filer.proofs.listing.push_spaces.Given as goal

-- The text so far and the remaining spaces are together the complete text.
abbrev pub invariant-loop : goal.invariant-loop
invariant-loop l = string_bytes l.text ++ spaces (l.count - l.counter) ≡ string_bytes l.fn.text ++ spaces l.count
