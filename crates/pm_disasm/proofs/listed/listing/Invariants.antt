use Rattle.std.proofs.Common.{◌≡◌, ◌-◌, ◌++◌, string_bytes}
use Rattle.pm_disasm.specs.Listing.{slots_listing}
use Rattle.pm_disasm.proofs.listed.listing.Given as goal

-- The written text, followed by that of the remaining slots, is the whole text.
abbrev pub invariant-loop-n : goal.invariant-loop-n
invariant-loop-n l = string_bytes l.text ++ slots_listing l.file l.n (16 - l.n) ≡ slots_listing l.file 0 16
