-- The lengths of segments.
use Rattle.std.specs.Prelude.{◌≡◌, ◌≤◌, ℕ, List, [], ◌∷◌, Bool, length, nat_lt, if◌then◌else◌, Option, Some, None}
use Rattle.std.specs.List.{AllByRecursion}
use Rattle.pm_code.specs.Program.{Segment, segment_bytes}
use Rattle.pm_source.specs.declared.fault.AsmFault.{AsmFault}
use Rattle.pm_source.specs.declared.fault.AsmFault.TheVariants.{TooLong, NoMemory}
use Rattle.pm_asm.specs.declared.lengths.TheConstants.{LONGEST}

-- Is true if the length of segment `s` does not fit in 64 bits.
abbrev pub is_countless_long : Segment → Bool
is_countless_long s = nat_lt 18446744073709551615 (length (segment_bytes s))

-- Is true if no segment has more than 60,000 bytes, the maximum for assembling.
abbrev pub AreShort : List Segment → Type 0
AreShort ss = AllByRecursion (λ s. length (segment_bytes s) ≤ LONGEST) ss

-- The number of the first segment with more than 60,000 bytes, or `None` if no segment has more.
abbrev pub first_long : List Segment → Option ℕ
first_long [] = None
first_long (s ∷ ss) = if nat_lt LONGEST (length (segment_bytes s)) then Some s.number else first_long ss

-- Is true if the fault is `TooLong` with the number of the first segment that is too long, or if it is `NoMemory`.
abbrev pub IsTooLong : List Segment → AsmFault → Type 0
IsTooLong ss (TooLong n) = first_long ss ≡ Some n
IsTooLong ss NoMemory = Unit {0}
IsTooLong ss _ = ⊥
