-- Segments whose procedures are adjacent, and the first segment that is too long.
use Rattle.std.proofs.Common.{◌≡◌, ℕ, Bool, true, false, List, [], ◌∷◌, length, map, refl, sym, ap, subst, Some, None}
use Rattle.std.specs.Prelude.{nat_lt, if◌then◌else◌}
use Rattle.std.specs.List.{AllByRecursion}
use Rattle.std.proofs.lemmas.Bool.{ltb-false}
use Rattle.pm_code.specs.Program.{FollowFrom, Segment, segment_bytes}
use Rattle.pm_source.specs.Faults.{source_end}
use Rattle.pm_source.specs.Meaning.{found_procedures, found_segment}
use Rattle.pm_source.specs.Source.{Source, SourceSegment}
use Rattle.pm_source.proofs.Ends.{found_behind}
use Rattle.pm_asm.specs.Lengths.{AreShort, first_long}
use Rattle.pm_asm.specs.declared.lengths.TheConstants.{LONGEST}

found_follow : (at : ℕ) (ps : List Source) → FollowFrom at (found_procedures at ps)
found_follow at [] = tt
found_follow at (p ∷ ps) =
    (refl, subst (λ k. FollowFrom k (found_procedures (source_end at p) ps)) (sym (found_behind at p)) (found_follow (source_end at p) ps))

-- In each segment whose labels were converted to offsets, each procedure begins where the one before ends.
pub all_follow : (ss : List SourceSegment) → AllByRecursion (λ (s : Segment). FollowFrom 0 s.procedures) (map found_segment ss)
all_follow [] = tt
all_follow (s ∷ ss) = (found_follow 0 s.procedures, all_follow ss)

-- If `first_long` finds no segment, then all segments have at most 60,000 bytes.
pub all_short : (ss : List Segment) → first_long ss ≡ None → AreShort ss
all_short [] h = tt
all_short (s ∷ ss) h = by (nat_lt LONGEST (length (segment_bytes s))) refl h (λ more. all_short ss more)
  where
    by : (b : Bool) → nat_lt LONGEST (length (segment_bytes s)) ≡ b → (if b then Some s.number else first_long ss) ≡ None
        → (first_long ss ≡ None → AreShort ss) → AreShort (s ∷ ss)
    by true e h more = absurd (cc)
    by false e h more = (ltb-false _ _ e, more h)

-- If segment `s` is not too long, then the first segment that is too long is among `ss`.
pub short_here : (s : Segment) (ss : List Segment) → nat_lt LONGEST (length (segment_bytes s)) ≡ false → first_long (s ∷ ss) ≡ first_long ss
short_here s ss h = ap (λ b. if b then Some s.number else first_long ss) h

pub long_here : (s : Segment) (ss : List Segment) → nat_lt LONGEST (length (segment_bytes s)) ≡ true → first_long (s ∷ ss) ≡ Some s.number
long_here s ss h = ap (λ b. if b then Some s.number else first_long ss) h
