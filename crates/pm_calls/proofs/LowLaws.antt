-- After a return, the segments of all slots are still below the end of the stack.
use Rattle.std.proofs.Common.{◌≡◌, inl, inr, ℕ, ◌||◌, nat_lt, List, length, arith, Option, Some, None}
use Rattle.std.specs.Prelude.{option_and_then, position, slice_index_or}
use Rattle.std.specs.List.{All}
use Rattle.std.proofs.lemmas.Bool.{cases_Bool}
use Rattle.std.proofs.lemmas.Bool.Decides.{nat_tests}
use Rattle.std.proofs.lemmas.List.{get_or_past}
use Rattle.std.proofs.lemmas.List.Elements.{All-get_or, All-set}
use Rattle.pm_calls.specs.declared.frames.SegmentPlace.{SegmentPlace}
use Rattle.pm_calls.specs.Places.{IsLow}
use Rattle.pm_calls.specs.Returns.{one_call_less, lessened, released, stands_at}

IsLow-less : (o : Option SegmentPlace) → IsLow o → IsLow (option_and_then one_call_less o)
IsLow-less None h = tt
IsLow-less (Some p) h = elim (cases_Bool (nat_lt 1 p.count || nat_lt 0 p.keeps)) [ inl e ↦ rw e h | inr e ↦ rw e tt ]

IsLow-at : (places : List (Option SegmentPlace)) (n : ℕ) → All IsLow places → IsLow (slice_index_or places n None)
IsLow-at places n h = elim (cases_Bool (nat_lt n (length places))) [
  | inl e ↦ All-get_or IsLow places n None (grind (arith, nat_tests, e)) h
  | inr e ↦
      let none : slice_index_or places n None ≡ None = get_or_past places n None (grind (arith, nat_tests, e)) in
      rw none tt
]

IsLow-lessened : (o : Option ℕ) (places : List (Option SegmentPlace)) → All IsLow places → All IsLow (lessened o places)
IsLow-lessened None places h = h
IsLow-lessened (Some n) places h =
    All-set IsLow places n (option_and_then one_call_less (slice_index_or places n None)) (IsLow-less (slice_index_or places n None) (IsLow-at places n h)) h

pub released_low : (s : ℕ) (places : List (Option SegmentPlace)) → All IsLow places → All IsLow (released s places)
unfolding released
released_low s places h = IsLow-lessened (position (stands_at s) places) places h
