-- Lemmas for the states in which breakpoints stop a run after one was set or cleared. A `Spot` is what a breakpoint is
-- set on.
use Rattle.std.proofs.Common.{◌≡◌, ◌∙◌, ◌<◌, Bool, true, false, List, [], ◌∷◌, ◌++◌, length, Option, None, Some, Ok, Err, refl, sym, ap, arith}
use Rattle.std.specs.Prelude.{◌*◌, ◌==◌, ◌||◌, ◌&&◌, not, filter, if◌then◌else◌, map, nat_lt}
use Rattle.std.specs.List.{list_any}
use Rattle.std.proofs.lemmas.Bool.{eqb-true}
use Rattle.std.proofs.lemmas.Bool.Decides.{nat_tests}
use Rattle.std.proofs.lemmas.List.Folds.{list_any-append}
use Rattle.pm_machine.specs.State.{State}
use Rattle.pm_machine.specs.CodePlaces.{code_place, place_in_code}
use Rattle.pm_machine.specs.ReadStretches.{reads}
use Rattle.pm_machine.specs.Written.{writes}
use Rattle.pm_machine.specs.declared.code_place.CodePlace.{CodePlace}
use Rattle.pm_debug.specs.declared.breaks.Breakpoint.{Breakpoint}
use Rattle.pm_debug.specs.declared.breaks.Spot.{Spot}
use Rattle.pm_debug.specs.declared.breaks.Spot.TheVariants.{Code, Reads, Writes}
use Rattle.pm_debug.specs.declared.refusal.DebugRefusal.TheVariants.{Full, NotSet}
use Rattle.pm_debug.specs.Breaks.{breakpoint, bytes_from, can_be_asked, can_stand, holds, instead, is_at_break, is_met, is_same, is_same_place, is_set, is_that}
use Rattle.pm_debug.specs.Breaks.{stands_at, stops_here, with_break, without_break, word_is}
use Rattle.pm_debug.specs.Session.{Session}
use Rattle.pm_session.specs.Answers.{after_command, with_breaks}
use Rattle.law_jobs.specs.Breakpoints.{BreakIfStopsSo, BreakStopsThere, ClearStopsNoMore, ClearWordsStopsNoMore, WordsStopSo}
use Rattle.law_jobs.specs.Breakpoints.{WorkedWords, elsewhere, is_on_words, on_words}
use Rattle.law_jobs.proofs.Breakpoints.{any_alike, same_places}

and_of : (a b : Bool) → (a && b) ≡ true → (a ≡ true) × (b ≡ true)
and_of true b is = (refl, is)
and_of false b is = absurd (cc)

are_and : (a b : Bool) → a ≡ true → b ≡ true → (a && b) ≡ true
are_and true b one two = two
are_and false b one two = absurd (cc)

no_or : (a b : Bool) → (a || b) ≡ false → (a ≡ false) × (b ≡ false)
no_or true b is = absurd (cc)
no_or false b is = (refl, is)

or_turned : (a b : Bool) → (a || (b || false)) ≡ (b || a)
or_turned true true = refl
or_turned true false = refl
or_turned false true = refl
or_turned false false = refl

-- If a breakpoint is among the others, then counting it once more does not change whether a run stops.
once_more : (stops set others : Bool) → (stops || ((set && stops) || others)) ≡ (stops || others)
once_more true set others = refl
once_more false true others = refl
once_more false false others = refl

in_between : (one set others : Bool) → (one || (set || others)) ≡ (set || (one || others))
in_between true true others = refl
in_between true false others = refl
in_between false set others = refl

-- A test holds for an element that passes the filter `q` if and only if some element passes both tests.
any_left : {A : Type 0} (p q : A → Bool) (xs : List A) → list_any p (filter q xs) ≡ list_any (λ x. q x && p x) xs
any_left p q [] = refl
any_left p q (x ∷ xs) = go (any_left p q xs) (q x) refl
  where
    go : list_any p (filter q xs) ≡ list_any (λ x. q x && p x) xs → (left : Bool) → q x ≡ left
        → list_any p (filter q (x ∷ xs)) ≡ list_any (λ x. q x && p x) (x ∷ xs)
    go rest true is = rw is (ap (λ more. p x || more) rest)
    go rest false is = rw is rest

module _ (t : State) where
  -- The breakpoints not set on `x` stop a run if and only if some breakpoint stops it and is not set on `x`.
  from_elsewhere : (x : Spot) (xs : List Breakpoint)
      → is_at_break (elsewhere x xs) t ≡ list_any (λ c. not (is_same x c.spot) && stops_here t c) xs
  from_elsewhere x xs = any_left (stops_here t) (λ c. not (is_same x c.spot)) xs

  -- If no breakpoint is set on `x`, then all breakpoints are set elsewhere.
  all_elsewhere : (x : Spot) (xs : List Breakpoint) → is_set x xs ≡ false
      → list_any (λ c. not (is_same x c.spot) && stops_here t c) xs ≡ is_at_break xs t
  all_elsewhere x [] none = refl
  all_elsewhere x (c ∷ xs) none =
      let parts = no_or (is_same x c.spot) (is_set x xs) none in
      ap (λ same. (not same && stops_here t c) || list_any (λ c. not (is_same x c.spot) && stops_here t c) xs) parts.0
      ∙ ap (λ more. stops_here t c || more) (all_elsewhere x xs parts.1)

  -- If two positions are equal, then the machine is at both or at neither.
  that_same : (x y : CodePlace) (here : Option CodePlace) → is_same_place x y ≡ true → is_that x here ≡ is_that y here
  that_same x y None is = refl
  that_same x y (Some h) is = same_places.congr x y h is

  met_same : (x y : Spot) → is_same x y ≡ true → is_met x t ≡ is_met y t
  met_same (Code x) (Code y) is = that_same x y (place_in_code t) is
  met_same (Code x) (Reads a n) is = absurd (cc)
  met_same (Code x) (Writes a n) is = absurd (cc)
  met_same (Reads a n) (Code y) is = absurd (cc)
  met_same (Reads a n) (Writes b k) is = absurd (cc)
  met_same (Reads a n) (Reads b k) is =
      let parts = and_of (a == b) (n == k) is in
      ap (λ c. reads c (bytes_from c n) t) (eqb-true a b parts.0) ∙ ap (λ l. reads b (bytes_from b l) t) (eqb-true n k parts.1)
  met_same (Writes a n) (Code y) is = absurd (cc)
  met_same (Writes a n) (Reads b k) is = absurd (cc)
  met_same (Writes a n) (Writes b k) is =
      let parts = and_of (a == b) (n == k) is in
      ap (λ c. writes c (bytes_from c n) t) (eqb-true a b parts.0) ∙ ap (λ l. writes b (bytes_from b l) t) (eqb-true n k parts.1)

  -- If the machine does not meet `x`, then only breakpoints set elsewhere stop a run.
  not_met : (x : Spot) (xs : List Breakpoint) → is_met x t ≡ false → is_at_break (elsewhere x xs) t ≡ is_at_break xs t
  not_met x xs other =
      from_elsewhere x xs ∙ any_alike (λ c. not (is_same x c.spot) && stops_here t c) (stops_here t) (λ c. one c.spot (holds c.condition t.memory)) xs
    where
      one : (y : Spot) (held : Bool) → (not (is_same x y) && (is_met y t && held)) ≡ (is_met y t && held)
      one y held = go (is_same x y) refl
        where
          go : (same : Bool) → is_same x y ≡ same → (not same && (is_met y t && held)) ≡ (is_met y t && held)
          go true is = sym (ap (λ met. met && held) (sym (met_same x y is) ∙ other))
          go false is = refl

  -- If `x` and `y` are equal positions, then `z` equals `y` if and only if `x` equals `z`.
  from_same : (x y z : CodePlace) → is_same_place x y ≡ true → is_same_place z y ≡ is_same_place x z
  from_same x y z is = same_places.symm z y ∙ sym (same_places.congr x y z is)

  -- If the machine is at `x`, and `y` is another position, then the machine is not at `y`.
  not_there : (x y : CodePlace) (here : Option CodePlace) → is_that x here ≡ true → is_same_place x y ≡ false → is_that y here ≡ false
  not_there x y None at is = absurd (cc)
  not_there x y (Some h) at is = from_same x h y at ∙ is

  -- If the machine is at the position `x`, then the breakpoints elsewhere that stop a run are those on words.
  met_there : (x : CodePlace) (xs : List Breakpoint) → stands_at x t ≡ true → is_at_break (elsewhere (Code x) xs) t ≡ is_at_break (on_words xs) t
  met_there x xs at =
      from_elsewhere (Code x) xs
      ∙ any_alike (λ c. not (is_same (Code x) c.spot) && stops_here t c) (λ c. is_on_words c.spot && stops_here t c)
      (λ c. one c.spot (holds c.condition t.memory)) xs
      ∙ sym (any_left (stops_here t) (λ c. is_on_words c.spot) xs)
    where
      one : (y : Spot) (held : Bool) → (not (is_same (Code x) y) && (is_met y t && held)) ≡ (is_on_words y && (is_met y t && held))
      one (Reads a n) held = refl
      one (Writes a n) held = refl
      one (Code y) held = go (is_same_place x y) refl
        where
          go : (same : Bool) → is_same_place x y ≡ same → (not same && (is_met (Code y) t && held)) ≡ false
          go true is = refl
          go false is = ap (λ that. that && held) (not_there x y (place_in_code t) at is)

  module _ (b : Breakpoint) where
    -- If `b` replaces the breakpoint on the same spot, then a run stops if such a breakpoint was set and `b` stops it,
    -- or if a breakpoint elsewhere stops it.
    instead_stops : (xs : List Breakpoint) → is_at_break (map (instead b) xs) t
        ≡ ((is_set b.spot xs && stops_here t b) || list_any (λ c. not (is_same b.spot c.spot) && stops_here t c) xs)
    instead_stops [] = refl
    instead_stops (c ∷ xs) = go (instead_stops xs) (is_same b.spot c.spot) refl
      where
        rest : Bool
        rest = list_any (λ c. not (is_same b.spot c.spot) && stops_here t c) xs

        go : is_at_break (map (instead b) xs) t ≡ ((is_set b.spot xs && stops_here t b) || rest) → (same : Bool) → is_same b.spot c.spot ≡ same
            → (stops_here t (if same then b else c) || is_at_break (map (instead b) xs) t)
            ≡ (((same || is_set b.spot xs) && stops_here t b) || ((not same && stops_here t c) || rest))
        go others true is = ap (λ more. stops_here t b || more) others ∙ once_more (stops_here t b) (is_set b.spot xs) rest
        go others false is = ap (λ more. stops_here t c || more) others ∙ in_between (stops_here t c) (is_set b.spot xs && stops_here t b) rest

    set_stops : (d : Session) → (can_stand b.spot && can_be_asked b.condition) ≡ true → length d.breaks < 64
        → is_at_break (with_breaks d (with_break b d.breaks)).breaks t ≡ (stops_here t b || is_at_break (elsewhere b.spot d.breaks) t)
    unfolding with_break
    set_stops d asked few = rw asked (go (is_set b.spot d.breaks) refl)
      where
        room : nat_lt (length d.breaks) 64 ≡ true
        room = grind (arith, nat_tests)

        go : (set : Bool) → is_set b.spot d.breaks ≡ set
            → is_at_break
            (with_breaks d (if set then Ok (map (instead b) d.breaks) else if nat_lt (length d.breaks) 64 then Ok (d.breaks ++ b ∷ []) else Err Full)).breaks
            t
            ≡ (stops_here t b || is_at_break (elsewhere b.spot d.breaks) t)
        go true has =
            instead_stops d.breaks
            ∙ ap (λ set. (set && stops_here t b) || list_any (λ c. not (is_same b.spot c.spot) && stops_here t c) d.breaks) has
            ∙ ap (λ more. stops_here t b || more) (sym (from_elsewhere b.spot d.breaks))
        go false has =
            rw room (list_any-append (stops_here t) d.breaks (b ∷ []) ∙ or_turned (is_at_break d.breaks t) (stops_here t b)
            ∙ ap (λ more. stops_here t b || more) (sym (from_elsewhere b.spot d.breaks ∙ all_elsewhere b.spot d.breaks has)))

  clear_stops : (x : Spot) (d : Session)
      → is_at_break (with_breaks d (without_break x d.breaks)).breaks t ≡ is_at_break (elsewhere x d.breaks) t
  unfolding without_break
  clear_stops x d = go (is_set x d.breaks) refl
    where
      go : (set : Bool) → is_set x d.breaks ≡ set
          → is_at_break (with_breaks d (if set then Ok (filter (λ b. not (is_same x b.spot)) d.breaks) else Err NotSet)).breaks t
          ≡ is_at_break (elsewhere x d.breaks) t
      go true has = refl
      go false has = sym (from_elsewhere x d.breaks ∙ all_elsewhere x d.breaks has)

  -- States when a breakpoint at a position stops a run, in terms of whether the machine is at this position.
  place_stops : (x : CodePlace) (held : Bool) (xs : List Breakpoint) → ((is_met (Code x) t && held) || is_at_break (elsewhere (Code x) xs) t)
      ≡ (if stands_at x t then held || is_at_break (on_words xs) t else is_at_break xs t)
  place_stops x held xs = go (stands_at x t) refl
    where
      go : (at : Bool) → stands_at x t ≡ at → ((at && held) || is_at_break (elsewhere (Code x) xs) t)
          ≡ (if at then held || is_at_break (on_words xs) t else is_at_break xs t)
      go true at = ap (λ more. held || more) (met_there x xs at)
      go false at = not_met (Code x) xs at

  always : (at : Bool) (words all : Bool) → (if at then true || words else all) ≡ (if at then true else all)
  always true words all = refl
  always false words all = refl

pub break_stops_there : BreakStopsThere
unfolding after_command
break_stops_there s p o d t few =
    set_stops t (breakpoint (Code (code_place s p o)) None) d refl few ∙ place_stops t (code_place s p o) true d.breaks
    ∙ always t (stands_at (code_place s p o) t) (is_at_break (on_words d.breaks) t) (is_at_break d.breaks t)

pub break_if_stops_so : BreakIfStopsSo
unfolding after_command
break_if_stops_so s p o a w d t even few =
    set_stops t (breakpoint (Code (code_place s p o)) (Some (word_is a w))) d even few
    ∙ place_stops t (code_place s p o) (holds (Some (word_is a w)) t.memory) d.breaks

pub clear_stops_no_more : ClearStopsNoMore
unfolding after_command
clear_stops_no_more s p o d t =
    clear_stops t (Code (code_place s p o)) d ∙ place_none (stands_at (code_place s p o) t) refl
  where
    place_none : (at : Bool) → stands_at (code_place s p o) t ≡ at → is_at_break (elsewhere (Code (code_place s p o)) d.breaks) t
        ≡ (if at then is_at_break (on_words d.breaks) t else is_at_break d.breaks t)
    place_none true at = met_there t (code_place s p o) d.breaks at
    place_none false at = not_met t (Code (code_place s p o)) d.breaks at

pub words_stop_so : WordsStopSo
unfolding after_command
words_stop_so on condition d t even asked few =
    set_stops t (breakpoint on condition) d (are_and (can_stand on) (can_be_asked condition) even asked) few

pub clear_words_stops_no_more : ClearWordsStopsNoMore
unfolding after_command
clear_words_stops_no_more on d t = clear_stops t on d

pub worked_words : WorkedWords
worked_words = record { few = refl; none = refl; last = refl; half = refl; all = refl }
