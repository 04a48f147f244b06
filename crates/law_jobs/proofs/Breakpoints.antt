-- Lemmas for the lists of breakpoints and watched words, in terms of the elements that they contain.
use Rattle.std.proofs.Common.{◌≡◌, ◌∙◌, ◌<◌, ℕ, Bool, true, false, List, [], ◌∷◌, ◌++◌, length, Option, None, Some}
use Rattle.std.proofs.Common.{Result, Ok, Err, refl, sym, ap, arith}
use Rattle.std.specs.Prelude.{◌==◌, ◌||◌, ◌&&◌, not, filter, if◌then◌else◌, map, nat_lt}
use Rattle.std.specs.Cmp.{IsEquivalence}
use Rattle.std.specs.List.{list_any}
use Rattle.std.proofs.lemmas.Bool.Decides.{nat_tests}
use Rattle.std.proofs.lemmas.Cmp.{nat_eq_equiv}
use Rattle.std.proofs.lemmas.List.Folds.{list_any-append}
use Rattle.std.proofs.lemmas.Map.Views.{any-filter_same}
use Rattle.pm_machine.specs.CodePlaces.{code_place}
use Rattle.pm_debug.specs.declared.breaks.Breakpoint.{Breakpoint}
use Rattle.pm_debug.specs.declared.breaks.Spot.{Spot}
use Rattle.pm_debug.specs.declared.breaks.Spot.TheVariants.{Code, Reads, Writes}
use Rattle.pm_debug.specs.declared.refusal.DebugRefusal.{DebugRefusal}
use Rattle.pm_debug.specs.declared.refusal.DebugRefusal.TheVariants.{Full}
use Rattle.pm_debug.specs.Breaks.{breakpoint, can_be_asked, can_stand, instead, is_same, is_same_place, is_set, with_break, without_break, word_is}
use Rattle.pm_debug.specs.Passes.{Passed}
use Rattle.pm_debug.specs.Runs.{gone_on}
use Rattle.pm_debug.specs.Session.{Session}
use Rattle.pm_debug.specs.Watches.{is_watched, with_watch, without_watch}
use Rattle.pm_session.specs.declared.commands.Command.TheVariants as commands
use Rattle.pm_session.specs.Answers.{after_command, after_keys, after_on, passing_on, session_after, with_breaks, with_watches}
use Rattle.pm_session.specs.Orders.{Order, order_of}
use Rattle.pm_session.specs.Orders.Order.{Does, Types}
use Rattle.law_jobs.specs.Breakpoints.{BreakIfSetsOne, BreakSetsOne, BreaksStay, ClearTakesOne, UnwatchTakesOne, WatchAddsOne, WatchesStay, is_of_breaks}
use Rattle.law_jobs.specs.Breakpoints.{ClearWordsTakesOne, WordsSetOne, is_of_watches}

-- ---- lines that are of neither set

watched_so : (d : Session) (r : Result (List ℕ) DebugRefusal) → (with_watches d r).breaks ≡ d.breaks
watched_so d (Ok watches) = refl
watched_so d (Err refusal) = refl

broken_so : (d : Session) (r : Result (List Breakpoint) DebugRefusal) → (with_breaks d r).watches ≡ d.watches
broken_so d (Ok breaks) = refl
broken_so d (Err refusal) = refl

typed_breaks : (bytes : List ℕ) (d : Session) → (after_keys bytes d).breaks ≡ d.breaks
unfolding after_command
typed_breaks [] d = refl
typed_breaks (b ∷ bytes) d = typed_breaks bytes (after_command (commands.Key b) d)

on_breaks : (d : Session) (p : Option Passed) → (after_on d p).breaks ≡ d.breaks
on_breaks d None = refl
on_breaks d (Some p) = refl

on_watches : (d : Session) (p : Option Passed) → (after_on d p).watches ≡ d.watches
on_watches d None = refl
on_watches d (Some p) = refl

breaks_stay_once : (command : Option Order) (d : Session) → is_of_breaks command ≡ false → (session_after command d).breaks ≡ d.breaks
unfolding after_command
breaks_stay_once None d other = refl
breaks_stay_once (Some (Does (commands.Break s p o condition))) d other = absurd (cc)
breaks_stay_once (Some (Does (commands.Clear s p o))) d other = absurd (cc)
breaks_stay_once (Some (Does (commands.BreakOn on condition))) d other = absurd (cc)
breaks_stay_once (Some (Does (commands.ClearOn on))) d other = absurd (cc)
breaks_stay_once (Some (Does (commands.Watch a))) d other = watched_so d (with_watch a d.watches)
breaks_stay_once (Some (Does (commands.Unwatch a))) d other = watched_so d (without_watch a d.watches)
breaks_stay_once (Some (Does (commands.Poke a w))) d other = refl
breaks_stay_once (Some (Does (commands.Key b))) d other = refl
breaks_stay_once (Some (Does (commands.ShowConsole shows))) d other = refl
breaks_stay_once (Some (Does (commands.Go n))) d other = refl
breaks_stay_once (Some (Does (commands.Step n))) d other = refl
breaks_stay_once (Some (Does (commands.Finish n))) d other = refl
breaks_stay_once (Some (Does (commands.Until s p o n))) d other = refl
breaks_stay_once (Some (Does (commands.On n))) d other = on_breaks d (passing_on d n (gone_on d.breaks d.left n d.machine))
breaks_stay_once (Some (Does command)) d other = refl
breaks_stay_once (Some (Types bytes)) d other = typed_breaks bytes d

typed_watches : (bytes : List ℕ) (d : Session) → (after_keys bytes d).watches ≡ d.watches
unfolding after_command
typed_watches [] d = refl
typed_watches (b ∷ bytes) d = typed_watches bytes (after_command (commands.Key b) d)

watches_stay_once : (command : Option Order) (d : Session) → is_of_watches command ≡ false → (session_after command d).watches ≡ d.watches
unfolding after_command
watches_stay_once None d other = refl
watches_stay_once (Some (Does (commands.Break s p o condition))) d other = broken_so d (with_break (breakpoint (Code (code_place s p o)) condition) d.breaks)
watches_stay_once (Some (Does (commands.Clear s p o))) d other = broken_so d (without_break (Code (code_place s p o)) d.breaks)
watches_stay_once (Some (Does (commands.BreakOn on condition))) d other = broken_so d (with_break (breakpoint on condition) d.breaks)
watches_stay_once (Some (Does (commands.ClearOn on))) d other = broken_so d (without_break on d.breaks)
watches_stay_once (Some (Does (commands.Watch a))) d other = absurd (cc)
watches_stay_once (Some (Does (commands.Unwatch a))) d other = absurd (cc)
watches_stay_once (Some (Does (commands.Poke a w))) d other = refl
watches_stay_once (Some (Does (commands.Key b))) d other = refl
watches_stay_once (Some (Does (commands.ShowConsole shows))) d other = refl
watches_stay_once (Some (Does (commands.Go n))) d other = refl
watches_stay_once (Some (Does (commands.Step n))) d other = refl
watches_stay_once (Some (Does (commands.Finish n))) d other = refl
watches_stay_once (Some (Does (commands.Until s p o n))) d other = refl
watches_stay_once (Some (Does (commands.On n))) d other = on_watches d (passing_on d n (gone_on d.breaks d.left n d.machine))
watches_stay_once (Some (Does command)) d other = refl
watches_stay_once (Some (Types bytes)) d other = typed_watches bytes d

pub breaks_stay : BreaksStay
breaks_stay [] d none = refl
breaks_stay (line ∷ lines) d none =
    breaks_stay lines (session_after (order_of line) d) none.1 ∙ breaks_stay_once (order_of line) d none.0

pub watches_stay : WatchesStay
watches_stay [] d none = refl
watches_stay (line ∷ lines) d none =
    watches_stay lines (session_after (order_of line) d) none.1 ∙ watches_stay_once (order_of line) d none.0

-- ---- adding and removing one value, compared by keys with an equivalence test

or_is : (b c : Bool) → (b ≡ true → c ≡ true) → c ≡ (b || c)
or_is true c so = so refl
or_is false c so = refl

or_turned : (b c : Bool) → (c || (b || false)) ≡ (b || c)
or_turned true true = refl
or_turned true false = refl
or_turned false true = refl
or_turned false false = refl

and_is : (b c : Bool) → (b ≡ true → c ≡ false) → c ≡ (not b && c)
and_is true c so = so refl
and_is false c so = refl

pub any_alike : {A : Type 0} (p r : A → Bool) → ((c : A) → p c ≡ r c) → (xs : List A) → list_any p xs ≡ list_any r xs
any_alike p r same [] = refl
any_alike p r same (x ∷ xs) = rw (same x, any_alike p r same xs) refl

module _ {A K : Type 0} (E : K → K → Bool) (laws : IsEquivalence E) (key : A → K) (q : K) (x : A) (xs : List A) where
  -- A test of one key gives the same result for an equal key.
  alike : E q (key x) ≡ true → list_any (λ c. E q (key c)) xs ≡ list_any (λ c. E (key x) (key c)) xs
  alike same = any_alike (λ c. E q (key c)) (λ c. E (key x) (key c)) (λ c. laws.congr q (key x) (key c) same) xs

  -- If `x` is in the list already, adding it changes no test.
  there : list_any (λ c. E (key x) (key c)) xs ≡ true → list_any (λ c. E q (key c)) xs ≡ (E q (key x) || list_any (λ c. E q (key c)) xs)
  there has = or_is (E q (key x)) (list_any (λ c. E q (key c)) xs) (λ same. alike same ∙ has)

  -- If `x` is appended, then the list contains a key if and only if `x` has this key or the list contained it.
  one_more : list_any (λ c. E q (key c)) (xs ++ x ∷ []) ≡ (E q (key x) || list_any (λ c. E q (key c)) xs)
  one_more = list_any-append (λ c. E q (key c)) xs (x ∷ []) ∙ or_turned (E q (key x)) (list_any (λ c. E q (key c)) xs)

  -- If `x` is not in the list, removing it changes no test.
  missing : list_any (λ c. E (key x) (key c)) xs ≡ false → list_any (λ c. E q (key c)) xs ≡ (not (E q (key x)) && list_any (λ c. E q (key c)) xs)
  missing has = and_is (E q (key x)) (list_any (λ c. E q (key c)) xs) (λ same. alike same ∙ has)

  -- If all elements with the key of `x` are removed, then the list contains a key if and only if it did and `x` does
  -- not have this key.
  one_less : list_any (λ c. E q (key c)) (filter (λ c. not (E (key x) (key c))) xs) ≡ (not (E q (key x)) && list_any (λ c. E q (key c)) xs)
  one_less = any-filter_same (λ c. E q (key c)) (λ c. not (E (key x) (key c))) (not (E q (key x))) same_of xs
    where
      same_of : (c : A) → E q (key c) ≡ true → not (E (key x) (key c)) ≡ not (E q (key x))
      same_of c is = ap not (laws.symm (key x) (key c) ∙ sym (laws.congr q (key c) (key x) is))

-- ---- positions

and_of : (a b : Bool) → (a && b) ≡ true → (a ≡ true) × (b ≡ true)
and_of true b is = (refl, is)
and_of false b is = absurd (cc)

are_and : (a b : Bool) → a ≡ true → b ≡ true → (a && b) ≡ true
are_and true b one two = two
are_and false b one two = absurd (cc)

three_are : (a b c : Bool) → a ≡ true → b ≡ true → c ≡ true → (a && (b && c)) ≡ true
three_are a b c one two three = are_and a (b && c) one (are_and b c two three)

three_of : (a b c : Bool) → (a && (b && c)) ≡ true → (a ≡ true) × ((b ≡ true) × (c ≡ true))
three_of a b c is = let both = and_of a (b && c) is in (both.0, and_of b c both.1)

three_alike : (a b c x y z : Bool) → a ≡ x → b ≡ y → c ≡ z → (a && (b && c)) ≡ (x && (y && z))
three_alike a b c x y z one two three = rw one (rw two (rw three refl))

pub same_places : IsEquivalence is_same_place
same_places = record {
  refl = λ x. three_are (x.segment == x.segment) (x.procedure == x.procedure) (x.offset == x.offset)
      (nat_eq_equiv.refl x.segment) (nat_eq_equiv.refl x.procedure) (nat_eq_equiv.refl x.offset);
  symm = λ x y. three_alike (x.segment == y.segment) (x.procedure == y.procedure) (x.offset == y.offset)
      (y.segment == x.segment) (y.procedure == x.procedure) (y.offset == x.offset)
      (nat_eq_equiv.symm x.segment y.segment) (nat_eq_equiv.symm x.procedure y.procedure) (nat_eq_equiv.symm x.offset y.offset);
  congr = λ x y z is.
      let parts = three_of (x.segment == y.segment) (x.procedure == y.procedure) (x.offset == y.offset) is in
      three_alike (x.segment == z.segment) (x.procedure == z.procedure) (x.offset == z.offset)
      (y.segment == z.segment) (y.procedure == z.procedure) (y.offset == z.offset)
      (nat_eq_equiv.congr x.segment y.segment z.segment parts.0)
      (nat_eq_equiv.congr x.procedure y.procedure z.procedure parts.1.0)
      (nat_eq_equiv.congr x.offset y.offset z.offset parts.1.1);
}

two_alike : (a b x y : Bool) → a ≡ x → b ≡ y → (a && b) ≡ (x && y)
two_alike a b x y one two = rw one (rw two refl)

-- ---- positions and words

spot_refl : (x : Spot) → is_same x x ≡ true
spot_refl (Code a) = same_places.refl a
spot_refl (Reads a n) = are_and (a == a) (n == n) (nat_eq_equiv.refl a) (nat_eq_equiv.refl n)
spot_refl (Writes a n) = are_and (a == a) (n == n) (nat_eq_equiv.refl a) (nat_eq_equiv.refl n)

pair_symm : (a n b k : ℕ) → (a == b && n == k) ≡ (b == a && k == n)
pair_symm a n b k = two_alike (a == b) (n == k) (b == a) (k == n) (nat_eq_equiv.symm a b) (nat_eq_equiv.symm n k)

spot_symm : (x y : Spot) → is_same x y ≡ is_same y x
spot_symm (Code a) (Code b) = same_places.symm a b
spot_symm (Code a) (Reads b k) = refl
spot_symm (Code a) (Writes b k) = refl
spot_symm (Reads a n) (Code b) = refl
spot_symm (Reads a n) (Reads b k) = pair_symm a n b k
spot_symm (Reads a n) (Writes b k) = refl
spot_symm (Writes a n) (Code b) = refl
spot_symm (Writes a n) (Reads b k) = refl
spot_symm (Writes a n) (Writes b k) = pair_symm a n b k

pair_congr : (a n b k c l : ℕ) → (a == b && n == k) ≡ true → (a == c && n == l) ≡ (b == c && k == l)
pair_congr a n b k c l is =
    let parts = and_of (a == b) (n == k) is in
    two_alike (a == c) (n == l) (b == c) (k == l) (nat_eq_equiv.congr a b c parts.0) (nat_eq_equiv.congr n k l parts.1)

spot_congr : (x y z : Spot) → is_same x y ≡ true → is_same x z ≡ is_same y z
spot_congr (Code a) (Code b) (Code c) is = same_places.congr a b c is
spot_congr (Code a) (Code b) (Reads c l) is = refl
spot_congr (Code a) (Code b) (Writes c l) is = refl
spot_congr (Code a) (Reads b k) z is = absurd (cc)
spot_congr (Code a) (Writes b k) z is = absurd (cc)
spot_congr (Reads a n) (Code b) z is = absurd (cc)
spot_congr (Reads a n) (Reads b k) (Code c) is = refl
spot_congr (Reads a n) (Reads b k) (Reads c l) is = pair_congr a n b k c l is
spot_congr (Reads a n) (Reads b k) (Writes c l) is = refl
spot_congr (Reads a n) (Writes b k) z is = absurd (cc)
spot_congr (Writes a n) (Code b) z is = absurd (cc)
spot_congr (Writes a n) (Reads b k) z is = absurd (cc)
spot_congr (Writes a n) (Writes b k) (Code c) is = refl
spot_congr (Writes a n) (Writes b k) (Reads c l) is = refl
spot_congr (Writes a n) (Writes b k) (Writes c l) is = pair_congr a n b k c l is

pub same_spots : IsEquivalence is_same
same_spots = record { refl = spot_refl; symm = spot_symm; congr = spot_congr }

-- If a breakpoint replaces another one, then it is set on the same spot.
instead_same : (b c : Breakpoint) (q : Spot) → is_same q (instead b c).spot ≡ is_same q c.spot
instead_same b c q = by_test (is_same b.spot c.spot) refl
  where
    by_test : (same : Bool) → is_same b.spot c.spot ≡ same → is_same q (if same then b else c).spot ≡ is_same q c.spot
    by_test true is =
        same_spots.symm q b.spot ∙ same_spots.congr b.spot c.spot q is ∙ same_spots.symm c.spot q
    by_test false is = refl

instead_sets : (b : Breakpoint) (q : Spot) (xs : List Breakpoint) → is_set q (map (instead b) xs) ≡ is_set q xs
instead_sets b q [] = refl
instead_sets b q (c ∷ xs) =
    ap (λ here. here || is_set q (map (instead b) xs)) (instead_same b c q) ∙ ap (λ more. is_same q c.spot || more) (instead_sets b q xs)

sets_one : (b : Breakpoint) (d : Session) (q : Spot) → (can_stand b.spot && can_be_asked b.condition) ≡ true → length d.breaks < 64
    → is_set q (with_breaks d (with_break b d.breaks)).breaks ≡ (is_same q b.spot || is_set q d.breaks)
unfolding with_break
sets_one b d q asked few = rw asked (go (is_set b.spot d.breaks) refl)
  where
    room : nat_lt (length d.breaks) 64 ≡ true
    room = grind (arith, nat_tests)

    go : (set : Bool) → is_set b.spot d.breaks ≡ set
        → is_set q
        (with_breaks d (if set then Ok (map (instead b) d.breaks) else if nat_lt (length d.breaks) 64 then Ok (d.breaks ++ b ∷ []) else Err Full)).breaks
        ≡ (is_same q b.spot || is_set q d.breaks)
    go true has = instead_sets b q d.breaks ∙ there is_same same_spots (λ (c : Breakpoint). c.spot) q b d.breaks has
    go false has = rw room (one_more is_same same_spots (λ (c : Breakpoint). c.spot) q b d.breaks)

takes_one : (x : Spot) (d : Session) (q : Spot)
    → is_set q (with_breaks d (without_break x d.breaks)).breaks ≡ (not (is_same q x) && is_set q d.breaks)
unfolding without_break
takes_one x d q = go (is_set x d.breaks) refl
  where
    go : (b : Bool) → is_set x d.breaks ≡ b
        → is_set q (with_breaks d (without_break x d.breaks)).breaks ≡ (not (is_same q x) && is_set q d.breaks)
    go true has = rw has (one_less is_same same_spots (λ (c : Breakpoint). c.spot) q (breakpoint x None) d.breaks)
    go false has = rw has (missing is_same same_spots (λ (c : Breakpoint). c.spot) q (breakpoint x None) d.breaks has)

pub break_sets_one : BreakSetsOne
unfolding after_command
break_sets_one s p o d spot few = sets_one (breakpoint (Code (code_place s p o)) None) d spot refl few

pub break_if_sets_one : BreakIfSetsOne
unfolding after_command
break_if_sets_one s p o a w d spot even few = sets_one (breakpoint (Code (code_place s p o)) (Some (word_is a w))) d spot even few

pub words_set_one : WordsSetOne
unfolding after_command
words_set_one on condition d spot even asked few =
    sets_one (breakpoint on condition) d spot (are_and (can_stand on) (can_be_asked condition) even asked) few

pub clear_takes_one : ClearTakesOne
unfolding after_command
clear_takes_one s p o d spot = takes_one (Code (code_place s p o)) d spot

pub clear_words_takes_one : ClearWordsTakesOne
unfolding after_command
clear_words_takes_one on d spot = takes_one on d spot

-- ---- words

same_addresses : IsEquivalence (λ a b. b == a)
same_addresses = record {
  refl = nat_eq_equiv.refl;
  symm = λ x y. nat_eq_equiv.symm y x;
  congr = λ x y z is. nat_eq_equiv.symm z x ∙ nat_eq_equiv.congr x y z (nat_eq_equiv.symm x y ∙ is) ∙ nat_eq_equiv.symm y z;
}

pub watch_adds_one : WatchAddsOne
unfolding after_command with_watch
watch_adds_one a d address even few = rw even (go (is_watched a d.watches) refl)
  where
    room : nat_lt (length d.watches) 64 ≡ true
    room = grind (arith, nat_tests)

    go : (b : Bool) → is_watched a d.watches ≡ b
        → is_watched address (with_watches d (if b then Ok d.watches else if nat_lt (length d.watches) 64 then Ok (d.watches ++ a ∷ []) else Err Full)).watches
        ≡ (a == address || is_watched address d.watches)
    go true has = there (λ a b. b == a) same_addresses (λ c. c) address a d.watches has
    go false has = rw room (one_more (λ a b. b == a) same_addresses (λ c. c) address a d.watches)

pub unwatch_takes_one : UnwatchTakesOne
unfolding after_command without_watch
unwatch_takes_one a d address = go (is_watched a d.watches) refl
  where
    go : (b : Bool) → is_watched a d.watches ≡ b
        → is_watched address (session_after (Some (Does (commands.Unwatch a))) d).watches ≡ (not (a == address) && is_watched address d.watches)
    go true has = rw has (one_less (λ a b. b == a) same_addresses (λ c. c) address a d.watches)
    go false has = rw has (missing (λ a b. b == a) same_addresses (λ c. c) address a d.watches has)
