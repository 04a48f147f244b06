-- Laws of the breakpoints and the watched words of a session after its lines. A `Spot` is what a breakpoint is set on:
-- a position in the code, or reads or writes of words.
use Rattle.std.specs.Prelude.{◌≡◌, ◌<◌, ◌==◌, ◌||◌, ◌&&◌, not, ℕ, Bool, true, false, List, [], ◌∷◌, length}
use Rattle.std.specs.Prelude.{Option, Some, None, ⊤, filter, if◌then◌else◌, codes}
use Rattle.pm_words.specs.Words.{word_at}
use Rattle.pm_words.specs.Stack.{is_even}
use Rattle.pm_machine.specs.CodePlaces.{code_place}
use Rattle.pm_machine.specs.State.{State}
use Rattle.pm_debug.specs.Breaks.{bytes_from, can_be_asked, can_stand, holds, is_at_break, is_met, is_same, is_set}
use Rattle.pm_debug.specs.Breaks.{stands_at, word_is}
use Rattle.pm_debug.specs.declared.breaks.Breakpoint.{Breakpoint}
use Rattle.pm_debug.specs.declared.breaks.Condition.{Condition}
use Rattle.pm_debug.specs.declared.breaks.Spot.{Spot}
use Rattle.pm_debug.specs.declared.breaks.Spot.TheVariants.{Code, Reads, Writes}
use Rattle.pm_debug.specs.Session.{Session}
use Rattle.pm_debug.specs.Watches.{is_watched}
use Rattle.pm_session.specs.declared.commands.Command.TheVariants as commands
use Rattle.pm_session.specs.Answers.{session_after}
use Rattle.pm_session.specs.Orders.{Order, order_of}
use Rattle.pm_session.specs.Orders.Order.{Does}
use Rattle.law_jobs.specs.Console.{after_lines}

-- Returns whether the line is `break`, `reads`, `writes` or `clear`, with or without a condition.
abbrev pub is_of_breaks : Option Order → Bool
is_of_breaks (Some (Does (commands.Break s p o condition))) = true
is_of_breaks (Some (Does (commands.Clear s p o))) = true
is_of_breaks (Some (Does (commands.BreakOn spot condition))) = true
is_of_breaks (Some (Does (commands.ClearOn spot))) = true
is_of_breaks other = false

-- Returns whether the line is `watch` or `unwatch`.
abbrev pub is_of_watches : Option Order → Bool
is_of_watches (Some (Does (commands.Watch a))) = true
is_of_watches (Some (Does (commands.Unwatch a))) = true
is_of_watches other = false

-- `test` is false for each of the lines.
abbrev pub NoneIs : (Option Order → Bool) → List (List ℕ) → Type 0
NoneIs test [] = ⊤
NoneIs test (line ∷ lines) = (test (order_of line) ≡ false) × NoneIs test lines

-- Lines without `break`, `reads`, `writes` and `clear` leave all breakpoints unchanged.
abbrev pub BreaksStay : Type 0
BreaksStay = (lines : List (List ℕ)) (d : Session) → NoneIs is_of_breaks lines → (after_lines lines d).breaks ≡ d.breaks

-- Lines without `watch` and `unwatch` leave the watched words unchanged.
abbrev pub WatchesStay : Type 0
WatchesStay =
    (lines : List (List ℕ)) (d : Session) → NoneIs is_of_watches lines → (after_lines lines d).watches ≡ d.watches

-- After `break`, a breakpoint is set at its position. All others are set as before. Premise: fewer than 64 breakpoints
-- are set.
abbrev pub BreakSetsOne : Type 0
BreakSetsOne = (s p o : ℕ) (d : Session) (spot : Spot) → length d.breaks < 64
    → is_set spot (session_after (Some (Does (commands.Break s p o None))) d).breaks
    ≡ (is_same spot (Code (code_place s p o)) || is_set spot d.breaks)

-- After `break` with a condition, a breakpoint is set at its position. All others are set as before. Premises: the
-- address of the condition is even, and fewer than 64 breakpoints are set.
abbrev pub BreakIfSetsOne : Type 0
BreakIfSetsOne = (s p o a w : ℕ) (d : Session) (spot : Spot) → is_even a ≡ true → length d.breaks < 64
    → is_set spot (session_after (Some (Does (commands.Break s p o (Some (word_is a w))))) d).breaks
    ≡ (is_same spot (Code (code_place s p o)) || is_set spot d.breaks)

-- After `reads` or `writes`, a breakpoint is set on these words. All others are set as before. Premises: all addresses
-- are even, and fewer than 64 breakpoints are set.
abbrev pub WordsSetOne : Type 0
WordsSetOne = (on : Spot) (condition : Option Condition) (d : Session) (spot : Spot) → can_stand on ≡ true
    → can_be_asked condition ≡ true → length d.breaks < 64
    → is_set spot (session_after (Some (Does (commands.BreakOn on condition))) d).breaks
    ≡ (is_same spot on || is_set spot d.breaks)

-- After `clear`, no breakpoint is set at its position. All others are set as before.
abbrev pub ClearTakesOne : Type 0
ClearTakesOne = (s p o : ℕ) (d : Session) (spot : Spot)
    → is_set spot (session_after (Some (Does (commands.Clear s p o))) d).breaks
    ≡ (not (is_same spot (Code (code_place s p o))) && is_set spot d.breaks)

-- After `clear reads` or `clear writes`, no breakpoint is set on these words. All others are set as before.
abbrev pub ClearWordsTakesOne : Type 0
ClearWordsTakesOne = (on : Spot) (d : Session) (spot : Spot)
    → is_set spot (session_after (Some (Does (commands.ClearOn on))) d).breaks
    ≡ (not (is_same spot on) && is_set spot d.breaks)

-- After `watch`, the word at its address is watched. All others are watched as before. Premises: the address is even,
-- and fewer than 64 words are watched.
abbrev pub WatchAddsOne : Type 0
WatchAddsOne = (a : ℕ) (d : Session) (address : ℕ) → is_even a ≡ true → length d.watches < 64
    → is_watched address (session_after (Some (Does (commands.Watch a))) d).watches
    ≡ (a == address || is_watched address d.watches)

-- After `unwatch`, the word at its address is not watched. All others are watched as before.
abbrev pub UnwatchTakesOne : Type 0
UnwatchTakesOne = (a : ℕ) (d : Session) (address : ℕ)
    → is_watched address (session_after (Some (Does (commands.Unwatch a))) d).watches
    ≡ (not (a == address) && is_watched address d.watches)

-- ---- where breakpoints stop a run

abbrev pub is_on_words : Spot → Bool
is_on_words (Code place) = false
is_on_words (Reads a n) = true
is_on_words (Writes a n) = true

-- Returns the breakpoints that are set on words.
abbrev pub on_words : List Breakpoint → List Breakpoint
on_words breaks = filter (λ b. is_on_words b.spot) breaks

-- Returns the breakpoints that are not set on `spot`.
abbrev pub elsewhere : Spot → List Breakpoint → List Breakpoint
elsewhere spot breaks = filter (λ b. not (is_same spot b.spot)) breaks

-- After `break`, a breakpoint stops a run in every state at its position, even if another breakpoint was set there
-- before. At every other position, runs stop as before.
abbrev pub BreakStopsThere : Type 0
BreakStopsThere = (s p o : ℕ) (d : Session) (t : State) → length d.breaks < 64
    → is_at_break (session_after (Some (Does (commands.Break s p o None))) d).breaks t
    ≡ (if stands_at (code_place s p o) t then true else is_at_break d.breaks t)

-- After `break` with the condition that the word at `a` is `w`, a run stops at its position if and only if the
-- condition holds or a breakpoint on words stops it. This holds even if another breakpoint was set there before. At
-- every other position, runs stop as before.
abbrev pub BreakIfStopsSo : Type 0
BreakIfStopsSo = (s p o a w : ℕ) (d : Session) (t : State) → is_even a ≡ true → length d.breaks < 64
    → is_at_break (session_after (Some (Does (commands.Break s p o (Some (word_is a w))))) d).breaks t
    ≡ (if stands_at (code_place s p o) t then word_at t.memory a == w || is_at_break (on_words d.breaks) t
    else is_at_break d.breaks t)

-- After `clear`, only a breakpoint on words stops a run at its position. At every other position, runs stop as before.
abbrev pub ClearStopsNoMore : Type 0
ClearStopsNoMore = (s p o : ℕ) (d : Session) (t : State)
    → is_at_break (session_after (Some (Does (commands.Clear s p o))) d).breaks t
    ≡ (if stands_at (code_place s p o) t then is_at_break (on_words d.breaks) t else is_at_break d.breaks t)

-- After `reads` or `writes`, a breakpoint stops a run before a step that reads, or writes, one of these words, if its
-- condition holds. This holds even if another breakpoint was set on these words before. All other breakpoints stop runs
-- as before.
abbrev pub WordsStopSo : Type 0
WordsStopSo = (on : Spot) (condition : Option Condition) (d : Session) (t : State) → can_stand on ≡ true
    → can_be_asked condition ≡ true → length d.breaks < 64
    → is_at_break (session_after (Some (Does (commands.BreakOn on condition))) d).breaks t
    ≡ ((is_met on t && holds condition t.memory) || is_at_break (elsewhere on d.breaks) t)

-- After `clear reads` or `clear writes`, only the other breakpoints stop a run, as before.
abbrev pub ClearWordsStopsNoMore : Type 0
ClearWordsStopsNoMore = (on : Spot) (d : Session) (t : State)
    → is_at_break (session_after (Some (Does (commands.ClearOn on))) d).breaks t
    ≡ is_at_break (elsewhere on d.breaks) t

-- ---- how a condition is read

-- The five numbers of the line become the numbers of the command, in their order.
abbrev pub ConditionIsRead : Type 0
ConditionIsRead =
    order_of (codes "break 1 2 3 if 4 = 5") ≡ Some (Does (commands.Break 1 2 3 (Some (word_is 4 5))))

-- The address and the number of words of each line become those of the command.
pub record WordsAreRead : Type 0 where
  pub reads : order_of (codes "reads 8 2 if 6 = 7") ≡ Some (Does (commands.BreakOn (Reads 8 2) (Some (word_is 6 7))))
  pub writes : order_of (codes "writes 8 2") ≡ Some (Does (commands.BreakOn (Writes 8 2) None))
  pub clears : order_of (codes "clear reads 8 2") ≡ Some (Does (commands.ClearOn (Reads 8 2)))

-- Worked examples of the number of bytes that the words of a breakpoint have: words in memory, no words, and words that
-- continue after the last byte of memory.
pub record WorkedWords : Type 0 where
  pub few : bytes_from 1000 3 ≡ 6
  pub none : bytes_from 1000 0 ≡ 0
  pub last : bytes_from 65534 9 ≡ 2
  pub half : bytes_from 65535 1 ≡ 1
  pub all : bytes_from 0 40000 ≡ 65536
