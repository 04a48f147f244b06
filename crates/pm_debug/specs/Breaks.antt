-- Breakpoints. A breakpoint has a spot: a position in the code, or certain words of memory. A run stops before a step
-- at this position, or before a step that writes or reads these words. A breakpoint can have a condition.
use Rattle.std.specs.Prelude.{ℕ, ◌*◌, ◌-◌, min, ◌==◌, ◌&&◌, not, Bool, false, true, List, [], ◌∷◌, ◌++◌, length, map}
use Rattle.std.specs.Prelude.{filter, Option, Some, None, Result, Ok, Err, if◌then◌else◌, nat_lt}
use Rattle.std.specs.List.{list_any}
use Rattle.pm_words.specs.Words.{word_at}
use Rattle.pm_words.specs.Stack.{is_even}
use Rattle.pm_machine.specs.State.{State}
use Rattle.pm_machine.specs.CodePlaces.{place_in_code}
use Rattle.pm_machine.specs.declared.code_place.CodePlace.{CodePlace}
use Rattle.pm_machine.specs.ReadStretches.{reads}
use Rattle.pm_machine.specs.Written.{writes}
use Rattle.pm_debug.specs.declared.breaks.Breakpoint.{Breakpoint}
use Rattle.pm_debug.specs.declared.breaks.Condition.{Condition}
use Rattle.pm_debug.specs.declared.breaks.Spot.{Spot}
use Rattle.pm_debug.specs.declared.breaks.Spot.TheVariants.{Code, Reads, Writes}
use Rattle.pm_debug.specs.declared.refusal.DebugRefusal.{DebugRefusal}
use Rattle.pm_debug.specs.declared.refusal.DebugRefusal.TheVariants.{Full, NotSet, OddAddress}

-- The breakpoint at `spot` with this condition, or without a condition.
abbrev pub breakpoint : Spot → Option Condition → Breakpoint
breakpoint spot condition = record { spot = spot; condition = condition }

-- The condition that the word of memory at the address `a` is `w`.
abbrev pub word_is : ℕ → ℕ → Condition
word_is a w = record { address = a; word = w }

-- ---- the breakpoints that are set

abbrev pub is_same_place : CodePlace → CodePlace → Bool
is_same_place a b = a.segment == b.segment && (a.procedure == b.procedure && a.offset == b.offset)

-- Is true if both spots are the same position, or the same number of words from the same address on. Then both must be
-- for writes, or both for reads.
abbrev pub is_same : Spot → Spot → Bool
is_same (Code a) (Code b) = is_same_place a b
is_same (Code a) (Writes address n) = false
is_same (Code a) (Reads address n) = false
is_same (Writes address n) (Code b) = false
is_same (Writes a n) (Writes b k) = a == b && n == k
is_same (Writes a n) (Reads b k) = false
is_same (Reads address n) (Code b) = false
is_same (Reads a n) (Writes b k) = false
is_same (Reads a n) (Reads b k) = a == b && n == k

-- Is true if one of `breaks` is at `spot`.
abbrev pub is_set : Spot → List Breakpoint → Bool
is_set spot breaks = list_any (λ b. is_same spot b.spot) breaks

-- Is true if the words of a spot begin at an even address. A position in the code has no words.
abbrev pub can_stand : Spot → Bool
can_stand (Code place) = true
can_stand (Writes address n) = is_even address
can_stand (Reads address n) = is_even address

-- Is true if the address of a condition is even, or if no condition is given.
abbrev pub can_be_asked : Option Condition → Bool
can_be_asked None = true
can_be_asked (Some c) = is_even c.address

-- The breakpoint `b` if `b` has the same spot as `c`, and otherwise `c`.
abbrev pub instead : Breakpoint → Breakpoint → Breakpoint
instead b c = if is_same b.spot c.spot then b else c

-- The list `breaks` with the breakpoint `b` added. An odd address of words or of a condition is refused. A breakpoint
-- at the same spot is replaced. If 64 breakpoints at other spots are set, a new one is refused.
unfoldable pub with_break : Breakpoint → List Breakpoint → Result (List Breakpoint) DebugRefusal
with_break b breaks =
    if not (can_stand b.spot && can_be_asked b.condition) then Err OddAddress
    else if is_set b.spot breaks then Ok (map (instead b) breaks)
    else if nat_lt (length breaks) 64 then Ok (breaks ++ b ∷ [])
    else Err Full

-- The list `breaks` without the breakpoint at `spot`, regardless of its condition. If none is at `spot`, the call is
-- refused.
unfoldable pub without_break : Spot → List Breakpoint → Result (List Breakpoint) DebugRefusal
without_break spot breaks =
    if is_set spot breaks then Ok (filter (λ b. not (is_same spot b.spot)) breaks) else Err NotSet

-- ---- the states in which a run stops

abbrev pub is_that : CodePlace → Option CodePlace → Bool
is_that b None = false
is_that b (Some here) = is_same_place b here

-- Is true if the machine is at the position `b`.
abbrev pub stands_at : CodePlace → State → Bool
stands_at b s = is_that b (place_in_code s)

-- The number of bytes of those `n` words from `address` on that are in the memory. The last byte of the memory is
-- 65,535.
abbrev pub bytes_from : ℕ → ℕ → ℕ
bytes_from address n = min (2 * n) (65536 - address)

-- Is true if a spot selects the next step. It does if the position `here` of the machine is that of the spot, or if the
-- next step writes or reads words of the spot.
abbrev pub is_met_from : Option CodePlace → Spot → State → Bool
is_met_from here (Code place) s = is_that place here
is_met_from here (Writes address n) s = writes address (bytes_from address n) s
is_met_from here (Reads address n) s = reads address (bytes_from address n) s

abbrev pub is_met : Spot → State → Bool
is_met spot s = is_met_from (place_in_code s) spot s

-- Is true if the condition holds in the memory `m`: the word at its address is its word. Also true without a condition.
abbrev pub holds : Option Condition → List ℕ → Bool
holds None m = true
holds (Some c) m = word_at m c.address == c.word

-- Is true if the breakpoint `b` stops a run in the state `s`: its spot selects the next step, and its condition is
-- true.
abbrev pub stops_here : State → Breakpoint → Bool
stops_here s b = is_met b.spot s && holds b.condition s.memory

-- Is true if one of `breaks` stops a run in the state `s`.
abbrev pub is_at_break : List Breakpoint → State → Bool
is_at_break breaks s = list_any (stops_here s) breaks
