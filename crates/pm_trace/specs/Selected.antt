-- The selected lines of a trace and the columns before them, as functions of the state before the step.
use Rattle.std.specs.Prelude.{ℕ, zero, suc, ◌+◌, ◌*◌, ◌%◌, ◌==◌, ◌&&◌, ◌||◌, not, nat_le, Bool, true, false}
use Rattle.std.specs.Prelude.{List, [], ◌∷◌, ◌++◌, codes, replicate, Option, None, Some, if◌then◌else◌}
use Rattle.std.specs.List.{list_any}
use Rattle.std.specs.Str.{bytes_eq}
use Rattle.pm_opcode.specs.Table.{mnemonic_of}
use Rattle.pm_words.specs.Words.{byte_at, word_at}
use Rattle.pm_words.specs.Stack.{is_even}
use Rattle.pm_words.specs.declared.layout.TheConstants.{SYSTEM_FRAME}
use Rattle.pm_machine.specs.State.{State}
use Rattle.pm_code.specs.Shown.{padded}
use Rattle.pm_machine.specs.declared.code_place.CodePlace.{CodePlace}
use Rattle.pm_machine.specs.CodePlaces.{place_in_code}
use Rattle.pm_trace.specs.Trace.{trace_line}
use Rattle.pm_jobs.specs.declared.selection.Code.{Code}
use Rattle.pm_jobs.specs.declared.selection.Code.TheVariants as codes_of
use Rattle.pm_jobs.specs.declared.selection.Selection.{Selection}

-- Is true if the position is in the requested code. If no position is given, this is true only for `Anywhere`.
abbrev pub stands_in : Code → Option CodePlace → Bool
stands_in codes_of.Anywhere place = true
stands_in (codes_of.Segment segment) None = false
stands_in (codes_of.Segment segment) (Some place) = place.segment == segment
stands_in (codes_of.Procedure segment procedure) None = false
stands_in (codes_of.Procedure segment procedure) (Some place) =
    place.segment == segment && place.procedure == procedure

-- The mnemonics of the calls and of the returns.
abbrev pub calls_and_returns : List (List ℕ)
calls_and_returns =
    codes "CIP" ∷ codes "CBP" ∷ codes "CXP" ∷ codes "CLP" ∷ codes "CGP" ∷ codes "RNP" ∷ codes "RBP" ∷ []

-- Is true if `name` is the mnemonic of a call or a return.
abbrev pub is_call_or_return : List ℕ → Bool
is_call_or_return name = list_any (bytes_eq name) calls_and_returns

-- Is true if the next step is a call or a return.
abbrev pub is_at_call : State → Bool
is_at_call s = is_call_or_return (mnemonic_of (byte_at s.memory s.registers.ipc))

-- Is true if `wanted` selects the line of the next step.
abbrev pub is_selected : Selection → State → Bool
is_selected wanted s =
    nat_le wanted.from s.steps && (stands_in wanted.code (place_in_code s) && (not wanted.calls || is_at_call s))

-- The frame to which the dynamic link of the frame `f` leads, which is its second word. `None` if `f` is the system's
-- frame or odd.
abbrev pub next_frame : List ℕ → ℕ → Option ℕ
next_frame m f = if f == SYSTEM_FRAME || not (is_even f) then None else Some (word_at m ((f + 2) % 65536))

-- The number of frames along the dynamic links from the frame `f` on, without the system's frame. It is at most the
-- number before `f` in the arguments. An odd address ends the chain.
unfoldable pub depth_from : List ℕ → ℕ → ℕ → ℕ
depth_from m zero f = 0
depth_from m (suc n) f =
    if f == SYSTEM_FRAME || not (is_even f) then 0 else suc (depth_from m n (word_at m ((f + 2) % 65536)))

-- The maximum number of levels by which a line is indented.
abbrev pub most_depth : ℕ
most_depth = 64

-- The call depth of the state `s`, at most 64: the number of frames along the dynamic links, without the system's
-- frame.
abbrev pub depth : State → ℕ
depth s = depth_from s.memory most_depth s.registers.mp

-- Two spaces for each of `n` levels.
abbrev pub blanks : ℕ → List ℕ
blanks n = replicate (2 * n) 32

-- The number `n` with leading zeros, followed by a space.
abbrev pub column : ℕ → ℕ → List ℕ
column width n = padded width n ++ 32 ∷ []

-- The columns of the position of a step, or dashes if no position is given.
abbrev pub place_columns : Option CodePlace → List ℕ
place_columns None = codes "--- --- ----- "
place_columns (Some place) = column 3 place.segment ++ column 3 place.procedure ++ column 5 place.offset

-- The indentation before a line, if it is requested. The next definition has the columns of the position.
abbrev pub front_blanks : Bool → State → List ℕ
front_blanks wanted s = if wanted then blanks (depth s) else []

abbrev pub front_place : Bool → State → List ℕ
front_place wanted s = if wanted then place_columns (place_in_code s) else []

abbrev pub front : Selection → State → List ℕ
front wanted s = front_blanks wanted.calls s ++ front_place wanted.places s

-- The text that is shown for a step, from the state `s` before it. It is the line of the step with the columns before
-- it and a line feed, or nothing if `wanted` does not select the line.
unfoldable pub shown_line : Selection → State → List ℕ
shown_line wanted s = if is_selected wanted s then front wanted s ++ trace_line s ++ 10 ∷ [] else []
