-- Lemmas: a line is shown if and only if it is requested.
use Rattle.std.proofs.Common.{◌≡◌, ◌≤◌, ℕ, Bool, true, false, List, [], ◌∷◌, ◌++◌, Option, Some, None, refl, arith, nat_le}
use Rattle.std.specs.Prelude.{◌==◌, ◌%◌, ◌&&◌, ◌||◌, not, if◌then◌else◌, ⊤}
use Rattle.pm_opcode.specs.Table.{groups, mnemonic_of}
use Rattle.std.proofs.lemmas.Bool.Decides.{nat_tests}
use Rattle.pm_words.specs.Stack.{is_even}
use Rattle.pm_words.specs.Words.{word_at}
use Rattle.pm_words.specs.Stack.{minus}
use Rattle.pm_calls.specs.Tables.{self_relative}
use Rattle.pm_machine.specs.CodePlaces.{code_place, place_at, place_in_code}
use Rattle.pm_machine.specs.declared.code_place.CodePlace.{CodePlace}
use Rattle.pm_machine.specs.State.{State}
use Rattle.pm_trace.specs.Selected.{front, is_at_call, is_selected, shown_line, stands_in}
use Rattle.pm_trace.specs.Trace.{trace_line}
use Rattle.pm_jobs.specs.declared.selection.Code.{Code}
use Rattle.pm_jobs.specs.declared.selection.Code.TheVariants as codes
use Rattle.pm_jobs.specs.declared.selection.Selection.{Selection}
use Rattle.law_jobs.specs.Selections.{AskedLinesAreShown, CallsByNumber, IsAskedFor, OtherLinesAreNot, StandsThere}

both : (a b : Bool) → (a && b) ≡ true → (a ≡ true) × (b ≡ true)
both true b is = (refl, is)
both false b is = absurd (cc)

are_both : (a b : Bool) → a ≡ true → b ≡ true → (a && b) ≡ true
are_both true b one two = two
are_both false b one two = absurd (cc)

same_number : (a b : ℕ) → (a == b) ≡ true → a ≡ b
same_number a b is = grind (arith, nat_tests)

is_same_number : (a b : ℕ) → a ≡ b → (a == b) ≡ true
is_same_number a b is = grind (arith, nat_tests)

-- ---- the position

abbrev place_if : Bool → CodePlace → Option CodePlace
place_if b place = if b then Some place else None

segment_so : (b : Bool) (place : CodePlace) (n : ℕ) → stands_in (codes.Segment n) (place_if b place) ≡ true
    → (b ≡ true) × ((place.segment == n) ≡ true)
segment_so true place n is = (refl, is)
segment_so false place n is = absurd (cc)

segment_back : (b : Bool) (place : CodePlace) (n : ℕ) → b ≡ true → (place.segment == n) ≡ true
    → stands_in (codes.Segment n) (place_if b place) ≡ true
segment_back true place n on is = is
segment_back false place n on is = absurd (cc)

procedure_so : (b : Bool) (place : CodePlace) (n p : ℕ) → stands_in (codes.Procedure n p) (place_if b place) ≡ true
    → (b ≡ true) × (((place.segment == n) ≡ true) × ((place.procedure == p) ≡ true))
procedure_so true place n p is = (refl, both (place.segment == n) (place.procedure == p) is)
procedure_so false place n p is = absurd (cc)

procedure_back : (b : Bool) (place : CodePlace) (n p : ℕ) → b ≡ true → (place.segment == n) ≡ true
    → (place.procedure == p) ≡ true → stands_in (codes.Procedure n p) (place_if b place) ≡ true
procedure_back true place n p on one two = are_both (place.segment == n) (place.procedure == p) one two
procedure_back false place n p on one two = absurd (cc)

module _ (s : State) where
  abbrev here : CodePlace
  here = code_place
      (word_at s.memory s.registers.seg % 256)
      (word_at s.memory s.registers.jtab % 256)
      (minus s.registers.ipc (self_relative s.memory (minus s.registers.jtab 2)))

  abbrev is_standing : Bool
  is_standing = is_even s.registers.seg && is_even s.registers.jtab

  evens : is_standing ≡ true → (s.registers.seg % 2 ≡ 0) × (s.registers.jtab % 2 ≡ 0)
  evens is =
      let two = both (is_even s.registers.seg) (is_even s.registers.jtab) is in
      (same_number (s.registers.seg % 2) 0 two.0, same_number (s.registers.jtab % 2) 0 two.1)

  are_even : s.registers.seg % 2 ≡ 0 → s.registers.jtab % 2 ≡ 0 → is_standing ≡ true
  are_even one two = are_both (is_even s.registers.seg) (is_even s.registers.jtab)
      (is_same_number (s.registers.seg % 2) 0 one) (is_same_number (s.registers.jtab % 2) 0 two)

  stands_so : (code : Code) → stands_in code (place_in_code s) ≡ true → StandsThere code s
  unfolding place_at
  stands_so codes.Anywhere is = _
  stands_so (codes.Segment n) is =
      let p = segment_so is_standing here n is in
      let even = evens p.0 in
      record {
        even_seg = even.0;
        even_jtab = even.1;
        number = same_number (word_at s.memory s.registers.seg % 256) n p.1;
      }
  stands_so (codes.Procedure n q) is =
      let p = procedure_so is_standing here n q is in
      let even = evens p.0 in (
        record {
          even_seg = even.0;
          even_jtab = even.1;
          number = same_number (word_at s.memory s.registers.seg % 256) n p.1.0;
        },
        same_number (word_at s.memory s.registers.jtab % 256) q p.1.1,
      )

  stands_back : (code : Code) → StandsThere code s → stands_in code (place_in_code s) ≡ true
  unfolding place_at
  stands_back codes.Anywhere there = refl
  stands_back (codes.Segment n) there =
      segment_back is_standing here n (are_even there.even_seg there.even_jtab)
      (is_same_number (word_at s.memory s.registers.seg % 256) n there.number)
  stands_back (codes.Procedure n q) there =
      procedure_back is_standing here n q (are_even there.0.even_seg there.0.even_jtab)
      (is_same_number (word_at s.memory s.registers.seg % 256) n there.0.number)
      (is_same_number (word_at s.memory s.registers.jtab % 256) q there.1)

-- ---- the three together

calls_so : (wanted call : Bool) → (not wanted || call) ≡ true → wanted ≡ true → call ≡ true
calls_so true call is on = is
calls_so false call is on = absurd (cc)

calls_back : (wanted call : Bool) → (wanted ≡ true → call ≡ true) → (not wanted || call) ≡ true
calls_back true call so = so refl
calls_back false call so = refl

from_so : (a b : ℕ) → nat_le a b ≡ true → a ≤ b
from_so a b is = grind (arith, nat_tests)

from_back : (a b : ℕ) → a ≤ b → nat_le a b ≡ true
from_back a b is = grind (arith, nat_tests)

asked_for : (wanted : Selection) (s : State) → is_selected wanted s ≡ true → IsAskedFor wanted s
asked_for wanted s is =
    let there = stands_in wanted.code (place_in_code s) in
    let call = not wanted.calls || is_at_call s in
    let parts = both (nat_le wanted.from s.steps) (there && call) is in
    let rest = both there call parts.1 in
    record {
      late = from_so wanted.from s.steps parts.0;
      there = stands_so s wanted.code rest.0;
      call = calls_so wanted.calls (is_at_call s) rest.1;
    }

selected : (wanted : Selection) (s : State) → IsAskedFor wanted s → is_selected wanted s ≡ true
selected wanted s asked =
    let there = stands_in wanted.code (place_in_code s) in
    let call = not wanted.calls || is_at_call s in
    are_both (nat_le wanted.from s.steps) (there && call) (from_back wanted.from s.steps asked.late)
    (are_both there call (stands_back s wanted.code asked.there) (calls_back wanted.calls (is_at_call s) asked.call))

shown : (b : Bool) (text : List ℕ) → b ≡ true → (if b then text else []) ≡ text
shown true text is = refl
shown false text is = absurd (cc)

hidden : (b : Bool) (text : List ℕ) → (b ≡ true → ⊥) → (if b then text else []) ≡ []
hidden true text never = absurd (never refl)
hidden false text never = refl

pub asked_lines_are_shown : AskedLinesAreShown
unfolding shown_line
asked_lines_are_shown wanted s asked = shown (is_selected wanted s) (front wanted s ++ trace_line s ++ 10 ∷ []) (selected wanted s asked)

pub other_lines_are_not : OtherLinesAreNot
unfolding shown_line
other_lines_are_not wanted s none = hidden (is_selected wanted s) (front wanted s ++ trace_line s ++ 10 ∷ []) (λ is. none (asked_for wanted s is))

pub calls_by_number : CallsByNumber
unfolding mnemonic_of groups
calls_by_number = refl
