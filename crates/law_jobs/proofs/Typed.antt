-- Lemmas for texts that are typed in a session.
use Rattle.std.proofs.Common.{◌≡◌, Some, refl, ap, ◌∙◌, sym, codes, ◌∷◌, [], List, ℕ, ◌++◌, append_assoc, append-nil, false}
use Rattle.pm_machine.specs.Events.{Key, next}
use Rattle.pm_machine.specs.State.{State}
use Rattle.pm_debug.specs.Session.{Session}
use Rattle.pm_session.specs.declared.commands.Command.TheVariants as commands
use Rattle.pm_session.specs.Commands.{command_of, command_rows, number_behind, numbers}
use Rattle.pm_session.specs.Orders.{order_of, typed}
use Rattle.pm_session.specs.Orders.Order.{Does, Types}
use Rattle.pm_session.specs.Answers.{after_command, after_keys, command_text, session_after}
use Rattle.pm_session.specs.Sessions.{answer_line, is_quit, opened, told}
use Rattle.pm_session.proofs.SessionLaws.{told_byte, told_from, told_line, told_start}
use Rattle.pm_tool.specs.Said.{debugged, typed_into}
use Rattle.pm_session.specs.Words.{pieces_between, without_empty, without_return, words_of_line}
use Rattle.law_jobs.specs.Breakpoints.{ConditionIsRead, WordsAreRead}
use Rattle.law_jobs.specs.Typed.{InputIsTyped, IsOneLine, TypesAreKeys}

-- Worked examples: each of these lines is read as its command.
text_typed : order_of (codes "type \"AB\"") ≡ Some (Types (65 ∷ 66 ∷ []))
unfolding typed without_return
text_typed = refl

first_key : order_of (codes "key 65") ≡ Some (Does (commands.Key 65))
unfolding typed command_of command_rows number_behind numbers pieces_between without_empty without_return words_of_line
first_key = refl

second_key : order_of (codes "key 66") ≡ Some (Does (commands.Key 66))
unfolding typed command_of command_rows number_behind numbers pieces_between without_empty without_return words_of_line
second_key = refl

pub types_are_keys : TypesAreKeys
unfolding command_text
types_are_keys d = record {
  session = rw (text_typed, first_key, second_key) refl;
  first = rw (text_typed, first_key) refl;
  second = rw (text_typed, second_key) refl;
}

-- If a line contains no line feed, then its bytes are collected before the line is executed.
one_line : (front line rest : List ℕ) (d : Session) → IsOneLine line
    → told_from front (line ++ rest) d ≡ told_from (front ++ line) rest d
one_line front [] rest d is = ap (λ f. told_from f rest d) (sym (append-nil front))
one_line front (c ∷ line) rest d is =
    told_byte front c (line ++ rest) d is.0 ∙ one_line (front ++ c ∷ []) line rest d is.1
    ∙ ap (λ f. told_from f rest d) (append_assoc front (c ∷ []) line)

typed_at_once : (bytes : List ℕ) (machine : State) → after_keys bytes (opened machine) ≡ opened (typed_into bytes machine)
unfolding after_command
typed_at_once [] machine = refl
typed_at_once (b ∷ bytes) machine = typed_at_once bytes (next machine (Key b))

answered : (machine : State) (input : List ℕ) → (debugged machine input).written ≡ (told input (opened machine)).text
unfolding told
answered machine input = refl

first_line : (line input : List ℕ) (d : Session) → IsOneLine line → is_quit (order_of line) ≡ false
    → (told (line ++ 10 ∷ input) d).text ≡ answer_line (order_of line) d ++ (told input (session_after (order_of line) d)).text
first_line line input d is more =
    ap (λ t. t.text) (told_start (line ++ 10 ∷ input) d ∙ one_line [] line (10 ∷ input) d is ∙ told_line line 10 input d refl more)

pub input_is_typed : InputIsTyped
unfolding command_text
input_is_typed typed line input machine is order =
    answered machine (line ++ 10 ∷ input)
    ∙ first_line line input (opened machine) is (rw order refl)
    ∙ ap (λ o. answer_line o (opened machine) ++ (told input (session_after o (opened machine))).text) order
    ∙ ap (λ d. codes "ok" ++ 10 ∷ (told input d).text) (typed_at_once typed machine)
    ∙ ap (λ text. codes "ok" ++ 10 ∷ text) (sym (answered (typed_into typed machine) input))

pub condition_is_read : ConditionIsRead
unfolding typed command_of number_behind numbers pieces_between without_empty without_return words_of_line
condition_is_read = refl

pub words_are_read : WordsAreRead
unfolding typed command_of command_rows number_behind numbers pieces_between without_empty without_return words_of_line
words_are_read = record { reads = refl; writes = refl; clears = refl }
