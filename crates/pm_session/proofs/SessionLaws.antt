-- Lemmas about the answers to an input, byte by byte.
use Rattle.std.proofs.Common.{◌≡◌, ◌∙◌, ◌+◌, ◌<◌, ◌≤◌, ap, sym, refl, arith, get_or, ℕ, zero, suc, Bool, true, false}
use Rattle.std.proofs.Common.{List, [], ◌∷◌, ◌++◌, length, drop, reverse, append_assoc, append-nil, Option, Some, None}
use Rattle.std.proofs.lemmas.List.{drop_all, reverse-append, reverse-reverse}
use Rattle.std.specs.Prelude.{◌==◌, if◌then◌else◌}
use Rattle.std.proofs.Math.Seq.{drop-append-add, drop-cons}
use Rattle.pm_debug.specs.declared.breaks.Breakpoint.{Breakpoint}
use Rattle.pm_debug.specs.declared.run.Depth.{Depth}
use Rattle.pm_debug.specs.Passes.{Passed, all_passed, gone_past, left_past, passed}
use Rattle.pm_debug.specs.Runs.{Gone, Left, left_of}
use Rattle.pm_debug.specs.Runs.Left.{AtBreak, Nothing, Rest}
use Rattle.pm_debug.specs.Session.{Session}
use Rattle.pm_session.specs.declared.commands.Command.TheVariants as commands
use Rattle.pm_session.specs.Orders.{Order, order_of}
use Rattle.pm_session.specs.Orders.Order.{Does}
use Rattle.pm_session.specs.Words.{lines_of_input, pieces_between, without_empty_end}
use Rattle.pm_session.proofs.WordLaws.{pieces_byte, pieces_mark, pieces_none, pieces_some, with_front, with_front-byte, with_front-none}
use Rattle.pm_machine.specs.Events.{Key, next}
use Rattle.pm_session.specs.Answers.{after_command, after_keys, after_passing, after_run, answer_text, command_text, passing, session_after}
use Rattle.pm_session.specs.Sessions.{Told, answer_line, answers, behind_quit, console_line, from_feed, is_quit, told, whole_lines}

-- The answers to the lines `lines` of `input`, and the part of `input` that is not read.
abbrev pub told_lines : List (List ℕ) → List ℕ → Session → Told
told_lines lines input d = record { text = answers lines d; unread = behind_quit lines input }

-- The lines of an input that consists of `line`, whose end is not reached, and `rest`.
abbrev pub lines_behind : List ℕ → List ℕ → List (List ℕ)
lines_behind line rest = without_empty_end (with_front line (pieces_between 10 rest))

abbrev pub told_from : List ℕ → List ℕ → Session → Told
told_from line rest d = told_lines (lines_behind line rest) (line ++ rest) d

abbrev pub after_telling : List ℕ → Told → Told
after_telling text t = record t { text = text ++ t.text }

pub told_start : (input : List ℕ) (d : Session) → told input d ≡ told_from [] input d
unfolding told lines_of_input
told_start input d = ap (λ ps. told_lines (without_empty_end ps) input d) (with_front-none (pieces_between 10 input) (pieces_some 10 input))

-- If the byte `c` is not a line feed, then it is added to the current line.
pub told_byte : (line : List ℕ) (c : ℕ) (rest : List ℕ) (d : Session) → (c == 10) ≡ false → told_from line (c ∷ rest) d ≡ told_from (line ++ c ∷ []) rest d
told_byte line c rest d h =
    ap (λ ps. told_lines (without_empty_end ps) (line ++ c ∷ rest) d)
    (ap (with_front line) (pieces_byte 10 c rest h) ∙ with_front-byte line c (pieces_between 10 rest))
    ∙ ap (λ input. told_lines (lines_behind (line ++ c ∷ []) rest) input d) (sym (append_assoc line (c ∷ []) rest))

end_behind : (line : List ℕ) (ps : List (List ℕ)) → 0 < length ps → without_empty_end (line ∷ ps) ≡ line ∷ without_empty_end ps
unfolding without_empty_end
end_behind line [] h = absurd (omega arith)
end_behind [] (p ∷ ps) h = refl
end_behind (c ∷ line) (p ∷ ps) h = refl

lines_feed : (line : List ℕ) (c : ℕ) (rest : List ℕ) → (c == 10) ≡ true → lines_behind line (c ∷ rest) ≡ line ∷ lines_of_input rest
unfolding lines_of_input
lines_feed line c rest h =
    ap (λ ps. without_empty_end (with_front line ps)) (pieces_mark 10 c rest h)
    ∙ ap (λ l. without_empty_end (l ∷ pieces_between 10 rest)) (append-nil line)
    ∙ end_behind line (pieces_between 10 rest) (pieces_some 10 rest)

line_dropped : (line : List ℕ) (c : ℕ) (rest : List ℕ) → drop (length line + 1) (line ++ c ∷ rest) ≡ rest
line_dropped line c rest = drop-append-add line (c ∷ rest) 1

answers_quit : (line : List ℕ) (lines : List (List ℕ)) (d : Session) → is_quit (order_of line) ≡ true → answers (line ∷ lines) d ≡ []
unfolding answers
answers_quit line lines d q = rw q refl

answers_more : (line : List ℕ) (lines : List (List ℕ)) (d : Session) → is_quit (order_of line) ≡ false
    → answers (line ∷ lines) d ≡ answer_line (order_of line) d ++ answers lines (session_after (order_of line) d)
unfolding answers
answers_more line lines d q = rw q refl

behind_quit_here : (line : List ℕ) (lines : List (List ℕ)) (input : List ℕ) → is_quit (order_of line) ≡ true
    → behind_quit (line ∷ lines) input ≡ drop (length line + 1) input
unfolding behind_quit
behind_quit_here line lines input q = rw q refl

behind_quit_later : (line : List ℕ) (lines : List (List ℕ)) (input : List ℕ) → is_quit (order_of line) ≡ false
    → behind_quit (line ∷ lines) input ≡ behind_quit lines (drop (length line + 1) input)
unfolding behind_quit
behind_quit_later line lines input q = rw q refl

told_is : (text unread : List ℕ) (t : Told) → t.text ≡ text → t.unread ≡ unread → t ≡ record { text = text; unread = unread }
told_is text unread t a b = ap (from t.text) b ∙ ap (λ x. from x unread) a
  where
    from : List ℕ → List ℕ → Told
    from text unread = record { text = text; unread = unread }

-- ---- `quit`

-- If a command writes nothing to the console, then no console bytes are shown.
nothing_more : (shows : Bool) (console : List ℕ) → (if shows then console_line (drop (length console) console) else []) ≡ []
nothing_more true console = ap console_line (drop_all (length console) console (omega arith))
nothing_more false console = refl

quit_unanswered : (order : Option Order) (d : Session) → is_quit order ≡ true → answer_line order d ≡ []
unfolding command_text after_command
quit_unanswered (Some (Does commands.Quit)) d q = ap (λ l. l ++ []) (nothing_more d.shows_console d.machine.devices.console)
quit_unanswered _ d q = absurd (cc)

pub answer_quit : (line : List ℕ) (d : Session) → is_quit (order_of line) ≡ true → answer_line (order_of line) d ≡ []
answer_quit line d q = quit_unanswered (order_of line) d q

-- If an order has no answer, then it is `quit`.
pub unanswered : (order : Option Order) (d : Session) → None ≡ answer_text order d → is_quit order ≡ true
unfolding command_text
unanswered (Some (Does commands.Quit)) d h = refl
unanswered _ d h = absurd (cc)

pub is_answered : (order : Option Order) (d : Session) (text : List ℕ) → Some text ≡ answer_text order d → is_quit order ≡ false
unfolding command_text
is_answered (Some (Does commands.Quit)) d text h = absurd (cc)
is_answered _ d text h = refl

-- If `c` is the line feed of a line with `quit`, then no answer follows and `rest` is not read.
pub told_quit : (line : List ℕ) (c : ℕ) (rest : List ℕ) (d : Session) → (c == 10) ≡ true → is_quit (order_of line) ≡ true
    → told_from line (c ∷ rest) d ≡ record { text = []; unread = rest }
told_quit line c rest d h q =
    ap (λ lines. told_lines lines (line ++ c ∷ rest) d) (lines_feed line c rest h)
    ∙ told_is [] rest (told_lines (line ∷ lines_of_input rest) (line ++ c ∷ rest) d)
    (answers_quit line (lines_of_input rest) d q)
    (behind_quit_here line (lines_of_input rest) (line ++ c ∷ rest) q ∙ line_dropped line c rest)

-- If `c` is the line feed of another line, then the answer to this line is followed by the answers to `rest`.
pub told_line : (line : List ℕ) (c : ℕ) (rest : List ℕ) (d : Session) → (c == 10) ≡ true → is_quit (order_of line) ≡ false
    → told_from line (c ∷ rest) d ≡ after_telling (answer_line (order_of line) d) (told rest (session_after (order_of line) d))
unfolding told
told_line line c rest d h q =
    ap (λ lines. told_lines lines (line ++ c ∷ rest) d) (lines_feed line c rest h)
    ∙ told_is _ _ (told_lines (line ∷ lines_of_input rest) (line ++ c ∷ rest) d)
    (answers_more line (lines_of_input rest) d q)
    (behind_quit_later line (lines_of_input rest) (line ++ c ∷ rest) q ∙ ap (behind_quit (lines_of_input rest)) (line_dropped line c rest))

-- If the input ends after a line feed, then no further answer follows.
pub told_none : (d : Session) → told_from [] [] d ≡ record { text = []; unread = [] }
unfolding without_empty_end answers behind_quit
told_none d = ap (λ ps. told_lines (without_empty_end (with_front [] ps)) [] d) (pieces_none 10)

last_line_is : (line : List ℕ) → 0 < length line → lines_behind line [] ≡ line ∷ []
unfolding without_empty_end
last_line_is [] h = absurd (omega arith)
last_line_is (c ∷ line) h = ap (λ ps. without_empty_end (with_front (c ∷ line) ps)) (pieces_none 10) ∙ ap (λ l. l ∷ []) (append-nil (c ∷ line))

answers_last : (line : List ℕ) (d : Session) → answers (line ∷ []) d ≡ answer_line (order_of line) d
unfolding answers
answers_last line d = by_quit (is_quit (order_of line)) refl
  where
    by_quit : (q : Bool) → is_quit (order_of line) ≡ q → answers (line ∷ []) d ≡ answer_line (order_of line) d
    by_quit true e = answers_quit line [] d e ∙ sym (answer_quit line d e)
    by_quit false e = answers_more line [] d e ∙ append-nil (answer_line (order_of line) d)

nothing_behind : (line : List ℕ) → behind_quit (line ∷ []) (line ++ []) ≡ []
unfolding behind_quit
nothing_behind line = by_quit (is_quit (order_of line)) ∙ drop-append-add line [] 1
  where
    by_quit : (q : Bool) → (if q then drop (length line + 1) (line ++ []) else drop (length line + 1) (line ++ [])) ≡ drop (length line + 1) (line ++ [])
    by_quit true = refl
    by_quit false = refl

-- If the input ends after a line without a line feed, then the answer to this line is the last one.
pub told_last : (line : List ℕ) (d : Session) → 0 < length line → told_from line [] d ≡ record { text = answer_line (order_of line) d; unread = [] }
told_last line d h =
    ap (λ lines. told_lines lines (line ++ []) d) (last_line_is line h)
    ∙ told_is _ _ (told_lines (line ∷ []) (line ++ []) d) (answers_last line d) (nothing_behind line)

-- ---- whole lines

pub told_nothing : (d : Session) → (told [] d).text ≡ []
told_nothing d = ap (λ t. t.text) (told_start [] d ∙ told_none d)

pub whole_lines_none : whole_lines [] ≡ []
unfolding whole_lines from_feed
whole_lines_none = refl

-- A text that ends with a line feed has only whole lines.
pub whole_lines_feed : (text : List ℕ) (c : ℕ) → (c == 10) ≡ true → whole_lines (text ++ c ∷ []) ≡ text ++ c ∷ []
unfolding whole_lines from_feed
whole_lines_feed text c h =
    ap (λ r. reverse (from_feed r)) (reverse-append text (c ∷ []))
    ∙ rw h (ap reverse (sym (reverse-append text (c ∷ []))) ∙ reverse-reverse (text ++ c ∷ []))

pub whole_lines_byte : (text : List ℕ) (c : ℕ) → (c == 10) ≡ false → whole_lines (text ++ c ∷ []) ≡ whole_lines text
unfolding whole_lines from_feed
whole_lines_byte text c h = ap (λ r. reverse (from_feed r)) (reverse-append text (c ∷ [])) ∙ rw h refl

-- ---- runs that pass over breakpoints

-- If the run passes over one breakpoint, then the outcome after all passes is that of the continued run with one pass
-- less.
pub pass_more : (breaks : List Breakpoint) (most p q : ℕ) (left : Left) (run next : Gone) → passed breaks p left most run.machine ≡ Some next
    → p ≡ q + 1 → all_passed breaks most p left run ≡ all_passed breaks most q (left_past breaks left most run.machine) next
unfolding all_passed
pass_more breaks most zero q left run next h e = absurd (cc)
pass_more breaks most (suc p) q Nothing run next h e = absurd (cc)
pass_more breaks most (suc p) q (Rest depth made watched) run next h e = absurd (cc)
pass_more breaks most (suc p) q (AtBreak depth made watched) run next h e =
    let same : p ≡ q = omega (arith, e) in
    let is : gone_past breaks watched depth made most run.machine ≡ next = cc in
    ap (λ n. all_passed breaks most n (left_past breaks (AtBreak depth made watched) most run.machine)
    (gone_past breaks watched depth made most run.machine)) same
    ∙ ap (all_passed breaks most q (left_past breaks (AtBreak depth made watched) most run.machine)) is

-- If no pass remains, or if no breakpoint stopped the run, then the outcome after all passes is that of the run.
pub pass_over : (breaks : List Breakpoint) (most p : ℕ) (left : Left) (run : Gone) → passed breaks p left most run.machine ≡ None
    → all_passed breaks most p left run ≡ record { run = run; left = left; passes = p }
unfolding all_passed
pass_over breaks most zero left run h = refl
pass_over breaks most (suc p) Nothing run h = refl
pass_over breaks most (suc p) (Rest depth made watched) run h = refl
pass_over breaks most (suc p) (AtBreak depth made watched) run h = absurd (cc)

-- ---- runs without passes

pub all_passed-none : (breaks : List Breakpoint) (most : ℕ) (left : Left) (run : Gone)
    → all_passed breaks most 0 left run ≡ record { run = run; left = left; passes = 0 }
unfolding all_passed
all_passed-none breaks most left run = refl

-- If the session has no passes, then the session after a run is that of the run that stops at the first breakpoint.
pub after_none : (d : Session) (depth : Depth) (most : ℕ) (run : Gone) → d.passes ≡ 0 → after_passing d (passing d depth most run) ≡ after_run d depth run
unfolding all_passed
after_none d depth most run none = by_passes d.passes none
  where
    by_passes : (passes : ℕ) → passes ≡ 0
        → after_passing d (all_passed d.breaks most passes (left_of depth d.watches d.machine run) run)
        ≡ record d { machine = run.machine; left = left_of depth d.watches d.machine run; passes = passes }
    by_passes zero none = refl
    by_passes (suc passes) none = absurd (omega (arith, none))

pub passing_none : (d : Session) (depth : Depth) (most : ℕ) (run : Gone) → d.passes ≡ 0 → (passing d depth most run).run ≡ run
passing_none d depth most run none =
    ap (λ passes. (all_passed d.breaks most passes (left_of depth d.watches d.machine run) run).run) none
    ∙ ap (λ (p : Passed). p.run) (all_passed-none d.breaks most (left_of depth d.watches d.machine run) run)

-- ---- bytes of the console input queue

-- If byte `i` is appended to the queue, then the remaining bytes lead to the same session.
pub key_more : (bytes : List ℕ) (i : ℕ) (d t : Session) → i < length bytes → t ≡ record d { machine = next d.machine (Key (get_or bytes i 0)) }
    → after_keys (drop i bytes) d ≡ after_keys (drop (i + 1) bytes) t
unfolding after_command
key_more bytes i d t inside e =
    let one : suc i ≡ i + 1 = omega arith in
    ap (λ bs. after_keys bs d) (drop-cons bytes i 0 inside ∙ ap (λ j. get_or bytes i 0 ∷ drop j bytes) one)
    ∙ ap (after_keys (drop (i + 1) bytes)) (sym e)

-- If no byte remains, then the session is unchanged.
pub keys_over : (bytes : List ℕ) (i : ℕ) (d : Session) → length bytes ≤ i → after_keys (drop i bytes) d ≡ d
keys_over bytes i d over = ap (λ bs. after_keys bs d) (drop_all i bytes over)
