-- A debugger session whose answers are written while it is executed: how one byte continues the session, and how the
-- session ends.
use Rattle.std.proofs.Common.{◌≡◌, ℕ, ◌+◌, ◌<◌, ◌≤◌, List, [], ◌∷◌, ◌++◌, Option, None, Some, Result, Ok, Bool, true, false, length, refl, sym, ap, ◌∙◌}
use Rattle.std.proofs.Common.{append_assoc, append-nil, inl, inr, arith, subst, Vec, drop, get_or, suc}
use Rattle.std.specs.declared.alloc.Global.{Global}
use Rattle.std.proofs.lemmas.List.{drop_all, length-append}
use Rattle.std.proofs.Math.Seq.{drop-cons}
use Rattle.std.specs.Prelude.{◌==◌}
use Rattle.std.specs.Io.KnownBytes.{Consumes, Appends, Keeps, IsAtEnd}
use Rattle.std.proofs.KnownBytes.{Consumes-trans, Consumes-nil, Consumes-kept, Appends-trans, Appends-nil}
use Rattle.pm_machine.specs.Events.{Key, next}
use Rattle.pm_machine.specs.State.{State}
use Rattle.pm_debug.specs.Runs.Left.{Nothing}
use Rattle.pm_debug.specs.Session.{Session}
use Rattle.pm_session.specs.Orders.{order_of}
use Rattle.pm_jobs.specs.declared.fault.Fault.{Fault}
use Rattle.pm_jobs.specs.declared.fault.Fault.TheVariants as faults
use Rattle.pm_tool.specs.declared.outcome.Exit.TheVariants as exits
use Rattle.pm_tool.specs.declared.outcome.Outcome.{Outcome}
use Rattle.pm_batch.specs.declared.refusal.Refusal.{Refusal}
use Rattle.pm_jobs.specs.declared.source.TheConstants.{INPUT_LIMIT}
use Rattle.pm_session.specs.Answers.{session_after}
use Rattle.pm_tool.specs.Outcomes.{IsOutcome, no_others}
use Rattle.pm_tool.specs.Said.{BreaksOff, Finishes, IsSoundExit, WritesFirst, debugged, said_debug, said_talk, typed_into}
use Rattle.pm_tool.specs.declared.talk.Talk.{Talk}
use Rattle.pm_tool.specs.declared.talk.Talk.TheVariants as talks
use Rattle.pm_session.specs.Sessions.{Told, answer_line, is_quit, opened, told, whole_lines}
use Rattle.pm_jobs.specs.Streams.{Incoming, Outgoing, Streams, both, IsFront, AppendsFront, IsCause, ReadsByte, TakesNone}
use Rattle.pm_tool.specs.Talks.{IsAnswered, IsInterrupted}
use Rattle.pm_tool.proofs.ReadWhole.{if_known, not_failed, tells_known}
use Rattle.pm_session.proofs.SessionLaws.{after_telling, answer_quit, told_byte, told_from, told_last, told_line, told_none, told_nothing}
use Rattle.pm_session.proofs.SessionLaws.{told_quit, told_start, whole_lines_byte, whole_lines_feed, whole_lines_none}
use Rattle.pm_jobs.proofs.Transfers.{cause_longer, front_after, front_trans}

-- A session that began in the state `began` has reached the state `d`. `taken` bytes were read, the answers to all
-- whole lines were written, and `line` has the bytes of the line that is not yet complete.
pub record IsTalking (old now : Streams) (line : List ℕ) (taken : ℕ) (began d : Session) : Type 0 where
  pub read : List ℕ
  pub shown : List ℕ
  pub count : length read ≡ taken
  pub reads : Consumes old.source.remaining now.source.remaining read
  pub writes : Appends old.sink.contents now.sink.contents shown
  pub run : (rest : List ℕ) → told (read ++ rest) began ≡ after_telling shown (told_from line rest d)
  pub prompt : (told (whole_lines read) began).text ≡ shown

empty_is : (line : List ℕ) → length line ≡ 0 → line ≡ []
empty_is [] h = refl
empty_is (c ∷ line) h = absurd (omega arith)

pub talking_none : (old : Streams) (line : List ℕ) (began : Session) → line ≡ [] → IsTalking old old line 0 began began
talking_none old line began e = record {
  read = [];
  shown = [];
  count = refl;
  reads = Consumes-nil old.source.remaining;
  writes = Appends-nil old.sink.contents;
  run = λ rest. rw e (told_start rest began);
  prompt = ap (λ lines. (told lines began).text) whole_lines_none ∙ told_nothing began;
}

module _ (old now : Streams) (line : List ℕ) (taken : ℕ) (began d : Session) (u : IsTalking old now line taken began d) where
  module _ (source : Incoming) (c : ℕ) (reads : Consumes now.source.remaining source.remaining (c ∷ [])) where
    more_count : length (u.read ++ c ∷ []) ≡ taken + 1
    more_count = length-append u.read (c ∷ []) ∙ ap (λ k. k + 1) u.count

    more_reads : Consumes old.source.remaining source.remaining (u.read ++ c ∷ [])
    more_reads = Consumes-trans old.source.remaining now.source.remaining source.remaining u.read (c ∷ []) u.reads reads

    more_run : (rest : List ℕ) → told ((u.read ++ c ∷ []) ++ rest) began ≡ after_telling u.shown (told_from line (c ∷ rest) d)
    more_run rest = ap (λ input. told input began) (append_assoc u.read (c ∷ []) rest) ∙ u.run (c ∷ rest)

    -- If the byte `c` is no line feed, then the session continues with `c` appended to `line`.
    pub talking_byte : (line' : List ℕ) → (c == 10) ≡ false → line' ≡ line ++ c ∷ [] → IsTalking old (both source now.sink) line' (taken + 1) began d
    talking_byte line' h e = record {
      read = u.read ++ c ∷ [];
      shown = u.shown;
      count = more_count;
      reads = more_reads;
      writes = u.writes;
      run = λ rest. rw e (more_run rest ∙ ap (after_telling u.shown) (told_byte line c rest d h));
      prompt = ap (λ lines. (told lines began).text) (whole_lines_byte u.read c h) ∙ u.prompt;
    }

    -- If a fault stops the session after a byte was read and before more was written, then the session was interrupted.
    pub cut_behind : (fault : Fault) → source.failed ≡ false
        → ((read : List ℕ) → length read ≡ taken + 1 → IsCause fault source.failed now.sink.failed read)
        → IsInterrupted old (both source now.sink) began fault
    cut_behind fault well cause = record {
      read = u.read ++ c ∷ [];
      front = u.shown;
      ended = false;
      reads = more_reads;
      writes = u.writes;
      begins = λ rest _. ((told_from line (c ∷ rest) d).text, ap (λ t. t.text) (more_run rest));
      drained = λ e. cc;
      prompt = λ failed. not_failed source.failed well failed;
      cause = cause (u.read ++ c ∷ []) more_count;
    }

    module _ (feed : (c == 10) ≡ true) (sink : Outgoing) where
      -- If the line is answered and its command is not `quit`, then the session continues with an empty line.
      pub talking_line : (line' : List ℕ) (d' : Session) → is_quit (order_of line) ≡ false
          → Appends now.sink.contents sink.contents (answer_line (order_of line) d) → line' ≡ []
          → d' ≡ session_after (order_of line) d → IsTalking old (both source sink) line' (taken + 1) began d'
      talking_line line' d' q a e s =
          let text : List ℕ = answer_line (order_of line) d in
          record {
            read = u.read ++ c ∷ [];
            shown = u.shown ++ text;
            count = more_count;
            reads = more_reads;
            writes = Appends-trans old.sink.contents now.sink.contents sink.contents u.shown text u.writes a;
            run = λ rest. rw (e, s) (more_run rest ∙ ap (after_telling u.shown) (told_line line c rest d feed q)
                ∙ regroup u.shown text (told rest (session_after (order_of line) d))
                ∙ ap (after_telling (u.shown ++ text)) (told_start rest (session_after (order_of line) d)));
            prompt = ap (λ lines. (told lines began).text) (whole_lines_feed u.read c feed ∙ sym (append-nil (u.read ++ c ∷ [])))
                ∙ ap (λ t. t.text) (more_run [] ∙ ap (after_telling u.shown) (told_line line c [] d feed q)
                ∙ regroup u.shown text (told [] (session_after (order_of line) d)))
                ∙ ap (λ t. (u.shown ++ text) ++ t) (told_nothing (session_after (order_of line) d)) ∙ append-nil (u.shown ++ text);
          }
        where
          regroup : (a b : List ℕ) (t : Told) → after_telling a (after_telling b t) ≡ after_telling (a ++ b) t
          regroup a b t = ap (λ text. record t { text = text }) (sym (append_assoc a b t.text))

      -- If the command of the line is `quit` and its answer is written, then the session has ended.
      pub told_by_quit : is_quit (order_of line) ≡ true → Appends now.sink.contents sink.contents (answer_line (order_of line) d)
          → taken + 1 ≤ INPUT_LIMIT → IsAnswered old (both source sink) began
      told_by_quit q a few = record {
        read = u.read ++ c ∷ [];
        shown = u.shown;
        ended = false;
        few = rw more_count few;
        reads = more_reads;
        writes = subst (Appends old.sink.contents sink.contents) (append-nil u.shown)
            (Appends-trans old.sink.contents now.sink.contents sink.contents u.shown [] u.writes (rw (answer_quit line d q) at a));
        all = λ rest _. more_run rest ∙ ap (after_telling u.shown) (told_quit line c rest d feed q)
            ∙ ap (λ text. record { text = text; unread = rest }) (append-nil u.shown);
        drained = λ e. cc;
      }

      -- If only a prefix of the answer was written, then the session was interrupted.
      pub cut_answering : (fault : Fault) → AppendsFront now.sink.contents sink.contents (answer_line (order_of line) d)
          → taken + 1 ≤ INPUT_LIMIT → source.failed ≡ false
          → IsCause fault false sink.failed [] → IsInterrupted old (both source sink) began fault
      cut_answering fault a few well cause = record {
        read = u.read ++ c ∷ [];
        front = u.shown ++ a.0;
        ended = false;
        reads = more_reads;
        writes = Appends-trans old.sink.contents now.sink.contents sink.contents u.shown a.0 u.writes a.1;
        begins = λ rest _. rw (more_run rest) (front_after u.shown a.0 (told_from line (c ∷ rest) d).text
            (front_trans a.0 (answer_line (order_of line) d) (told_from line (c ∷ rest) d).text a.2 (answered rest (is_quit (order_of line)) refl)));
        drained = λ e. cc;
        prompt = λ failed. not_failed source.failed well failed;
        cause = rw well (cause_longer fault sink.failed (u.read ++ c ∷ []) (rw more_count few) cause);
      }
        where
          answered : (rest : List ℕ) (q : Bool) → is_quit (order_of line) ≡ q → IsFront (answer_line (order_of line) d) (told_from line (c ∷ rest) d).text
          answered rest true e = ((told_from line (c ∷ rest) d).text, rw (answer_quit line d e) refl)
          answered rest false e = ((told rest (session_after (order_of line) d)).text, ap (λ t. t.text) (told_line line c rest d feed e))

  module _ (source : Incoming) (none : ReadsByte now.source.remaining source.remaining None) where
    -- If the input ends after a line feed, then the session has ended.
    pub told_at_end : length line ≡ 0 → taken ≤ INPUT_LIMIT → IsAnswered old (both source now.sink) began
    told_at_end size few = let e = empty_is line size in record {
      read = u.read;
      shown = u.shown;
      ended = true;
      few = rw u.count few;
      reads = Consumes-kept old.source.remaining now.source.remaining source.remaining u.read u.reads none.0;
      writes = u.writes;
      all = λ rest none_left. let empty = none_left refl in
          rw empty (u.run [] ∙ rw e (ap (after_telling u.shown) (told_none d) ∙ ap (λ text. record { text = text; unread = [] }) (append-nil u.shown)));
      drained = λ _. none.1;
    }

    module _ (some : 0 < length line) (sink : Outgoing) where
      -- If the input ends after a line without a line feed and this line is answered, then the session has ended.
      pub told_at_last : Appends now.sink.contents sink.contents (answer_line (order_of line) d) → taken ≤ INPUT_LIMIT
          → IsAnswered old (both source sink) began
      told_at_last a few = record {
        read = u.read;
        shown = u.shown ++ answer_line (order_of line) d;
        ended = true;
        few = rw u.count few;
        reads = Consumes-kept old.source.remaining now.source.remaining source.remaining u.read u.reads none.0;
        writes = Appends-trans old.sink.contents now.sink.contents sink.contents u.shown (answer_line (order_of line) d) u.writes a;
        all = λ rest none_left. let empty = none_left refl in rw empty (u.run [] ∙ ap (after_telling u.shown) (told_last line d some));
        drained = λ _. none.1;
      }

      pub cut_at_last : (fault : Fault) → AppendsFront now.sink.contents sink.contents (answer_line (order_of line) d) → taken ≤ INPUT_LIMIT
          → source.failed ≡ false
          → IsCause fault false sink.failed [] → IsInterrupted old (both source sink) began fault
      cut_at_last fault a few well cause = record {
        read = u.read;
        front = u.shown ++ a.0;
        ended = true;
        reads = Consumes-kept old.source.remaining now.source.remaining source.remaining u.read u.reads none.0;
        writes = Appends-trans old.sink.contents now.sink.contents sink.contents u.shown a.0 u.writes a.1;
        begins = λ rest none_left. let empty = none_left refl in
            rw empty (subst (IsFront (u.shown ++ a.0)) (sym (ap (λ t. t.text) (u.run [] ∙ ap (after_telling u.shown) (told_last line d some))))
            (front_after u.shown a.0 (answer_line (order_of line) d) a.2));
        drained = λ _. none.1;
        prompt = λ failed. not_failed source.failed well failed;
        cause = rw well (cause_longer fault sink.failed u.read (rw u.count few) cause);
      }

  -- If a read failed, then the session was interrupted.
  pub cut_reading : (source : Incoming) (fault : Fault) → Keeps now.source.remaining source.remaining → fault ≡ faults.Read
      → source.failed ≡ true → now.sink.failed ≡ false
      → IsInterrupted old (both source now.sink) began fault
  cut_reading source fault k e failed well = record {
    read = u.read;
    front = u.shown;
    ended = false;
    reads = Consumes-kept old.source.remaining now.source.remaining source.remaining u.read u.reads k;
    writes = u.writes;
    begins = λ rest _. ((told_from line rest d).text, ap (λ t. t.text) (u.run rest));
    drained = λ h. cc;
    prompt = λ _. u.prompt;
    cause = rw e (well, inl failed);
  }

-- If no byte could be accepted, then the session was interrupted.
pub cut_taking : (old now : Streams) (source : Incoming) (line : List ℕ) (taken : ℕ) (began d : Session)
    → IsTalking old now line taken began d → TakesNone now.source source taken → (fault : Fault) → fault ≡ faults.Read
    → now.sink.failed ≡ false
    → IsInterrupted old (both source now.sink) began fault
cut_taking old now source line taken began d u none fault e well = elim none [
  | inl k ↦ cut_reading old now line taken began d u source fault k.1 e k.0 well
  | inr k ↦ cut_behind old now line taken began d u source k.2.0 k.2.1 fault k.0
      (λ read count. rw e (well, inr (omega (arith, k.1, count))))
]

-- ---- the outcome of the job

told_written : (machine : State) (input : List ℕ) → (debugged machine input).written ≡ (told input (opened machine)).text
unfolding told
told_written machine input = refl

told_unread : (machine : State) (input : List ℕ) → (debugged machine input).unread ≡ (told input (opened machine)).unread
unfolding told
told_unread machine input = refl

rest_drained : (left : Option (List ℕ)) (rest : List ℕ) → left ≡ Some rest → IsAtEnd left → rest ≡ []
rest_drained left rest e end = subst IsAtEnd e end

pub done_told : (old new : Streams) (began : Session) (machine : State) (outcome : Outcome) → IsAnswered old new began
    → began ≡ opened machine
    → ((unread written : List ℕ) → IsOutcome outcome (record {
      written = written;
      exit = exits.Ended;
      message = [];
      image = None;
      others = no_others;
      printer = [];
      unread = unread;
      stopped = None;
    }))
    → Finishes old new outcome (debugged machine)
done_told old new began machine outcome o b out = record {
  tells = tells_known old new o.read o.reads outcome (debugged machine) (λ rest e.
      let all = o.all rest (λ ended. rest_drained new.source.remaining rest e (o.drained ended)) in
      let here = rw b at all in
      record {
        written = rw (told_written machine (o.read ++ rest), ap (λ t. t.text) here) o.writes;
        comes_to = out _ _;
        unread = rw (told_unread machine (o.read ++ rest), ap (λ t. t.unread) here) (subst (Keeps (Some rest)) (sym e) refl);
      });
  few = (o.read, o.reads, o.few);
  exit = subst IsSoundExit (sym (out [] []).exit) refl;
}

pub cut_told : (old new : Streams) (began : Session) (machine : State) (fault : Fault) → IsInterrupted old new began fault → began ≡ opened machine
    → BreaksOff old new fault (debugged machine)
cut_told old new began machine fault o b = record {
  cut = record {
    read = o.read;
    front = o.front;
    reads = o.reads;
    writes = o.writes;
    so_far = subst (λ r. IsFront o.front (debugged machine r).written) (append-nil o.read) (begins [] (λ _. refl));
    whole = if_known new.source.remaining _ (λ rest e. begins rest (λ ended. rest_drained new.source.remaining rest e (o.drained ended)));
  };
  cause = o.cause;
}
  where
    begins : (rest : List ℕ) → (o.ended ≡ true → rest ≡ []) → IsFront o.front (debugged machine (o.read ++ rest)).written
    begins rest none = rw (told_written machine (o.read ++ rest)) (rw b at (o.begins rest none))

pub first_told : (old new : Streams) (began : Session) (machine : State) (fault : Fault) → IsInterrupted old new began fault → began ≡ opened machine
    → new.source.failed ≡ true → WritesFirst old new (λ read. (debugged machine (whole_lines read)).written)
first_told old new began machine fault o b failed = record {
  read = o.read;
  reads = o.reads;
  writes = subst (Appends old.sink.contents new.sink.contents)
      (sym (told_written machine (whole_lines o.read) ∙ ap (λ d. (told (whole_lines o.read) d).text) (sym b) ∙ o.prompt failed)) o.writes;
}

-- ---- a machine that starts, or none

pub opened_is : (d : Session) (machine : State) → d.machine ≡ machine → d.breaks ≡ [] → d.watches ≡ [] → d.left ≡ Nothing
    → d.passes ≡ 0 → d.shows_console ≡ false → d ≡ opened machine
opened_is d machine a b w l p s =
    ap (λ m. record d { machine = m }) a ∙ ap (λ breaks. record d { machine = machine; breaks = breaks }) b
    ∙ ap (λ watches. record d { machine = machine; breaks = []; watches = watches }) w
    ∙ ap (λ left. record (opened machine) { left = left; passes = d.passes; shows_console = d.shows_console }) l
    ∙ ap (λ passes. record (opened machine) { passes = passes; shows_console = d.shows_console }) p
    ∙ ap (λ shows. record (opened machine) { shows_console = shows }) s

-- If the bytes `typed` are in the queue of the machine that starts, then the output of the session is the defined
-- output.
pub session_said : (talk : Talk) (start : Result State Refusal) (typed : Vec ℕ Global) (m n : State)
    → talk ≡ talks.Session typed → Ok m ≡ start → n ≡ typed_into typed.items m → debugged n ≡ said_talk talk start
session_said talk start typed m n t e k =
    ap debugged k ∙ ap (λ s. said_debug typed.items s) e ∙ ap (λ t. said_talk t start) (sym t)

-- ---- bytes that are in the queue from the start on

-- If the byte at index `i` is appended to the queue, then the bytes from index `i + 1` on are still to be appended.
pub typed_more : (bytes : List ℕ) (i : ℕ) (m n : State) → i < length bytes → n ≡ next m (Key (get_or bytes i 0))
    → typed_into (drop i bytes) m ≡ typed_into (drop (i + 1) bytes) n
typed_more bytes i m n inside e =
    let one : suc i ≡ i + 1 = omega arith in
    ap (λ bs. typed_into bs m) (drop-cons bytes i 0 inside ∙ ap (λ j. get_or bytes i 0 ∷ drop j bytes) one)
    ∙ ap (typed_into (drop (i + 1) bytes)) (sym e)

-- If `i` is at least the number of bytes, then no byte remains to be appended and the machine is unchanged.
pub typed_over : (bytes : List ℕ) (i : ℕ) (m : State) → length bytes ≤ i → typed_into (drop i bytes) m ≡ m
typed_over bytes i m over = ap (λ bs. typed_into bs m) (drop_all i bytes over)
