-- If a run of the machine ends or stops, then the job has its defined output or a prefix of it.
use Rattle.std.proofs.Common.{◌≡◌, ℕ, List, [], ◌++◌, Some, false, Result, Ok, Err, refl, sym, ap, ◌∙◌, append-nil, subst}
use Rattle.std.specs.Io.KnownBytes.{Appends, Keeps, IsAtEnd}
use Rattle.std.proofs.KnownBytes.{Appends-nil}
use Rattle.pm_machine.specs.State.{State}
use Rattle.pm_session.specs.declared.ending.Ending.{Ending}
use Rattle.pm_session.specs.declared.ending.Ending.TheVariants as endings
use Rattle.pm_jobs.specs.declared.fault.Fault.{Fault}
use Rattle.pm_tool.specs.declared.outcome.Outcome.{Outcome}
use Rattle.pm_batch.specs.declared.refusal.Refusal.{Refusal}
use Rattle.pm_tool.specs.declared.steps.Show.{Show}
use Rattle.pm_tool.specs.declared.steps.Show.TheVariants.{Trace, Console}
use Rattle.pm_tool.specs.Outcomes.{Said, exit_of, refused, IsOutcome}
use Rattle.pm_tool.specs.Run.{Run, end_text, ended_run, run_of, ComesToEnd, StopsShort}
use Rattle.pm_tool.specs.declared.talk.Talk.{Talk}
use Rattle.pm_tool.specs.declared.talk.Talk.TheVariants as talks
use Rattle.pm_tool.specs.Said.{said_debug, said_run, said_started, said_talk, IsSoundExit, Finishes, BreaksOff}
use Rattle.pm_jobs.specs.Streams.{Outgoing, Streams, both, IsFront, AppendsBut, AppendsFront, IsCause}
use Rattle.pm_tool.proofs.Unread.{done_unread}
use Rattle.pm_tool.proofs.ReadWhole.{if_known, tells_known}
use Rattle.pm_jobs.proofs.Pages.{but_all, but_front, but_grown}
use Rattle.pm_jobs.proofs.Transfers.{cause_longer, front_trans}

said_written : (show : Show) (run : Run) → (said_run show run).written ≡ run.shown ++ end_text show run.ending run.machine.steps
said_written (Trace selection) run = refl
said_written (Console saving) run = sym (append-nil run.shown)

said_unread : (show : Show) (run : Run) → (said_run show run).unread ≡ run.unread
said_unread (Trace selection) run = refl
said_unread (Console saving) run = refl

said_exit : (show : Show) (run : Run) → (said_run show run).exit ≡ exit_of run.ending
said_exit (Trace selection) run = refl
said_exit (Console saving) run = refl

sound_ending : (ending : Ending) → IsSoundExit (exit_of ending)
sound_ending endings.Ended = refl
sound_ending (endings.Error error) = refl
sound_ending endings.Limit = refl
sound_ending endings.Waiting = refl

abbrev text_of : Show → ℕ → State → List ℕ → Said
text_of show limit began input = said_run show (run_of show limit input began)

module _ (old now : Streams) (page : List ℕ) (show : Show) (limit : ℕ) (began : State) (ending : Ending) (m : State)
    (o : ComesToEnd old now page show limit began ending m) where
  rest_drained : (rest : List ℕ) → now.source.remaining ≡ Some rest → ending ≡ endings.Waiting → rest ≡ []
  rest_drained rest e w = subst IsAtEnd e (o.drained w)

  said_over : (rest : List ℕ) → (ending ≡ endings.Waiting → rest ≡ [])
      → text_of show limit began (o.read ++ rest) ≡ said_run show (ended_run o.shown ending m rest)
  said_over rest w = ap (said_run show) (o.run rest w)

  written_over : (rest : List ℕ) → (ending ≡ endings.Waiting → rest ≡ [])
      → (text_of show limit began (o.read ++ rest)).written ≡ o.shown ++ end_text show ending m.steps
  written_over rest w = ap (λ s. s.written) (said_over rest w) ∙ said_written show (ended_run o.shown ending m rest)

  end_grown : AppendsBut old.sink.contents now.sink.contents (page ++ end_text show ending m.steps) (o.shown ++ end_text show ending m.steps)
  end_grown = but_grown old.sink.contents now.sink.contents page o.shown (end_text show ending m.steps) (page ++ end_text show ending m.steps) o.writes refl

  module _ (sink : Outgoing) where
    -- If the rest of the output was written after the end of the run, then the job finishes with its defined output.
    pub done_over : (outcome : Outcome) → Appends now.sink.contents sink.contents (page ++ end_text show ending m.steps)
        → ((shown unread : List ℕ) → IsOutcome outcome (said_run show (ended_run shown ending m unread)))
        → Finishes old (both now.source sink) outcome (λ input. said_run show (run_of show limit input began))
    done_over outcome a out = record {
      tells = tells_known old (both now.source sink) o.read o.reads outcome (text_of show limit began) (λ rest e.
          let w = rest_drained rest e in
          record {
            written = subst (Appends old.sink.contents sink.contents) (sym (written_over rest w))
                (but_all old.sink.contents now.sink.contents sink.contents _ (o.shown ++ end_text show ending m.steps) end_grown a);
            comes_to = subst (IsOutcome outcome) (sym (said_over rest w)) (out o.shown rest);
            unread = rw (ap (λ s. s.unread) (said_over rest w) ∙ said_unread show (ended_run o.shown ending m rest))
                (subst (Keeps (Some rest)) (sym e) refl);
          });
      few = (o.read, o.reads, o.few);
      exit = subst IsSoundExit (sym ((out [] []).exit ∙ said_exit show (ended_run [] ending m []))) (sound_ending ending);
    }

    -- If only a prefix of the rest of the output was written, then the job has written a prefix of its defined output.
    pub broken_telling : (fault : Fault) → AppendsFront now.sink.contents sink.contents (page ++ end_text show ending m.steps)
        → now.source.failed ≡ false → IsCause fault false sink.failed []
        → BreaksOff old (both now.source sink) fault (λ input. said_run show (run_of show limit input began))
    broken_telling fault a well cause =
        let front = but_front old.sink.contents now.sink.contents sink.contents _ (o.shown ++ end_text show ending m.steps) end_grown a in
        record {
          cut = record {
            read = o.read;
            front = front.0;
            reads = o.reads;
            writes = front.1;
            so_far = subst (λ r. IsFront front.0 (text_of show limit began r).written) (append-nil o.read)
                (subst (IsFront front.0) (sym (written_over [] (λ _. refl))) front.2);
            whole = if_known now.source.remaining _ (λ rest e. subst (IsFront front.0) (sym (written_over rest (rest_drained rest e))) front.2);
          };
          cause = rw well (cause_longer fault sink.failed o.read o.few cause);
        }

-- If a fault stops the run, then the job has written a prefix of its defined output.
pub broken_run : (old new : Streams) (show : Show) (limit : ℕ) (began : State) (fault : Fault) → StopsShort old new show limit began fault
    → BreaksOff old new fault (λ input. said_run show (run_of show limit input began))
broken_run old new show limit began fault b = record {
  cut = record {
    read = b.read;
    front = b.front;
    reads = b.reads;
    writes = b.writes;
    so_far = subst (λ r. IsFront b.front (text_of show limit began r).written) (append-nil b.read) (begins (b.read ++ []) (b.begins []));
    whole = if_known new.source.remaining _ (λ rest e. begins (b.read ++ rest) (b.begins rest));
  };
  cause = b.cause;
}
  where
    begins : (input : List ℕ) → IsFront b.front (run_of show limit input began).shown → IsFront b.front (text_of show limit began input).written
    begins input f =
        let run = run_of show limit input began in
        rw (said_written show run) (front_trans b.front run.shown (run.shown ++ end_text show run.ending run.machine.steps) f
        (end_text show run.ending run.machine.steps, refl))

-- ---- a machine that starts, or none

pub started_done : (old new : Streams) (show : Show) (limit : ℕ) (start : Result State Refusal) (m : State) (outcome : Outcome) → Ok m ≡ start
    → Finishes old new outcome (λ input. said_run show (run_of show limit input m)) → Finishes old new outcome (said_started show limit start)
started_done old new show limit start m outcome e d = subst (λ s. Finishes old new outcome (said_started show limit s)) e d

pub started_broken : (old new : Streams) (show : Show) (limit : ℕ) (start : Result State Refusal) (m : State) (fault : Fault) → Ok m ≡ start
    → BreaksOff old new fault (λ input. said_run show (run_of show limit input m)) → BreaksOff old new fault (said_started show limit start)
started_broken old new show limit start m fault e b = subst (λ s. BreaksOff old new fault (said_started show limit s)) e b

-- If no machine starts, then the job finishes with the refusal and reads no input.
pub talk_refused : (talk : Talk) (old : Streams) (start : Result State Refusal) (refusal : Refusal) (outcome : Outcome)
    → Err refusal ≡ start
    → ((unread : List ℕ) → IsOutcome outcome (refused refusal unread)) → Finishes old old outcome (said_talk talk start)
talk_refused (talks.Run show limit) old start refusal outcome e out =
    subst (λ s. Finishes old old outcome (said_started show limit s)) e
    (done_unread old old refl (said_started show limit (Err refusal)) outcome (λ input. (Appends-nil old.sink.contents, out input, refl))
    (subst IsSoundExit (sym (out []).exit) refl))
talk_refused (talks.Session typed) old start refusal outcome e out =
    subst (λ s. Finishes old old outcome (said_debug typed.items s)) e
    (done_unread old old refl (said_debug typed.items (Err refusal)) outcome (λ input. (Appends-nil old.sink.contents, out input, refl))
    (subst IsSoundExit (sym (out []).exit) refl))
