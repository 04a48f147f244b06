-- Jobs that read their whole input before they write.
use Rattle.std.proofs.Common.{◌≡◌, ℕ, List, [], ◌∷◌, ◌++◌, Option, None, Some, Result, Bool, true, false, refl, sym, ap, ◌∙◌, append-nil, subst, IfSome, IfErr}
use Rattle.std.specs.Io.KnownBytes.{Consumes, Appends, Keeps, IsAtEnd}
use Rattle.std.proofs.KnownBytes.{Appends-nil}
use Rattle.pm_jobs.specs.declared.selection.Selection.{Selection}
use Rattle.pm_jobs.specs.declared.fault.Fault.{Fault}
use Rattle.pm_tool.specs.declared.work.Work.{Work}
use Rattle.pm_tool.specs.declared.outcome.Outcome.{Outcome}
use Rattle.pm_tool.specs.Hex.{hex_spelled}
use Rattle.pm_tool.specs.Outcomes.{Said, IsOutcome}
use Rattle.pm_tool.specs.declared.steps.Show.TheVariants.{Trace}
use Rattle.pm_jobs.proofs.Transfers.{cause_longer}
use Rattle.pm_tool.specs.Disks.{loaded}
use Rattle.pm_tool.specs.Said.{said_started, said_work, IsSoundExit, Tells, TellsAll, Finishes, BreaksOff}
use Rattle.pm_jobs.specs.Streams.{Incoming, Streams, both, IsFront, AppendsFront, IsCause, ReadsAll}

-- If the job has its defined output for `read` followed by any known rest of the input, then it has its defined output
-- for the input.
pub tells_known : (old new : Streams) (read : List ℕ) → Consumes old.source.remaining new.source.remaining read → (outcome : Outcome) (text : List ℕ → Said)
    → ((rest : List ℕ) → new.source.remaining ≡ Some rest → Tells old new outcome (text (read ++ rest)))
    → TellsAll old new outcome text
tells_known old new read reads outcome text f = known old.source.remaining new.source.remaining reads f
  where
    known : (had left : Option (List ℕ)) → Consumes had left read → ((rest : List ℕ) → left ≡ Some rest → Tells old new outcome (text (read ++ rest)))
        → IfSome had (λ input. Tells old new outcome (text input))
    known None left reads f = tt
    known (Some input) None reads f = absurd reads
    known (Some input) (Some rest) reads f = subst (λ i. Tells old new outcome (text i)) (sym reads) (f rest refl)

pub if_known : (left : Option (List ℕ)) (P : List ℕ → Type 0) → ((rest : List ℕ) → left ≡ Some rest → P rest) → IfSome left P
if_known None P f = tt
if_known (Some rest) P f = f rest refl

pub not_failed : {A : Type 0} (failed : Bool) → failed ≡ false → failed ≡ true → A
not_failed false well bad = cc
not_failed true well bad = cc

-- If a fault stops the job before it writes anything, then the job has written a prefix of its defined output.
pub broken_unwritten : (old : Streams) (now : Incoming) (fault : Fault) (text : List ℕ → Said) (read : List ℕ)
    → Consumes old.source.remaining now.remaining read → IsCause fault now.failed old.sink.failed read → BreaksOff old (both now old.sink) fault text
broken_unwritten old now fault text read reads cause = record {
  cut = record {
    read = read;
    front = [];
    reads = reads;
    writes = Appends-nil old.sink.contents;
    so_far = ((text read).written, refl);
    whole = if_known now.remaining _ (λ rest e. ((text (read ++ rest)).written, refl));
  };
  cause = cause;
}

module _ (old new : Streams) (input : List ℕ) (reads : ReadsAll old.source.remaining new.source.remaining input) (text : List ℕ → Said) where
  no_rest : (rest : List ℕ) → new.source.remaining ≡ Some rest → rest ≡ []
  no_rest rest e = subst IsAtEnd e reads.1

  text_all : (rest : List ℕ) → new.source.remaining ≡ Some rest → text (input ++ rest) ≡ text input
  text_all rest e = ap text (ap (λ r. input ++ r) (no_rest rest e) ∙ append-nil input)

  -- If the whole input was read and then the whole output was written, then the job finishes with its defined output.
  pub done_whole : (outcome : Outcome) → Appends old.sink.contents new.sink.contents (text input).written → IsOutcome outcome (text input)
      → (text input).unread ≡ [] → IsSoundExit outcome.exit
      → Finishes old new outcome text
  done_whole outcome writes comes_to none sound = record {
    tells = tells_known old new input reads.0 outcome text (λ rest e.
        subst (Tells old new outcome) (sym (text_all rest e))
        (record { written = writes; comes_to = comes_to; unread = rw none (subst (Keeps (Some [])) (sym e) (no_rest rest e)) }));
    few = (input, reads.0, reads.2);
    exit = sound;
  }

  -- If the whole input was read and then a prefix of the output was written, then the job has written a prefix of its
  -- defined output.
  pub broken_writing : (fault : Fault) → AppendsFront old.sink.contents new.sink.contents (text input).written → new.source.failed ≡ false
      → IsCause fault false new.sink.failed [] → BreaksOff old new fault text
  broken_writing fault writes well cause = record {
    cut = record {
      read = input;
      front = writes.0;
      reads = reads.0;
      writes = writes.1;
      so_far = writes.2;
      whole = if_known new.source.remaining _ (λ rest e. subst (λ s. IsFront writes.0 s.written) (sym (text_all rest e)) writes.2);
    };
    cause = rw well (cause_longer fault new.sink.failed input reads.2 cause);
  }

-- ---- the trace of the program in the input

abbrev text_of : Selection → ℕ → List ℕ → Said
text_of selection limit input = said_started (Trace selection) limit (loaded (hex_spelled input)) []

nothing_read : (left : Option (List ℕ)) (read : List ℕ) → Consumes (Some []) left read → read ≡ []
nothing_read None read c = absurd c
nothing_read (Some rest) [] c = refl
nothing_read (Some rest) (x ∷ read) c = cc

nothing_left : (left : Option (List ℕ)) (read unread : List ℕ) → Consumes (Some []) left read → Keeps (Some unread) left → unread ≡ []
nothing_left None read unread c k = absurd c
nothing_left (Some []) read unread c k = sym k
nothing_left (Some (y ∷ rest)) [] unread c k = cc
nothing_left (Some (y ∷ rest)) (x ∷ read) unread c k = cc

-- The state of a source that never had any bytes.
abbrev empty : Incoming
empty = record { remaining = Some []; failed = false; given = 0 }

module _ (old new : Streams) (input : List ℕ) (reads : ReadsAll old.source.remaining new.source.remaining input) (selection : Selection) (limit : ℕ) where
  pub raw_done : (outcome : Outcome)
      → Finishes (both empty old.sink) (both empty new.sink) outcome (said_started (Trace selection) limit (loaded (hex_spelled input)))
      → Finishes old new outcome (λ i. said_started (Trace selection) limit (loaded (hex_spelled i)) [])
  raw_done outcome d =
      done_whole old new input reads (text_of selection limit) outcome d.tells.written d.tells.comes_to
      (nothing_left (Some []) d.few.0 _ d.few.1 d.tells.unread) d.exit

  pub raw_broken : (fault : Fault) → new.source.failed ≡ false
      → BreaksOff (both empty old.sink) (both empty new.sink) fault (said_started (Trace selection) limit (loaded (hex_spelled input)))
      → BreaksOff old new fault (λ i. said_started (Trace selection) limit (loaded (hex_spelled i)) [])
  raw_broken fault well b =
      let none = nothing_read (Some []) b.cut.read b.cut.reads in
      broken_writing old new input reads (text_of selection limit) fault
      (b.cut.front, b.cut.writes, rw none at b.cut.so_far) well (rw none at b.cause)

-- If the work `work` is equal to `this`, then what holds for a fault of `this` holds for a fault of `work`.
pub broken_work : (work this : Work) (old new : Streams) (result : Result Outcome Fault)
    → IfErr result (λ fault. BreaksOff old new fault (said_work this)) → work ≡ this
    → IfErr result (λ fault. BreaksOff old new fault (said_work work))
broken_work work this old new result broken e = rw e broken
