-- Jobs that read nothing of their input.
use Rattle.std.proofs.Common.{◌≡◌, ℕ, List, [], Option, Some, false, sym, ◌∙◌, arith, subst}
use Rattle.std.specs.Io.KnownBytes.{Consumes, Appends, Keeps}
use Rattle.std.proofs.KnownBytes.{Consumes-nil}
use Rattle.pm_jobs.specs.declared.fault.Fault.{Fault}
use Rattle.pm_tool.specs.declared.outcome.Outcome.{Outcome}
use Rattle.pm_tool.specs.Outcomes.{Said, IsOutcome}
use Rattle.pm_tool.specs.Said.{BreaksOff, Finishes, IsSoundExit}
use Rattle.pm_jobs.specs.Streams.{Streams, AppendsFront, IsCause}
use Rattle.pm_tool.proofs.ReadWhole.{if_known}

pub consumes_none : (had : Option (List ℕ)) → Consumes had had []
consumes_none had = Consumes-nil had

module _ (old new : Streams) (same : new.source.remaining ≡ old.source.remaining) (text : List ℕ → Said) where
  nothing_read : Consumes old.source.remaining new.source.remaining []
  nothing_read = subst (λ left. Consumes old.source.remaining left []) (sym same) (consumes_none old.source.remaining)

  -- If nothing was read and the whole output was written, then the job finishes with its defined output.
  pub done_unread : (outcome : Outcome)
      → ((input : List ℕ) → Appends old.sink.contents new.sink.contents (text input).written × IsOutcome outcome (text input) × ((text input).unread ≡ input))
      → IsSoundExit outcome.exit → Finishes old new outcome text
  done_unread outcome all sound = record {
    tells = if_known old.source.remaining _ (λ input e. record {
      written = (all input).0;
      comes_to = (all input).1;
      unread = subst (Keeps (Some (text input).unread)) (sym (same ∙ e)) (sym (all input).2);
    });
    few = ([], nothing_read, omega arith);
    exit = sound;
  }

  -- If nothing was read and a prefix of the output was written, then the job has written a prefix of its defined
  -- output.
  pub broken_unread : (fault : Fault) (written : List ℕ) → ((input : List ℕ) → (text input).written ≡ written)
      → AppendsFront old.sink.contents new.sink.contents written → new.source.failed ≡ false → IsCause fault false new.sink.failed []
      → BreaksOff old new fault text
  broken_unread fault written alike front well cause = record {
    cut = record {
      read = [];
      front = front.0;
      reads = nothing_read;
      writes = front.1;
      so_far = rw alike front.2;
      whole = if_known new.source.remaining _ (λ rest e. rw (alike rest) front.2);
    };
    cause = rw well cause;
  }
