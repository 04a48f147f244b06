-- Lemmas for the functions of texts.rt: the results of a job on a text are those that its specification states.
use Rattle.std.proofs.Common.{◌≡◌, ◌∙◌, [], ℕ, false, List, Option, None, Some, refl, subst, sym, arith, inl, inr, IfSome}
use Rattle.std.specs.Io.KnownBytes.{Appends}
use Rattle.pm_files.specs.Held.{Files, Locks, Saves}
use Rattle.pm_jobs.specs.Streams.{Streams}
use Rattle.pm_tool.specs.Outcomes.{Said, is_sound_exit}
use Rattle.pm_tool.specs.Said.{Tells}
use Rattle.pm_tool.specs.declared.outcome.Exit.{Exit}
use Rattle.pm_tool.specs.declared.outcome.Exit.TheVariants as exits
use Rattle.pm_tool.specs.declared.outcome.Outcome.{Outcome}
use Rattle.pm_output.specs.Texts.{Comes, HoldsOutput, SavesText, written_by}
use Rattle.pm_paths.specs.Locks.{held_at}

pub cut_keeps_none : (exit : Exit) (bytes : List ℕ) → is_sound_exit exit ≡ false → written_by exit bytes ≡ None
cut_keeps_none exits.Ended bytes cut = absurd (grind (arith, cut))
cut_keeps_none exits.Usage bytes cut = refl
cut_keeps_none exits.Refused bytes cut = refl
cut_keeps_none exits.ExecutionError bytes cut = absurd (grind (arith, cut))
cut_keeps_none exits.ReadFault bytes cut = refl
cut_keeps_none exits.WriteFault bytes cut = refl
cut_keeps_none exits.NoMemory bytes cut = refl
cut_keeps_none exits.Stopped bytes cut = absurd (grind (arith, cut))

-- If the output was empty before the job, then its contents after the job are the output that the specification states.
pub known_written : (had : Option (List ℕ)) (before after : Streams) (outcome : Outcome) (page : List ℕ)
    (text : List ℕ → Said) → before.sink.contents ≡ Some [] → after.sink.contents ≡ Some page
    → IfSome had (λ input. Tells before after outcome (text input)) → IfSome had (λ input. Comes outcome page (text input))
known_written None before after outcome page text first last tells = tt
known_written (Some input) before after outcome page text first last tells = (
  tells.comes_to,
  by before.sink.contents after.sink.contents first last tells.written,
)
  where
    by : (old new : Option (List ℕ)) → old ≡ Some [] → new ≡ Some page → Appends old new (text input).written
        → page ≡ (text input).written
    by old new e f w = subst (λ n. Appends (Some []) n (text input).written) f (subst (λ o. Appends o new (text input).written) e w)

-- If `page` is the output that the specification states, then saving it saves the output that the specification states.
pub known_text : (had : Option (List ℕ)) (old held new : Files) (path : List ℕ) (outcome : Outcome) (page kept : List ℕ)
    (text : List ℕ → Said) → held ≡ old → kept ≡ page → Saves held new path (written_by outcome.exit kept)
    → IfSome had (λ input. Comes outcome page (text input)) → IfSome had (λ input. SavesText old new path outcome (text input))
known_text None old held new path outcome page kept text same is saves comes = tt
known_text (Some input) old held new path outcome page kept text same is saves comes = (
  comes.0,
  subst (λ files. Saves files new path (written_by (text input).exit (text input).written)) same
      (subst (λ bytes. Saves held new path (written_by (text input).exit bytes)) (is ∙ comes.1)
      (subst (λ exit. Saves held new path (written_by exit kept)) comes.0.exit saves)),
)

-- If the file at the path is locked, the lock is as stated for any exit.
pub held_output : (exit : Exit) (path : Option (List ℕ)) (old new : Locks) → new ≡ held_at path old
    → HoldsOutput exit path old new
held_output exits.Ended path old new is = is
held_output exits.Usage path old new is = is
held_output exits.Refused path old new is = inl is
held_output exits.ExecutionError path old new is = is
held_output exits.ReadFault path old new is = is
held_output exits.WriteFault path old new is = is
held_output exits.NoMemory path old new is = is
held_output exits.Stopped path old new is = is

-- If a job was refused and no lock has changed, the locks are as stated.
pub refused_holds : (exit : Exit) (path : Option (List ℕ)) (old new : Locks) → exit ≡ exits.Refused → new ≡ old
    → HoldsOutput exit path old new
refused_holds exit path old new is same = subst (λ exit. HoldsOutput exit path old new) (sym is) (inr same)
