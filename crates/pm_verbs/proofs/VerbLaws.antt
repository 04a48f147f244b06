-- Lemmas for the functions of verbs.rt: the image that a verb saves is the one that the specification of the verb
-- states. The input is *known* if the model of the input stream states its remaining bytes.
use Rattle.std.proofs.Common.{◌≡◌, [], ℕ, Bool, true, false, List, Option, None, Some, inl, inr, refl, subst}
use Rattle.std.proofs.Common.{IfSome, IsSome, OnErr, Result, Ok, Err, option_map, vec_items, string_bytes, Vec}
use Rattle.std.specs.Io.KnownBytes.{Appends}
use Rattle.std.specs.declared.alloc.Global.{Global}
use Rattle.pm_files.specs.Held.{Files, HoldsFile, Saves}
use Rattle.pm_jobs.specs.Streams.{AppendsFront, Outgoing, Streams}
use Rattle.pm_tool.specs.Disks.{images_of}
use Rattle.pm_tool.specs.Outcomes.{IsOutcome, is_sound_exit, no_others}
use Rattle.pm_tool.specs.Said.{IsCutShort, IsSoundExit, job_said, Tells, TellsAll, TellsFront}
use Rattle.pm_tool.specs.declared.outcome.Job.{Job}
use Rattle.pm_tool.specs.declared.outcome.Outcome.{Outcome}
use Rattle.pm_output.proofs.FrontLaws.{known_front}
use Rattle.pm_verbs.specs.Verbs.{SavesSaid, SavesSalvage, SaysOf, TellsVerb, WritesNoneOrAll}
use Rattle.pm_verbs.specs.Verbs.{WritesPart}
use Rattle.pm_tool.specs.declared.outcome.Job.TheVariants as jobs
use Rattle.pm_plan.specs.declared.file_words.SalvagePlan.{SalvagePlan}
use Rattle.pm_plan.specs.declared.file_words.Verb.{Verb}

-- If the input is known, the file at `path` contains the image that the specification of `verb` states.
pub known_saves_said : (before after : Streams) (old read new : Files) (path : List ℕ) (verb : Verb) (job : Job)
    (outcome : Outcome) → TellsAll before after outcome (job_said job) → SaysOf old path verb job
    → read ≡ old → Saves read new path (option_map vec_items outcome.image)
    → IfSome before.source.remaining (λ input. SavesSaid old new path verb input)
known_saves_said before after old read new path verb job outcome tells says same saves =
    known before.source.remaining tells
  where
    known : (had : Option (List ℕ)) → IfSome had (λ input. Tells before after outcome (job_said job input))
        → IfSome had (λ input. SavesSaid old new path verb input)
    known None told = tt
    known (Some input) told = (
      says.0,
      says.1,
      subst (λ told. Saves old new path told.image) (says.2 input) (subst (Saves old new path) told.comes_to.image
          (subst (λ files. Saves files new path (option_map vec_items outcome.image)) same saves)),
    )

-- If the input is known, the outcome and the output are those that the specification of `verb` states.
pub known_tells_verb : (before after : Streams) (old : Files) (path : List ℕ) (verb : Verb) (job : Job)
    (outcome : Outcome) → TellsAll before after outcome (job_said job) → SaysOf old path verb job
    → IfSome before.source.remaining (λ input. TellsVerb old before.sink after.sink outcome path verb input)
known_tells_verb before after old path verb job outcome tells says = known before.source.remaining tells
  where
    known : (had : Option (List ℕ)) → IfSome had (λ input. Tells before after outcome (job_said job input))
        → IfSome had (λ input. TellsVerb old before.sink after.sink outcome path verb input)
    known None told = tt
    known (Some input) told = (
      says.0,
      says.1,
      subst (IsOutcome outcome) (says.2 input) told.comes_to,
      subst (λ told. Appends before.sink.contents after.sink.contents told.written) (says.2 input) told.written,
    )

-- If the input is known, a job that was cut short wrote a prefix of the output that the specification of `verb` states.
pub known_writes_part : (before after : Streams) (old : Files) (path : List ℕ) (verb : Verb) (job : Job)
    → TellsFront before after (job_said job) → SaysOf old path verb job
    → IfSome before.source.remaining (λ input. WritesPart old path verb before.sink after.sink input)
known_writes_part before after old path verb job tells says =
    known before.source.remaining (known_front before after (job_said job) tells)
  where
    known : (had : Option (List ℕ))
        → IfSome had (λ input. AppendsFront before.sink.contents after.sink.contents (job_said job input).written)
        → IfSome had (λ input. WritesPart old path verb before.sink after.sink input)
    known None writes = tt
    known (Some input) writes = (
      says.0,
      says.1,
      subst (λ told. AppendsFront before.sink.contents after.sink.contents told.written) (says.2 input) writes,
    )

not_both : false ≡ true → ⊥
not_both is = cc

-- A job with an image was not cut short.
pub sound_with_image : (outcome : Outcome) → IsSome outcome.image
    → (IsCutShort outcome.exit → (outcome.image ≡ None) × (images_of outcome.others ≡ no_others)
    × (outcome.printer.items ≡ [])) → IsSoundExit outcome.exit
sound_with_image outcome some nothing = known (is_sound_exit outcome.exit) refl
  where
    known : (sound : Bool) → is_sound_exit outcome.exit ≡ sound → IsSoundExit outcome.exit
    known true is = is
    known false is = absurd (not_both (subst (λ (image : Option (Vec ℕ Global)). IsSome image) (nothing is).0 some))

-- What holds, holds if a result is an error.
pub err_holds : {A E : Type 0} (result : Result A E) (P : Type 0) → P → OnErr result P
err_holds (Ok value) P holds = tt
err_holds (Err fault) P holds = holds

-- If the input is known, a job that has written its output has written all that the specification of `verb` states.
pub known_writes_all : (before after : Streams) (old : Files) (path : List ℕ) (verb : Verb) (job : Job)
    (outcome : Outcome) → TellsAll before after outcome (job_said job) → SaysOf old path verb job
    → IfSome before.source.remaining (λ input. WritesNoneOrAll old path verb before.sink after.sink input)
known_writes_all before after old path verb job outcome tells says = known before.source.remaining tells
  where
    known : (had : Option (List ℕ)) → IfSome had (λ input. Tells before after outcome (job_said job input))
        → IfSome had (λ input. WritesNoneOrAll old path verb before.sink after.sink input)
    known None told = tt
    known (Some input) told = inr (
      says.0,
      says.1,
      subst (λ told. Appends before.sink.contents after.sink.contents told.written) (says.2 input) told.written,
    )

-- If nothing was written, the output is as specified for an error.
pub known_writes_none : (had : Option (List ℕ)) (old : Files) (path : List ℕ) (verb : Verb) (before after : Outgoing)
    → after ≡ before → IfSome had (λ input. WritesNoneOrAll old path verb before after input)
known_writes_none None old path verb before after same = tt
known_writes_none (Some input) old path verb before after same = inl same

-- If the input is known, the new volume is the one that the specification states for `image`.
pub known_salvage : (before after : Streams) (old held read new : Files) (plan : SalvagePlan) (image : Vec ℕ Global)
    (outcome : Outcome) (from to : List ℕ) → from ≡ string_bytes plan.path → to ≡ string_bytes plan.target
    → TellsAll before after outcome (job_said (jobs.Salvage image plan.second))
    → held ≡ old → read ≡ held → HoldsFile held from image.items
    → Saves read new to (option_map vec_items outcome.image)
    → IfSome before.source.remaining (λ input. SavesSalvage old new plan input)
known_salvage before after old held read new plan image outcome from to is_from is_to tells same also holds saves =
    known before.source.remaining tells
  where
    known : (had : Option (List ℕ))
        → IfSome had (λ input. Tells before after outcome (job_said (jobs.Salvage image plan.second) input))
        → IfSome had (λ input. SavesSalvage old new plan input)
    known None told = tt
    known (Some input) told = (
      image.items,
      subst (λ files. HoldsFile files (string_bytes plan.path) image.items) same
          (subst (λ path. HoldsFile held path image.items) is_from holds),
      subst (Saves old new (string_bytes plan.target)) told.comes_to.image
          (subst (λ files. Saves files new (string_bytes plan.target) (option_map vec_items outcome.image)) same
          (subst (λ files. Saves files new (string_bytes plan.target) (option_map vec_items outcome.image)) also
          (subst (λ path. Saves read new path (option_map vec_items outcome.image)) is_to saves))),
    )
