-- Lemmas about what a run writes to standard output.
use Rattle.std.proofs.Common.{◌≡◌, ◌∙◌, ◌++◌, ◌∷◌, [], ℕ, Bool, true, false, List, Option, None, Some, inr, refl, sym}
use Rattle.std.proofs.Common.{IfSome, Vec, ap, append_assoc, option_map, string_bytes, subst, vec_items}
use Rattle.std.proofs.KnownBytes.{Appends-nil, Appends-trans}
use Rattle.std.specs.Io.KnownBytes.{Appends}
use Rattle.std.specs.declared.alloc.Global.{Global}
use Rattle.pm_files.specs.Held.{Files}
use Rattle.pm_jobs.specs.Streams.{AppendsFront, Outgoing, Streams}
use Rattle.pm_output.proofs.FrontLaws.{known_front}
use Rattle.pm_plan.specs.Asked.{paths_in}
use Rattle.pm_plan.specs.declared.run_words.Program.{Program}
use Rattle.pm_runs.specs.Saved.{Reads, ReadsEach, TellsPartOfRun, TellsRun, has_run, paths_of, printed}
use Rattle.pm_runs.specs.Saved.{said_of_run}
use Rattle.pm_runs.specs.declared.saved.Printing.{Printing}
use Rattle.pm_runs.specs.declared.saved.Printing.TheVariants as printings
use Rattle.pm_runs.specs.declared.saved.SavedOfRun.{SavedOfRun}
use Rattle.pm_runs.proofs.SavedLaws.{not_run}
use Rattle.pm_tool.specs.Disks.{images_of}
use Rattle.pm_tool.specs.Outcomes.{IsOutcome, Said, is_sound_exit}
use Rattle.pm_tool.specs.Said.{IsCutShort, IsSoundExit, Tells, TellsAll, TellsFront}
use Rattle.pm_tool.specs.declared.outcome.Outcome.{Outcome}

-- A stream that has not changed has no bytes appended.
pub appends_none : (bytes : Option (List ℕ)) → Appends bytes bytes []
appends_none bytes = Appends-nil bytes

-- A stream that has not changed has an empty prefix of `text` appended.
pub front_of_none : (bytes : Option (List ℕ)) (text : List ℕ) → AppendsFront bytes bytes text
front_of_none bytes text = ([], Appends-nil bytes, (text, refl))

-- Bytes that are appended after a prefix of `ys` follow `xs`.
front_then : (a b c : Option (List ℕ)) (xs ys : List ℕ) → Appends a b xs → AppendsFront b c ys → AppendsFront a c (xs ++ ys)
front_then a b c xs ys first second = (
  xs ++ second.0,
  Appends-trans a b c xs second.0 first second.1,
  (second.2.0, ap (λ more. xs ++ more) second.2.1 ∙ sym (append_assoc xs second.0 second.2.0)),
)

-- A prefix of the empty list is empty.
empty_front : (front rest : List ℕ) → [] ≡ front ++ rest → front ≡ []
empty_front [] rest is = refl
empty_front (x ∷ front) rest is = absurd (cc)

-- If nothing follows a prefix of `xs`, it is a prefix of any list that begins with `xs`.
front_alone : (a b c : Option (List ℕ)) (xs ys : List ℕ) → AppendsFront a b xs → AppendsFront b c []
    → AppendsFront a c (xs ++ ys)
front_alone a b c xs ys first second = (
  first.0 ++ second.0,
  Appends-trans a b c first.0 second.0 first.1 second.1,
  (
    first.2.0 ++ ys,
    ap (λ more. more ++ ys) first.2.1 ∙ append_assoc first.0 first.2.0 ys
        ∙ subst (λ none. first.0 ++ (first.2.0 ++ ys) ≡ (first.0 ++ none) ++ (first.2.0 ++ ys))
        (sym (empty_front second.0 second.2.0 second.2.1)) (subst (λ all. first.0 ++ (first.2.0 ++ ys) ≡ all ++ (first.2.0 ++ ys))
        (sym (append_nil first.0)) refl),
  ),
)
  where
    append_nil : (xs : List ℕ) → xs ++ [] ≡ xs
    append_nil [] = refl
    append_nil (x ∷ xs) = ap (λ more. x ∷ more) (append_nil xs)

-- The printer's output of an outcome is that of the specification.
printed_told : (printing : Printing) (outcome : Outcome) (told : Said) → IsOutcome outcome told
    → printed printing (has_run outcome.exit) outcome.printer.items ≡ printed printing (has_run told.exit) told.printer
printed_told printing outcome told is =
    ap (λ exit. printed printing (has_run exit) outcome.printer.items) is.exit
    ∙ ap (λ bytes. printed printing (has_run told.exit) bytes) is.printer

-- If a program has not run, the printer's output is empty.
printed_cut : (printing : Printing) (outcome : Outcome) → IsCutShort outcome.exit
    → printed printing (has_run outcome.exit) outcome.printer.items ≡ []
printed_cut printing outcome cut = ap (λ runs. printed printing runs outcome.printer.items) (not_run outcome.exit cut) ∙ none printing
  where
    none : (printing : Printing) → printed printing false outcome.printer.items ≡ []
    none printings.Nowhere = refl
    none printings.Output = refl
    none (printings.File path) = refl

module _ (before middle : Streams) (after : Outgoing) (files : Files) (program : Program) (saved : SavedOfRun)
    (disks : List (Option (Vec ℕ Global))) (system : Option (Vec ℕ Global)) (outcome : Outcome)
    (reads : ReadsEach files (paths_of (string_bytes program.disk) (paths_in program.others)) (images_of disks))
    (given : Reads files (option_map string_bytes program.system) (option_map vec_items system)) where
  -- If the input is known, a run has the outcome and the output that the specification states.
  pub known_tells_run : TellsAll before middle outcome (said_of_run program saved disks system)
      → Appends middle.sink.contents after.contents (printed saved.printing (has_run outcome.exit) outcome.printer.items)
      → IfSome before.source.remaining (λ input. TellsRun files before.sink after outcome program saved input)
  known_tells_run tells prints = known before.source.remaining tells
    where
      known : (had : Option (List ℕ))
          → IfSome had (λ input. Tells before middle outcome (said_of_run program saved disks system input))
          → IfSome had (λ input. TellsRun files before.sink after outcome program saved input)
      known None told = tt
      known (Some input) told = (
        disks,
        system,
        reads,
        given,
        told.comes_to,
        Appends-trans before.sink.contents middle.sink.contents after.contents _ _ told.written
            (subst (Appends middle.sink.contents after.contents) (printed_told saved.printing outcome _ told.comes_to) prints),
      )

  -- If the input is known, a run has written a prefix of the output that the specification states.
  pub known_tells_part : (IsSoundExit outcome.exit → TellsAll before middle outcome (said_of_run program saved disks system))
      → (IsCutShort outcome.exit → TellsFront before middle (said_of_run program saved disks system))
      → AppendsFront middle.sink.contents after.contents (printed saved.printing (has_run outcome.exit) outcome.printer.items)
      → IfSome before.source.remaining (λ input. TellsPartOfRun files before.sink after program saved input)
  known_tells_part tells cut prints = choose (is_sound_exit outcome.exit) refl
    where
      sound_part : (had : Option (List ℕ))
          → IfSome had (λ input. Tells before middle outcome (said_of_run program saved disks system input))
          → IfSome had (λ input. TellsPartOfRun files before.sink after program saved input)
      sound_part None told = tt
      sound_part (Some input) told = inr (
        disks,
        system,
        reads,
        given,
        front_then before.sink.contents middle.sink.contents after.contents _ _ told.written
            (subst (AppendsFront middle.sink.contents after.contents) (printed_told saved.printing outcome _ told.comes_to)
            prints),
      )

      cut_part : (had : Option (List ℕ))
          → IfSome had (λ input. AppendsFront before.sink.contents middle.sink.contents
          (said_of_run program saved disks system input).written)
          → IsCutShort outcome.exit
          → IfSome had (λ input. TellsPartOfRun files before.sink after program saved input)
      cut_part None front is = tt
      cut_part (Some input) front is = inr (
        disks,
        system,
        reads,
        given,
        front_alone before.sink.contents middle.sink.contents after.contents _ _ front
            (subst (AppendsFront middle.sink.contents after.contents) (printed_cut saved.printing outcome is) prints),
      )

      choose : (sound : Bool) → is_sound_exit outcome.exit ≡ sound
          → IfSome before.source.remaining (λ input. TellsPartOfRun files before.sink after program saved input)
      choose true is = sound_part before.source.remaining (tells is)
      choose false is = cut_part before.source.remaining
          (known_front before middle (said_of_run program saved disks system) (cut is)) is
