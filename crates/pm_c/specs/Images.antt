-- The defined outputs of the calls on images that are no job of the program: conversions, the system segment, and the
-- report of a salvage.
use Rattle.std.specs.Prelude.{◌≡◌, ℕ, List, [], ◌∷◌, ◌++◌, Option, Some, None, Result, Ok, Err, codes, option_map}
use Rattle.std.specs.Fmt.{decimal}
use Rattle.pm_batch.specs.declared.refusal.Refusal.{Refusal}
use Rattle.pm_batch.specs.declared.refusal.Refusal.TheVariants as refusals
use Rattle.pm_check.specs.Saving.{Saved}
use Rattle.pm_convert.specs.Formats.{format_named}
use Rattle.pm_convert.specs.Jobs.{converted, converted_back, number_of}
use Rattle.pm_convert.specs.declared.format.Format.{Format}
use Rattle.pm_convert.specs.declared.job.ConvertFault.{ConvertFault}
use Rattle.pm_filer.specs.declared.system_fault.SystemFault.{SystemFault}
use Rattle.pm_volume.specs.declared.fault.VolumeFault.{VolumeFault}
use Rattle.pm_tool.specs.Outcomes.{Said, no_others, refused}
use Rattle.pm_tool.specs.Products.{ended}
use Rattle.pm_tool.specs.declared.outcome.Exit.TheVariants as exits
use Rattle.pm_c.specs.Answers.{Answers}
use Rattle.pm_c.specs.declared.status.TheConstants.{NO_FORMAT}

-- ---- conversions

-- The format that a name means for an existing image. The empty name means the only format in which the image opens:
-- the inner value is then `None`. The outer value is `None` if no format has this name.
abbrev pub given_format : List ℕ → Option (Option Format)
given_format [] = Some None
given_format (byte ∷ bytes) = option_map Some (format_named (byte ∷ bytes))

-- The defined output of a conversion: the new image, or the message `refused convert N`.
abbrev pub said_convert : Result (List ℕ) ConvertFault → Said
said_convert (Ok image) = ended [] (Some image) []
said_convert (Err fault) =
    record {
      written = [];
      exit = exits.Refused;
      message = codes "refused convert " ++ decimal (number_of fault);
      image = None;
      others = no_others;
      printer = [];
      unread = [];
      stopped = None;
    }

-- The call was refused because a name is not the name of a format: the buffer is unchanged and `needed` is 0.
pub record RefusesFormat (status : ℕ) (old new : List ℕ) (needed : ℕ) : Type 0 where
  pub says : status ≡ NO_FORMAT
  pub same : new ≡ old
  pub none : needed ≡ 0

-- The call converts the volume that `image` has in the format `from` to a new image in the format `to`. If one of them
-- is no format, the call is refused.
abbrev pub AnswersTo : Option (Option Format) → Option Format → List ℕ → ℕ → List ℕ → List ℕ → ℕ → Type 0
AnswersTo None to image status old new needed = RefusesFormat status old new needed
AnswersTo (Some from) None image status old new needed = RefusesFormat status old new needed
AnswersTo (Some from) (Some to) image status old new needed =
    Answers (said_convert (converted from to image)) status old new needed

-- The call returns `image` with `blocks` instead of its own blocks, in its format `from`. It is refused if that is no
-- format.
abbrev pub AnswersIn : Option (Option Format) → List ℕ → List ℕ → ℕ → List ℕ → List ℕ → ℕ → Type 0
AnswersIn None image blocks status old new needed = RefusesFormat status old new needed
AnswersIn (Some from) image blocks status old new needed =
    Answers (said_convert (converted_back from image blocks)) status old new needed

-- ---- the system segment, and the report of a salvage

-- The image with the system segment, or why there is none. `fault` is the fault of the image if it is no volume, and
-- `made` is the result of adding the segment to a volume.
abbrev pub system_added : Option VolumeFault → Result (List ℕ) SystemFault → Result (List ℕ) Refusal
system_added (Some fault) made = Err (refusals.Volume fault)
system_added None (Ok image) = Ok image
system_added None (Err fault) = Err (refusals.System fault)

-- The defined output of adding the system segment: the new image, or the message of the refusal.
abbrev pub said_system : Result (List ℕ) Refusal → Said
said_system (Ok image) = ended [] (Some image) []
said_system (Err refusal) = refused refusal []

-- The defined output of the report of a salvage: its text, or the message of the refusal.
abbrev pub said_report : Result Saved VolumeFault → Said
said_report (Ok saved) = ended saved.text None []
said_report (Err fault) = refused (refusals.Volume fault) []
