-- What a conversion of an image leaves.
use Rattle.std.specs.Prelude.{◌≡◌, ℕ, List, Bool, false, Option, None, Some, Result, Ok, Err, string_bytes}
use Rattle.pm_convert.specs.Foreigners.{recognized}
use Rattle.pm_convert.specs.Found.{formats_of, is_sum_wrong}
use Rattle.pm_convert.specs.Jobs.{converted, converted_back, formats_text, only}
use Rattle.pm_convert.specs.declared.format.Format.{Format}
use Rattle.pm_convert.specs.declared.job.ConvertFault.{ConvertFault}
use Rattle.pm_files.specs.Held.{Files, HoldsFile, Puts}
use Rattle.std.specs.Io.KnownBytes.{Appends}
use Rattle.pm_jobs.specs.Streams.{Outgoing}
use Rattle.pm_plan.specs.declared.convert_words.ConvertPlan.{ConvertPlan}
use Rattle.pm_plan.specs.declared.convert_words.Target.{Target}
use Rattle.pm_plan.specs.declared.convert_words.Target.TheVariants as targets
use Rattle.pm_conversion.specs.declared.converted.Converted.{Converted}

-- The path of the image whose format matters: the image of `--back`, or the image that is converted.
abbrev pub source_of : Target → List ℕ → List ℕ
source_of (targets.As format) old = old
source_of (targets.Back image) old = string_bytes image

-- The fault of a result, if it has one.
abbrev pub fault_in : {A : Type 0} → Result A ConvertFault → Option ConvertFault
fault_in (Ok value) = None
fault_in (Err fault) = Some fault

-- A line for each format of the image is printed. The fault is that of choosing one of the formats.
abbrev pub PrintsFormats : Outgoing → Outgoing → List ℕ → Option ConvertFault → Type 0
PrintsFormats out after image fault = Appends out.contents after.contents (formats_text image)
    × (fault ≡ fault_in (only (formats_of image)))

-- The result of the conversion: a new image of the target's format, or the image of the target with the blocks of the
-- file at `old`.
abbrev pub IsMade : Files → Target → List ℕ → Option Format → List ℕ → Result (List ℕ) ConvertFault → Type 0
IsMade files (targets.As to) old format image made = made ≡ converted format to image
IsMade files (targets.Back _) old format image made =
    (blocks : List ℕ) × HoldsFile files old blocks × (made ≡ converted_back format image blocks)

-- The new image is written, or the fault is reported and no file changes.
abbrev pub WritesMade : Files → Files → List ℕ → Result (List ℕ) ConvertFault → Option ConvertFault → Type 0
WritesMade old new path (Ok image) fault = Puts old new path image × (fault ≡ None)
WritesMade old new path (Err reason) fault = (new ≡ old) × (fault ≡ Some reason)

-- With a path for a new image, the image is converted. Without it, its formats are printed, and no file changes.
abbrev pub ConvertsWith : Files → Files → Outgoing → Outgoing → ConvertPlan → Option (List ℕ) → List ℕ
    → Option ConvertFault → Type 0
ConvertsWith old new out after plan None image fault = PrintsFormats out after image fault × (new ≡ old)
ConvertsWith old new out after plan (Some path) image fault = (made : Result (List ℕ) ConvertFault)
    × IsMade old plan.target (string_bytes plan.old) plan.format image made × WritesMade old new path made fault

-- The image of a plan is read, and converted or printed. The checksum in its header is checked, and the image is
-- recognized if it is one of another system.
abbrev pub Converts : Files → Files → Outgoing → Outgoing → ConvertPlan → Option (List ℕ) → Converted → Type 0
Converts old new out after plan path done = (image : List ℕ)
    × HoldsFile old (source_of plan.target (string_bytes plan.old)) image
    × ConvertsWith old new out after plan path image done.fault × (done.is_damaged ≡ is_sum_wrong image)
    × (done.foreign ≡ recognized image)
