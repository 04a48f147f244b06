-- The images that a run saves.
use Rattle.std.specs.Prelude.{Bool, true, false}
use Rattle.pm_jobs.specs.declared.saving.Saving.{Saving}
use Rattle.pm_jobs.specs.declared.saving.Saving.TheVariants as savings

-- Is true if this choice of images includes the image on unit 4.
abbrev pub has_first : Saving → Bool
has_first savings.Nothing = false
has_first savings.First = true
has_first savings.All = true
has_first savings.Others = false

-- Is true if this choice of images includes the images on the units other than 4.
abbrev pub has_others : Saving → Bool
has_others savings.Nothing = false
has_others savings.First = false
has_others savings.All = true
has_others savings.Others = true
