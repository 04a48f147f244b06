use Rattle.std.specs.Prelude.{length}
use Rattle.pm_image_forms.proofs.formed.+add_forms.Given as goal

abbrev pub decreases-add_forms : goal.decreases-add_forms
decreases-add_forms g l = length l.paths.now
