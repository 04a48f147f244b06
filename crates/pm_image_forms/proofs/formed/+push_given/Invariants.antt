use Rattle.std.specs.Prelude.{length}
use Rattle.pm_image_forms.proofs.formed.+push_given.Given as goal

abbrev pub decreases-push_given : goal.decreases-push_given
decreases-push_given l = length l.images.now
