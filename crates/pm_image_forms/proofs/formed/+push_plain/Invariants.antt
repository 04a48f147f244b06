use Rattle.std.specs.Prelude.{length}
use Rattle.pm_image_forms.proofs.formed.+push_plain.Given as goal

abbrev pub decreases-push_plain : goal.decreases-push_plain
decreases-push_plain l = length l.paths.now
