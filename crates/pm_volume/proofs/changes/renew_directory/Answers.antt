use Rattle.std.proofs.Common.{◌∙◌, ap}
use borrow.Rule.Slice.PartMut.{put_mid}
use Rattle.pm_volume.specs.Copies.{mirrored}
use Rattle.pm_volume.specs.Headers.{new_directory}
use Rattle.pm_volume.proofs.HeaderLaws.{length-new_directory}
use Rattle.pm_volume.proofs.SlotLaws.{listed}
use Rattle.pm_volume.proofs.changes.renew_directory.Goals as goal

pub returns : goal.returns
returns c =
    let a = c.args in
    let image = a.image.now in
    record {
      image =
          c.mirror.ensures.mirrored
          ∙ ap mirrored (ap (put_mid 1024 2048 image) c.write_directory.ensures.directory
          ∙ listed image (new_directory a.past a.name.now a.blocks a.date) (length-new_directory a.past a.name.now a.blocks a.date c.requires.short));
    }
