use Rattle.std.proofs.Common.{◌∙◌, ap}
use borrow.Rule.Slice.PartMut.{put_mid}
use Rattle.pm_volume.specs.Copies.{mirrored}
use Rattle.pm_volume.specs.Directory.{directory_of}
use Rattle.pm_volume.specs.Changes.{without_slot}
use Rattle.pm_volume.proofs.SlotLaws.{listed}
use Rattle.pm_volume.proofs.SlotRemoval.{length-without_slot}
use Rattle.pm_volume.proofs.WrittenLaws.{length-directory}
use Rattle.pm_volume.proofs.changes.take_file.Goals as goal

pub returns : goal.returns
returns c =
    record {
      image =
          let image = c.args.image.now in
          let d = directory_of image in
          let r = c.requires in
          c.mirror.ensures.mirrored
          ∙ ap mirrored (ap (put_mid 1024 2048 image) c.remove_slot.ensures.removed
          ∙ listed image (without_slot d c.args.slot) (length-without_slot d c.args.slot (length-directory image r.whole) r.few r.from r.to));
    }
