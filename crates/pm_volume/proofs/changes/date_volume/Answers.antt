use Rattle.std.proofs.Common.{◌∙◌, ap}
use borrow.Rule.Slice.PartMut.{put_mid}
use Rattle.pm_volume.specs.Copies.{mirrored}
use Rattle.pm_volume.specs.Directory.{directory_of}
use Rattle.pm_volume.specs.Words.{with_word_in}
use Rattle.pm_volume.proofs.HeaderLaws.{length-dated}
use Rattle.pm_volume.proofs.SlotLaws.{listed}
use Rattle.pm_volume.proofs.WrittenLaws.{length-directory}
use Rattle.pm_volume.proofs.changes.date_volume.Goals as goal

pub returns : goal.returns
returns c =
    let image = c.args.image.now in
    let d = directory_of image in
    record {
      image =
          c.mirror.ensures.mirrored
          ∙ ap mirrored (ap (put_mid 1024 2048 image) c.set_word.ensures.written
          ∙ listed image (with_word_in d 20 c.args.date) (length-dated d c.args.date (length-directory image c.requires.whole)));
    }
