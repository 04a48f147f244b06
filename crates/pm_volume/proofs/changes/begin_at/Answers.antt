use Rattle.std.proofs.Common.{◌∙◌, ap}
use borrow.Rule.Slice.PartMut.{put_mid}
use Rattle.pm_volume.specs.Directory.{directory_of}
use Rattle.pm_volume.specs.Words.{with_word_in}
use Rattle.pm_volume.proofs.BegunLaws.{length-begun}
use Rattle.pm_volume.proofs.SlotLaws.{listed}
use Rattle.pm_volume.proofs.WrittenLaws.{length-directory}
use Rattle.pm_volume.proofs.changes.begin_at.Goals as goal

pub returns : goal.returns
returns c =
    let image = c.args.image.now in
    let d = directory_of image in
    record {
      begun =
          ap (put_mid 1024 2048 image) c.set_word.ensures.written
          ∙ listed image (with_word_in d 2 c.args.past) (length-begun d c.args.past (length-directory image c.requires.whole));
    }
