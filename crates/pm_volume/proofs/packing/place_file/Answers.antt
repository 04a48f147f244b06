use Rattle.std.proofs.Common.{◌∙◌, ap}
use borrow.Rule.Slice.PartMut.{put_mid}
use Rattle.pm_volume.specs.Directory.{directory_of}
use Rattle.pm_volume.specs.Packing.{with_places}
use Rattle.pm_volume.proofs.PackLaws.{length-with_places}
use Rattle.pm_volume.proofs.SlotLaws.{listed}
use Rattle.pm_volume.proofs.WrittenLaws.{length-directory}
use Rattle.pm_volume.proofs.packing.place_file.Goals as goal

pub returns : goal.returns
unfolding with_places
returns c =
    let image = c.args.image.now in
    let d = directory_of image in
    let a = c.args in
    record {
      placed =
          ap (put_mid 1024 2048 image) (rw (c.set_word.ensures.written, c.from-place.ensures) at c.set_word-2.ensures.written)
          ∙ listed image (with_places d a.n a.first a.end) (length-with_places d a.n a.first a.end (length-directory image c.requires.whole) c.requires.slot);
    }
