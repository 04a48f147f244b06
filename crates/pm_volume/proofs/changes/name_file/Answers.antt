use Rattle.std.proofs.Common.{◌∙◌, ap, ◌+◌, ◌*◌}
use borrow.Rule.Slice.PartMut.{put_mid}
use Rattle.pm_volume.specs.Copies.{mirrored}
use Rattle.pm_volume.specs.Directory.{directory_of}
use Rattle.pm_volume.specs.Names.{name_field}
use Rattle.pm_volume.specs.Words.{written}
use Rattle.pm_volume.proofs.RenameLaws.{length-named}
use Rattle.pm_volume.proofs.SlotLaws.{listed}
use Rattle.pm_volume.proofs.WrittenLaws.{length-directory}
use Rattle.pm_volume.proofs.changes.name_file.Goals as goal

pub returns : goal.returns
returns c =
    let image = c.args.image.now in
    let d = directory_of image in
    let r = c.requires in
    let wrote = rw (c.from.ensures, c.name_field-field.ensures.field) at c.set_bytes.ensures.written in
    record {
      image =
          c.mirror.ensures.mirrored
          ∙ ap mirrored (ap (put_mid 1024 2048 image) wrote
          ∙ listed image (written d (26 * c.args.slot + 6) (name_field 15 c.args.name.now))
          (length-named d c.args.name.now c.args.slot (length-directory image r.whole) r.short r.from r.to));
    }
