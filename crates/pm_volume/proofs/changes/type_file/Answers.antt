use Rattle.std.proofs.Common.{◌∙◌, ap, sym, ℕ, ◌+◌, ◌*◌, get_or, [], ◌∷◌, arith}
use borrow.Rule.Slice.PartMut.{put_mid}
use Rattle.pm_volume.specs.Changes.{kind_byte}
use Rattle.pm_volume.specs.Copies.{mirrored}
use Rattle.pm_volume.specs.Directory.{directory_of}
use Rattle.pm_volume.specs.Words.{written}
use Rattle.pm_volume.proofs.KindLaws.{length-kinded}
use Rattle.pm_volume.proofs.SlotLaws.{listed}
use Rattle.pm_volume.proofs.StayLaws.{directory_byte}
use Rattle.pm_volume.proofs.WrittenLaws.{length-directory}
use Rattle.pm_volume.proofs.changes.type_file.Goals as goal

pub returns : goal.returns
returns c =
    let image = c.args.image.now in
    let d = directory_of image in
    let place = 26 * c.args.slot + 4 in
    let r = c.requires in
    let wrote = rw (c.from.ensures) at c.set_bytes.ensures.written in
    record {
      image =
          c.mirror.ensures.mirrored
          ∙ ap mirrored (ap (put_mid 1024 2048 image) wrote
          ∙ ap (λ (byte : ℕ). put_mid 1024 2048 image (written d place (kind_byte byte c.args.kind ∷ [])))
          (sym (directory_byte image place (omega (arith, r.to))))
          ∙ listed image (written d place (kind_byte (get_or d place 0) c.args.kind ∷ []))
          (length-kinded d c.args.slot c.args.kind (length-directory image r.whole) r.from r.to));
    }
