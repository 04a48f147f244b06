use Rattle.std.proofs.Common.{◌≡◌, ◌+◌, ◌-◌, ◌*◌, ◌∙◌, ap, sym, ℕ, List, length, replicate, refl, arith}
use Rattle.pm_volume.specs.Copies.{mirrored}
use Rattle.pm_volume.specs.Changes.{blocks_for, entry_slot, with_file, with_slot}
use Rattle.pm_volume.specs.Words.{written}
use Rattle.pm_volume.specs.Directory.{directory_of}
use Rattle.pm_volume.proofs.SlotChanges.{length-with_slot}
use Rattle.pm_volume.proofs.SlotLaws.{listed}
use Rattle.pm_volume.proofs.WrittenLaws.{length-directory}
use Rattle.pm_volume.proofs.changes.put_file.Goals as goal

-- The directory, the bytes of the file and the zeros are written one after the other.
filed : (image d bytes part last : List ℕ) (begin n m : ℕ) → last ≡ written (written part begin bytes) (begin + length bytes) (replicate n 0)
    → part ≡ written image 1024 d → n ≡ m → last ≡ written (written (written image 1024 d) begin bytes) (begin + length bytes) (replicate m 0)
filed image d bytes part last begin n m wrote same count = wrote ∙ rw (same, count) refl

pub returns : goal.returns
unfolding with_file
returns c =
    record {
      image =
          let image = c.args.image.now in
          let bytes = c.args.bytes.now in
          let e = c.args.entry.now in
          let d = directory_of image in
          let begin = 512 * e.first in
          let wrote =
          rw (c.set_bytes.ensures.written, c.insert_slot.ensures.inserted, c.slot-slot.ensures.fields, c.from-begin.ensures, c.blocks_for.ensures.count) at
          c.clear.ensures.written in
          let size : length (entry_slot e) ≡ 26 = ap length (sym c.slot-slot.ensures.fields) ∙ c.slot-slot.ensures.size in
          let new = length-with_slot d (entry_slot e) c.args.n (length-directory image c.requires.whole) size c.requires.few c.requires.from c.requires.to in
          let left : (begin + 512 * blocks_for (length bytes)) - (begin + length bytes) ≡ 512 * blocks_for (length bytes) - length bytes = omega arith in
          c.mirror.ensures.mirrored ∙ ap mirrored
          (filed image (with_slot d c.args.n (entry_slot e)) bytes _ _ begin _ _ wrote (listed image (with_slot d c.args.n (entry_slot e)) new) left);
    }
