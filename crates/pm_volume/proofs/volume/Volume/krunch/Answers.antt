use Rattle.std.proofs.Common.{◌≡◌, ◌<◌, ◌∙◌, ap, subst, ℕ, List, ◌++◌, take, drop, length}
use Rattle.pm_volume.specs.Copies.{mirrored}
use Rattle.pm_volume.specs.Directory.{IsVolume, block_count, directory_of, file_count, files_begin}
use Rattle.pm_volume.specs.Packing.{krunched_image, packed_image}
use Rattle.pm_volume.proofs.KrunchLaws.{IsVolume-krunched, IsVolume-packed, CopiesStay-krunched, Krunches-krunched}
use Rattle.pm_volume.proofs.SlotLaws.{written_back}
use Rattle.pm_volume.proofs.volume.Volume.krunch.Goals as goal
use Rattle.pm_volume.proofs.volume.Volume.krunch.Goals.{After-mirror, After-pack_files}

volume : (c : After-pack_files) → IsVolume c.args.self.now
volume c = subst IsVolume c.self.view_is c.self.invariant

fits : (c : After-pack_files) → block_count (directory_of c.args.self.now) < 65536
fits c = subst (λ (image : List ℕ). block_count (directory_of image) < 65536) c.self.view_is c.pack_files.ensures.blocks

-- After `pack_files`, the image is the old image in which the files are moved together.
packed : (c : After-pack_files) → c.pack_files.new.image.items
    ≡ packed_image c.args.self.now 1 (files_begin (directory_of c.args.self.now)) (file_count (directory_of c.args.self.now))
packed c =
    subst (λ (image : List ℕ). c.pack_files.new.image.items ≡ packed_image image 1 (files_begin (directory_of image)) (file_count (directory_of image)))
    c.self.view_is c.pack_files.ensures.packed

pub mirror-requires : goal.mirror-requires
mirror-requires c =
    let w = (goal.at.mirror-requires c).After-pack_files in
    let same = c.deref_mut.ensures.value ∙ packed w in
    record { whole = rw same (IsVolume-packed c.args.self.now (volume w) (fits w)).long }

-- After the call, the image is `krunched_image` of the old image.
image_after : (c : After-mirror)
    → c.pack_files.new.image.items ≡ packed_image c.args.self.now 1 (files_begin (directory_of c.args.self.now)) (file_count (directory_of c.args.self.now))
    → take c.pack_files.new.image.len (c.mirror.new.image ++ drop (length c.mirror.new.image) c.pack_files.new.image.items)
    ≡ krunched_image c.args.self.now
image_after c moved =
    written_back c.pack_files.new.image.items c.mirror.new.image c.pack_files.new.image.len (c.mirror.auto.image ∙ ap length c.deref_mut.ensures.value)
    c.pack_files.new.image.ok.0
    ∙ c.mirror.ensures.mirrored ∙ ap mirrored (c.deref_mut.ensures.value ∙ moved)

pub invariant_of-self : goal.invariant_of-self
invariant_of-self c =
    let w = (goal.at.invariant_of-self c).After-pack_files in
    rw (image_after (goal.at.invariant_of-self c).After-mirror (packed w)) (IsVolume-krunched c.args.self.now (volume w) (fits w))

pub returns : goal.returns
returns c =
    let w = (goal.at.returns c).After-pack_files in
    let same = image_after (goal.at.returns c).After-mirror (packed w) in
    record {
      krunched = rw same (Krunches-krunched c.args.self.now (volume w) (fits w));
      exact = same;
      volume = rw same (IsVolume-krunched c.args.self.now (volume w) (fits w));
      copies = rw same (CopiesStay-krunched c.args.self.now (volume w) (fits w));
    }
