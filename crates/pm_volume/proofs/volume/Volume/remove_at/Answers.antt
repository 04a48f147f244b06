use Rattle.std.proofs.Common.{◌≡◌, ◌≤◌, ◌∙◌, ap, ◌++◌, take, drop, List, ℕ, length, subst}
use Rattle.pm_volume.specs.Changes.{without_file}
use Rattle.pm_volume.specs.Directory.{IsVolume, directory_of, file_count}
use Rattle.pm_volume.specs.Copies.{mirrored}
use Rattle.pm_volume.proofs.SecondLaws.{Changed-removed}
use Rattle.pm_volume.proofs.SlotLaws.{written_back}
use Rattle.pm_volume.proofs.volume.Volume.remove_at.Goals as goal
use Rattle.pm_volume.proofs.volume.Volume.remove_at.Goals.{After-take_file}

-- The slot that is removed contains a file.
within : (c : After-take_file) → (1 ≤ c.in-Some.slot) × (c.in-Some.slot ≤ file_count (directory_of c.args.self.now))
within c = rw c.in-Some.is at c.requires.within

volume : (c : After-take_file) → IsVolume c.args.self.now
volume c = subst IsVolume c.self.view_is c.self.invariant

-- After the call, the image is the old image without the file, in each copy of the directory.
image_after : (c : After-take_file) → take c.self.inside.bytes.len (c.take_file.new.image ++ drop (length c.take_file.new.image) c.self.inside.bytes.items)
    ≡ mirrored (without_file c.args.self.now c.in-Some.slot)
image_after c =
    let same = c.deref_mut.ensures.value ∙ c.self.view_is in
    written_back c.self.inside.bytes.items c.take_file.new.image c.self.inside.bytes.len (c.take_file.auto.image ∙ ap length c.deref_mut.ensures.value)
    c.self.inside.bytes.ok.0
    ∙ c.take_file.ensures.image ∙ ap (λ (image : List ℕ). mirrored (without_file image c.in-Some.slot)) same

pub invariant_of-self : goal.invariant_of-self
invariant_of-self c =
    let w = (goal.at.invariant_of-self c).After-take_file in
    let slot = within w in
    rw (image_after w) ((Changed-removed c.args.self.now (volume w) c.in-Some.slot slot.0 slot.1).volume)

pub returns-clause-removed : goal.returns-clause-removed
returns-clause-removed c =
    let w = (goal.at.returns-clause-removed c).After-take_file in
    let slot = within w in
    record {
      slot = c.in-Some.slot;
      found = c.in-Some.is;
      image = image_after w;
      files = rw (image_after w) ((Changed-removed c.args.self.now (volume w) c.in-Some.slot slot.0 slot.1).files);
    }

pub returns-clause-stay : goal.returns-clause-stay
returns-clause-stay c =
    let w = (goal.at.returns-clause-stay c).After-take_file in
    let slot = within w in
    rw (image_after w) ((Changed-removed c.args.self.now (volume w) c.in-Some.slot slot.0 slot.1).stay)

pub returns-clause-rest : goal.returns-clause-rest
returns-clause-rest c =
    let w = (goal.at.returns-clause-rest c).After-take_file in
    let slot = within w in
    let found = c.in-Some.is in
    rw (found, image_after w) ((Changed-removed c.args.self.now (volume w) c.in-Some.slot slot.0 slot.1).only)

pub returns-clause-volume : goal.returns-clause-volume
returns-clause-volume c =
    let w = (goal.at.returns-clause-volume c).After-take_file in
    let slot = within w in
    rw (image_after w) ((Changed-removed c.args.self.now (volume w) c.in-Some.slot slot.0 slot.1).volume)

pub returns-clause-copies : goal.returns-clause-copies
returns-clause-copies c =
    let w = (goal.at.returns-clause-copies c).After-take_file in
    let slot = within w in
    rw (image_after w) ((Changed-removed c.args.self.now (volume w) c.in-Some.slot slot.0 slot.1).copies)
