use Rattle.std.proofs.Common.{◌≡◌, ◌≤◌, ◌∙◌, ap, ◌++◌, take, drop, List, ℕ, length, subst}
use Rattle.pm_volume.specs.Changes.{with_kind}
use Rattle.pm_volume.specs.Directory.{IsVolume, directory_of, file_count}
use Rattle.pm_volume.specs.Copies.{mirrored}
use Rattle.pm_volume.proofs.SecondLaws.{Changed-kinded}
use Rattle.pm_volume.proofs.SlotLaws.{written_back}
use Rattle.pm_volume.proofs.volume.Volume.set_kind_at.Goals as goal
use Rattle.pm_volume.proofs.volume.Volume.set_kind_at.Goals.{After-type_file}

-- The slot whose kind is set contains a file.
within : (c : After-type_file) → (1 ≤ c.in-Some.slot) × (c.in-Some.slot ≤ file_count (directory_of c.args.self.now))
within c = rw c.in-Some.is at c.requires.within

volume : (c : After-type_file) → IsVolume c.args.self.now
volume c = subst IsVolume c.self.view_is c.self.invariant

-- After the call, the image is the old image with the new kind, in each copy of the directory.
image_after : (c : After-type_file) → take c.self.inside.bytes.len (c.type_file.new.image ++ drop (length c.type_file.new.image) c.self.inside.bytes.items)
    ≡ mirrored (with_kind c.args.self.now c.in-Some.slot c.args.kind)
image_after c =
    let same = c.deref_mut.ensures.value ∙ c.self.view_is in
    written_back c.self.inside.bytes.items c.type_file.new.image c.self.inside.bytes.len (c.type_file.auto.image ∙ ap length c.deref_mut.ensures.value)
    c.self.inside.bytes.ok.0
    ∙ c.type_file.ensures.image ∙ ap (λ (image : List ℕ). mirrored (with_kind image c.in-Some.slot c.args.kind)) same

pub invariant_of-self : goal.invariant_of-self
invariant_of-self c =
    let w = (goal.at.invariant_of-self c).After-type_file in
    let slot = within w in
    rw (image_after w) ((Changed-kinded c.args.self.now (volume w) c.args.kind c.in-Some.slot slot.0 slot.1).volume)

pub returns-clause-set : goal.returns-clause-set
returns-clause-set c =
    let w = (goal.at.returns-clause-set c).After-type_file in
    let slot = within w in
    record {
      slot = c.in-Some.slot;
      found = c.in-Some.is;
      image = image_after w;
      files = rw (image_after w) ((Changed-kinded c.args.self.now (volume w) c.args.kind c.in-Some.slot slot.0 slot.1).files);
    }

pub returns-clause-stay : goal.returns-clause-stay
returns-clause-stay c =
    let w = (goal.at.returns-clause-stay c).After-type_file in
    let slot = within w in
    rw (image_after w) ((Changed-kinded c.args.self.now (volume w) c.args.kind c.in-Some.slot slot.0 slot.1).stay)

pub returns-clause-rest : goal.returns-clause-rest
returns-clause-rest c =
    let w = (goal.at.returns-clause-rest c).After-type_file in
    let slot = within w in
    let found = c.in-Some.is in
    rw (found, image_after w) ((Changed-kinded c.args.self.now (volume w) c.args.kind c.in-Some.slot slot.0 slot.1).only)

pub returns-clause-volume : goal.returns-clause-volume
returns-clause-volume c =
    let w = (goal.at.returns-clause-volume c).After-type_file in
    let slot = within w in
    rw (image_after w) ((Changed-kinded c.args.self.now (volume w) c.args.kind c.in-Some.slot slot.0 slot.1).volume)

pub returns-clause-copies : goal.returns-clause-copies
returns-clause-copies c =
    let w = (goal.at.returns-clause-copies c).After-type_file in
    let slot = within w in
    rw (image_after w) ((Changed-kinded c.args.self.now (volume w) c.args.kind c.in-Some.slot slot.0 slot.1).copies)
