use Rattle.std.proofs.Common.{◌≡◌, ◌∙◌, ap, sym, ◌++◌, take, drop, length}
use Rattle.pm_volume.specs.Changes.{with_name}
use Rattle.pm_volume.specs.Copies.{mirrored}
use Rattle.pm_volume.proofs.SecondLaws.{Changed-named}
use Rattle.pm_volume.proofs.SlotLaws.{written_back}
use Rattle.pm_volume.proofs.volume.Volume.rename_at.Goals as goal
use Rattle.pm_volume.proofs.volume.Volume.rename_at.Goals.{After-name_file}

-- After the call, the image is the old image with the new name, in each copy of the directory.
image_after : (c : After-name_file) → take c.self.inside.bytes.len (c.name_file.new.image ++ drop (length c.name_file.new.image) c.self.inside.bytes.items)
    ≡ mirrored (with_name c.args.self.now c.in_ok-slot.slot c.args.new.now)
image_after c =
    let same = c.deref_mut.ensures.value ∙ c.self.view_is in
    let wrote = rw (c.as_bytes.ensures.value, same) at c.name_file.ensures.image in
    written_back c.self.inside.bytes.items c.name_file.new.image c.self.inside.bytes.len (c.name_file.auto.image ∙ ap length c.deref_mut.ensures.value)
    c.self.inside.bytes.ok.0
    ∙ wrote

pub invariant_of-self : goal.invariant_of-self
invariant_of-self c =
    let w = (goal.at.invariant_of-self c).After-name_file in
    let new = c.in_ok-slot.ensures.named in
    let slot = c.in_ok-slot.ensures.within in
    rw (image_after w) ((Changed-named c.args.self.now c.slot_to_rename.ensures.volume c.args.new.now c.in_ok-slot.slot new.0 new.1 slot.0 slot.1).volume)

pub returns-clause-renamed : goal.returns-clause-renamed
returns-clause-renamed c =
    let w = (goal.at.returns-clause-renamed c).After-name_file in
    let new = c.in_ok-slot.ensures.named in
    let slot = c.in_ok-slot.ensures.within in
    record {
      slot = c.in_ok-slot.slot;
      found = sym c.slot_to_rename.ensures.found ∙ c.in_ok-slot.was;
      image = image_after w;
      files = rw (image_after w)
          ((Changed-named c.args.self.now c.slot_to_rename.ensures.volume c.args.new.now c.in_ok-slot.slot new.0 new.1 slot.0 slot.1).files);
    }

pub returns-clause-stay : goal.returns-clause-stay
returns-clause-stay c =
    let w = (goal.at.returns-clause-stay c).After-name_file in
    let slot = c.in_ok-slot.ensures.within in
    let new = c.in_ok-slot.ensures.named in
    rw (image_after w) ((Changed-named c.args.self.now c.slot_to_rename.ensures.volume c.args.new.now c.in_ok-slot.slot new.0 new.1 slot.0 slot.1).stay)

pub returns-clause-rest : goal.returns-clause-rest
returns-clause-rest c =
    let w = (goal.at.returns-clause-rest c).After-name_file in
    let slot = c.in_ok-slot.ensures.within in
    let found = sym c.slot_to_rename.ensures.found ∙ c.in_ok-slot.was in
    let new = c.in_ok-slot.ensures.named in
    rw (found, image_after w) ((Changed-named c.args.self.now c.slot_to_rename.ensures.volume c.args.new.now c.in_ok-slot.slot new.0 new.1 slot.0 slot.1).only)

pub returns-clause-volume : goal.returns-clause-volume
returns-clause-volume c =
    let w = (goal.at.returns-clause-volume c).After-name_file in
    let new = c.in_ok-slot.ensures.named in
    let slot = c.in_ok-slot.ensures.within in
    rw (image_after w) ((Changed-named c.args.self.now c.slot_to_rename.ensures.volume c.args.new.now c.in_ok-slot.slot new.0 new.1 slot.0 slot.1).volume)

pub returns-clause-copies : goal.returns-clause-copies
returns-clause-copies c =
    let w = (goal.at.returns-clause-copies c).After-name_file in
    let new = c.in_ok-slot.ensures.named in
    let slot = c.in_ok-slot.ensures.within in
    rw (image_after w) ((Changed-named c.args.self.now c.slot_to_rename.ensures.volume c.args.new.now c.in_ok-slot.slot new.0 new.1 slot.0 slot.1).copies)
