use Rattle.std.proofs.Common.{◌≡◌, ◌-◌, ◌∙◌, ap, sym, List, ℕ, ◌++◌, take, drop, length, Ok, arith}
use Rattle.std.proofs.lemmas.Result.{err_from_is_err_and}
use Rattle.pm_volume.specs.Changes.{blocks_for, place_for, with_file}
use Rattle.pm_volume.specs.Copies.{mirrored}
use Rattle.pm_volume.proofs.SecondLaws.{Changed-added, bytes-added_second}
use Rattle.pm_volume.proofs.PlaceLaws.{IsPlaced, IsRoomFor, IsPlaced-from_ok, IsRoomFor-placed}
use Rattle.pm_volume.proofs.NameLaws.{length-new_name}
use Rattle.pm_volume.proofs.volume.Volume.add.Goals as goal
use Rattle.pm_volume.proofs.volume.Volume.add.Goals.{After-put_file, In_ok-gap}
use Rattle.pm_volume.proofs.SlotLaws.{written_back}

-- The gap that the call found is the gap that `place_for` defines.
found : (c : In_ok-gap) → place_for c.args.self.now c.args.name.now (blocks_for (length c.args.bytes.now)) ≡ Ok c.in_ok-gap.gap
found c =
    let was : c.place.result ≡ Ok c.in_ok-gap.gap = c.in_ok-gap.was in
    let placed = rw c.blocks_for-need.ensures.count at c.place.ensures.placed in
    sym placed ∙ was

placed : (c : In_ok-gap) → IsPlaced c.args.self.now c.args.name.now (blocks_for (length c.args.bytes.now)) c.in_ok-gap.gap
placed c = IsPlaced-from_ok _ _ _ _ (found c)

room : (c : In_ok-gap) → IsRoomFor c.args.self.now (blocks_for (length c.args.bytes.now)) c.in_ok-gap.gap
room c = IsRoomFor-placed c.args.self.now c.args.name.now _ _ c.place.ensures.volume (placed c)

pub new_entry-entry-requires-clause-named : goal.new_entry-entry-requires-clause-named
new_entry-entry-requires-clause-named c = (length-new_name 15 _ (placed c).named).1

pub new_entry-entry-requires-clause-room : goal.new_entry-entry-requires-clause-room
new_entry-entry-requires-clause-room c = (room c).fits

pub put_file-requires-clause-few : goal.put_file-requires-clause-few
put_file-requires-clause-few c =
    let same = c.deref_mut.ensures.value ∙ c.self.view_is in
    rw same (room (goal.at.put_file-requires-clause-few c).In_ok-gap).few

pub put_file-requires-clause-from : goal.put_file-requires-clause-from
put_file-requires-clause-from c = (room (goal.at.put_file-requires-clause-from c).In_ok-gap).first

pub put_file-requires-clause-to : goal.put_file-requires-clause-to
put_file-requires-clause-to c =
    let same = c.deref_mut.ensures.value ∙ c.self.view_is in
    rw same (room (goal.at.put_file-requires-clause-to c).In_ok-gap).last

pub put_file-requires-clause-room : goal.put_file-requires-clause-room
put_file-requires-clause-room c =
    let same = c.deref_mut.ensures.value ∙ c.self.view_is in
    let r = room (goal.at.put_file-requires-clause-room c).In_ok-gap in
    rw (same, c.new_entry-entry.ensures.entry) (omega (arith, r.fits, r.within))

-- After the call, the image is the old image with the new file, in each copy of the directory.
image_after : (c : After-put_file) → take c.self.inside.bytes.len (c.put_file.new.image ++ drop (length c.put_file.new.image) c.self.inside.bytes.items)
    ≡ mirrored (with_file c.args.self.now c.in_ok-gap.gap.place c.new_entry-entry.result c.args.bytes.now)
image_after c =
    let same = c.deref_mut.ensures.value ∙ c.self.view_is in
    written_back c.self.inside.bytes.items c.put_file.new.image c.self.inside.bytes.len (c.put_file.auto.image ∙ ap length c.deref_mut.ensures.value)
    c.self.inside.bytes.ok.0
    ∙ c.put_file.ensures.image ∙ ap (λ (image : List ℕ). mirrored (with_file image c.in_ok-gap.gap.place c.new_entry-entry.result c.args.bytes.now)) same

pub invariant_of-self : goal.invariant_of-self
invariant_of-self c =
    let fit = rw c.new_entry-entry.ensures.entry at c.new_entry-entry.ensures.fits in
    let p = placed (goal.at.invariant_of-self c).In_ok-gap in
    rw (image_after (goal.at.invariant_of-self c).After-put_file, c.new_entry-entry.ensures.entry)
    ((Changed-added c.args.self.now c.args.name.now c.args.bytes.now c.args.kind c.args.date c.in_ok-gap.gap c.place.ensures.volume p fit).volume)

pub returns-clause-added : goal.returns-clause-added
returns-clause-added c =
    let w = (goal.at.returns-clause-added c).After-put_file in
    let fit = rw c.new_entry-entry.ensures.entry at c.new_entry-entry.ensures.fits in
    let p = placed (goal.at.returns-clause-added c).In_ok-gap in
    record {
      gap = c.in_ok-gap.gap;
      placed = found (goal.at.returns-clause-added c).In_ok-gap;
      entry = c.new_entry-entry.ensures.entry;
      image = image_after w;
      files = rw (image_after w, c.new_entry-entry.ensures.entry)
          ((Changed-added c.args.self.now c.args.name.now c.args.bytes.now c.args.kind c.args.date c.in_ok-gap.gap c.place.ensures.volume p fit).files);
    }

pub returns-in_err-gap-clause-refusal : goal.returns-in_err-gap-clause-refusal
returns-in_err-gap-clause-refusal c =
    let p = err_from_is_err_and c.from_residual.result c.from_residual.ensures.1 in
    rw (p.1, p.2) (
    let placed = rw c.blocks_for-need.ensures.count at c.place.ensures.placed in
    sym placed ∙ c.in_err-gap.was)

pub returns-clause-files : goal.returns-clause-files
returns-clause-files c =
    let w = (goal.at.returns-clause-files c).After-put_file in
    let fit = rw c.new_entry-entry.ensures.entry at c.new_entry-entry.ensures.fits in
    let p = placed (goal.at.returns-clause-files c).In_ok-gap in (
      c.in_ok-gap.gap.place - 1,
      rw (image_after w, c.new_entry-entry.ensures.entry)
          ((Changed-added c.args.self.now c.args.name.now c.args.bytes.now c.args.kind c.args.date c.in_ok-gap.gap c.place.ensures.volume p fit).files),
    )

pub returns-clause-contents : goal.returns-clause-contents
returns-clause-contents c =
    let w = (goal.at.returns-clause-contents c).After-put_file in
    let fit = rw c.new_entry-entry.ensures.entry at c.new_entry-entry.ensures.fits in
    let p = placed (goal.at.returns-clause-contents c).In_ok-gap in
    rw (image_after w, c.new_entry-entry.ensures.entry)
    (bytes-added_second c.args.self.now c.args.name.now c.args.bytes.now c.args.kind c.args.date c.in_ok-gap.gap c.place.ensures.volume p fit)

pub returns-clause-stay : goal.returns-clause-stay
returns-clause-stay c =
    let w = (goal.at.returns-clause-stay c).After-put_file in
    let fit = rw c.new_entry-entry.ensures.entry at c.new_entry-entry.ensures.fits in
    let p = placed (goal.at.returns-clause-stay c).In_ok-gap in
    rw (image_after w, c.new_entry-entry.ensures.entry)
    ((Changed-added c.args.self.now c.args.name.now c.args.bytes.now c.args.kind c.args.date c.in_ok-gap.gap c.place.ensures.volume p fit).stay)

pub returns-clause-rest : goal.returns-clause-rest
returns-clause-rest c =
    let w = (goal.at.returns-clause-rest c).After-put_file in
    let fit = rw c.new_entry-entry.ensures.entry at c.new_entry-entry.ensures.fits in
    let p = placed (goal.at.returns-clause-rest c).In_ok-gap in
    let found = found (goal.at.returns-clause-rest c).In_ok-gap in
    rw (found, image_after w, c.new_entry-entry.ensures.entry)
    ((Changed-added c.args.self.now c.args.name.now c.args.bytes.now c.args.kind c.args.date c.in_ok-gap.gap c.place.ensures.volume p fit).only)

pub returns-clause-volume : goal.returns-clause-volume
returns-clause-volume c =
    let w = (goal.at.returns-clause-volume c).After-put_file in
    let fit = rw c.new_entry-entry.ensures.entry at c.new_entry-entry.ensures.fits in
    let p = placed (goal.at.returns-clause-volume c).In_ok-gap in
    rw (image_after w, c.new_entry-entry.ensures.entry)
    ((Changed-added c.args.self.now c.args.name.now c.args.bytes.now c.args.kind c.args.date c.in_ok-gap.gap c.place.ensures.volume p fit).volume)

pub returns-clause-copies : goal.returns-clause-copies
returns-clause-copies c =
    let w = (goal.at.returns-clause-copies c).After-put_file in
    let fit = rw c.new_entry-entry.ensures.entry at c.new_entry-entry.ensures.fits in
    let p = placed (goal.at.returns-clause-copies c).In_ok-gap in
    rw (image_after w, c.new_entry-entry.ensures.entry)
    ((Changed-added c.args.self.now c.args.name.now c.args.bytes.now c.args.kind c.args.date c.in_ok-gap.gap c.place.ensures.volume p fit).copies)
