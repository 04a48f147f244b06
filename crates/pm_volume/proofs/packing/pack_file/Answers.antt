use Rattle.std.proofs.Common.{◌≡◌, ◌∙◌, ◌*◌, ap, length, arith}
use Rattle.pm_volume.specs.Directory.{directory_of, entry_in}
use Rattle.pm_volume.specs.Stays.{blocks_of}
use Rattle.pm_volume.specs.Packing.{new_place, with_moved}
use Rattle.pm_volume.specs.Words.{written}
use Rattle.pm_volume.proofs.PackLaws.{directory-copied, length-copied_blocks}
use Rattle.pm_volume.proofs.PackedLaws.{new_place-after, new_place-down}
use Rattle.pm_volume.proofs.SlotLaws.{written_back}
use Rattle.pm_volume.proofs.packing.pack_file.Goals as goal
use Rattle.pm_volume.proofs.packing.pack_file.Goals.{After-move_part}

-- After `move_part`, the image is the old image in which the bytes of the file are copied to its new blocks.
copied : (c : After-move_part) → c.move_part.new.bytes.items
    ≡ written c.args.image.now.items (512 * new_place c.args.from (entry_in (directory_of c.args.image.now.items) c.args.n))
    (blocks_of c.args.image.now.items (entry_in (directory_of c.args.image.now.items) c.args.n))
copied c =
    rw (c.from-3.ensures, c.from.ensures, c.from-2.ensures, c.new_place-to.ensures.place, c.entry_at-entry.ensures.entry, c.deref.ensures.value) at
    c.move_part.ensures.moved

pub place_file-requires-clause-whole : goal.place_file-requires-clause-whole
place_file-requires-clause-whole c =
    let image = c.args.image.now.items in
    let e = entry_in (directory_of image) c.args.n in
    let r = c.requires in
    let to = new_place c.args.from e in
    let past = new_place-after c.args.from e r.after in
    let down = new_place-down c.args.from e r.after in
    let same = c.deref_mut.ensures.value ∙ copied (goal.at.place_file-requires-clause-whole c).After-move_part in
    rw same (omega (arith, length-copied_blocks image c.args.n e to r.whole r.slot (omega arith) down r.ordered r.within))

pub returns-clause-moved : goal.returns-clause-moved
unfolding with_moved
returns-clause-moved c =
    let image = c.args.image.now.items in
    let e = entry_in (directory_of image) c.args.n in
    let r = c.requires in
    let to = new_place c.args.from e in
    let past = new_place-after c.args.from e r.after in
    let down = new_place-down c.args.from e r.after in
    let same = c.deref_mut.ensures.value ∙ copied (goal.at.returns-clause-moved c).After-move_part in
    let directory = directory-copied image c.args.n e to r.whole r.slot (omega arith) down r.ordered r.within in
    let wrote = rw (same, directory, c.new_place-to.ensures.place, c.entry_at-entry.ensures.entry, c.deref.ensures.value) at c.place_file.ensures.placed in
    written_back c.move_part.new.bytes.items c.place_file.new.image c.move_part.new.bytes.len (c.place_file.auto.image ∙ ap length c.deref_mut.ensures.value)
    c.move_part.new.bytes.ok.0
    ∙ wrote
