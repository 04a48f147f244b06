use Rattle.std.proofs.Common.{◌≡◌, ◌≤◌, ◌∙◌, ap, ◌++◌, ◌*◌, take, drop, length, true, rules, tests, arith}
use Rattle.pm_volume.specs.Directory.{directory_of, files_begin}
use Rattle.pm_volume.specs.Headers.{blank_image}
use Rattle.pm_volume.specs.Words.{zeros}
use Rattle.pm_volume.specs.Names.{is_new_name}
use Rattle.pm_volume.proofs.CopyLaws.{mirrored-six}
use Rattle.pm_volume.proofs.HeaderLaws.{IsVolume-blank, begins-blank, files-blank, length-zeros}
use Rattle.pm_volume.proofs.NameLaws.{length-new_name}
use Rattle.pm_volume.proofs.SlotLaws.{written_back}
use Rattle.pm_volume.proofs.volume.Volume.blank.Goals as goal
use Rattle.pm_volume.proofs.volume.Volume.blank.Goals.{After-as_bytes-2, After-renew_directory}

name_length : (c : After-as_bytes-2) → (1 ≤ length c.args.name.now) × (length c.args.name.now ≤ 7)
name_length c =
    let new : is_new_name 7 c.args.name.now ≡ true = search (rules, tests) in
    length-new_name 7 c.args.name.now new

-- Before the directory is written, all bytes are zero.
made : (c : After-as_bytes-2) → c.in-Ok.bytes.items ≡ zeros (512 * c.args.blocks)
unfolding zeros
made c = rw c.from.ensures at (c.in-Ok.ensures.items_if_clones_equal (λ y same. same))

-- After the call, the image is `blank_image` for the given name and number of blocks.
image_after : (c : After-renew_directory) → c.in-Ok.bytes.items ≡ zeros (512 * c.args.blocks)
    → files_begin (directory_of (blank_image c.args.name.now c.args.blocks)) ≡ 6
    → take c.in-Ok.bytes.len (c.renew_directory.new.image ++ drop (length c.renew_directory.new.image) c.in-Ok.bytes.items)
    ≡ blank_image c.args.name.now c.args.blocks
image_after c made begins =
    let same = c.deref_mut.ensures.value ∙ made in
    let wrote = rw (c.as_bytes-2.ensures.value, same) at c.renew_directory.ensures.image in
    written_back c.in-Ok.bytes.items c.renew_directory.new.image c.in-Ok.bytes.len (c.renew_directory.auto.image ∙ ap length c.deref_mut.ensures.value)
    c.in-Ok.bytes.ok.0
    ∙ wrote ∙ mirrored-six (blank_image c.args.name.now c.args.blocks) begins

pub renew_directory-requires-clause-whole : goal.renew_directory-requires-clause-whole
renew_directory-requires-clause-whole c =
    let same = c.deref_mut.ensures.value ∙ made c in
    rw same (omega (arith, length-zeros (512 * c.args.blocks)))

pub renew_directory-requires-clause-short : goal.renew_directory-requires-clause-short
renew_directory-requires-clause-short c = rw c.as_bytes-2.ensures.value (name_length c).1

pub invariant_of-result : goal.invariant_of-result
invariant_of-result c =
    let b = (goal.at.invariant_of-result c).After-as_bytes-2 in
    let n = name_length b in
    rw (image_after (goal.at.invariant_of-result c).After-renew_directory (made b) (begins-blank c.args.name.now c.args.blocks n.0 n.1 (omega arith)))
    (IsVolume-blank c.args.name.now c.args.blocks n.0 n.1 (omega arith) (omega arith))

pub returns-clause-made : goal.returns-clause-made
returns-clause-made c =
    let b = (goal.at.returns-clause-made c).After-as_bytes-2 in
    let n = name_length b in
    image_after (goal.at.returns-clause-made c).After-renew_directory (made b) (begins-blank c.args.name.now c.args.blocks n.0 n.1 (omega arith))

pub returns-clause-empty : goal.returns-clause-empty
returns-clause-empty c =
    let b = (goal.at.returns-clause-empty c).After-as_bytes-2 in
    let n = name_length b in
    rw (image_after (goal.at.returns-clause-empty c).After-renew_directory (made b) (begins-blank c.args.name.now c.args.blocks n.0 n.1 (omega arith)))
    (files-blank c.args.name.now c.args.blocks n.0 n.1 (omega arith))

pub returns-clause-volume : goal.returns-clause-volume
returns-clause-volume c =
    let b = (goal.at.returns-clause-volume c).After-as_bytes-2 in
    let n = name_length b in
    rw (image_after (goal.at.returns-clause-volume c).After-renew_directory (made b) (begins-blank c.args.name.now c.args.blocks n.0 n.1 (omega arith)))
    (IsVolume-blank c.args.name.now c.args.blocks n.0 n.1 (omega arith) (omega arith))

pub returns-clause-copies : goal.returns-clause-copies
returns-clause-copies c =
    let b = (goal.at.returns-clause-copies c).After-as_bytes-2 in
    let n = name_length b in
    rw (image_after (goal.at.returns-clause-copies c).After-renew_directory (made b) (begins-blank c.args.name.now c.args.blocks n.0 n.1 (omega arith)))
    (begins-blank c.args.name.now c.args.blocks n.0 n.1 (omega arith))
