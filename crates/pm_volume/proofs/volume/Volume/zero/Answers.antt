use Rattle.std.proofs.Common.{◌≡◌, ◌<◌, ◌≤◌, ◌∙◌, ap, ◌++◌, take, drop, length, true, rules, tests}
use Rattle.pm_volume.specs.Directory.{block_count, directory_of}
use Rattle.pm_volume.specs.Headers.{zeroed_image}
use Rattle.pm_volume.specs.Names.{is_new_name}
use Rattle.pm_volume.proofs.SecondLaws.{Changed-zeroed}
use Rattle.pm_volume.proofs.NameLaws.{length-new_name}
use Rattle.pm_volume.proofs.SlotLaws.{written_back}
use Rattle.pm_volume.proofs.volume.Volume.zero.Goals as goal
use Rattle.pm_volume.proofs.volume.Volume.zero.Goals.{After-as_bytes-2, After-renew_directory}

name_length : (c : After-as_bytes-2) → (1 ≤ length c.args.name.now) × (length c.args.name.now ≤ 7)
name_length c =
    let new : is_new_name 7 c.args.name.now ≡ true = search (rules, tests) in
    length-new_name 7 c.args.name.now new

-- After the call, the image is `zeroed_image` of the old image.
image_after : (c : After-renew_directory) →
    take c.self.inside.bytes.len (c.renew_directory.new.image ++ drop (length c.renew_directory.new.image) c.self.inside.bytes.items)
    ≡ zeroed_image c.args.self.now c.args.name.now
image_after c =
    let same = c.deref_mut.ensures.value ∙ c.self.view_is in
    let wrote =
    rw (
      c.as_bytes-2.ensures.value,
      c.word-past.ensures.word,
      c.word-blocks.ensures.word,
      c.word-date.ensures.word,
      c.directory-directory.ensures.bytes,
      same,
    ) at c.renew_directory.ensures.image in
    written_back c.self.inside.bytes.items c.renew_directory.new.image c.self.inside.bytes.len
    (c.renew_directory.auto.image ∙ ap length c.deref_mut.ensures.value) c.self.inside.bytes.ok.0
    ∙ wrote

pub renew_directory-requires-clause-short : goal.renew_directory-requires-clause-short
renew_directory-requires-clause-short c = rw c.as_bytes-2.ensures.value (name_length c).1

pub invariant_of-self : goal.invariant_of-self
invariant_of-self c =
    let w = (goal.at.invariant_of-self c).After-renew_directory in
    let n = name_length (goal.at.invariant_of-self c).After-as_bytes-2 in
    let fits : block_count (directory_of c.args.self.now) < 65536 =
    rw (c.word-blocks.ensures.word, c.directory-directory.ensures.bytes) at c.word-blocks.type_inv in
    rw (image_after w) ((Changed-zeroed c.args.self.now c.directory-directory.ensures.volume c.args.name.now n.0 n.1 fits).volume)

pub returns-clause-empty : goal.returns-clause-empty
returns-clause-empty c =
    let w = (goal.at.returns-clause-empty c).After-renew_directory in
    let n = name_length (goal.at.returns-clause-empty c).After-as_bytes-2 in
    let fits : block_count (directory_of c.args.self.now) < 65536 =
    rw (c.word-blocks.ensures.word, c.directory-directory.ensures.bytes) at c.word-blocks.type_inv in
    rw (image_after w) ((Changed-zeroed c.args.self.now c.directory-directory.ensures.volume c.args.name.now n.0 n.1 fits).files)

pub returns-clause-rest : goal.returns-clause-rest
returns-clause-rest c =
    let w = (goal.at.returns-clause-rest c).After-renew_directory in
    let n = name_length (goal.at.returns-clause-rest c).After-as_bytes-2 in
    let fits : block_count (directory_of c.args.self.now) < 65536 =
    rw (c.word-blocks.ensures.word, c.directory-directory.ensures.bytes) at c.word-blocks.type_inv in
    rw (image_after w) ((Changed-zeroed c.args.self.now c.directory-directory.ensures.volume c.args.name.now n.0 n.1 fits).only)

pub returns-clause-volume : goal.returns-clause-volume
returns-clause-volume c =
    let w = (goal.at.returns-clause-volume c).After-renew_directory in
    let n = name_length (goal.at.returns-clause-volume c).After-as_bytes-2 in
    let fits : block_count (directory_of c.args.self.now) < 65536 =
    rw (c.word-blocks.ensures.word, c.directory-directory.ensures.bytes) at c.word-blocks.type_inv in
    rw (image_after w) ((Changed-zeroed c.args.self.now c.directory-directory.ensures.volume c.args.name.now n.0 n.1 fits).volume)

pub returns-clause-copies : goal.returns-clause-copies
returns-clause-copies c =
    let w = (goal.at.returns-clause-copies c).After-renew_directory in
    let n = name_length (goal.at.returns-clause-copies c).After-as_bytes-2 in
    let fits : block_count (directory_of c.args.self.now) < 65536 =
    rw (c.word-blocks.ensures.word, c.directory-directory.ensures.bytes) at c.word-blocks.type_inv in
    rw (image_after w) ((Changed-zeroed c.args.self.now c.directory-directory.ensures.volume c.args.name.now n.0 n.1 fits).copies)
