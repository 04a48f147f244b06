use Rattle.std.proofs.Common.{◌≡◌, ◌≤◌, ◌∙◌, ap, ◌++◌, take, drop, List, ℕ, length, subst, false, arith}
use Rattle.pm_volume.specs.Copies.{mirrored}
use Rattle.pm_volume.specs.Directory.{IsVolume, block_count, directory_of}
use Rattle.pm_volume.specs.Made.{begun_at, is_occupied}
use Rattle.pm_volume.proofs.DoubledLaws.{HasCopies-doubled, Recopied-doubled}
use Rattle.pm_volume.proofs.SlotLaws.{written_back}
use Rattle.pm_volume.proofs.volume.Volume.add_duplicate.Goals as goal
use Rattle.pm_volume.proofs.volume.Volume.add_duplicate.Goals.{After-add_second}

-- After the call, files begin at block 10, and the directory is copied to blocks 6 to 9.
image_after : (c : After-add_second) → take c.self.inside.bytes.len (c.add_second.new.image ++ drop (length c.add_second.new.image) c.self.inside.bytes.items)
    ≡ mirrored (begun_at c.args.self.now 10)
image_after c =
    let same = c.deref_mut.ensures.value ∙ c.self.view_is in
    written_back c.self.inside.bytes.items c.add_second.new.image c.self.inside.bytes.len (c.add_second.auto.image ∙ ap length c.deref_mut.ensures.value)
    c.self.inside.bytes.ok.0
    ∙ c.add_second.ensures.image ∙ ap (λ (image : List ℕ). mirrored (begun_at image 10)) same

volume : (c : After-add_second) → IsVolume c.args.self.now
volume c = subst IsVolume c.self.view_is c.self.invariant

blocks : (c : After-add_second) → 10 ≤ block_count (directory_of c.args.self.now)
blocks c = omega arith

free : (c : After-add_second) → is_occupied c.args.self.now ≡ false
free c = cc

pub invariant_of-self : goal.invariant_of-self
invariant_of-self c =
    let w = (goal.at.invariant_of-self c).After-add_second in
    rw (image_after w) ((Recopied-doubled c.args.self.now (volume w) (blocks w) (free w)).volume)

pub returns-clause-volume : goal.returns-clause-volume
returns-clause-volume c =
    let w = (goal.at.returns-clause-volume c).After-add_second in
    rw (image_after w) ((Recopied-doubled c.args.self.now (volume w) (blocks w) (free w)).volume)

pub returns-clause-copies : goal.returns-clause-copies
returns-clause-copies c =
    let w = (goal.at.returns-clause-copies c).After-add_second in
    rw (image_after w) (HasCopies-doubled c.args.self.now (volume w) (blocks w) (free w))

pub returns-clause-files : goal.returns-clause-files
returns-clause-files c =
    let w = (goal.at.returns-clause-files c).After-add_second in
    rw (image_after w) ((Recopied-doubled c.args.self.now (volume w) (blocks w) (free w)).files)

pub returns-clause-stay : goal.returns-clause-stay
returns-clause-stay c =
    let w = (goal.at.returns-clause-stay c).After-add_second in
    rw (image_after w) ((Recopied-doubled c.args.self.now (volume w) (blocks w) (free w)).stay)

pub returns-clause-rest : goal.returns-clause-rest
returns-clause-rest c =
    let w = (goal.at.returns-clause-rest c).After-add_second in
    rw (image_after w) ((Recopied-doubled c.args.self.now (volume w) (blocks w) (free w)).only)
