use Rattle.std.proofs.Common.{◌≡◌, ◌∙◌, ap, ◌++◌, take, drop, length, subst}
use Rattle.pm_volume.specs.Directory.{IsVolume}
use Rattle.pm_volume.specs.Made.{singled}
use Rattle.pm_volume.proofs.SingledLaws.{HasCopies-singled, Recopied-singled}
use Rattle.pm_volume.proofs.SlotLaws.{written_back}
use Rattle.pm_volume.proofs.volume.Volume.drop_duplicate.Goals as goal
use Rattle.pm_volume.proofs.volume.Volume.drop_duplicate.Goals.{After-drop_second}

-- After the call, the image is `singled` of the old image.
image_after : (c : After-drop_second) →
    take c.self.inside.bytes.len (c.drop_second.new.image ++ drop (length c.drop_second.new.image) c.self.inside.bytes.items)
    ≡ singled c.args.self.now
image_after c =
    let same = c.deref_mut.ensures.value ∙ c.self.view_is in
    written_back c.self.inside.bytes.items c.drop_second.new.image c.self.inside.bytes.len (c.drop_second.auto.image ∙ ap length c.deref_mut.ensures.value)
    c.self.inside.bytes.ok.0
    ∙ c.drop_second.ensures.image ∙ ap singled same

volume : (c : After-drop_second) → IsVolume c.args.self.now
volume c = subst IsVolume c.self.view_is c.self.invariant

pub invariant_of-self : goal.invariant_of-self
invariant_of-self c =
    let w = (goal.at.invariant_of-self c).After-drop_second in
    rw (image_after w) ((Recopied-singled c.args.self.now (volume w)).volume)

pub returns-clause-volume : goal.returns-clause-volume
returns-clause-volume c =
    let w = (goal.at.returns-clause-volume c).After-drop_second in
    rw (image_after w) ((Recopied-singled c.args.self.now (volume w)).volume)

pub returns-clause-copies : goal.returns-clause-copies
returns-clause-copies c =
    let w = (goal.at.returns-clause-copies c).After-drop_second in
    rw (image_after w) (HasCopies-singled c.args.self.now (volume w))

pub returns-clause-files : goal.returns-clause-files
returns-clause-files c =
    let w = (goal.at.returns-clause-files c).After-drop_second in
    rw (image_after w) ((Recopied-singled c.args.self.now (volume w)).files)

pub returns-clause-stay : goal.returns-clause-stay
returns-clause-stay c =
    let w = (goal.at.returns-clause-stay c).After-drop_second in
    rw (image_after w) ((Recopied-singled c.args.self.now (volume w)).stay)

pub returns-clause-rest : goal.returns-clause-rest
returns-clause-rest c =
    let w = (goal.at.returns-clause-rest c).After-drop_second in
    rw (image_after w) ((Recopied-singled c.args.self.now (volume w)).only)
