use Rattle.std.proofs.Common.{◌≡◌, ◌∙◌, ap, ◌++◌, take, drop, List, ℕ, length, subst}
use Rattle.pm_volume.specs.Directory.{IsVolume}
use Rattle.pm_volume.specs.Headers.{dated_image}
use Rattle.pm_volume.proofs.SecondLaws.{Changed-dated}
use Rattle.pm_volume.proofs.SlotLaws.{written_back}
use Rattle.pm_volume.proofs.volume.Volume.set_date.Goals as goal
use Rattle.pm_volume.proofs.volume.Volume.set_date.Goals.{After-date_volume}

-- After the call, the image is `dated_image` of the old image.
image_after : (c : After-date_volume) →
    take c.self.inside.bytes.len (c.date_volume.new.image ++ drop (length c.date_volume.new.image) c.self.inside.bytes.items)
    ≡ dated_image c.args.self.now c.args.date
image_after c =
    let same = c.deref_mut.ensures.value ∙ c.self.view_is in
    written_back c.self.inside.bytes.items c.date_volume.new.image c.self.inside.bytes.len (c.date_volume.auto.image ∙ ap length c.deref_mut.ensures.value)
    c.self.inside.bytes.ok.0
    ∙ c.date_volume.ensures.image ∙ ap (λ (image : List ℕ). dated_image image c.args.date) same

volume : (c : After-date_volume) → IsVolume c.args.self.now
volume c = subst IsVolume c.self.view_is c.self.invariant

pub invariant_of-self : goal.invariant_of-self
invariant_of-self c =
    let w = (goal.at.invariant_of-self c).After-date_volume in
    rw (image_after w) ((Changed-dated c.args.self.now (volume w) c.args.date).volume)

pub returns-clause-files : goal.returns-clause-files
returns-clause-files c =
    let w = (goal.at.returns-clause-files c).After-date_volume in
    rw (image_after w) ((Changed-dated c.args.self.now (volume w) c.args.date).files)

pub returns-clause-rest : goal.returns-clause-rest
returns-clause-rest c =
    let w = (goal.at.returns-clause-rest c).After-date_volume in
    rw (image_after w) ((Changed-dated c.args.self.now (volume w) c.args.date).only)

pub returns-clause-volume : goal.returns-clause-volume
returns-clause-volume c =
    let w = (goal.at.returns-clause-volume c).After-date_volume in
    rw (image_after w) ((Changed-dated c.args.self.now (volume w) c.args.date).volume)

pub returns-clause-copies : goal.returns-clause-copies
returns-clause-copies c =
    let w = (goal.at.returns-clause-copies c).After-date_volume in
    rw (image_after w) ((Changed-dated c.args.self.now (volume w) c.args.date).copies)
