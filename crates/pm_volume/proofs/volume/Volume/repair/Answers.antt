use Rattle.std.proofs.Common.{◌≡◌, ◌∙◌, ap, Some, ◌++◌, take, drop, length, refl}
use Rattle.pm_volume.specs.Copies.{repaired, restored}
use Rattle.pm_volume.specs.Directory.{image_fault}
use Rattle.pm_volume.specs.declared.fault.VolumeFault.TheVariants.{FirstCopyBad}
use Rattle.pm_volume.proofs.Faults.{IsFirstBad, IsFirstBad-from_fault, IsVolume-from_none}
use Rattle.pm_volume.proofs.SingledLaws.{IsVolume-restored}
use Rattle.pm_volume.proofs.SlotLaws.{written_back}
use Rattle.pm_volume.proofs.volume.Volume.repair.Goals as goal
use Rattle.pm_volume.proofs.volume.Volume.repair.Goals.{After-restore, In-Some-FirstCopyBad}

first : (c : In-Some-FirstCopyBad) → image_fault c.args.bytes.items ≡ Some (FirstCopyBad c.in-Some-FirstCopyBad.field-0-0)
first c = cc

bad : (c : In-Some-FirstCopyBad) → IsFirstBad c.args.bytes.items
bad c = IsFirstBad-from_fault _ _ (first c)

pub restore-requires : goal.restore-requires
restore-requires c =
    let same = c.deref_mut.ensures.value in
    record { whole = rw same (bad (goal.at.restore-requires c).In-Some-FirstCopyBad).long }

-- After the call, the second copy of the directory is copied over the first (`restored`).
image_after : (c : After-restore) →
    take c.args.bytes.len (c.restore.new.image ++ drop (length c.restore.new.image) c.args.bytes.items) ≡ restored c.args.bytes.items
image_after c =
    written_back c.args.bytes.items c.restore.new.image c.args.bytes.len (c.restore.auto.image ∙ ap length c.deref_mut.ensures.value) c.args.bytes.ok.0
    ∙ c.restore.ensures.restored ∙ ap restored c.deref_mut.ensures.value

pub invariant_of-result : goal.invariant_of-result
invariant_of-result c =
    rw (image_after (goal.at.invariant_of-result c).After-restore)
    (IsVolume-restored c.args.bytes.items (bad (goal.at.invariant_of-result c).In-Some-FirstCopyBad))

pub returns-in-Some-FirstCopyBad-clause-volume : goal.returns-in-Some-FirstCopyBad-clause-volume
returns-in-Some-FirstCopyBad-clause-volume c =
    rw (image_after (goal.at.returns-in-Some-FirstCopyBad-clause-volume c).After-restore)
    (IsVolume-restored c.args.bytes.items (bad (goal.at.returns-in-Some-FirstCopyBad-clause-volume c).In-Some-FirstCopyBad))

pub returns-in-Some-FirstCopyBad-clause-repaired : goal.returns-in-Some-FirstCopyBad-clause-repaired
unfolding repaired
returns-in-Some-FirstCopyBad-clause-repaired c =
    let known = first (goal.at.returns-in-Some-FirstCopyBad-clause-repaired c).In-Some-FirstCopyBad in
    rw (image_after (goal.at.returns-in-Some-FirstCopyBad-clause-repaired c).After-restore, known) refl

pub invariant_of-result-in-None : goal.invariant_of-result-in-None
invariant_of-result-in-None c = IsVolume-from_none _ cc

pub returns-in-None-clause-volume : goal.returns-in-None-clause-volume
returns-in-None-clause-volume c = IsVolume-from_none _ cc
