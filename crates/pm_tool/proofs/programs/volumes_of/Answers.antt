use Rattle.std.proofs.Common.{arith, ap, sym, refl, ◌∙◌, Some}
use Rattle.std.proofs.lemmas.Result.{err_from_is_err_and}
use Rattle.std.proofs.lemmas.List.{length-set}
use Rattle.pm_tool.specs.Disks.{first_bad, first_disk_fault, images_of}
use Rattle.pm_tool.proofs.Opening.{place_below, place_next, fault_later, fault_here, opened_next, fault_none, opened_all, place_here, place_later, place_none}
use Rattle.pm_tool.proofs.programs.volumes_of.Goals as goal

pub opening-init : goal.opening-init
opening-init c =
    let all = c.into_iter-image-iterator.ensures.into_iter_gives.0 in
    let six = c.into_iter-image-iterator.ensures.into_iter_gives.1 in
    record {
      opened = ap images_of (sym all);
      sound = ap (λ disks. first_disk_fault (images_of disks)) (sym all);
      bad = ap (λ disks. first_bad 0 (images_of disks)) (sym all);
      count = omega arith;
      size = refl;
    }

pub returns-in_err-volumes-clause-refusal : goal.returns-in_err-volumes-clause-refusal
returns-in_err-volumes-clause-refusal c =
    let p = err_from_is_err_and c.from_residual.result c.from_residual.ensures.1 in
    rw (p.1, p.2) (fault_here _ _ c.in-Some.image c.in-Some.ensures.steps _ _ c.opening.invariant.sound c.in_err-volumes.ensures.refusal)

pub returns-in_err-volumes-clause-place : goal.returns-in_err-volumes-clause-place
returns-in_err-volumes-clause-place c =
    let p = err_from_is_err_and c.from_residual.result c.from_residual.ensures.1 in
    rw (p.1, p.2) (place_here _ _ c.in-Some.image c.in-Some.ensures.steps _ c.opening.place _ c.opening.invariant.bad
    c.in_err-volumes.ensures.refusal ∙ ap Some (sym c.in_err-volumes.ensures.place))

pub offset_bounds-volumes-place : goal.offset_bounds-volumes-place
offset_bounds-volumes-place c =
    let below = place_below _ _ c.in-Some.image c.in-Some.ensures.steps c.opening.place c.opening.invariant.count in
    omega arith

pub listed : goal.listed
listed c =
    let below = place_below _ _ c.in-Some.image c.in-Some.ensures.steps c.opening.place c.opening.invariant.count in
    let size = c.opening.invariant.size in
    omega arith

pub way_replace-volumes : goal.way_replace-volumes
way_replace-volumes c = place_below _ _ c.in-Some.image c.in-Some.ensures.steps c.opening.place c.opening.invariant.count

pub overflow_add-place : goal.overflow_add-place
overflow_add-place c =
    let below = place_below _ _ c.in-Some.image c.in-Some.ensures.steps c.opening.place c.opening.invariant.count in
    omega arith

pub opening-preserved : goal.opening-preserved
opening-preserved c =
    let below = place_below _ _ c.in-Some.image c.in-Some.ensures.steps c.opening.place c.opening.invariant.count in
    let size = c.opening.invariant.size in
    record {
      opened = opened_next _ _ c.in-Some.image c.in-Some.ensures.steps _ c.opening.volumes c.opening.place c.in_ok-volumes.field-0 c.opening.invariant.opened
          (omega arith) c.in_ok-volumes.ensures.volume;
      sound = fault_later _ _ c.in-Some.image c.in-Some.ensures.steps _ c.opening.invariant.sound c.in_ok-volumes.ensures.sound;
      bad = place_later _ _ c.in-Some.image c.in-Some.ensures.steps _ c.opening.place c.opening.invariant.bad
          c.in_ok-volumes.ensures.sound;
      count = place_next _ _ c.in-Some.image c.in-Some.ensures.steps c.opening.place c.opening.invariant.count;
      size = length-set _ _ _ ∙ size;
    }

pub returns-clause-volumes : goal.returns-clause-volumes
returns-clause-volumes c =
    opened_all _ c.in-None.ensures.steps.0 _ c.opening.volumes c.opening.place c.opening.invariant.opened c.opening.invariant.count c.opening.invariant.size

pub returns-clause-all : goal.returns-clause-all
returns-clause-all c = place_none _ c.in-None.ensures.steps.0 _ c.opening.place c.opening.invariant.bad

pub returns-clause-sound : goal.returns-clause-sound
returns-clause-sound c = fault_none _ c.in-None.ensures.steps.0 _ c.opening.invariant.sound
