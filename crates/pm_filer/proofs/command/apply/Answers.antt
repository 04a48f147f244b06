use Rattle.std.proofs.Common.{refl}
use Rattle.pm_filer.specs.Filed.{filed}
use Rattle.pm_filer.proofs.Made.{made-removed, made-slot_removed}
use Rattle.pm_filer.proofs.command.apply.Goals as goal

pub returns-in_ok-remove-in-Remove-clause-done : goal.returns-in_ok-remove-in-Remove-clause-done
unfolding filed
returns-in_ok-remove-in-Remove-clause-done c =
    let made = made-removed _ _ _ c.in_ok-remove-in-Remove.ensures.removed in
    let by_name = rw c.as_str-in-Remove.ensures.value at made in
    rw (c.in-Remove.is, by_name, c.done-in-Remove.ensures.done) refl

pub returns-in_ok-remove_slot-in-RemoveSlot-clause-done : goal.returns-in_ok-remove_slot-in-RemoveSlot-clause-done
unfolding filed
returns-in_ok-remove_slot-in-RemoveSlot-clause-done c =
    rw (c.in-RemoveSlot.is, made-slot_removed _ _ _ c.in_ok-remove_slot-in-RemoveSlot.ensures.removed, c.done-in-RemoveSlot.ensures.done) refl
