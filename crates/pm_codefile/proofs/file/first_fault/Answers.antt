use Rattle.std.proofs.Common.{◌≡◌, ◌-◌, zero, refl, sym, ◌∙◌, arith}
use borrow.Author.Count.{below_more}
use Rattle.pm_codefile.specs.Dictionary.{first_slot_fault}
use Rattle.pm_codefile.proofs.Faults.{first-from_slot, first_fault-here, first_fault-more}
use Rattle.pm_codefile.proofs.file.first_fault.Goals as goal

pub loop-n-preserved : goal.loop-n-preserved
loop-n-preserved c = record {
  rest = c.loop-n.invariant.rest ∙ first_fault-more _ _ _ (omega arith) (sym c.in_default.ensures.fault);
  sound = below_more _ _ c.loop-n.invariant.sound (sym c.in_default.ensures.fault);
}

pub returns-in-Some-clause-fault : goal.returns-in-Some-clause-fault
returns-in-Some-clause-fault c = sym (c.loop-n.invariant.rest ∙ first_fault-here _ _ _ _ (omega arith) (sym c.in-Some.ensures.fault))

pub returns-clause-fault : goal.returns-clause-fault
unfolding first_slot_fault
returns-clause-fault c =
    let none : 16 - c.loop-n.n ≡ zero = omega arith in
    sym (c.loop-n.invariant.rest ∙ rw none refl)

pub returns-in-Some-clause-first : goal.returns-in-Some-clause-first
returns-in-Some-clause-first c = first-from_slot _ c.loop-n.n _ c.requires.dictionary (omega arith) c.loop-n.invariant.sound (sym c.in-Some.ensures.fault)
