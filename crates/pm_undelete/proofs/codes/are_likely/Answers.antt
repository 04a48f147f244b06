use Rattle.std.proofs.Common.{◌≡◌, ◌∙◌, true, false, rules, sym, arith}
use Rattle.pm_undelete.specs.Codes as codes
use Rattle.pm_codefile.specs.Dictionary.{slot_in}
use Rattle.pm_undelete.proofs.Steps.{likely-end, likely-more, likely-not}
use Rattle.pm_undelete.proofs.codes.are_likely.Goals as goal

pub returns-then-not-is_slot_likely : goal.returns-then-not-is_slot_likely
returns-then-not-is_slot_likely c =
    let e : codes.is_slot_likely (slot_in c.args.file.now c.loop-n.n) ≡ false = search rules in
    record { value = sym (c.loop-n.invariant.rest ∙ likely-not _ _ _ (omega arith) e) }

pub loop-n-preserved : goal.loop-n-preserved
loop-n-preserved c =
    let e : codes.is_slot_likely (slot_in c.args.file.now c.loop-n.n) ≡ true = search rules in
    record { rest = c.loop-n.invariant.rest ∙ likely-more _ _ _ (omega arith) e }

pub returns : goal.returns
returns c = record { value = sym (c.loop-n.invariant.rest ∙ likely-end _ _ _ (omega arith)) }
