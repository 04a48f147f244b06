use Rattle.std.proofs.Common.{◌∙◌, arith, ap}
use Rattle.pm_disasm.specs.Split.{uncut}
use Rattle.pm_disasm.specs.Views.{front_seen}
use Rattle.pm_disasm.proofs.NextCut.{cut, kept}
use Rattle.pm_disasm.proofs.parts.taken.Goals as goal

pub returns-then-cuts-at-clause-taken : goal.returns-then-cuts-at-clause-taken
returns-then-cuts-at-clause-taken c =
    cut c.args.cuts.forced.now c.args.at c.args.cuts.next (front_seen c.in_ok-front.front) c.requires.next
    (omega (arith, c.in_ok-front.ensures.within.1, c.requires.short)) c.if-cuts-at.true
    ∙ ap (uncut c.args.cuts.forced.now c.args.at) c.in_ok-front.ensures.front

pub returns-clause-taken : goal.returns-clause-taken
returns-clause-taken c =
    kept c.args.cuts.forced.now c.args.at c.args.cuts.next (front_seen c.in_ok-front.front) c.requires.next
    (omega (arith, c.in_ok-front.ensures.within.1, c.requires.short)) c.if-cuts-at.false
    ∙ ap (uncut c.args.cuts.forced.now c.args.at) c.in_ok-front.ensures.front
