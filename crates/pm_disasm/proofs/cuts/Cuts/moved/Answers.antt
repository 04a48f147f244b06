use Rattle.std.proofs.Common.{arith}
use Rattle.pm_disasm.proofs.NextCut.{still_next}
use Rattle.pm_disasm.proofs.cuts.Cuts.moved.Goals as goal

pub returns-then-at-self-clause-next : goal.returns-then-at-self-clause-next
returns-then-at-self-clause-next c =
    let b = c.requires.before in
    still_next c.args.self.forced.now b.0 c.args.at c.args.self.next b.2 b.1 c.if-at-self.true (omega (arith, c.ranges.self))
