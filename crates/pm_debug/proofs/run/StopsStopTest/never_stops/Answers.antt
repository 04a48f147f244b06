use Rattle.std.proofs.Common.{◌≡◌, ◌+◌, length, true}
use Rattle.std.specs.Prelude.{◌==◌}
use Rattle.pm_debug.proofs.GoLaws.{never_stops}
use Rattle.pm_debug.proofs.run.StopsStopTest.never_stops.Goals as goal
use Rattle.pm_debug.proofs.run.StopsStopTest.never_stops.Goals.{then-is_empty, else-is_empty}

pub returns-in-Any : goal.returns-in-Any
returns-in-Any c = elim c.if-is_empty.branch [
  | then-is_empty w ↦
      let some : (length c.args.self.now.watched.now == 0) ≡ true = cc in
      let more : (length c.args.self.now.breaks.now == 0) ≡ true = cc in
      record {
        never = λ k s. never_stops c.args.self.now.watched.now c.args.self.now.breaks.now c.args.self.now.depth some more
            c.in-Any.is (c.args.self.now.made + k) s;
      }
  | else-is_empty w ↦ absurd (cc)
]
