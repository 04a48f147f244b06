use Rattle.std.proofs.Common.{rules, ◌<◌, ◌*◌, arith}
use Rattle.std.proofs.Output.{has_written_append}
use Rattle.pm_phrases.proofs.Membered.{one_more}
use Rattle.pm_phrases.proofs.sets.MembersDisplay.fmt.Goals as goal

pub loop-number-preserved : goal.loop-number-preserved
loop-number-preserved g c plain =
    let before = c.loop-number.invariant plain in
    let n = 16 * c.args.self.now.1 in
    let less : c.loop-number.number < n = omega (arith, c.loop-number-test.true, c.from-number-end.ensures) in (
      _,
      has_written_append _ _ _ _ _ _ before.1 (c.write.ensures.writes before.1.plain (search rules)),
      one_more c.args.self.now.0.now before.0 _ c.loop-number.behind _ _ _ c.loop-number.number n less
          c.is_member-member.ensures.member c.is_member.ensures.member c.behind_next-behind.ensures.behind before.2,
    )
