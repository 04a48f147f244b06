use Rattle.std.proofs.Common.{refl, sym, ◌∙◌, rules}
use Rattle.pm_calls.specs.Exits.{frame_up}
use Rattle.pm_calls.proofs.WalkLaws.{frame_up-more}
use Rattle.pm_machine.specs.Written.{ips_written}
use Rattle.pm_access.proofs.WritingLaws.{ips_more}
use Rattle.pm_access.proofs.written_exits.is_ip_kept.Goals as goal
use Rattle.pm_access.proofs.written_exits.is_ip_kept.Goals.{then-meets, else-meets}

pub loop-count-init : goal.loop-count-init
unfolding frame_up ips_written
loop-count-init c = record { frame = refl; kept = refl }

pub loop-count-preserved : goal.loop-count-preserved
loop-count-preserved c =
    let more = ips_more c.args.bytes c.args.memory.now.words c.args.mp c.loop-count._count c.loop-count.frame c.loop-count.invariant.frame in
    record {
      frame = sym (frame_up-more _ _ _ _ c.loop-count.invariant.frame ∙ search rules);
      kept = sym (more ∙ elim c.if-meets.branch [ then-meets w ↦ search rules | else-meets w ↦ search rules ]);
    }
