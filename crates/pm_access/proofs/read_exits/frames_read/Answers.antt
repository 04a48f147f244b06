use Rattle.std.proofs.Common.{refl, sym, ◌∙◌, rules}
use Rattle.pm_calls.specs.Exits.{frame_up}
use Rattle.pm_calls.proofs.WalkLaws.{frame_up-more}
use Rattle.pm_machine.specs.ReadStretches.{frames_read}
use Rattle.pm_access.proofs.ReadingLaws.{frames_more}
use Rattle.pm_access.proofs.read_exits.frames_read.Goals as goal
use Rattle.pm_access.proofs.read_exits.frames_read.Goals.{then-left_read, else-left_read}

pub loop-count-init : goal.loop-count-init
unfolding frame_up frames_read
loop-count-init c = record { frame = refl; read = refl }

pub loop-count-preserved : goal.loop-count-preserved
loop-count-preserved c =
    let more = frames_more c.args.bytes c.args.memory.now.words c.args.mp c.loop-count._count c.loop-count.frame c.loop-count.invariant.frame in
    record {
      frame = sym (frame_up-more _ _ _ _ c.loop-count.invariant.frame ∙ search rules);
      read = sym (more ∙ elim c.if-left_read.branch [ then-left_read w ↦ search rules | else-left_read w ↦ search rules ]);
    }
