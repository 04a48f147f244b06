use Rattle.std.proofs.Common.{refl, sym, ◌∙◌, rules}
use Rattle.pm_calls.specs.Links.{up}
use Rattle.pm_machine.specs.ReadStretches.{links_read}
use Rattle.pm_access.specs.Reached.{loaded_memory}
use Rattle.pm_access.proofs.ReadingLaws.{links_more, up_next}
use Rattle.pm_access.proofs.read_links.links_read.Goals as goal
use Rattle.pm_access.proofs.read_links.links_read.Goals.{then-is_of_word, else-is_of_word}

pub loop-count-init : goal.loop-count-init
unfolding up links_read
loop-count-init c = record { frame = refl; read = refl }

pub loop-count-preserved : goal.loop-count-preserved
loop-count-preserved c =
    let m = loaded_memory c.args.memory in
    let more = links_more c.args.bytes m c.args.mp c.loop-count._count c.loop-count.frame c.loop-count.invariant.frame in
    record {
      frame = c.next_up-frame.ensures.next ∙ up_next m c.args.mp c.loop-count._count c.loop-count.frame c.loop-count.invariant.frame;
      read = sym (more ∙ elim c.if-is_of_word.branch [ then-is_of_word w ↦ search rules | else-is_of_word w ↦ search rules ]);
    }
