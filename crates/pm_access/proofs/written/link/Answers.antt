use Rattle.std.proofs.Common.{◌≡◌, refl, sym, ◌∙◌, arith}
use Rattle.std.proofs.lemmas.Bool.Decides.{nat_tests}
use Rattle.std.proofs.lemmas.Result.{err_from_is_err_and}
use Rattle.pm_calls.specs.Links.{link, up}
use Rattle.pm_calls.proofs.LinkLaws.{link_up, up_more, up_stops}
use Rattle.pm_access.proofs.written.link.Goals as goal

pub returns-then-links-gt127 : goal.returns-then-links-gt127
unfolding link
returns-then-links-gt127 c = record { frame = grind (arith, nat_tests) }

pub loop-count-init : goal.loop-count-init
unfolding up
loop-count-init c = record { frame = refl }

pub returns-in_err-frame : goal.returns-in_err-frame
returns-in_err-frame c =
    let p = err_from_is_err_and c.from_residual.result c.from_residual.ensures.1 in
    record {
      frame = rw (p.1, p.2) (sym (link_up _ _ _ (omega arith)
          ∙ up_stops _ _ _ _ _ _ c.loop-count.invariant.frame (sym c.in_err-frame.ensures.word) (omega arith)));
    }

pub loop-count-preserved : goal.loop-count-preserved
loop-count-preserved c = record { frame = up_more _ _ _ _ _ c.loop-count.invariant.frame (sym c.in_ok-frame.ensures.word) }

pub returns : goal.returns
returns c =
    let whole : c.loop-count._count ≡ c.args.links = omega arith in
    record { frame = sym (link_up _ _ _ (omega arith) ∙ rw (← whole) c.loop-count.invariant.frame) }
