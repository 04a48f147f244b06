use Rattle.pm_stdproc.specs.declared.loads.SlotRow.{SlotRow}
use Rattle.std.proofs.Common.{◌≡◌, ◌%◌, length, refl, sym, ◌∙◌, arith, add-one, take_all}
use Rattle.std.proofs.lemmas.List.{length-set, take_more_set}
use Rattle.std.proofs.lemmas.List.Elements.{All-push}
use Rattle.pm_machine.specs.Boot.{rows_below}
use Rattle.pm_machine.proofs.boot.rows_of.Goals as goal

pub loop-n-init : goal.loop-n-init
unfolding rows_below
loop-n-init c = record { size = refl; rows = refl; even = λ k d l. absurd (omega arith) }

pub loop-n-preserved : goal.loop-n-preserved
unfolding rows_below
loop-n-preserved c =
    let size : length c.loop-n.rows ≡ 16 = c.loop-n.invariant.size in
    record {
      size = length-set c.loop-n.rows c.loop-n.n c.row_of.result ∙ size;
      rows = rw (take_more_set c.loop-n.rows c.loop-n.n c.row_of.result (omega arith), add-one, c.loop-n.invariant.rows, c.row_of.ensures.row) refl;
      even = rw (take_more_set c.loop-n.rows c.loop-n.n c.row_of.result (omega arith)) (All-push (λ (r : SlotRow). r.length % 2 ≡ 0) _ _ c.loop-n.invariant.even
          c.row_of.ensures.even);
    }

pub of-requires : goal.of-requires
of-requires c =
    let size : length c.loop-n.rows ≡ 16 = c.loop-n.invariant.size in
    record { even_rows = rw (take_all c.loop-n.n c.loop-n.rows (omega arith)) at c.loop-n.invariant.even }

pub returns : goal.returns
returns c =
    let all : c.loop-n.n ≡ 16 = omega arith in
    let size : length c.loop-n.rows ≡ 16 = c.loop-n.invariant.size in
    record { rows = c.of.ensures.rows ∙ sym (take_all 16 c.loop-n.rows (omega arith)) ∙ rw all at c.loop-n.invariant.rows }
