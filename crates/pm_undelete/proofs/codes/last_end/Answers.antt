use Rattle.std.proofs.Common.{◌≡◌, ◌∙◌, ◌+◌, ◌-◌, max, rules, ap, sym, arith}
use Rattle.pm_undelete.specs.Codes as codes
use Rattle.pm_codefile.specs.Dictionary.{slot_in}
use Rattle.pm_undelete.proofs.Steps.{last-end, last-more, max-exchange, max-zero}
use Rattle.pm_undelete.proofs.codes.last_end.Goals as goal

pub loop-n-preserved : goal.loop-n-preserved
loop-n-preserved c =
    let file = c.args.file.now in
    let n = c.loop-n.n in
    let more = codes.last_end file (n + 1) (16 - (n + 1)) in
    let now : max (codes.end_of_slot (slot_in file n)) c.loop-n.end ≡ c.max-end.result = search rules in
    record {
      rest = c.loop-n.invariant.rest ∙ ap (max c.loop-n.end) (last-more file n 16 (omega arith))
          ∙ max-exchange c.loop-n.end (codes.end_of_slot (slot_in file n)) more ∙ ap (λ m. max m more) now;
    }

pub returns : goal.returns
returns c = record {
  value = sym (c.loop-n.invariant.rest ∙ ap (max c.loop-n.end) (last-end _ _ _ (omega arith)) ∙ max-zero c.loop-n.end);
}
