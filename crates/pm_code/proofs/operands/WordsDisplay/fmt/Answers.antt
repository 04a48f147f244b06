use Rattle.std.proofs.Common.{rules, ◌≡◌, ◌+◌, ◌*◌, ◌++◌, arith, ap, ◌∙◌, get_or}
use Rattle.std.specs.Fmt.{decimal}
use Rattle.std.proofs.Output.{has_written_append, has_written_of_eq}
use Rattle.pm_code.proofs.Words.{word_written, all_written, lead_text, lead_text-first, lead_text-more}
use Rattle.pm_code.proofs.operands.WordsDisplay.fmt.Goals as goal
use Rattle.pm_code.proofs.operands.WordsDisplay.fmt.Goals.{then-k-eq0, else-k-eq0}

pub loop-k-preserved : goal.loop-k-preserved
loop-k-preserved g c plain =
    let before = c.loop-k.invariant plain in
    let bytes = c.args.self.now.0.now in
    let k = c.loop-k.k in
    let low = c.from.ensures in
    let high = c.from-in-loop-k.ensures in
    let lead : c.if-k-eq0.lead.now ≡ lead_text k = elim c.if-k-eq0.branch [
      | then-k-eq0 w ↦ ap (λ lead. lead.now) w.lead-is ∙ lead_text-first k w.if-k-eq0.true
      | else-k-eq0 w ↦ ap (λ lead. lead.now) w.lead-is ∙ lead_text-more k w.if-k-eq0.false
    ] in
    let text : c.if-k-eq0.lead.now ++ decimal (c.from.result + 256 * c.from-in-loop-k.result)
    ≡ lead_text k ++ decimal (get_or bytes (2 * k) 0 + 256 * get_or bytes (2 * k + 1) 0) = cc in (
      before.0 ++ (lead_text k ++ decimal (get_or bytes (2 * k) 0 + 256 * get_or bytes (2 * k + 1) 0)),
      has_written_append _ _ _ _ _ _ before.1 (has_written_of_eq _ _ _ _ _ text (c.write.ensures.writes before.1.plain (search rules))),
      word_written bytes before.0 _ k (omega arith) before.2,
    )

pub returns-clause-writes : goal.returns-clause-writes
returns-clause-writes g c plain ok =
    let before = c.loop-k.invariant plain in
    has_written_of_eq _ _ _ _ _ (all_written c.args.self.now.0.now before.0 _ c.loop-k.k c.loop-k-test.false before.2) before.1
