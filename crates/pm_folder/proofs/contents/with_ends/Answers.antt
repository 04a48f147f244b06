use Rattle.std.proofs.Common.{sym, ◌∙◌, ap, append-nil, arith, ◌++◌}
use Rattle.pm_folder.proofs.LineEnds.{ends-done, ends-more}
use Rattle.pm_folder.proofs.contents.with_ends.Goals as goal

pub loop-byte-preserved : goal.loop-byte-preserved
loop-byte-preserved c =
    rw (c.in_ok-push_byte.ensures.text)
    (ends-more c.args.ends _ c.args.text.now c.loop-byte.byte-index (omega arith) ∙ c.loop-byte.invariant)

pub returns : goal.returns
returns c =
    record {
      text = sym (append-nil _)
          ∙ ap (λ t. c.loop-byte.bytes.items ++ t) (sym (ends-done c.args.ends c.args.text.now c.loop-byte.byte-index (omega arith)))
          ∙ c.loop-byte.invariant;
    }
