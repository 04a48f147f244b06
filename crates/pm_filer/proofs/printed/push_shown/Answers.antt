use Rattle.std.proofs.Common.{sym, ◌∙◌, ap, append-nil, arith, ◌++◌}
use Rattle.pm_filer.proofs.Columns.{name-more, name-done}
use Rattle.pm_filer.proofs.printed.push_shown.Goals as goal

pub loop-byte-preserved : goal.loop-byte-preserved
loop-byte-preserved c =
    rw (c.in_ok-push.ensures.items, c.shown_byte.ensures.value)
    (name-more _ c.args.name.now c.loop-byte.byte-index (omega arith) ∙ c.loop-byte.invariant)

pub returns : goal.returns
returns c =
    record {
      text = sym (append-nil _)
          ∙ ap (λ t. c.loop-byte.text.items ++ t) (sym (name-done c.args.name.now c.loop-byte.byte-index (omega arith)))
          ∙ c.loop-byte.invariant;
    }
