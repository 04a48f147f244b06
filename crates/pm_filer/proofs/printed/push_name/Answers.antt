use Rattle.std.proofs.Common.{sym, ◌∙◌, ap, append-nil, arith, ◌++◌, string_bytes}
use Rattle.pm_filer.proofs.Columns.{name-more, name-done, shown_ascii}
use Rattle.pm_filer.proofs.printed.push_name.Goals as goal

pub loop-byte-preserved : goal.loop-byte-preserved
loop-byte-preserved c =
    let written = c.in_ok-push.ensures.bytes in
    rw (written, c.from.ensures, c.shown_byte.ensures.value, shown_ascii)
    (name-more _ c.args.name.now c.loop-byte.byte-index (omega arith) ∙ c.loop-byte.invariant)

pub returns : goal.returns
returns c =
    record {
      text = sym (append-nil _) ∙ ap (λ t. string_bytes c.loop-byte.text ++ t) (sym (name-done c.args.name.now c.loop-byte.byte-index (omega arith))) ∙
          c.loop-byte.invariant;
    }
