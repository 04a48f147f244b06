use Rattle.std.proofs.Common.{sym, ◌∙◌, ap, append-nil, arith, ◌++◌, string_bytes}
use Rattle.std.proofs.lemmas.Str.{encode_ascii}
use Rattle.pm_filer.proofs.Columns.{spaces-more, spaces-done}
use Rattle.pm_filer.proofs.listing.push_spaces.Goals as goal

pub loop-preserved : goal.loop-preserved
loop-preserved c = rw (c.in_ok-push.ensures.bytes, encode_ascii 32 (omega arith)) (spaces-more _ c.args.count c.loop.counter (omega arith) ∙ c.loop.invariant)

pub returns : goal.returns
returns c =
    record {
      text = sym (append-nil _) ∙ ap (λ t. string_bytes c.loop.text ++ t) (sym (spaces-done c.args.count c.loop.counter (omega arith))) ∙
          c.loop.invariant;
    }
