use Rattle.std.proofs.Common.{rules, arith, refl}
use Rattle.pm_tool.proofs.Spelled.{after_blank, after_pair, no_pair, lone, at_end}
use Rattle.pm_tool.proofs.hex.decode.Goals as goal

pub reading-preserved-then-is_blank : goal.reading-preserved-then-is_blank
reading-preserved-then-is_blank c =
    after_blank c.reading.bytes.items c.reading.rest.now _ c.reading.invariant _ c.in-len1-up.len_at_least (search rules) refl

pub returns-in_default : goal.returns-in_default
returns-in_default c =
    record { bytes = lone c.reading.bytes.items c.reading.rest.now _ c.reading.invariant (omega arith) (search rules) }

pub returns-in_default-pair : goal.returns-in_default-pair
returns-in_default-pair c =
    record { bytes = no_pair c.reading.bytes.items c.reading.rest.now _ c.reading.invariant (omega arith) (search rules) (search rules) }

pub reading-preserved : goal.reading-preserved
reading-preserved c = rw c.in_ok-push-in-len2-up.ensures.items
    (after_pair c.reading.bytes.items c.reading.rest.now _ c.reading.invariant _ _ (omega arith) (search rules) (search rules) refl)

pub returns-in-empty : goal.returns-in-empty
returns-in-empty c =
    record { bytes = at_end c.reading.bytes.items c.reading.rest.now _ c.reading.invariant (search rules) }
