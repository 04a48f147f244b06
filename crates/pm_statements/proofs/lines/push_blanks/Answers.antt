use Rattle.std.proofs.Common.{string_bytes}
use Rattle.pm_statements.proofs.Listed.{eight_step}
use Rattle.pm_statements.proofs.lines.push_blanks.Goals as goal

pub loop-rest-preserved-then-rest-ge8 : goal.loop-rest-preserved-then-rest-ge8
loop-rest-preserved-then-rest-ge8 c =
    eight_step c.loop-rest.rest (string_bytes c.loop-rest.out) (string_bytes c.push_str-then-rest-ge8.new.self) _ c.if-rest-ge8.true
    c.in_ok-push_str.ensures.bytes c.loop-rest.invariant
