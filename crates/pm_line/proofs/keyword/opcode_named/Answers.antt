use Rattle.std.proofs.Common.{ap, sym, ◌∙◌, arith}
use Rattle.std.specs.Str.{bytes_eq}
use Rattle.pm_line.proofs.Named.{found_here, not_here, nowhere}
use Rattle.pm_line.proofs.keyword.opcode_named.Goals as goal

pub returns-then-eq : goal.returns-then-eq
returns-then-eq c =
    let same = ap (bytes_eq c.args.name.now) (sym (c.as_bytes.ensures.value ∙ c.row_at.ensures.mnemonic)) ∙ sym c.eq.ensures ∙ c.if-eq.true in
    record { opcode = sym (sym c.loop-op.invariant ∙ found_here c.args.name.now c.loop-op.op (omega (arith, c.loop-op-test.true)) same) }

pub loop-op-preserved : goal.loop-op-preserved
loop-op-preserved c =
    let other = ap (bytes_eq c.args.name.now) (sym (c.as_bytes.ensures.value ∙ c.row_at.ensures.mnemonic)) ∙ sym c.eq.ensures ∙ c.if-eq.false in
    sym (not_here c.args.name.now c.loop-op.op (omega (arith, c.loop-op-test.true)) other) ∙ c.loop-op.invariant

pub returns : goal.returns
returns c = record { opcode = sym (sym c.loop-op.invariant ∙ nowhere c.args.name.now c.loop-op.op (omega (arith, c.loop-op-test.false, c.loop-op.auto))) }
