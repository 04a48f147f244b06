use Rattle.std.proofs.Common.{ap, sym, ◌∙◌, arith}
use Rattle.pm_asm.specs.Near.{is_like}
use Rattle.pm_asm.proofs.Liked.{found_here, not_here, nowhere}
use Rattle.pm_asm.proofs.near.opcode_like.Goals as goal

pub returns-then-is_like : goal.returns-then-is_like
returns-then-is_like c =
    let name = sym (c.as_bytes.ensures.value ∙ c.row_at.ensures.mnemonic) in
    let same = ap (is_like c.args.near c.args.word.now) name ∙ sym c.is_like.ensures.like ∙ c.if-is_like.true in
    let found = found_here c.args.near c.args.word.now c.loop-op.op (omega (arith, c.loop-op-test.true)) same in
    record { opcode = sym (sym c.loop-op.invariant ∙ found) }

pub loop-op-preserved : goal.loop-op-preserved
loop-op-preserved c =
    let name = sym (c.as_bytes.ensures.value ∙ c.row_at.ensures.mnemonic) in
    let other = ap (is_like c.args.near c.args.word.now) name ∙ sym c.is_like.ensures.like ∙ c.if-is_like.false in
    sym (not_here c.args.near c.args.word.now c.loop-op.op (omega (arith, c.loop-op-test.true)) other) ∙ c.loop-op.invariant

pub returns : goal.returns
returns c =
    let none = nowhere c.args.near c.args.word.now c.loop-op.op (omega (arith, c.loop-op-test.false, c.loop-op.auto)) in
    record { opcode = sym (sym c.loop-op.invariant ∙ none) }
