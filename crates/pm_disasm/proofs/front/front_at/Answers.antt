use Rattle.std.proofs.Common.{◌≡◌, refl, sym, ◌∙◌, arith, Ok}
use Rattle.pm_opcode.specs.declared.instr.Instr.{Instr}
use Rattle.pm_opcode.specs.Reading.{reading}
use Rattle.pm_disasm.proofs.FrontCode.{bounds, front_none, front_read}
use Rattle.pm_disasm.proofs.front.front_at.Goals as goal

pub returns-in_default-clause-front : goal.returns-in_default-clause-front
returns-in_default-clause-front c = sym (front_none c.args.bytes.now c.args.at c.in_default.field-0 (sym c.decode.ensures.exact ∙ c.in_default.is))

pub returns-then-not-has_zero_padding-clause-front : goal.returns-then-not-has_zero_padding-clause-front
returns-then-not-has_zero_padding-clause-front c =
    let i : Instr = c.in-Ok.instr in
    let read : reading c.args.bytes.now c.args.at ≡ Ok i = sym c.in-Ok.ensures.exact in
    let zero = sym c.has_zero_padding.ensures.zero ∙ c.if-not-has_zero_padding.true in
    sym (front_read c.args.bytes.now c.args.at i read c.in-Ok.ensures.found ∙ rw zero refl)

pub item_of-item-requires-clause-end : goal.item_of-item-requires-clause-end
item_of-item-requires-clause-end c = omega (arith, (bounds c.args.bytes.now c.args.at c.in-Ok.instr c.in-Ok.ensures.found).within, c.requires.short)

pub item_of-item-requires-clause-table : goal.item_of-item-requires-clause-table
item_of-item-requires-clause-table c = omega (arith, (bounds c.args.bytes.now c.args.at c.in-Ok.instr c.in-Ok.ensures.found).count)

pub returns-clause-front : goal.returns-clause-front
returns-clause-front c =
    let i : Instr = c.in-Ok.instr in
    let read : reading c.args.bytes.now c.args.at ≡ Ok i = sym c.in-Ok.ensures.exact in
    let zero = sym c.has_zero_padding.ensures.zero ∙ c.if-not-has_zero_padding.false in
    sym (front_read c.args.bytes.now c.args.at i read c.in-Ok.ensures.found
    ∙ rw zero (rw (c.item_of-item.ensures.item, c.named_bytes-named.ensures.named) refl))

pub returns-clause-within : goal.returns-clause-within
returns-clause-within c = let b = bounds c.args.bytes.now c.args.at c.in-Ok.instr c.in-Ok.ensures.found in (b.some, b.within)
