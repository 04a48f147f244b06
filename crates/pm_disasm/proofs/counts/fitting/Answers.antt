use Rattle.std.proofs.Common.{◌∙◌, arith, sym, ap, is_some, true, map}
use Rattle.pm_code.specs.Program.{entries_needed}
use Rattle.pm_disasm.specs.Follow.{written_by}
use Rattle.pm_disasm.specs.Views.{has, part_seen}
use Rattle.pm_disasm.specs.Chosen.{IsReading}
use Rattle.pm_opcode.proofs.ReadTakes.{IsBytes-from_index}
use Rattle.pm_disasm.proofs.Fronts.{from_bytes}
use Rattle.pm_disasm.proofs.Untaken.{not_told}
use Rattle.pm_disasm.proofs.Readings.{given, is_taken, not_taken}
use Rattle.pm_disasm.proofs.counts.fitting.Goals as goal

pub returns-then-needed-from-clause-fits : goal.returns-then-needed-from-clause-fits
returns-then-needed-from-clause-fits c =
    let segment = c.args.segment.now in
    let a = c.args.a.now in
    let t = c.args.count in
    let r = c.in-Some-2.reading in
    let read = given (IsReading segment a t) c.in_ok-reading.field-0 r c.in-Some-2.is c.in_ok-reading.ensures.reading in
    let needed = c.entries_needed-needed.ensures.entries ∙ ap (λ ps. entries_needed
    (written_by (has r.code.boundaries) true (map part_seen ps))) c.deref.ensures.value in
    not_taken segment a t c.entries_needed-needed.result r c.requires.table c.requires.order read needed (λ e. c.if-needed-from.true (e ∙ sym c.from-2.ensures))

pub returns-clause-fits : goal.returns-clause-fits
returns-clause-fits c =
    let segment = c.args.segment.now in
    let a = c.args.a.now in
    let t = c.args.count in
    let r = c.in-Some-2.reading in
    let read = given (IsReading segment a t) c.in_ok-reading.field-0 r c.in-Some-2.is c.in_ok-reading.ensures.reading in
    let needed = c.entries_needed-needed.ensures.entries ∙ ap (λ ps. entries_needed
    (written_by (has r.code.boundaries) true (map part_seen ps))) c.deref.ensures.value in
    let possible = sym c.in_ok-forced.ensures.inside ∙ ap is_some c.in-Some.is in
    is_taken segment a t c.entries_needed-needed.result r c.requires.table c.requires.order read possible needed (c.if-needed-from.false ∙ c.from-2.ensures)

pub returns-then-not-contains-clause-fits : goal.returns-then-not-contains-clause-fits
returns-then-not-contains-clause-fits c =
    let segment = c.args.segment.now in
    let bytes = from_bytes segment (IsBytes-from_index segment (λ i. omega (arith, c.type_inv.segment i))) in
    not_told c.args.decoded.now segment c.args.a.now c.args.count c.requires.decoded bytes c.requires.table c.requires.few
    (ap (has c.args.decoded.now.counts) (sym c.from.ensures) ∙ sym c.contains.ensures.has ∙ c.if-not-contains.true)
