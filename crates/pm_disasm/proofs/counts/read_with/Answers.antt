use Rattle.std.proofs.Common.{◌≤◌, ◌<◌, ◌+◌, ◌*◌, ◌∙◌, refl, sym, ap, arith, subst, drop, take, true}
use Rattle.std.specs.Prelude.{◌&&◌, nat_le}
use Rattle.std.proofs.lemmas.Bool.{and_parts, leb-true}
use Rattle.pm_opcode.proofs.ReadTakes.{IsBytes-from_index}
use Rattle.pm_code.specs.Program.{entries_needed}
use Rattle.pm_disasm.specs.Chosen.{are_inside}
use Rattle.pm_disasm.specs.Follow.{written_by}
use Rattle.pm_disasm.specs.Offsets.{AreFronts}
use Rattle.pm_disasm.specs.Split.{end_with, parts}
use Rattle.pm_disasm.proofs.Fronts.{from_bytes}
use Rattle.pm_disasm.proofs.Offsets.{fronts_tell}
use Rattle.pm_disasm.proofs.Readings.{is_reading, more_taken}
use Rattle.pm_disasm.proofs.counts.read_with.Goals as goal

pub takes_more-requires-clause-fronts : goal.takes_more-requires-clause-fronts
takes_more-requires-clause-fronts c =
    let segment = c.args.segment.now in
    fronts_tell _ segment _ c.from-end.result (subst (λ fs. AreFronts fs segment) (sym c.deref.ensures.value) c.requires.decoded.fronts)
    (from_bytes segment (IsBytes-from_index segment (λ i. omega (arith, c.type_inv.segment i))))
    (omega (arith, c.requires.table.within, c.from-end.ensures)) refl

pub split-requires-clause-fronts : goal.split-requires-clause-fronts
split-requires-clause-fronts c =
    let segment = c.args.segment.now in
    fronts_tell _ segment _ c.from-end.result (subst (λ fs. AreFronts fs segment) (sym c.deref-3.ensures.value) c.requires.decoded.fronts)
    (from_bytes segment (IsBytes-from_index segment (λ i. omega (arith, c.type_inv.segment i))))
    (omega (arith, c.requires.table.within, c.from-end.ensures)) refl

pub returns-then-takes_more-clause-refused : goal.returns-then-takes_more-clause-refused
returns-then-takes_more-clause-refused c = λ none.
    let segment = c.args.segment.now in
    let a = c.args.a.now in
    let t = c.args.count in
    let fs = c.deref-2.result.now in
    let bs = take c.from-end.result segment in
    let room = and_parts (nat_le (a.enter + 8 + 2 * t) a.jtab) (nat_le a.exit (end_with a t) && are_inside segment a (end_with a t) a.jtab 0 t)
    c.requires.possible in
    let inside : a.enter + 8 + 2 * t ≤ a.jtab = leb-true _ _ room.0 in
    let more = c.takes_more.ensures.more c.if-takes_more.true in
    more_taken segment a t fs bs c.requires.order (omega (arith, inside)) (c.deref-2.ensures.value ∙ c.requires.places)
    (ap (λ n. take n segment) c.from-end.ensures)
    (λ test. subst (λ n. t < entries_needed (written_by test true (parts fs 0 n (drop n bs)))) c.from-enter.ensures
    (subst (λ k. k < entries_needed (written_by test true (parts fs 0 c.from-enter.result (drop c.from-enter.result bs)))) c.from.ensures (more test)))

pub returns-clause-reading : goal.returns-clause-reading
returns-clause-reading c =
    let read = c.in_ok-code.ensures in
    let segment = c.args.segment.now in
    let a = c.args.a.now in
    let t = c.args.count in
    let room = and_parts (nat_le (a.enter + 8 + 2 * t) a.jtab) (nat_le a.exit (end_with a t) && are_inside segment a (end_with a t) a.jtab 0 t)
    c.requires.possible in
    let inside : a.enter + 8 + 2 * t ≤ a.jtab = leb-true _ _ room.0 in
    let within = and_parts (nat_le a.exit (end_with a t)) (are_inside segment a (end_with a t) a.jtab 0 t) room.1 in
    is_reading segment a t _ _ _ c.from-enter.result c.from-enter.ensures c.requires.table c.requires.short c.requires.places
    c.from-end.ensures inside within.1 c.deref-4.ensures.value refl
    (record { parts = read.parts; boundaries = read.boundaries; follow = read.follow; from = read.begin; size = read.size })
