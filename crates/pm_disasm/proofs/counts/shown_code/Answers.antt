use Rattle.std.proofs.Common.{◌≡◌, ◌∙◌, ◌++◌, ◌∷◌, [], refl, sym, ap, arith, is_some, length, length-take-le, subst}
use Rattle.pm_opcode.proofs.ReadTakes.{IsBytes-from_index}
use Rattle.pm_disasm.specs.Chosen.{IsReading}
use Rattle.pm_disasm.specs.Offsets.{AreFronts}
use Rattle.pm_disasm.proofs.Fronts.{from_bytes}
use Rattle.pm_disasm.proofs.Offsets.{fronts_tell}
use Rattle.pm_disasm.proofs.Readings.{count_fails, count_fits, given, is_reading, none_fits}
use Rattle.pm_disasm.proofs.counts.shown_code.Goals as goal

pub returns-in-Some : goal.returns-in-Some
returns-in-Some c =
    let segment = c.args.segment.now in
    let a = c.args.a.now in
    let k = c.loop-count.count in
    let fits = sym (ap is_some c.in-Some.is) ∙ c.in_ok-reading.ensures.fits in
    record {
      shown = (
        k,
        count_fits segment a k (omega arith) fits c.loop-count.invariant,
        given (IsReading segment a k) c.in_ok-reading.field-0 c.in-Some.reading c.in-Some.is c.in_ok-reading.ensures.reading,
      );
    }

pub loop-count-preserved : goal.loop-count-preserved
loop-count-preserved c =
    let fails = sym (ap is_some c.in_default.is) ∙ c.in_ok-reading.ensures.fits in
    count_fails c.args.segment.now c.args.a.now c.loop-count.count _ (omega arith) fails c.loop-count.invariant

pub split-requires-clause-inside : goal.split-requires-clause-inside
split-requires-clause-inside c =
    let end : length _ ≡ c.from-end.result = length-take-le c.from-end.result c.args.segment.now (omega (arith, c.requires.table.within, c.from-end.ensures)) in
    omega (arith, end, c.requires.table.enter, c.from-enter.ensures, c.from-end.ensures)

pub returns : goal.returns
returns c =
    let segment = c.args.segment.now in
    let a = c.args.a.now in
    let read = c.in_ok-code.ensures in
    record {
      shown = (
        0,
        none_fits segment a c.loop-count.count (omega arith) c.loop-count.invariant,
        is_reading segment a 0 _ _ _ c.from-enter.result c.from-enter.ensures c.requires.table c.requires.short
            (c.in_ok-push.ensures.items ∙ ap (λ v. v ++ a.exit ∷ []) c.new-forced.ensures.items) (omega arith)
            (omega (arith, c.requires.table.enter)) refl c.deref-2.ensures.value refl
            (record { parts = read.parts; boundaries = read.boundaries; follow = read.follow; from = read.begin; size = read.size }),
      );
    }

pub split-requires-clause-fronts : goal.split-requires-clause-fronts
split-requires-clause-fronts c =
    let segment = c.args.segment.now in
    fronts_tell _ segment _ c.from-end.result (subst (λ fs. AreFronts fs segment) (sym c.deref.ensures.value) c.requires.decoded.fronts)
    (from_bytes segment (IsBytes-from_index segment (λ i. omega (arith, c.type_inv.segment i))))
    (omega (arith, c.requires.table.within, c.from-end.ensures)) refl
