use Rattle.std.proofs.Common.{◌≡◌, ◌+◌, ◌∷◌, drop, length, sym, ap, ◌∙◌, arith, subst, true}
use Rattle.pm_code.specs.Program.{entries_needed}
use Rattle.pm_disasm.specs.Follow.{written_by}
use Rattle.pm_disasm.specs.Offsets.{IsNextCut}
use Rattle.pm_disasm.specs.Split.{Part, bytes_after_first, part_of, parts, taken}
use Rattle.pm_disasm.specs.Views.{part_seen}
use Rattle.pm_disasm.proofs.MoreNeeded.{part_needs}
use Rattle.pm_disasm.proofs.Splitting.{next_part}
use Rattle.pm_disasm.proofs.taking.takes_more.Goals as goal

pub returns-then-surely_used-count : goal.returns-then-surely_used-count
returns-then-surely_used-count c = record {
  more = λ e test.
      let before = c.parts.invariant in
      let forced = c.args.forced.now in
      let bytes = c.args.bytes.now in
      let at = c.parts.at in
      let n = length c.part_at-part.result.bytes.now in
      let p : Part = part_seen c.part_at-part.result in
      let here : p ≡ part_of at (drop at bytes) (taken forced at (drop at bytes)) =
      c.part_at-part.ensures.part ∙ ap (λ fs. part_of at (drop at bytes) (taken fs at (drop at bytes))) before.forced in
      let next : parts forced 0 at (drop at bytes) ≡ p ∷ parts forced 0 (at + n) (drop (at + n) bytes) =
      next_part forced bytes at n p c.parts-test.true here (ap (λ fs. bytes_after_first (taken fs at (drop at bytes)) + 1) (sym before.forced)
      ∙ c.part_at-part.ensures.size) in
      let needs = ap (λ ps. entries_needed (written_by test true ps)) next ∙ part_needs test p (parts forced 0 (at + n) (drop (at + n) bytes)) in
      let used = c.surely_used.ensures.used test p.bytes in
      omega (arith, c.if-surely_used-count.true, used, needs, before.less test);
}

pub parts-preserved : goal.parts-preserved
parts-preserved c =
    let before = c.parts.invariant in
    let forced = c.args.forced.now in
    let bytes = c.args.bytes.now in
    let at = c.parts.at in
    let n = length c.part_at-part.result.bytes.now in
    let p : Part = part_seen c.part_at-part.result in
    let here : p ≡ part_of at (drop at bytes) (taken forced at (drop at bytes)) =
    c.part_at-part.ensures.part ∙ ap (λ fs. part_of at (drop at bytes) (taken fs at (drop at bytes))) before.forced in
    let next : parts forced 0 at (drop at bytes) ≡ p ∷ parts forced 0 (at + n) (drop (at + n) bytes) =
    next_part forced bytes at n p c.parts-test.true here (ap (λ fs. bytes_after_first (taken fs at (drop at bytes)) + 1) (sym before.forced)
    ∙ c.part_at-part.ensures.size) in
    record {
      inside = c.part_at-part.ensures.within;
      forced = c.moved-cuts.ensures.forced ∙ before.forced;
      next = subst (λ fs. IsNextCut fs (at + n) c.moved-cuts.result.next) (sym c.moved-cuts.ensures.forced) c.moved-cuts.ensures.next;
      less = λ test.
          let needs = ap (λ ps. entries_needed (written_by test true ps)) next ∙ part_needs test p (parts forced 0 (at + n) (drop (at + n) bytes)) in
          omega (arith, needs, before.less test);
    }
