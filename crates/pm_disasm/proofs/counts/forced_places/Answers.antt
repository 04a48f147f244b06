use Rattle.std.proofs.Common.{◌≡◌, ◌+◌, ◌-◌, ◌*◌, ◌∙◌, ◌++◌, arith, refl, ap}
use Rattle.pm_codefile.specs.Dictionary.{word_in}
use Rattle.pm_disasm.specs.Split.{entry_places}
use Rattle.pm_disasm.proofs.Entries.{entry_in, entry_out, entry_taken}
use Rattle.pm_disasm.proofs.counts.forced_places.Goals as goal

pub returns-then-not-leads_inside-clause-inside : goal.returns-then-not-leads_inside-clause-inside
returns-then-not-leads_inside-clause-inside c =
    let a = c.args.a.now in
    let k = c.loop-entry.entry in
    let word : c.word-distance.result ≡ word_in c.args.segment.now (a.jtab - 10 - 2 * k) =
    c.word-distance.ensures.word ∙ ap (word_in c.args.segment.now) (omega arith) in
    entry_out c.args.segment.now a _ k c.args.count c.word-distance.result c.leads_inside.result _ c.loop-entry-test.true word c.leads_inside.ensures.inside
    c.if-not-leads_inside.true c.loop-entry.invariant.inside

pub loop-entry-preserved : goal.loop-entry-preserved
loop-entry-preserved c =
    let a = c.args.a.now in
    let k = c.loop-entry.entry in
    let segment = c.args.segment.now in
    let word : c.word-distance.result ≡ word_in segment (a.jtab - 10 - 2 * k) = c.word-distance.ensures.word ∙ ap (word_in segment) (omega arith) in
    record {
      taken = ap (λ (v : _). v ++ entry_places segment a.jtab (k + 1) (c.args.count - (k + 1))) c.in_ok-push-2.ensures.items
          ∙ entry_taken segment a k c.args.count c.word-distance.result _ c.loop-entry.forced.items _ c.loop-entry-test.true word refl
          c.loop-entry.invariant.taken;
      inside = entry_in segment a _ k c.args.count c.word-distance.result c.leads_inside.result _ c.loop-entry-test.true word c.leads_inside.ensures.inside
          c.if-not-leads_inside.false c.loop-entry.invariant.inside;
    }
