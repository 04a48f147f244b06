use Rattle.std.proofs.Common.{◌≡◌, ◌≤◌, ◌+◌, ◌++◌, ◌∙◌, List, ℕ, ap, append-nil, arith, drop, length, subst, sym, string_bytes}
use Rattle.std.specs.List.{AllByRecursion}
use Rattle.std.proofs.lemmas.List.{at_drop_all}
use Rattle.pm_code.specs.Image.{listing}
use Rattle.pm_code.specs.Program.{FitSlots, IsSegment}
use Rattle.pm_code.specs.Views.{program_seen, segment_seen}
use Rattle.pm_code.proofs.ListedMore.{listing_more, listing_none}
use Rattle.pm_code.proofs.Lists.{there}
use Rattle.pm_code.proofs.listing.listing_of.Goals as goal

pub loop-segment-preserved : goal.loop-segment-preserved
loop-segment-preserved c =
    let next = there c.args.program.now c.loop-segment.segment-index c.segment-item.result c.loop-segment-test.true c.segment-item.is in
    let rest = program_seen (drop (c.loop-segment.segment-index + 1) c.args.program.now) in
    let before : List ℕ = string_bytes c.loop-segment.text in
    record {
      written = listing_more (segment_seen c.segment-item.result) before (string_bytes c.list_segment.new.text) rest c.in_ok-list_segment.ensures.text
          ∙ ap (λ ss. before ++ listing (program_seen ss)) (sym next)
          ∙ c.loop-segment.invariant.written;
      good = (subst (λ ss. AllByRecursion IsSegment (program_seen ss)) next c.loop-segment.invariant.good).1;
      fit = (subst (λ ss. FitSlots (program_seen ss)) next c.loop-segment.invariant.fit).1;
    }

pub returns : goal.returns
returns c =
    let text : List ℕ = string_bytes c.loop-segment.text in
    let past : length c.args.program.now ≤ c.loop-segment.segment-index = omega arith in
    let none = at_drop_all (λ ss. listing (program_seen ss)) c.args.program.now c.loop-segment.segment-index past ∙ listing_none in
    record { text = sym (append-nil text) ∙ ap (λ bs. text ++ bs) (sym none) ∙ c.loop-segment.invariant.written }
