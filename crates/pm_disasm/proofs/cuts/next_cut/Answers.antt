use Rattle.std.proofs.Common.{◌∙◌, ◌+◌, ◌<◌, ◌≤◌, ◌≡◌, ℕ, arith, ap, drop, get_or, sym}
use Rattle.std.specs.Prelude.{◌&&◌, ◌||◌, nat_lt}
use Rattle.std.specs.List.{list_any}
use Rattle.std.proofs.lemmas.List.{at_drop_more}
use Rattle.pm_disasm.proofs.NextCut.{less_next, same_next}
use Rattle.pm_disasm.proofs.cuts.next_cut.Goals as goal
use Rattle.pm_disasm.proofs.cuts.next_cut.Goals.{then-at-place+then-place-next, else-at-place, else-at-place-via-then-at-place+else-place-next}
use Rattle.pm_disasm.proofs.cuts.next_cut.Goals.{else-at-place-via-else-at-place}

pub loop-place-preserved : goal.loop-place-preserved
loop-place-preserved c = λ end e.
    let forced = c.args.forced.now in
    let at = c.args.at in
    let k = c.loop-place.place-index in
    let next = c.loop-place.next in
    let place : ℕ = get_or forced k 0 in
    let here : c.from-place.result ≡ place = c.from-place.ensures in
    let before = sym (at_drop_more (λ ps. nat_lt next end || list_any (λ place. nat_lt at place && nat_lt place end) ps) forced k 0 c.loop-place-test.true)
    ∙ c.loop-place.invariant end e in
    elim c.if-at-place.branch [
      | then-at-place+then-place-next w ↦ (let low : at < place = omega (arith, w.if-at-place.true, here) in let less : place < next = omega
          (arith, w.if-place-next.true, here) in
          ap (λ n. nat_lt n end || list_any (λ place. nat_lt at place && nat_lt place end) (drop (k + 1) forced)) (w.next-is ∙ here)
          ∙ less_next at place next end _ low less ∙ before)
      | else-at-place w ↦ (let other : at < place → next ≤ place = λ l. elim w.else-at-place.branch [
        | else-at-place-via-then-at-place+else-place-next v ↦ omega (arith, v.if-place-next.false, here)
        | else-at-place-via-else-at-place v ↦ absurd (omega (arith, v.if-at-place.false, here, l))
      ] in
          ap (λ n. nat_lt n end || list_any (λ place. nat_lt at place && nat_lt place end) (drop (k + 1) forced)) w.next-is
          ∙ same_next at place next end _ other ∙ before)
    ]
