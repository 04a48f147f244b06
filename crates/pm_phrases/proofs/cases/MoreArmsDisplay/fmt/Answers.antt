use Rattle.std.proofs.Common.{rules, ◌+◌, ◌++◌, ◌∙◌, get_or, ap, drop, sym, append_assoc, codes}
use Rattle.std.proofs.Output.{has_written_append}
use Rattle.std.proofs.lemmas.List.{drop_more}
use Rattle.pm_phrases.specs.Cases.{arm_text, more_arms}
use Rattle.pm_phrases.proofs.cases.MoreArmsDisplay.fmt.Goals as goal

pub loop-place-preserved : goal.loop-place-preserved
loop-place-preserved g c plain =
    let before = c.loop-place.invariant plain in
    let places = c.args.self.now.places.now in
    let v = c.loop-place.value in
    let k = c.loop-place.place-index in (
      _,
      has_written_append _ _ _ _ _ _ before.1 (c.write.ensures.writes before.1.plain (search rules)),
      append_assoc before.0 (codes "; " ++ arm_text v (get_or places k 0)) (more_arms c.next_value-value.result (drop (k + 1) places))
          ∙ ap (λ w. before.0 ++ ((codes "; " ++ arm_text v (get_or places k 0)) ++ more_arms w (drop (k + 1) places))) c.next_value-value.ensures.next
          ∙ ap (λ ps. before.0 ++ more_arms v ps) (sym (drop_more places k 0 c.loop-place-test.true))
          ∙ before.2,
    )
