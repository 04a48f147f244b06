use Rattle.std.proofs.Common.{rules, ◌≡◌, ◌+◌, ◌++◌, ◌∙◌, ◌∷◌, get_or, ap, drop, map, sym, append_assoc}
use Rattle.std.proofs.Output.{has_written_append}
use Rattle.std.proofs.lemmas.List.{drop_more}
use Rattle.pm_code.specs.Shown.{label_text}
use Rattle.pm_code.specs.Text.{more_operands}
use Rattle.pm_code.proofs.shown.PlacesDisplay.fmt.Goals as goal

pub loop-place-preserved : goal.loop-place-preserved
loop-place-preserved g c plain =
    let before = c.loop-place.invariant plain in
    let places = c.args.self.now.0.now in
    let k = c.loop-place.place-index in (
      _,
      has_written_append _ _ _ _ _ _ before.1 (c.write.ensures.writes before.1.plain (search rules)),
      append_assoc before.0 (44 ∷ 32 ∷ label_text (get_or places k 0)) (more_operands (map label_text (drop (k + 1) places)))
          ∙ ap (λ ps. before.0 ++ more_operands (map label_text ps)) (sym (drop_more places k 0 c.loop-place-test.true))
          ∙ before.2,
    )
