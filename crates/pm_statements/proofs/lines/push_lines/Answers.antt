use Rattle.std.proofs.Common.{◌≡◌, ◌+◌, ◌++◌, ◌∷◌, [], ℕ, List, Bool, false, slice_index_or, drop, string_bytes, sym, ap, ◌∙◌}
use Rattle.std.proofs.lemmas.List.{append-nil, drop_more, nil_from_length}
use Rattle.pm_phrases.specs.Shown.{Shown}
use Rattle.pm_trees.specs.declared.left.Left.{Left}
use Rattle.pm_trees.specs.declared.left.Role.TheVariants as role
use Rattle.pm_trees.specs.declared.part.Leaves.TheVariants as leaves
use Rattle.pm_statements.specs.Depths.{at_place}
use Rattle.pm_statements.specs.Texts.{line, lines}
use Rattle.pm_statements.proofs.Listed.{lines_done, lines_none, lines_step}
use Rattle.pm_statements.proofs.lines.push_lines.Goals as goal

-- An arbitrary value, used for the element at an index after the end of a list.
abbrev nowhere : Left
nowhere = record {
  leaves = leaves.Words 0;
  place = record { offset = 0; has_label = false; is_exit = false };
  parts = 0;
  role = role.Call;
}

-- If no phrase remains, then the text is complete.
pub returns-in_default : goal.returns-in_default
returns-in_default c = record {
  text =
      let rest : List Shown = c.loop-left.rest.now in
      let none : rest ≡ [] = nil_from_length rest c.in_default.ensures.cases in
      let ls : List Left = drop c.loop-left.left-index c.args.lefts.now in
      sym (ap (λ t. string_bytes c.loop-left.out ++ t)
      (ap (λ r. lines c.args.depths.now c.loop-left.behind_call ls r) none ∙ lines_none c.args.depths.now c.loop-left.behind_call ls)
      ∙ append-nil (string_bytes c.loop-left.out))
      ∙ c.loop-left.invariant;
}

pub loop-left-preserved : goal.loop-left-preserved
loop-left-preserved c =
    let i : ℕ = c.loop-left.left-index in
    let ls : List Left = c.args.lefts.now in
    let l : Left = slice_index_or ls i nowhere in
    let s : Shown = c.in-Some.phrase.now in
    let out : List ℕ = string_bytes c.loop-left.out in
    let b : Bool = c.loop-left.behind_call in
    let front : drop i ls ≡ l ∷ drop (i + 1) ls = drop_more ls i nowhere c.loop-left-test.true in
    let first : c.loop-left.rest.now ≡ s ∷ c.in-Some.more.now = c.in-Some.ensures.cases.0 in
    let d = c.args.depths.now in
    let rest : Bool → List ℕ = λ x. lines d x (drop (i + 1) ls) c.in-Some.more.now in
    ap (λ t. t ++ rest c.is_call-behind_call.result) c.in_ok-push_line.ensures.text
    ∙ ap (λ (n : ℕ). (out ++ line n b l s) ++ rest c.is_call-behind_call.result) c.at_place-depth.ensures.value
    ∙ ap (λ x. (out ++ line (at_place d l.place.offset) b l s) ++ rest x) c.is_call-behind_call.ensures.value
    ∙ lines_step d b (drop i ls) (drop (i + 1) ls) c.loop-left.rest.now c.in-Some.more.now l s out front first
    ∙ c.loop-left.invariant

-- If no statement remains, then the text is complete.
pub returns : goal.returns
returns c = record {
  text =
      sym (ap (λ t. string_bytes c.loop-left.out ++ t)
      (lines_done c.args.depths.now c.loop-left.behind_call c.loop-left.left-index c.args.lefts.now c.loop-left.rest.now c.loop-left-test.false)
      ∙ append-nil (string_bytes c.loop-left.out))
      ∙ c.loop-left.invariant;
}
