use Rattle.std.proofs.Common.{◌≡◌, ◌+◌, ◌++◌, ◌∷◌, ◌∙◌, [], ℕ, List, ap, drop, false, slice_index_or, sym}
use Rattle.std.proofs.lemmas.List.{append-nil, drop_all, drop_more, nil_from_length}
use Rattle.pm_phrases.specs.Shown.{Shown}
use Rattle.pm_trees.specs.declared.left.Left.{Left}
use Rattle.pm_trees.specs.declared.left.Role.TheVariants as role
use Rattle.pm_trees.specs.declared.part.Leaves.TheVariants as leaves
use Rattle.pm_statements.specs.Leading.{next_place, stretches}
use Rattle.pm_statements.proofs.Blocked.{stretches_done, stretches_none, stretches_step}
use Rattle.pm_statements.proofs.leading.stretches.Goals as goal

-- An arbitrary value, used for the element at an index after the end of a list.
abbrev nowhere : Left
nowhere = record {
  leaves = leaves.Words 0;
  place = record { offset = 0; has_label = false; is_exit = false };
  parts = 0;
  role = role.Call;
}

pub returns-in_default : goal.returns-in_default
returns-in_default c = record {
  stretches =
      let rest : List Shown = c.loop-left.rest.now in
      let none : rest ≡ [] = nil_from_length rest c.in_default.ensures.cases in
      let ls : List Left = drop c.loop-left.left-index c.args.lefts.now in
      let es = c.args.entries.now in
      sym (ap (λ t. c.loop-left.list.items ++ t)
      (ap (λ r. stretches c.args.start es c.args.end ls r) none ∙ stretches_none c.args.start es c.args.end ls)
      ∙ append-nil c.loop-left.list.items)
      ∙ c.loop-left.invariant.stretches;
}

pub loop-left-preserved : goal.loop-left-preserved
loop-left-preserved c =
    let i : ℕ = c.loop-left.left-index in
    let ls : List Left = c.args.lefts.now in
    let l : Left = slice_index_or ls i nowhere in
    let s : Shown = c.in-Some.phrase.now in
    let front : drop i ls ≡ l ∷ drop (i + 1) ls = drop_more ls i nowhere c.loop-left-test.true in
    let first : c.loop-left.rest.now ≡ s ∷ c.in-Some.others.now = c.in-Some.ensures.cases.0 in
    let more : c.behind_first-more.result.now ≡ drop (i + 1) ls =
    c.behind_first-more.ensures.rest ∙ ap (drop 1) (c.loop-left.invariant.more ∙ front) in
    record {
      stretches =
          stretches_step c.args.start c.args.entries.now c.args.end c.next_place.result c.leads_by.result l s (drop (i + 1) ls) (drop i ls)
          c.in-Some.others.now c.loop-left.rest.now c.loop-left.list.items c.push.new.self.items front first
          (c.next_place.ensures.place ∙ ap (next_place c.args.end) more) c.leads_by.ensures.leads
          (rw (c.saturating_sub.ensures, c.saturating_sub-in-loop-left.ensures) at c.in_ok-push.ensures.items)
          ∙ c.loop-left.invariant.stretches;
      more = more;
    }

pub returns : goal.returns
returns c = record {
  stretches =
      let i : ℕ = c.loop-left.left-index in
      sym (ap (λ t. c.loop-left.list.items ++ t)
      (stretches_done c.args.start c.args.entries.now c.args.end (drop i c.args.lefts.now) c.loop-left.rest.now
      (drop_all i c.args.lefts.now c.loop-left-test.false))
      ∙ append-nil c.loop-left.list.items)
      ∙ c.loop-left.invariant.stretches;
}
