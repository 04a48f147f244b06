use Rattle.std.proofs.Common.{rules, ◌≡◌, ◌≤◌, ◌-◌, ℕ, suc, take, if◌then◌else◌, OnOk, ap, ◌∙◌}
use Rattle.std.proofs.lemmas.Result.{on_ok_weaker}
use Rattle.std.proofs.lemmas.List.{length-drop}
use Rattle.pm_phrases.specs.declared.around.Around.{Around}
use Rattle.pm_phrases.specs.declared.around.Missing.{Missing}
use Rattle.pm_trees.specs.Parts.{Part}
use Rattle.pm_trees.specs.Piles.{Pile, last_of, leaves_left, rest_of, texts_in, upon}
use Rattle.pm_trees.specs.Trees.{Count, leaves_nothing, left_by, none_missing, takes_count}
use Rattle.pm_trees.proofs.Ends.{reverse_last}
use Rattle.pm_trees.proofs.Written.{added_in}
use Rattle.pm_trees.proofs.grow.add.Goals as goal

-- The clause `texts`. The operands of the added part are the last of the pending trees.
pub returns-clause-texts : goal.returns-clause-texts
returns-clause-texts c =
    let a : Around = c.args.around in
    let p : Part = c.args.part.now in
    let t : Pile = c.args.trees.now in
    let k : ℕ = c.args.pending.now in
    let n : ℕ = c.count_takes-count.result.trees in
    let m : Missing = c.count_takes-count.result.missing in
    let w : Count = takes_count p.takes (leaves_left (take k t.lefts)) in
    let left : c.left_by-left.result ≡ left_by p (take n t.lefts) = search (rules, reverse_last) in
    let trees : n ≡ w.trees = search (rules, reverse_last) in
    let missing : m ≡ w.missing = search (rules, reverse_last) in
    let few : n ≤ k = search (rules, length-drop) in
    let pending : c.pending_after.result ≡ (if leaves_nothing p.leaves then 0 else if none_missing m then suc (k - n) else 1) = search rules in
    let new : OnOk c.push.result (c.push.new.self ≡ upon a p m (last_of n t) (rest_of n t)) = search (rules, reverse_last) in
    on_ok_weaker c.push.result
    (λ is. ap (λ (u : Pile). texts_in u c.pending_after.result) is
    ∙ ap (λ (j : ℕ). texts_in (upon a p m (last_of n t) (rest_of n t)) j) pending
    ∙ added_in a p n m w k t trees missing few)
    new
