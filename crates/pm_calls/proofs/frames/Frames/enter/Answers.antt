use Rattle.std.proofs.Common.{rules, inr, w8, to_z, of_z, ◌≡◌, ◌∙◌, sym}
use Rattle.std.proofs.lemmas.Result.{err_from_is_err_and}
use Rattle.pm_calls.proofs.CallLaws.{entered-framed, entered-no_link, entered-no_table}
use Rattle.pm_calls.proofs.LinkLaws.{AreLinks-none, BeginsWithTwo-down}
use Rattle.pm_calls.proofs.TableLaws.{Agrees-keeps, inside-kept}
use Rattle.pm_calls.proofs.WatchedLaws.{base_reads-none}
use Rattle.pm_calls.proofs.frames.Frames.enter.Goals as goal
use Rattle.pm_calls.proofs.frames.Frames.enter.Goals.{in-Clp, in_default}

pub returns-in_err-table-clause-entered : goal.returns-in_err-table-clause-entered
returns-in_err-table-clause-entered c = λ h.
    let p = err_from_is_err_and c.from_residual.result c.from_residual.ensures.1 in
    rw (p.1, p.2) (entered-no_table _ _ _ _ c.args.registers.now _ _ c.procedure_called.ensures.procedure (c.in_err-table.ensures.value _ h))

pub returns-in_err-link-clause-entered : goal.returns-in_err-link-clause-entered
returns-in_err-link-clause-entered c = λ h.
    let p = err_from_is_err_and c.from_residual-in_err-link.result c.from_residual-in_err-link.ensures.1 in
    let level : to_z w8 (of_z w8 c.in_ok-table.table.level) ≡ c.in_ok-table.table.level = search rules in
    let link = rw (c.attributes.ensures.words, level)
    at (c.in_err-link.ensures.value (c.attributes.ensures.agrees _ h)) in
    rw (p.1, p.2) (entered-no_link _ _ _ _ c.args.registers.now _ _ _ c.procedure_called.ensures.procedure (c.in_ok-table.ensures.value _ h) link)

pub returns-in_err-enter-clause-entered : goal.returns-in_err-enter-clause-entered
returns-in_err-enter-clause-entered c = λ h.
    let p = err_from_is_err_and c.from_residual-in_err-enter.result c.from_residual-in_err-enter.ensures.1 in
    let level : to_z w8 (of_z w8 c.in_ok-table.table.level) ≡ c.in_ok-table.table.level = search rules in
    let link = rw (c.attributes.ensures.words, level)
    at (c.in_ok-link.ensures.value (c.attributes.ensures.agrees _ h)) in
    let words = c.static_link.ensures.words ∙ c.attributes.ensures.words in
    let framed = rw (words, c.is_base-base.ensures.base, level) at c.in_err-enter.ensures.framed in
    rw (p.1, p.2) (entered-framed _ _ _ _ c.args.registers.now _ _ _ c.procedure_called.ensures.procedure (c.in_ok-table.ensures.value _ h) link ∙ framed)

pub returns-then-matches-clause-entered : goal.returns-then-matches-clause-entered
returns-then-matches-clause-entered c = λ h.
    let level : to_z w8 (of_z w8 c.in_ok-table.table.level) ≡ c.in_ok-table.table.level = search rules in
    let link = rw (c.attributes.ensures.words, level)
    at (c.in_ok-link.ensures.value (c.attributes.ensures.agrees _ h)) in
    let words = c.static_link.ensures.words ∙ c.attributes.ensures.words in
    let framed = rw (words, c.is_base-base.ensures.base, level) at c.in_ok-enter.ensures.framed in
    rw c.descend.ensures.words
    (entered-framed _ _ _ _ c.args.registers.now _ _ _ c.procedure_called.ensures.procedure (c.in_ok-table.ensures.value _ h) link ∙ framed)

pub returns-then-link-caller-clause-entered : goal.returns-then-link-caller-clause-entered
returns-then-link-caller-clause-entered c = λ h.
    let level : to_z w8 (of_z w8 c.in_ok-table.table.level) ≡ c.in_ok-table.table.level = search rules in
    let link = rw (c.attributes.ensures.words, level)
    at (c.in_ok-link.ensures.value (c.attributes.ensures.agrees _ h)) in
    let words = c.static_link.ensures.words ∙ c.attributes.ensures.words in
    let framed = rw (words, c.is_base-base.ensures.base, level) at c.in_ok-enter.ensures.framed in
    rw (c.descend-then-link-caller.ensures.words, c.start.ensures.words)
    (entered-framed _ _ _ _ c.args.registers.now _ _ _ c.procedure_called.ensures.procedure (c.in_ok-table.ensures.value _ h) link ∙ framed)

pub returns-else-link-caller-clause-entered : goal.returns-else-link-caller-clause-entered
returns-else-link-caller-clause-entered c = λ h.
    let level : to_z w8 (of_z w8 c.in_ok-table.table.level) ≡ c.in_ok-table.table.level = search rules in
    let link = rw (c.attributes.ensures.words, level)
    at (c.in_ok-link.ensures.value (c.attributes.ensures.agrees _ h)) in
    let words = c.static_link.ensures.words ∙ c.attributes.ensures.words in
    let framed = rw (words, c.is_base-base.ensures.base, level) at c.in_ok-enter.ensures.framed in
    rw c.forget.ensures.words
    (entered-framed _ _ _ _ c.args.registers.now _ _ _ c.procedure_called.ensures.procedure (c.in_ok-table.ensures.value _ h) link ∙ framed)

pub returns-then-matches-clause-agrees : goal.returns-then-matches-clause-agrees
returns-then-matches-clause-agrees c = λ h.
    let before = Agrees-keeps _ _ _ _ c.enter.ensures.watch
    (c.static_link.ensures.agrees (c.attributes.ensures.agrees _ h)) in
    record {
      matches = λ quiet.
          let m = rw (← c.self.view_is) at (before.matches (sym c.descend.ensures.touched ∙ quiet)) in
          record {
            bases = rw (← c.mp-mp.ensures.mp) (c.descend.ensures.links (rw c.mp-caller.ensures.mp m.bases));
            kept = rw c.descend.ensures.words m.kept;
            watched = c.descend.ensures.watched _ m.watched;
          };
    }

pub returns-then-link-caller-clause-agrees : goal.returns-then-link-caller-clause-agrees
returns-then-link-caller-clause-agrees c = λ h.
    let before = Agrees-keeps _ _ _ _ c.enter.ensures.watch
    (c.static_link.ensures.agrees (c.attributes.ensures.agrees _ h)) in
    record {
      matches = λ quiet.
          let m = rw (← c.self.view_is) at (before.matches (sym (c.descend-then-link-caller.ensures.touched ∙ c.start.ensures.touched) ∙ quiet)) in
          record {
            bases = rw (← c.mp-mp.ensures.mp)
                (c.descend-then-link-caller.ensures.links (c.start.ensures.links _ m.bases));
            kept = rw (c.descend-then-link-caller.ensures.words, c.start.ensures.words) m.kept;
            watched = c.descend-then-link-caller.ensures.watched _ (c.start.ensures.watched _ m.watched);
          };
    }

pub returns-else-link-caller-clause-agrees : goal.returns-else-link-caller-clause-agrees
returns-else-link-caller-clause-agrees c = λ h.
    let before = Agrees-keeps _ _ _ _ c.enter.ensures.watch
    (c.static_link.ensures.agrees (c.attributes.ensures.agrees _ h)) in
    record {
      matches = λ quiet.
          let m = rw (← c.self.view_is) at (before.matches (sym c.forget.ensures.touched ∙ quiet)) in
          record {
            bases = rw c.forget.ensures.none (AreLinks-none _ _);
            kept = rw c.forget.ensures.words m.kept;
            watched = rw (c.forget.ensures.none, base_reads-none) (c.forget.ensures.watched _ m.watched);
          };
    }

pub returns-then-matches-clause-near : goal.returns-then-matches-clause-near
returns-then-matches-clause-near c = elim c.match-matches.branch [
  | in-Clp w ↦ search rules
  | in_default w ↦ search rules
]

pub returns-then-link-caller-clause-near : goal.returns-then-link-caller-clause-near
returns-then-link-caller-clause-near c = λ other linked.
    let down = c.descend-then-link-caller.ensures.bases (inr c.start.ensures.begins) in
    rw (down, ← c.mp-mp.ensures.mp, ← c.mp-caller.ensures.mp)
    (BeginsWithTwo-down _ _ _ c.start.ensures.begins)

pub returns-then-link-caller-clause-entry : goal.returns-then-link-caller-clause-entry
returns-then-link-caller-clause-entry c = λ quiet.
    let known = rw c.procedure_called.ensures.procedure at (c.in_ok-table.ensures.entry quiet) in
    inside-kept _ _ _ _ known c.in_ok-enter.ensures.table

pub returns-else-link-caller-clause-entry : goal.returns-else-link-caller-clause-entry
returns-else-link-caller-clause-entry c = λ quiet.
    let known = rw c.procedure_called.ensures.procedure at (c.in_ok-table.ensures.entry quiet) in
    inside-kept _ _ _ _ known c.in_ok-enter.ensures.table
