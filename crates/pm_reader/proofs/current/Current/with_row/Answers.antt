use Rattle.std.proofs.Common.{◌∙◌, ap}
use Rattle.std.proofs.lemmas.Map.Text.{btree_map_updates_str}
use Rattle.pm_reader.specs.Named.{is_name}
use Rattle.pm_reader.proofs.Labelled.{with_label, without_label}
use Rattle.pm_reader.proofs.current.Current.with_row.Goals as goal
use Rattle.pm_reader.proofs.current.Current.with_row.Goals.{in-Some+in_ok-insert, in_default}

pub invariant_of-result : goal.invariant_of-result
invariant_of-result c = record {
  named = λ name.
      let rows = c.args.self.procedure.code.items in
      let more = c.in_ok-push.ensures.items in
      let labelled = c.label_of.ensures.label name in
      let was = c.args.self.named name in
      elim c.match-label_of.branch [
        | in-Some+in_ok-insert w ↦
            let said = btree_map_updates_str w.in-Some.label.now c.args.self.labels w.insert.new.self _ w.in_ok-insert.ensures.updates name in
            rw (w.labels-is) (with_label name w.in-Some.label.now rows c.push.new.self.items c.args.row _ _ _ more
            (labelled ∙ ap (is_name name) w.in-Some.is) was said)
        | in_default w ↦ rw (w.labels-is) (without_label name rows c.push.new.self.items c.args.row _ more (labelled ∙ ap (is_name name) w.in_default.is) was)
      ];
}
