use Rattle.std.proofs.Common.{◌≡◌, ◌∙◌, None, ap, sym, arith, rules, true, false}
use Rattle.std.specs.BTreeMap.{get_by}
use Rattle.std.specs.Cmp.Lexicographic.{slice_cmp}
use Rattle.std.specs.Ordering.{nat_cmp}
use Rattle.std.specs.Str.{bytes_eq}
use Rattle.std.specs.Option.{is_some}
use Rattle.std.proofs.lemmas.Slice.Eq.{bytes_eq-Decides}
use Rattle.std.proofs.lemmas.Grind.{common_steps}
use Rattle.std.proofs.lemmas.Map.Text.{btree_map_updates_str}
use Rattle.pm_code.specs.Program.{end_of}
use Rattle.pm_line.specs.Views.{row_seen}
use Rattle.pm_source.specs.Source.{row_items}
use Rattle.pm_reader.specs.Named.{is_name}
use Rattle.pm_code.proofs.Lists.{there}
use Rattle.pm_asm.proofs.Tables.{put_row, stay_row}
use Rattle.pm_asm.proofs.table.table_of.Goals as goal
use Rattle.pm_asm.proofs.table.table_of.Goals.{in-Some+then-not-contains_key+in_ok-insert, in-Some+else-not-contains_key, in_default}

pub loop-row-preserved : goal.loop-row-preserved
loop-row-preserved c = λ name.
    let rows = c.args.rows.now in
    let k = c.loop-row.row-index in
    let at = c.loop-row.at in
    let row = c.row-item.result in
    let next = there rows k row c.loop-row-test.true c.row-item.is in
    let ends : c.in_ok-at.at ≡ end_of at (row_items (row_seen row)) = search rules in
    let had = get_by (λ key. slice_cmp nat_cmp name key.now) c.loop-row.table in
    let labelled = c.label_of.ensures.label name in
    let all = c.loop-row.invariant name in
    elim c.match-label_of.branch [
      | in-Some+then-not-contains_key+in_ok-insert w ↦
          let label = w.in-Some.label.now in
          let absent : get_by (λ key. slice_cmp nat_cmp label key.now) c.loop-row.table ≡ None = grind (arith, common_steps) in
          let said = btree_map_updates_str label c.loop-row.table w.insert.new.self _ w.in_ok-insert.ensures.updates name in
          rw (w.table-is) (put_row rows k at _ row name (bytes_eq label name) had _ _ next ends (labelled ∙ ap (is_name name) w.in-Some.is)
          (λ h. let same : label ≡ name = (bytes_eq-Decides label name).0 h in ap (λ t. get_by (λ key. slice_cmp nat_cmp t key.now) c.loop-row.table)
          (sym same) ∙ absent) said all)
      | in-Some+else-not-contains_key w ↦
          let label = w.in-Some.label.now in
          let found : is_some (get_by (λ key. slice_cmp nat_cmp label key.now) c.loop-row.table) ≡ true = grind (arith, common_steps) in
          rw (w.table-is) (stay_row rows k at _ row name (bytes_eq label name) had _ next ends (labelled ∙ ap (is_name name) w.in-Some.is)
          (λ h. let same : label ≡ name = (bytes_eq-Decides label name).0 h in ap (λ t. is_some (get_by (λ key. slice_cmp nat_cmp t key.now) c.loop-row.table))
          (sym same) ∙ found) all)
      | in_default w ↦ rw (w.table-is) (stay_row rows k at _ row name false had _ next ends (labelled ∙ ap (is_name name) w.in_default.is)
          (λ h. absurd (cc h)) all)
    ]
