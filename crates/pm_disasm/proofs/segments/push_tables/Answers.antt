use Rattle.std.proofs.Common.{◌<◌, ◌+◌, ◌∙◌, sym, ap, arith, string_bytes}
use Rattle.pm_codefile.specs.Segments.{procedures_in}
use Rattle.pm_disasm.specs.Shown.{missing_line, table_lines, table_lines_or}
use Rattle.pm_disasm.proofs.Tabled.{next_table, table_lies}
use Rattle.pm_disasm.proofs.segments.push_tables.Goals as goal
use Rattle.pm_disasm.proofs.segments.push_tables.Goals.{in-Some+in_ok-push_table_once-in-Some, in-None+in_ok-writeln-in-None}

pub push_table_once-requires-clause-table : goal.push_table_once-requires-clause-table
push_table_once-requires-clause-table c = table_lies c.args.segment.now (c.loop-done.done + 1) c.in-Some.a (sym c.attributes.ensures.value ∙ c.in-Some.is)

pub loop-done-preserved : goal.loop-done-preserved
loop-done-preserved c =
    let segment = c.args.segment.now in
    let done = c.loop-done.done in
    let more : done < procedures_in segment = omega (arith, c.loop-done-test.true, c.procedures-done-end.ensures.count) in
    elim c.match-attributes.branch [
      | in-Some+in_ok-push_table_once-in-Some w ↦ (let found = sym c.attributes.ensures.value ∙ w.in-Some.is in
          record {
            text = next_table segment done (procedures_in segment) _ (string_bytes c.loop-done.text) _ (table_lines segment w.in-Some.a) more
                (ap (table_lines_or segment (done + 1)) found) (ap string_bytes w.text-is ∙ w.in_ok-push_table_once-in-Some.ensures.text)
                c.loop-done.invariant.text;
            kept = rw w.shown-is w.in_ok-push_table_once-in-Some.ensures.shown;
          })
      | in-None+in_ok-writeln-in-None w ↦ (let none = sym c.attributes.ensures.value ∙ w.in-None.is in
          record {
            text = next_table segment done (procedures_in segment) _ (string_bytes c.loop-done.text) _ (missing_line (done + 1)) more
                (ap (table_lines_or segment (done + 1)) none) (ap string_bytes w.text-is ∙ w.in_ok-writeln-in-None.ensures.bytes)
                c.loop-done.invariant.text;
            kept = rw w.shown-is c.loop-done.invariant.kept;
          })
    ]
