use Rattle.std.proofs.Common.{◌<◌, ◌+◌, ◌∙◌, sym, ap, arith, string_bytes}
use Rattle.pm_codefile.specs.Segments.{procedures_in}
use Rattle.pm_code.specs.Shown.{joined}
use Rattle.pm_disasm.specs.Listing.{table_listing, table_listing_or}
use Rattle.pm_disasm.specs.Shown.{missing_line}
use Rattle.pm_disasm.proofs.Stores.{next_listed}
use Rattle.pm_disasm.proofs.Tabled.{table_lies}
use Rattle.pm_disasm.proofs.listed.list_tables.Goals as goal
use Rattle.pm_disasm.proofs.listed.list_tables.Goals.{in-Some+in_ok-list_table_once-in-Some, in-None+in_ok-writeln-in-None}

pub list_table_once-requires-clause-table : goal.list_table_once-requires-clause-table
list_table_once-requires-clause-table c = table_lies c.args.segment.now (c.loop-done.done + 1) c.in-Some.a (sym c.attributes.ensures.value ∙ c.in-Some.is)

pub loop-done-preserved : goal.loop-done-preserved
loop-done-preserved c =
    let segment = c.args.segment.now in
    let slot = c.args.slot in
    let done = c.loop-done.done in
    let more : done < procedures_in segment = omega (arith, c.loop-done-test.true, c.procedures-done-end.ensures.count) in
    elim c.match-attributes.branch [
      | in-Some+in_ok-list_table_once-in-Some w ↦ (let found = sym c.attributes.ensures.value ∙ w.in-Some.is in
          record {
            text = next_listed slot segment done (procedures_in segment) _ (string_bytes c.loop-done.text) _ (table_listing slot segment w.in-Some.a) more
                (ap (table_listing_or slot segment (done + 1)) found) (ap string_bytes w.text-is ∙ w.in_ok-list_table_once-in-Some.ensures.text)
                c.loop-done.invariant.text;
            kept = rw w.listed-is w.in_ok-list_table_once-in-Some.ensures.listed;
          })
      | in-None+in_ok-writeln-in-None w ↦ (let none = sym c.attributes.ensures.value ∙ w.in-None.is in
          record {
            text = next_listed slot segment done (procedures_in segment) _ (string_bytes c.loop-done.text) _ (joined (missing_line (done + 1))) more
                (ap (table_listing_or slot segment (done + 1)) none) (ap string_bytes w.text-is ∙ w.in_ok-writeln-in-None.ensures.bytes)
                c.loop-done.invariant.text;
            kept = rw w.listed-is c.loop-done.invariant.kept;
          })
    ]
