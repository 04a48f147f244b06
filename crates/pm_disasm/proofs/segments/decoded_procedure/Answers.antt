use Rattle.pm_disasm.proofs.Tabled.{table_lies}
use Rattle.pm_disasm.proofs.segments.decoded_procedure.Goals as goal

pub push_table-requires-clause-table : goal.push_table-requires-clause-table
push_table-requires-clause-table c = table_lies c.args.segment.now c.requires.of_segment.0 c.args.attributes.now c.requires.of_segment.1
