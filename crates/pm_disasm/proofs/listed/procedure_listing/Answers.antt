use Rattle.pm_disasm.proofs.Tabled.{table_lies}
use Rattle.pm_disasm.proofs.listed.procedure_listing.Goals as goal

pub list_table-requires-clause-table : goal.list_table-requires-clause-table
list_table-requires-clause-table c = table_lies c.args.segment.now c.requires.of_segment.0 c.args.attributes.now c.requires.of_segment.1
