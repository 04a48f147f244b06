use Rattle.std.proofs.Common.{rules}
use Rattle.pm_opcode.specs.Table.{groups, form_of, last_of, mnemonic_of, shape_of}
use Rattle.pm_opcode.proofs.Rows.{form_in, last_in, mnemonic_in, shape_in}
use Rattle.pm_opcode.proofs.table.whole_row.Goals as goal

pub returns-clause-mnemonic : goal.returns-clause-mnemonic
unfolding groups mnemonic_of
returns-clause-mnemonic c = search (rules, mnemonic_in)

pub returns-clause-form : goal.returns-clause-form
unfolding groups form_of
returns-clause-form c = search (rules, form_in)

pub returns-clause-last : goal.returns-clause-last
unfolding groups last_of
returns-clause-last c = search (rules, last_in)

pub returns-clause-shape : goal.returns-clause-shape
unfolding groups shape_of
returns-clause-shape c = search (rules, shape_in)
