use Rattle.law_text.proofs.SymbolsDefined.{symbols_are_defined, symbols_are_of_the_program}
use Rattle.law_text.proofs.asm.symbols_are_defined.Goals as goal

pub returns-clause-law : goal.returns-clause-law
returns-clause-law c = symbols_are_defined

pub returns-clause-program : goal.returns-clause-program
returns-clause-program c = symbols_are_of_the_program
