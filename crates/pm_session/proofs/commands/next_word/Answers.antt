use Rattle.std.proofs.Common.{rules, ◌∙◌, sym}
use Rattle.pm_session.proofs.WordLaws.{words_of_none}
use Rattle.pm_session.proofs.commands.next_word.Goals as goal

pub returns-then-is_empty-clause-none : goal.returns-then-is_empty-clause-none
returns-then-is_empty-clause-none c = sym c.without_spaces-line.ensures.words ∙ words_of_none _ (search rules)
