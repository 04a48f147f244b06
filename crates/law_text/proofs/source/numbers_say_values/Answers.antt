use Rattle.law_text.proofs.source.numbers_say_values.Goals as goal
use Rattle.law_text.proofs.OneOperand.{base_says_nothing, number_without_zero, numbers_say_values}

pub returns : goal.returns
returns c = record { zeros = number_without_zero; base = base_says_nothing; law = numbers_say_values }
