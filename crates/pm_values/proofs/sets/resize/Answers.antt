use Rattle.std.proofs.Common.{◌≡◌, ◌+◌, ◌-◌, ◌*◌, arith, rules}
use Rattle.pm_words.specs.Words.{copied, filled}
use Rattle.pm_values.proofs.StackSets.{moved-set}
use Rattle.pm_values.proofs.sets.resize.Goals as goal

pub returns-clause-words : goal.returns-clause-words
returns-clause-words c =
    let m = c.args.memory.now.words in
    let a = c.args.set.address in
    let t = c.args.to in
    let k = c.min-kept.result in
    let rest = 2 * (c.args.count - k) in
    let moved : c.copy.new.self.words ≡ copied m a t (2 * k) = search rules in
    let filled : c.fill.new.self.words ≡ filled c.copy.new.self.words (t + 2 * k) rest 0 = search rules in
    rw (filled, moved) (moved-set m a t c.args.set.count c.args.count k c.copy.ensures.memory (omega arith) (omega arith) (omega arith)
    c.requires.even c.requires.even_to)
