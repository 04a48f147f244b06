use Rattle.std.proofs.Common.{◌∙◌, ◌/◌, ◌%◌, ◌<◌, [], ◌∷◌, ap, sym, length, arith, rules}
use Rattle.std.proofs.lemmas.Slice.{overwrites}
use Rattle.pm_words.specs.Words.{words_of}
use Rattle.pm_words.proofs.Laws.{IsMemory-words_of, length-overwritten, with_bytes-word}
use Rattle.pm_words.proofs.Pairs.{with_bytes-memory}
use Rattle.pm_words.proofs.memory.Memory.put_even_word.Goals as goal

pub returns-clause-written : goal.returns-clause-written
returns-clause-written c =
    let place : c.args.address / 2 < length (words_of c.self.inside.bytes) = omega (arith, (IsMemory-words_of _ c.self.invariant.bytes).size) in
    let size = length-overwritten c.self.inside.bytes (c.args.word % 256 ∷ c.args.word / 256 ∷ []) c.args.address
    (omega (arith, c.self.invariant.bytes.size)) in
    rw (← c.self.view_is) (ap words_of (search (rules, overwrites)) ∙ (sym (with_bytes-memory _ _ _ c.self.invariant.bytes)
    ∙ with_bytes-word _ c.args.address c.args.word c.requires.even place))
