use Rattle.std.proofs.Common.{◌≡◌, ◌↔◌, ◌⊎◌, ◌∙◌, IsTrue, length, ap, sym, arith, rules}
use Rattle.pm_words.specs.Watch.{IsSomeWatched}
use Rattle.pm_words.specs.Words.{with_words, words_of}
use Rattle.pm_words.proofs.Laws.{IsMemory-words_of, items-six, with_words-six}
use Rattle.pm_words.proofs.RangeLaws.{WatchStays-with_words}
use Rattle.pm_words.proofs.memory.Memory.set_six_words.Goals as goal

pub returns-clause-memory : goal.returns-clause-memory
returns-clause-memory c = rw (← c.self.view_is) (IsMemory-words_of _ c.self.invariant.bytes)

pub returns-clause-written : goal.returns-clause-written
returns-clause-written c =
    let six : length c.args.words ≡ 6 = search rules in
    let size = (IsMemory-words_of _ c.self.invariant.bytes).size in
    rw (← c.self.view_is, c.put_even_word-6.ensures.written, c.put_even_word-5.ensures.written, c.put_even_word-4.ensures.written)
    (rw (c.put_even_word-3.ensures.written, c.put_even_word-2.ensures.written, c.put_even_word.ensures.written)
    (with_words-six _ c.args.address _ _ _ _ _ _ c.requires.even c.requires.inside size
    ∙ ap (λ vs. with_words (words_of c.self.inside.bytes) c.args.address vs) (sym (items-six c.args.words six))))

pub returns-clause-watch : goal.returns-clause-watch
returns-clause-watch c =
    let six : length c.args.words ≡ 6 = search rules in
    let watched : c.put_even_word-6.new.self.watched ≡ c.args.self.now.watched = search rules in
    let touched : IsTrue c.put_even_word-6.new.self.touched ↔ (IsTrue c.args.self.now.touched
    ⊎ IsSomeWatched c.args.self.now.watched c.args.address 12) = search rules in
    WatchStays-with_words c.args.self.now _ c.args.address c.args.words (returns-clause-memory c) c.requires.even (omega (arith, six, c.requires.inside))
    (returns-clause-written c) watched (rw six touched)
