use Rattle.std.proofs.Common.{◌≡◌, ◌∙◌, ◌+◌, ◌*◌, ◌<◌, ◌≤◌, ◌%◌, ℕ, List, refl, sym, arith, rules}
use Rattle.pm_words.specs.Words.{IsMemory, with_word, word_at}
use Rattle.pm_words.proofs.WatchLaws.{WatchStays-refl, WatchStays-trans}
use Rattle.pm_calls.proofs.FrameLaws.{copied-ahead, copied-word, no_bytes_copied}
use Rattle.pm_calls.proofs.frame.put_words.Goals as goal

pub loop-i-init : goal.loop-i-init
loop-i-init c = record {
  written = sym (no_bytes_copied _ _ _ _ refl);
  watch = WatchStays-refl _;
}

pub loop-i-preserved : goal.loop-i-preserved
loop-i-preserved c =
    let m : List ℕ = c.args.memory.now.words in
    let i = c.loop-i.i in
    let memory : IsMemory m = c.bytes.ensures.memory in
    let next : i < c.args.count = c.loop-i-test.true in
    let from : c.args.from % 2 ≡ 0 = c.requires.even.0 in
    let to : c.args.to % 2 ≡ 0 = c.requires.even.1 in
    let source : c.args.from + 2 * i + 2 ≤ 65536 = omega (arith, next, c.requires.within.0) in
    let room : c.args.to + 2 * i + 2 ≤ 65536 = omega (arith, next, c.requires.within.1) in
    let ahead : word_at c.loop-i.memory.words (c.args.from + 2 * i) ≡ word_at m (c.args.from + 2 * i)
    = rw c.loop-i.invariant.written (copied-ahead m c.args.from c.args.to (2 * i) memory from (omega arith) c.requires.below source) in
    let word : c.unwrap_or-word.result ≡ word_at m (c.args.from + 2 * i) = search (rules, ahead) in
    let wrote : c.set_word.new.self.words ≡ with_word c.loop-i.memory.words (c.args.to + 2 * i) c.unwrap_or-word.result = search rules in
    let more : 2 * (i + 1) ≡ 2 * i + 2 = omega arith in
    record {
      written = wrote ∙ rw (c.loop-i.invariant.written, more)
          (copied-word m c.args.from c.args.to (2 * i) c.unwrap_or-word.result memory from to (omega arith) source room word (omega arith));
      watch = WatchStays-trans _ _ _ c.loop-i.invariant.watch c.set_word.ensures.watch;
    }
