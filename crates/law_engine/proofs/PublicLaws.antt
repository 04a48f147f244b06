-- The public laws of the memory.
use Rattle.std.proofs.Common.{◌≡◌, ◌+◌, ◌-◌, ◌%◌, ◌/◌, refl, ap, ◌∙◌, arith}
use Rattle.pm_words.specs.Words.{word_at}
use Rattle.law_engine.specs.WordsLaws.{BytesAreCopied, BytesAreWritten, MovesAreCopies, WordIsWritten, WordsAreTheirBytes}
use Rattle.pm_words.proofs.Laws.{IsMemory-with_bytes, IsMemory-with_word, byte_at-even, byte_at-odd, byte_at-with_bytes}
use Rattle.pm_words.proofs.Laws.{byte_at-with_bytes_other, word_at-bytes, word_at-with_word_other, word_at-written}
use Rattle.pm_words.proofs.RangeLaws.{IsMemory-copied, byte_at-copied, byte_at-copied_other, moved_down-copied, moved_up-copied}

pub words_are_their_bytes : WordsAreTheirBytes
words_are_their_bytes ws a even =
    let odd : (a + 1) % 2 ≡ 1 = omega (arith, even) in
    let back : a + 1 - 1 ≡ a = omega arith in
    record {
      low = byte_at-even ws a even;
      high = byte_at-odd ws (a + 1) odd ∙ ap (λ k. word_at ws k / 256) back;
      whole = word_at-bytes ws a even;
    }

pub word_is_written : WordIsWritten
word_is_written ws a w memory even inside fits = record {
  there = word_at-written ws a a w memory inside refl;
  others = λ x e other. word_at-with_word_other ws a x w even e other;
  memory = IsMemory-with_word ws a w memory fits;
}

pub bytes_are_written : BytesAreWritten
bytes_are_written ws bs a memory inside fit = record {
  there = λ x low high. byte_at-with_bytes ws bs a x memory inside fit low high;
  others = λ x out. byte_at-with_bytes_other ws bs a x memory inside fit out;
  memory = IsMemory-with_bytes ws bs a memory inside fit;
}

pub bytes_are_copied : BytesAreCopied
bytes_are_copied ws from to n memory source target = record {
  there = λ x low high. byte_at-copied ws from to n x memory source target low high;
  others = λ x out. byte_at-copied_other ws from to n x memory source target out;
  memory = IsMemory-copied ws from to n memory source target;
}

pub moves_are_copies : MovesAreCopies
moves_are_copies ws from to n memory source target = record {
  up = λ apart. moved_up-copied n ws from to memory source target apart;
  down = λ apart. moved_down-copied n ws from to memory source target apart;
}
