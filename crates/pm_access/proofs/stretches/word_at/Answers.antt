use Rattle.std.proofs.Common.{◌≡◌, ◌∙◌, ◌-◌, ◌/◌, ◌%◌, ap, arith, rules}
use Rattle.std.specs.Prelude.{slice_index}
use Rattle.pm_words.specs.Words.{word_at}
use Rattle.pm_access.proofs.stretches.word_at.Goals as goal

pub returns : goal.returns
unfolding word_at
returns c =
    let half : (c.args.address - c.args.address % 2) / 2 ≡ c.args.address / 2 = omega arith in
    let read : c.unwrap_or.result ≡ word_at c.args.memory.now.words (c.args.address - c.args.address % 2) = search rules in
    record { word = read ∙ ap (slice_index c.args.memory.now.words) half }
