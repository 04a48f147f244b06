use Rattle.std.proofs.Common.{◌≡◌, ◌%◌, arith, rules}
use Rattle.pm_words.proofs.Laws.{word_at-bytes}
use Rattle.pm_access.specs.Reached.{loaded_memory}
use Rattle.pm_access.proofs.loaded.Loaded.load.Goals as goal

pub returns : goal.returns
returns c =
    let even : c.args.address % 2 ≡ 0 = omega arith in
    let word = word_at-bytes (loaded_memory c.args.self) c.args.address even in
    search (rules, word, even)
