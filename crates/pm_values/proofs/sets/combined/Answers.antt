use Rattle.std.proofs.Common.{◌≡◌, ℕ, ◌^◌, ◌<◌, List, ◌∷◌, get_or, ap, rules}
use Rattle.pm_words.specs.Words.{words_at}
use Rattle.pm_values.specs.Combinations.{test_of}
use Rattle.pm_values.specs.Sets.{is_member}
use Rattle.pm_values.proofs.SetLaws.{combined-word, set_of-more, set_of-none}
use Rattle.pm_values.proofs.sets.combined.Goals as goal

pub loop-i-init : goal.loop-i-init
loop-i-init c = record { length = search rules; set = search (rules, set_of-none) }

pub loop-i-preserved : goal.loop-i-preserved
loop-i-preserved c =
    let lower : List ℕ = words_at c.args.memory.now.words c.args.lower.address c.args.lower.count in
    let upper : List ℕ = words_at c.args.memory.now.words c.args.upper.address c.args.upper.count in
    let below : c.set_word-lower.result ≡ get_or lower c.loop-i.i 0 = c.set_word-lower.ensures.word in
    let above : c.set_word-upper.result ≡ get_or upper c.loop-i.i 0 = c.set_word-upper.ensures.word in
    let below_fits : get_or lower c.loop-i.i 0 < 2 ^ 16 = search rules in
    let above_fits : get_or upper c.loop-i.i 0 < 2 ^ 16 = search rules in
    record {
      length = search rules;
      set = rw (c.push-in-loop-i.ensures.items, c.combined_word.ensures.word, below, above, c.loop-i.invariant.set)
          (ap (λ s. c.combined_count-count.result ∷ s)
          (set_of-more c.loop-i.i _ (λ e. test_of c.args.combination (is_member lower e) (is_member upper e))
          (combined-word c.args.combination lower upper c.loop-i.i below_fits above_fits)));
    }
