use Rattle.std.proofs.Common.{◌+◌, ◌/◌, ◌∷◌, ap, refl, rules}
use Rattle.std.specs.Prelude.{◌&&◌, nat_le}
use Rattle.pm_values.proofs.SetLaws.{set_of-more, set_of-none}
use Rattle.pm_values.proofs.sets.interval.Goals as goal

pub loop-i-init : goal.loop-i-init
loop-i-init c = record { length = search rules; set = search (rules, set_of-none) }

pub loop-i-preserved : goal.loop-i-preserved
loop-i-preserved c = record {
  length = search rules;
  set = rw (c.push-in-loop-i.ensures.items, c.interval_word.ensures.word, c.loop-i.invariant.set)
      (ap (λ s. (c.args.high / 16 + 1) ∷ s) (set_of-more c.loop-i.i _ (λ e. nat_le c.args.low e && nat_le e c.args.high) refl));
}
