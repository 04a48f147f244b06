use Rattle.std.proofs.Common.{rules, arith, ◌∙◌, sym, ap, ◌≡◌, ◌∷◌, length, suc}
use Rattle.pm_session.specs.Words.{words_of_line}
use Rattle.pm_session.proofs.WordLaws.{words_space}
use Rattle.pm_session.proofs.commands.without_spaces.Goals as goal

pub spaces-preserved : goal.spaces-preserved
spaces-preserved c =
    let first : c.spaces.rest.now ≡ c.in-Some.field-0-0.now ∷ c.in-Some.tail.now = search rules in
    let size : length c.spaces.rest.now ≡ suc (length c.in-Some.tail.now) = ap length first in
    record {
      words = sym (words_space c.in-Some.field-0-0.now c.in-Some.tail.now (search rules)) ∙ sym (ap words_of_line first) ∙ c.spaces.invariant.words;
      shorter = omega (arith, size, c.spaces.invariant.shorter);
    }
