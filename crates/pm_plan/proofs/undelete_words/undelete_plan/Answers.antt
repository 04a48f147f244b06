use Rattle.std.proofs.Common.{◌≡◌, Some, rules, subst}
use Rattle.std.specs.Prelude.{codes}
use Rattle.clap.specs.Words.{subcommand_rows_of}
use Rattle.pm_plan.specs.Asked.{words_of}
use Rattle.pm_plan.proofs.Found.{found_below}
use Rattle.pm_plan.proofs.undelete_words.undelete_plan.Goals as goal

pub returns-clause-asked : goal.returns-clause-asked
returns-clause-asked c =
    let named : subcommand_rows_of c.args.matches.now ≡ Some (c.in-Some.verb.now, words_of c.in-Some.words.now) =
    found_below c.args.matches.now _ _ (search rules) (search rules) in
    let same : c.in-Some.verb.now ≡ codes "undelete" = search rules in (
      words_of c.in-Some.words.now,
      subst (λ verb. subcommand_rows_of c.args.matches.now ≡ Some (verb, words_of c.in-Some.words.now)) same named,
      rw (c.in_ok-before.ensures.value, c.in_ok-behind.ensures.value) c.in_ok-path.ensures.path,
      c.in_ok-blocks.ensures.value,
      c.in_ok-output.ensures.value,
    )
