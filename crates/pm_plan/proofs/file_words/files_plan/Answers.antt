use Rattle.std.proofs.Common.{◌≡◌, Some, refl, rules, subst}
use Rattle.clap.specs.Words.{subcommand_rows_of}
use Rattle.pm_plan.specs.Asked.{words_of}
use Rattle.pm_plan.specs.Needed.{AreGoodBefore}
use Rattle.pm_plan.proofs.Found.{behind_optional, found_below}
use Rattle.pm_plan.proofs.file_words.files_plan.Goals as goal

pub returns-clause-asked : goal.returns-clause-asked
returns-clause-asked c = (
  c.in-Some.verb.now,
  words_of c.in-Some.words.now,
  found_below c.args.matches.now _ _ (search rules) (search rules),
  rw (c.in_ok-before.ensures.value, c.in_ok-behind.ensures.value) c.in_ok-path.ensures.path,
  c.in_ok-verb.ensures.asked,
  c.in_ok-output.ensures.value,
  c.in_ok-ends.ensures.value,
  search rules,
)

pub returns-clause-good : goal.returns-clause-good
returns-clause-good c =
    let named : subcommand_rows_of c.args.matches.now ≡ Some (c.in-Some.verb.now, words_of c.in-Some.words.now) =
    found_below c.args.matches.now _ _ (search rules) (search rules) in
    λ ok. rw named (search rules, c.in_ok-output.ensures.good refl, search rules, c.in_ok-verb.ensures.good refl)

pub returns-in_err-behind-clause-taken : goal.returns-in_err-behind-clause-taken
returns-in_err-behind-clause-taken c =
    let named : subcommand_rows_of c.args.matches.now ≡ Some (c.in-Some.verb.now, words_of c.in-Some.words.now) =
    found_below c.args.matches.now _ _ (search rules) (search rules) in
    λ good.
    let parts = subst (λ rows. AreGoodBefore (words_of c.args.matches.now) rows) named good in
    let optional = behind_optional _ _ parts.0 in search rules
