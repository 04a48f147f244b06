-- Lemmas about the arguments that clap finds, which definitions see as rows.
use Rattle.std.proofs.Common.{◌≡◌, ℕ, List, Option, None, Some, refl, option_map}
use Rattle.std.specs.Prelude.{Box}
use Rattle.std.specs.Box.{box_value}
use Rattle.clap.specs.Matches.{subcommand_name_of}
use Rattle.clap.specs.Words.{Row, subcommand_rows, subcommand_rows_of}
use Rattle.clap.specs.declared.parser.matches.ArgMatches.{ArgMatches}
use Rattle.clap.specs.declared.parser.matches.ArgMatches.TheViews.{out-ArgMatches, out-SubCommand}
use Rattle.clap.specs.declared.parser.matches.SubCommand.{SubCommand}
use Rattle.pm_plan.specs.Needed.{IsOnePath, IsOptional}

module _ {Z : Type 0} where
  named : (below : Option (Box SubCommand Z)) (name : List ℕ) (rows : List Row)
      → Some name ≡ option_map (λ b. (out-SubCommand (box_value b)).name.now) below
      → Some rows ≡ option_map (λ p. p.1) (subcommand_rows below) → subcommand_rows below ≡ Some (name, rows)
  named None name rows is_name are_rows = cc
  named (Some below) name rows is_name are_rows = cc

  unnamed : (below : Option (Box SubCommand Z))
      → None ≡ option_map (λ b. (out-SubCommand (box_value b)).name.now) below → subcommand_rows below ≡ None
  unnamed None is_name = refl
  unnamed (Some below) is_name = cc

-- If clap finds a command or verb with the name `name` and the arguments `rows`, then `subcommand_rows_of m` is this
-- pair.
pub found_below : (m : ArgMatches) (name : List ℕ) (rows : List Row) → Some name ≡ subcommand_name_of m
    → Some rows ≡ option_map (λ p. p.1) (subcommand_rows_of m) → subcommand_rows_of m ≡ Some (name, rows)
found_below m name rows is_name are_rows = named (out-ArgMatches m).subcommand name rows is_name are_rows

-- If clap finds no command or verb, then `subcommand_rows_of m` is `None`.
pub none_below : (m : ArgMatches) → None ≡ subcommand_name_of m → subcommand_rows_of m ≡ None
none_below m is_name = unnamed (out-ArgMatches m).subcommand is_name

-- If a path is given at exactly one of two positions, the one after the verb is missing or not empty.
pub behind_optional : (before behind : Option (List ℕ)) → IsOnePath before behind → IsOptional behind
behind_optional None None one = absurd one
behind_optional None (Some path) one = one
behind_optional (Some path) None one = tt
behind_optional (Some path) (Some other) one = absurd one
