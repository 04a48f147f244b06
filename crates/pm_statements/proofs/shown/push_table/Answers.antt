use Rattle.std.proofs.Common.{subst, sym}
use Rattle.std.specs.List.{AllByRecursion}
use Rattle.pm_statements.specs.Files.{IsSizedTable}
use Rattle.pm_statements.proofs.shown.push_table.Goals as goal

pub push_code-requires : goal.push_code-requires
push_code-requires c = record {
  returns =
      let segment = c.args.sized.now.segment.now in
      c.in-Some.ensures.returns segment (subst (AllByRecursion (IsSizedTable segment)) (sym c.deref.ensures.value) c.requires.sized.tables);
}
