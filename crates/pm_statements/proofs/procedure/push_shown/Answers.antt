use Rattle.std.specs.Prelude.{string_bytes}
use Rattle.pm_code.specs.Views.{procedure_seen}
use Rattle.pm_statements.proofs.BlockLabelled.{text_known}
use Rattle.pm_statements.proofs.procedure.push_shown.Goals as goal

pub returns : goal.returns
returns c = record {
  text = text_known (procedure_seen c.args.procedure.now) c.args.lines.now c.args.lefts.now c.args.phrases.now
      c.in_ok-labels.labels c.args.end (string_bytes c.args.out.now) _ _ c.in_ok-labels.ensures.marks c.requires.end
      c.in_ok-push_block_lines.ensures.text
      (c.in_ok-push_end.ensures.text _ c.in_ok-labels.ensures.marks);
}
