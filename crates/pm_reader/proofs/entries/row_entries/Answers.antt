use Rattle.std.proofs.Common.{◌∙◌, sym, ap}
use Rattle.pm_code.proofs.Sizes.{entries_needed-seen}
use Rattle.pm_code.specs.Program.{entries_needed}
use Rattle.pm_line.specs.Views.{text_seen}
use Rattle.pm_reader.proofs.entries.row_entries.Goals as goal

pub returns : goal.returns
returns c = record {
  entries = c.entries_needed.ensures.entries
      ∙ (sym (entries_needed-seen text_seen c.items.result.now) ∙ ap entries_needed c.items.ensures.items);
}
