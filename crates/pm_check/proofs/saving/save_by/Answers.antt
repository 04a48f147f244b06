use Rattle.std.proofs.Common.{◌∙◌}
use Rattle.pm_check.proofs.ContentLaws.{believed_saved}
use Rattle.pm_check.proofs.saving.save_by.Goals as goal

pub returns-clause-files : goal.returns-clause-files
returns-clause-files c =
    believed_saved c.args.image.now c.args.directory.now c.args.lowest c.args.blocks c.deref.result.now
    (c.deref.ensures.value ∙ c.in-Ok-taken_and_left.ensures.taken) c.save_entries.result c.save_entries.ensures.files
