use Rattle.pm_c.proofs.BlockLaws.{no_memory_for_blocks}
use Rattle.pm_c.proofs.removed.pmach_undelete_blocks.Goals as goal

pub returns-in-Err : goal.returns-in-Err
returns-in-Err c = record { answers = no_memory_for_blocks _ _ _ _ _ c.none.ensures.code c.none.ensures.needed }
