use Rattle.law_disks.proofs.LowestLaws.{put_finds_room, put_is_lowest}
use Rattle.law_disks.proofs.filer.put_is_lowest.Goals as goal

pub returns-clause-law : goal.returns-clause-law
returns-clause-law c = put_is_lowest

pub returns-clause-room : goal.returns-clause-room
returns-clause-room c = put_finds_room
