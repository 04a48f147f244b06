use Rattle.law_headline.proofs.PutLaws.{put_program_is_booted, put_program_is_found}
use Rattle.law_headline.proofs.put.put_program_is_booted.Goals as goal

pub returns : goal.returns
returns c = record {
  found = put_program_is_found;
  booted = put_program_is_booted;
}
