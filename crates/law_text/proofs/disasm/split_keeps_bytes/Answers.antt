use Rattle.pm_disasm.proofs.Joined.{code_joined}
use Rattle.law_text.proofs.Boundaries.{forced_written, jumps_written}
use Rattle.law_text.proofs.disasm.split_keeps_bytes.Goals as goal

pub returns : goal.returns
returns c = record {
  law = λ forced allowed at code h. (
      let joins = code_joined forced allowed at code h in
      record {
        sound = joins.sound;
        bytes = joins.joined;
        jumps = jumps_written forced allowed at code h;
        places = λ place i low high. forced_written forced allowed at code place h i low high;
      }
      );
}
