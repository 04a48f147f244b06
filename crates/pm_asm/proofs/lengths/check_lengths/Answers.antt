use Rattle.std.proofs.Common.{◌≤◌, ◌∙◌, arith, length, sym}
use Rattle.std.proofs.lemmas.List.{at_drop_all}
use Rattle.pm_code.specs.Views.{program_seen}
use Rattle.pm_asm.specs.Lengths.{first_long}
use Rattle.pm_asm.proofs.FoundLengths.{all_short}
use Rattle.pm_asm.proofs.lengths.check_lengths.Goals as goal

pub returns-clause-short : goal.returns-clause-short
returns-clause-short c =
    let past : length c.args.program.now ≤ c.loop-segment.segment-index = omega arith in
    all_short _ (sym c.loop-segment.invariant.long
    ∙ at_drop_all (λ ss. first_long (program_seen ss)) c.args.program.now c.loop-segment.segment-index past)
