use Rattle.std.proofs.Common.{rules}
use Rattle.pm_trace.proofs.Pairs.{pair_in}
use Rattle.pm_trace.proofs.digits.pair.Goals as goal

pub returns : goal.returns
returns c = search (rules, pair_in)
