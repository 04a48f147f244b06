use Rattle.std.proofs.Common.{◌≡◌, ◌<◌, ◌*◌, drop}
use Rattle.pm_convert.specs.Sums.{sum_from}
use Rattle.pm_convert.proofs.disk_copy.checksum.Given as goal

-- The sum so far, followed by the words of the other bytes, is the whole checksum.
abbrev pub invariant-loop-n : goal.invariant-loop-n
invariant-loop-n l = record {
  small : l.sum < 4294967296;
  whole : sum_from l.sum (drop (2 * l.n) l.bytes) ≡ sum_from 0 l.bytes;
}
