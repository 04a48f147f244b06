use Rattle.std.proofs.Common.{◌≡◌, ◌+◌, ◌-◌, ◌≤◌, false, length, vec_len}
use Rattle.std.specs.Io.KnownBytes.{Consumes}
use Rattle.pm_jobs.specs.Streams.{CountsOn}
use Rattle.pm_jobs.proofs.source.read_all.Given as goal

abbrev pub invariant-reading : goal.invariant-reading
invariant-reading g l = record {
  so_far : Consumes (g.R.Source.seen l.fn.source).remaining (g.R.Source.seen l.source).remaining l.input.items;
  well : (g.R.Source.seen l.source).failed ≡ false;
  few : vec_len l.input ≤ 16777216;
  room : length l.buffer ≡ 4096;
  counted : CountsOn (g.R.Source.seen l.fn.source).given → (g.R.Source.seen l.source).given ≡ (g.R.Source.seen l.fn.source).given + vec_len l.input;
}

abbrev pub decreases-reading : goal.decreases-reading
decreases-reading g l = 16777216 - vec_len l.input
