use Rattle.std.proofs.Common.{◌≡◌, ◌≤◌, ◌*◌, ◌-◌, ◌+◌, max}
use Rattle.std.specs.List.{fold}
use Rattle.pm_volume.specs.Changes.{gaps}
use Rattle.pm_volume.specs.Directory.{block_count, entries_from}
use Rattle.pm_volume.specs.Space.{free_in, gap_size, largest_in}
use Rattle.pm_volume.proofs.space.space_of.Given as goal

-- The space of the gaps that were counted, together with the gaps from slot `n` on, is the space of all gaps.
abbrev pub invariant-loop-n : goal.invariant-loop-n
invariant-loop-n l = record {
  free : fold (λ sum gap. sum + gap_size gap) l.space.free (gaps (block_count l.directory) l.n l.from (entries_from l.directory l.n (l.n-end - l.n)))
      ≡ free_in l.directory;
  largest : fold (λ most gap. max most (gap_size gap)) l.space.largest
      (gaps (block_count l.directory) l.n l.from (entries_from l.directory l.n (l.n-end - l.n))) ≡ largest_in l.directory;
  room : l.space.free ≤ 65536 * l.n;
}
