use Rattle.byteorder.specs.Endian.{little_bytes}
use Rattle.std.proofs.Common.{◌+◌, ◌-◌, ◌*◌, ap, ℕ, List, arith}
use Rattle.pm_volume.specs.Changes.{with_slot}
use Rattle.pm_volume.specs.Words.{written}
use Rattle.pm_volume.specs.Directory.{file_count}
use Rattle.pm_volume.proofs.SlotLaws.{inserted}
use Rattle.pm_volume.proofs.slots.insert_slot.Goals as goal

pub returns : goal.returns
unfolding with_slot
returns c =
    record {
      inserted =
          let directory = c.args.directory.now in
          let n = c.args.n in
          let count = file_count directory in
          let wrote = rw (c.push_front.ensures.moved, c.from-begin.ensures, c.from.ensures, c.word-count.ensures.word) at c.set_word.ensures.written in
          rw wrote (ap (λ (bs : List ℕ). written bs 16 (little_bytes 2 (count + 1)))
          (inserted directory c.args.slot.now (26 * n) (26 * (count + 2) - 26 * n) (26 * (count + 1) - 26 * n) (omega arith) (omega arith) (omega arith)));
    }
