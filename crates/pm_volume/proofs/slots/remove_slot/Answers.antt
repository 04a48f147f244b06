use Rattle.byteorder.specs.Endian.{little_bytes}
use Rattle.std.proofs.Common.{◌≡◌, ◌∙◌, ◌+◌, ◌-◌, ◌*◌, ap, ℕ, List, drop, take, ◌++◌, refl, arith}
use Rattle.pm_volume.specs.Changes.{no_slot, without_slot}
use Rattle.pm_volume.specs.Words.{written}
use Rattle.pm_volume.specs.Directory.{file_count}
use Rattle.pm_volume.proofs.SlotLaws.{removed}
use Rattle.pm_volume.proofs.slots.remove_slot.Goals as goal

pub returns : goal.returns
unfolding without_slot no_slot
returns c =
    record {
      removed =
          let directory = c.args.directory.now in
          let n = c.args.n in
          let count = file_count directory in
          let m = 26 * (count + 1) - 26 * (n + 1) in
          let wrote = rw (c.pop_front.ensures.moved, c.from-begin.ensures, c.from.ensures, c.word-count.ensures.word) at c.set_word.ensures.written in
          let next : 26 * n + 26 ≡ 26 * (n + 1) = omega arith in
          rw wrote (ap (λ (bs : List ℕ). written bs 16 (little_bytes 2 (count - 1)))
          (removed directory no_slot (26 * n) (26 * (count + 1) - 26 * n) m 26 refl (omega arith) (omega arith)
          ∙ ap (λ (b : ℕ). written directory (26 * n) (take m (drop b directory) ++ no_slot)) next));
    }
