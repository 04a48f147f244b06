use Rattle.std.proofs.Common.{◌≡◌, ◌≤◌, ◌∙◌, ◌+◌, ◌*◌, ℕ, List, sym, length, arith}
use Rattle.pm_volume.specs.Directory.{IsVolume, block_count, directory_of, file_count}
use Rattle.pm_volume.proofs.PackedLaws.{file-after, file-ordered, file-within, next-order, next-past, next-size, packed_image-done, packed_image-more}
use Rattle.pm_volume.proofs.packing.pack_files.Goals as goal

-- Bounds that hold in each iteration of the loop.
record Sizes (image : List ℕ) (blocks end : ℕ) : Type 0 where
  long : 3072 ≤ length image
  room : 512 * blocks ≤ length image
  few : end ≤ 78

sizes : (image old : List ℕ) (count : ℕ) → IsVolume old → length image ≡ length old → count ≡ file_count (directory_of old)
    → Sizes image (block_count (directory_of old)) (count + 1)
sizes image old count v size same = record {
  long = omega (arith, v.long, size);
  room = omega (arith, v.has_directory.within, v.whole, size);
  few = omega (arith, v.has_directory.few, same);
}

pub pack_file-from-requires-clause-after : goal.pack_file-from-requires-clause-after
pack_file-from-requires-clause-after c =
    let s = sizes c.loop-n.image.items c.args.image.now.items c.word-count.result c.requires.volume c.loop-n.invariant.size
    (rw c.deref.ensures.value at c.word-count.ensures.word) in
    let i = c.loop-n.invariant in
    file-after c.loop-n.image.items _ c.loop-n.n c.loop-n.from (c.word-count.result + 1) s.long s.room s.few c.loop-n-test.true i.past i.order

pub pack_file-from-requires-clause-ordered : goal.pack_file-from-requires-clause-ordered
pack_file-from-requires-clause-ordered c =
    let s = sizes c.loop-n.image.items c.args.image.now.items c.word-count.result c.requires.volume c.loop-n.invariant.size
    (rw c.deref.ensures.value at c.word-count.ensures.word) in
    let i = c.loop-n.invariant in
    file-ordered c.loop-n.image.items _ c.loop-n.n c.loop-n.from (c.word-count.result + 1) s.long s.room s.few c.loop-n-test.true i.past i.order

pub pack_file-from-requires-clause-within : goal.pack_file-from-requires-clause-within
pack_file-from-requires-clause-within c =
    let s = sizes c.loop-n.image.items c.args.image.now.items c.word-count.result c.requires.volume c.loop-n.invariant.size
    (rw c.deref.ensures.value at c.word-count.ensures.word) in
    let i = c.loop-n.invariant in
    file-within c.loop-n.image.items _ c.loop-n.n c.loop-n.from (c.word-count.result + 1) s.long s.room s.few c.loop-n-test.true i.past i.order

pub loop-n-preserved : goal.loop-n-preserved
loop-n-preserved c =
    let s = sizes c.loop-n.image.items c.args.image.now.items c.word-count.result c.requires.volume c.loop-n.invariant.size
    (rw c.deref.ensures.value at c.word-count.ensures.word) in
    let i = c.loop-n.invariant in
    let image = c.loop-n.image.items in
    let end = c.word-count.result + 1 in
    let moved = c.pack_file-from.ensures.moved in
    let ended = c.pack_file-from.ensures.end in
    record {
      rest = rw (moved, ended) (sym (packed_image-more image c.loop-n.n c.loop-n.from end c.loop-n-test.true) ∙ i.rest);
      size = rw moved (next-size image _ c.loop-n.n c.loop-n.from end s.long s.room s.few c.loop-n-test.true i.past i.order ∙ i.size);
      past = rw ended (next-past image _ c.loop-n.n c.loop-n.from end s.long s.room s.few c.loop-n-test.true i.past i.order);
      order = rw (moved, ended) (next-order image _ c.loop-n.n c.loop-n.from end s.long s.room s.few c.loop-n-test.true i.past i.order);
    }

pub returns-clause-packed : goal.returns-clause-packed
returns-clause-packed c =
    sym (packed_image-done c.loop-n.image.items c.loop-n.n c.loop-n.from (c.word-count.result + 1) (omega arith)) ∙ c.loop-n.invariant.rest

pub returns-clause-blocks : goal.returns-clause-blocks
returns-clause-blocks c = rw (c.word-blocks.ensures.word, c.deref.ensures.value) at c.word-blocks.type_inv
