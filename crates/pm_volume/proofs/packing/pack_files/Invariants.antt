use Rattle.std.proofs.Common.{◌≡◌, ◌-◌, ◌≤◌, length}
use Rattle.pm_volume.specs.Directory.{block_count, directory_of, entries_from, file_count, files_begin}
use Rattle.pm_volume.specs.Entries.{AreInOrder}
use Rattle.pm_volume.specs.Packing.{packed_image}
use Rattle.pm_volume.proofs.packing.pack_files.Given as goal

-- Moving the files from slot `n` on gives the image in which all files are moved. The files from slot `n` on are in
-- order after the files that were already moved.
abbrev pub invariant-loop-n : goal.invariant-loop-n
invariant-loop-n l =
    let old = l.fn.image.items in
    let left = l.n-end - l.n in
    record {
      rest : packed_image l.image.items l.n l.from left ≡ packed_image old 1 (files_begin (directory_of old)) (file_count (directory_of old));
      size : length l.image.items ≡ length old;
      past : 6 ≤ l.from;
      order : AreInOrder (block_count (directory_of old)) l.from (entries_from (directory_of l.image.items) l.n left);
    }
