use Rattle.std.proofs.Common.{◌≡◌, ◌+◌, ◌++◌, length, take}
use Rattle.std.specs.Array.Iter.{array_into_iter_items}
use Rattle.pm_tool.specs.Disks.{first_bad, first_disk_fault, images_of}
use Rattle.pm_tool.proofs.programs.volumes_of.Given as goal

abbrev pub invariant-opening : goal.invariant-opening
invariant-opening l = record {
  opened : images_of l.fn.disks ≡ take l.place l.volumes ++ images_of (array_into_iter_items l.image-iterator);
  sound : first_disk_fault (images_of l.fn.disks) ≡ first_disk_fault (images_of (array_into_iter_items l.image-iterator));
  bad : first_bad 0 (images_of l.fn.disks) ≡ first_bad l.place (images_of (array_into_iter_items l.image-iterator));
  count : l.place + length (array_into_iter_items l.image-iterator) ≡ 6;
  size : length l.volumes ≡ 6;
}
