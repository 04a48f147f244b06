use Rattle.std.proofs.Common.{◌+◌, ◌≤◌, ap, arith, length, sym}
use Rattle.pm_volume.proofs.WrittenLaws.{length-written}
use Rattle.pm_convert.proofs.MadeLaws.{disk_copy_begin}
use Rattle.pm_convert.proofs.made.with_blocks.Goals as goal

-- The volume begins after the header, and the new image is as long as the old one.
pub seal-requires : goal.seal-requires
seal-requires c = record {
  room = λ is.
      let begin = disk_copy_begin c.args.format.cover c.args.image.now c.in-Some.part (sym c.in-Some.ensures.part) is in
      let size = ap length c.as_slice.ensures.value in
      let fits : c.in-Some.part.begin + length c.as_slice.result.now ≤ length c.args.image.now
      = omega (arith, size, c.in_ok-volume.ensures.size, c.in-Some.ensures.inside) in
      let kept = length-written c.args.image.now c.in-Some.part.begin c.as_slice.result.now fits in
      omega (arith, begin, kept, ap length c.as_mut_slice.ensures.value, ap length c.in_ok-made.ensures.image, c.in-Some.ensures.inside);
}
