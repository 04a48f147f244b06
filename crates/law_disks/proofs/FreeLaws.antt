-- Lemmas for the number of free blocks after `Krunch` has moved the files together.
use Rattle.std.proofs.Common.{◌≡◌, arith, subst}
use Rattle.pm_volume.specs.Packing.{krunched_image}
use Rattle.pm_volume.specs.Space.{free_blocks, largest_gap}
use Rattle.pm_volume.proofs.FreeLaws.{free-krunched, largest-krunched}
use Rattle.pm_filer.specs.Filed.{filed}
use Rattle.pm_filer.specs.Laws.{KrunchKeepsFree, KrunchLeavesOneGap}
use Rattle.law_disks.proofs.GivenLaws.{word_fits}

pub krunch_keeps_free : KrunchKeepsFree
unfolding filed
krunch_keeps_free image f b done =
    let same : krunched_image image ≡ f.image = cc in
    subst (λ new. free_blocks new ≡ free_blocks image) same (free-krunched image b.volume (word_fits image b 14 (omega arith)))

pub krunch_leaves_one_gap : KrunchLeavesOneGap
unfolding filed
krunch_leaves_one_gap image f b done good =
    let same : krunched_image image ≡ f.image = cc in
    subst (λ new. largest_gap new ≡ free_blocks new) same (largest-krunched image b.volume (word_fits image b 14 (omega arith)) good)
