use Rattle.std.proofs.Common.{◌≡◌, ◌+◌, ◌-◌, arith}
use Rattle.pm_volume.proofs.WrittenLaws.{copied_part}
use Rattle.pm_volume.proofs.copies.copy_directory.Goals as goal

pub returns : goal.returns
returns c =
    let a = c.args in
    let e = c.copy_within.ensures in
    let width : (a.from + 2048) - a.from ≡ 2048 = omega arith in
    record {
      copied =
          rw width (copied_part a.image.now c.copy_within.new.self a.from a.to 2048 e.len c.requires.source c.requires.target
          (λ k from below. e.by_index.0 k 0 from (rw width below)) (λ k below. e.by_index.1 k 0 below) (λ k above. e.by_index.2 k 0 (rw width above)));
    }
