use Rattle.std.proofs.Common.{◌≡◌, ◌∙◌, ap, true, length, ℕ, List, ◌≤◌, rules, tests, arith, length-take, length-drop, drop, slice_range}
use borrow.Rule.Slice.PartMut.{put_mid}
use Rattle.pm_volume.specs.Copies.{has_second}
use Rattle.pm_volume.specs.Made.{singled}
use Rattle.pm_volume.specs.Words.{written, zeros}
use Rattle.pm_volume.proofs.HeaderLaws.{length-zeros}
use Rattle.pm_volume.proofs.SlotLaws.{listed_second}
use Rattle.pm_volume.proofs.changes.drop_second.Goals as goal

pub returns-then-has_second : goal.returns-then-has_second
unfolding singled
returns-then-has_second c =
    let image = c.args.image.now in
    let said : has_second image ≡ true = cc in
    let m = c.begin_at.new.image in
    let stay : length m ≡ length image = c.begin_at.auto.image in
    let long : 5120 ≤ length image = search (rules, tests) in
    let size : length (slice_range m 3072 5120) ≡ 2048 = omega (arith, stay, long, length-take 2048 (drop 3072 m), length-drop 3072 m) in
    let zeroed = rw size at c.clear_all.ensures.cleared in
    record {
      image = rw said
          (ap (put_mid 3072 2048 m) zeroed ∙ listed_second m (zeros 2048) (length-zeros 2048) ∙ ap (λ (xs : List ℕ). written xs 3072 (zeros 2048))
          c.begin_at.ensures.begun);
    }
