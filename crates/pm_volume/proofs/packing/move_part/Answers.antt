use Rattle.std.proofs.Common.{◌≡◌, ◌∙◌, ◌+◌, ◌-◌, ◌++◌, ap, ℕ, take, drop, length, sym, slice_range, arith, length-take, length-drop, append_assoc}
use Rattle.pm_volume.specs.Words.{written}
use Rattle.pm_volume.proofs.packing.move_part.Goals as goal

pub returns : goal.returns
unfolding written
returns c =
    let bytes = c.args.bytes.now.items in
    let begin = c.args.begin in
    let end = c.args.end in
    let to = c.args.to in
    let size : length (slice_range bytes begin end) ≡ end - begin =
    omega (arith, length-take (end - begin) (drop begin bytes), length-drop begin bytes, c.requires.order, c.requires.source) in
    record {
      moved =
          c.copy_within.ensures.items ∙ append_assoc (take to bytes) (slice_range bytes begin end) (drop (to + (end - begin)) bytes)
          ∙ ap (λ (n : ℕ). take to bytes ++ (slice_range bytes begin end ++ drop (to + n) bytes)) (sym size);
    }
