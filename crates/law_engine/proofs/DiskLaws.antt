-- Lemma: a disk stores what is written to it.
use Rattle.std.proofs.Common.{◌≡◌, ℕ, ◌+◌, ◌-◌, ◌*◌, ◌≤◌, List, length, take, drop, slice_range, ◌++◌, arith}
use Rattle.std.proofs.lemmas.Bool.Decides.{nat_tests}
use Rattle.std.proofs.lemmas.List.{length-take-le}
use Rattle.std.proofs.Math.Seq.{drop-append_seam, take-append_seam}
use Rattle.pm_words.proofs.RangeLaws.{length-bytes_at}
use Rattle.pm_volume.specs.Words.{written}
use Rattle.law_engine.specs.UnitsLaws.{DisksKeep}
use Rattle.pm_units.specs.Transfers.{named_bytes}

-- If `ys` is written into `xs` from the index `i` on, then the elements from `i` on are `ys`.
part-written : (xs ys : List ℕ) (i n : ℕ) → length ys ≡ n → i + n ≤ length xs → slice_range (written xs i ys) i (i + n) ≡ ys
unfolding written
part-written xs ys i n size room =
    let front : length (take i xs) ≡ i = length-take-le i xs (omega arith) in
    let rest : drop i (take i xs ++ (ys ++ drop (i + length ys) xs)) ≡ ys ++ drop (i + length ys) xs = rw front at
    (drop-append_seam (take i xs) (ys ++ drop (i + length ys) xs)) in
    let count : i + n - i ≡ length ys = omega arith in
    rw (rest, count) (take-append_seam ys (drop (i + length ys) xs))

pub disks_keep : DisksKeep
disks_keep m image t h room fits =
    let size : length (named_bytes m t) ≡ t.count = length-bytes_at m t.address t.count h room in
    let inside : 512 * t.block + t.count ≤ length image = grind (arith, nat_tests) in
    part-written image (named_bytes m t) (512 * t.block) t.count size inside
