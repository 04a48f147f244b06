-- The checksum in an image of DiskCopy 4.2 that gets other blocks matches.
use Rattle.std.proofs.Common.{◌≡◌, ◌∙◌, ◌+◌, ◌*◌, ◌/◌, ◌%◌, ◌<◌, ◌≤◌, ℕ, true, false}
use Rattle.std.proofs.Common.{List, [], ◌∷◌, Some, length, refl, sym, ap, arith, lit<, lit≤}
use Rattle.std.specs.Prelude.{◌==◌}
use Rattle.std.proofs.lemmas.Bool.{eq-eqb}
use Rattle.pm_bytes.specs.Words.{written}
use Rattle.pm_convert.specs.Covers.{has_disk_copy}
use Rattle.pm_convert.specs.Found.{is_sum_wrong}
use Rattle.pm_convert.specs.Made.{with_blocks}
use Rattle.pm_convert.specs.Sums.{checksum, high_bytes, high_long, sum_from, with_word}
use Rattle.pm_convert.specs.Turning.{in_order}
use Rattle.pm_convert.specs.declared.format.ByteOrder.{ByteOrder}
use Rattle.pm_convert.specs.declared.format.Cover.TheVariants as covers
use Rattle.pm_convert.proofs.CoverLaws.{copy_same, copy_there, disk_copy_part, long_stays}
use Rattle.pm_convert.proofs.ImageLaws.{gets}
use Rattle.pm_convert.proofs.TurnLaws.{order_size}
use Rattle.pm_volume.proofs.WrittenLaws.{get_written_in, length-written}

-- A checksum has 32 bits.
word_small : (sum word : ℕ) → with_word sum word < 4294967296
word_small sum word = omega arith

sum_small : (sum : ℕ) (bytes : List ℕ) → sum < 4294967296 → sum_from sum bytes < 4294967296
unfolding sum_from
sum_small sum [] small = small
sum_small sum (high ∷ []) small = word_small sum (256 * high)
sum_small sum (high ∷ low ∷ rest) small =
    sum_small (with_word sum (256 * high + low)) rest (word_small sum (256 * high + low))

pub checksum_small : (bytes : List ℕ) → checksum bytes < 4294967296
checksum_small bytes = sum_small 0 bytes (lit< tt)

-- A number of 32 bits is stored in four bytes.
pub high_back : (n : ℕ) → n < 4294967296
    → 16777216 * (n / 16777216 % 256) + (65536 * (n / 65536 % 256) + (256 * (n / 256 % 256) + n % 256)) ≡ n
high_back n small = omega (arith, small)

-- The number that was written at offset 72.
number_there : (image : List ℕ) (n : ℕ) → n < 4294967296 → 76 ≤ length image → high_long (written image 72 (high_bytes n)) 72 ≡ n
number_there image n small long =
    let a = get_written_in image 72 (high_bytes n) 72 long (lit≤ tt) (lit< tt) in
    let b = get_written_in image 72 (high_bytes n) 73 long (lit≤ tt) (lit< tt) in
    let c = get_written_in image 72 (high_bytes n) 74 long (lit≤ tt) (lit< tt) in
    let d = get_written_in image 72 (high_bytes n) 75 long (lit≤ tt) (lit< tt) in
    rw (a, b, c, d) (high_back n small)

-- The checksum at offset 72 is that of the volume.
sum_right : (image volume : List ℕ) → has_disk_copy image ≡ true → high_long image 64 ≡ length volume
    → 84 + length volume ≤ length image
    → is_sum_wrong (written (written image 84 volume) 72 (high_bytes (checksum volume))) ≡ false
sum_right image volume valid size inside =
    let four : length (high_bytes (checksum volume)) ≡ 4 = refl in
    let same = copy_same image volume (high_bytes (checksum volume)) four inside in
    let long = long_stays image volume (high_bytes (checksum volume)) four inside 64 (lit≤ tt) in
    let inner = length-written image 84 volume inside in
    let sum = number_there (written image 84 volume) (checksum volume) (checksum_small volume) (omega (arith, inner, inside)) in
    let there = copy_there image volume (high_bytes (checksum volume)) four inside in
    let equal : (checksum volume == checksum volume) ≡ true = eq-eqb (checksum volume) (checksum volume) refl in
    rw (same, valid, long, sum, size, there, equal) refl

pub sealed : (order : ByteOrder) (image blocks made : List ℕ)
    → with_blocks (record { cover = covers.DiskCopy; order = order }) image blocks ≡ Some made → is_sum_wrong made ≡ false
sealed order image blocks made e =
    let got = gets (record { cover = covers.DiskCopy; order = order }) image blocks made e in
    let facts = disk_copy_part image got.0 got.1.there in
    let size : length (in_order order blocks) ≡ (got.0).size = order_size order blocks ∙ got.1.same in
    ap is_sum_wrong got.1.made_is
    ∙ ap (λ begin. is_sum_wrong (written (written image begin (in_order order blocks)) 72 (high_bytes (checksum (in_order order blocks))))) facts.0
    ∙ sum_right image (in_order order blocks) facts.3 (sym facts.1 ∙ sym size) (omega (arith, facts.2, size))
