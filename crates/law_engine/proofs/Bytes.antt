-- Lemmas: if the elements of an image are bytes, then so are its parts, and its block numbers are less than 65,536.
use Rattle.std.proofs.Common.{◌≡◌, ◌<◌, ℕ, ◌+◌, ◌-◌, ◌*◌, Bool, true, false, cond, nat_lt, nat_le, List, [], length, get_or, slice_range, slice_index, Some}
use Rattle.std.proofs.Common.{None, inl, inr, subst, arith}
use Rattle.std.specs.List.{All}
use Rattle.std.proofs.lemmas.Bool.{cases_Bool}
use Rattle.std.proofs.lemmas.Bool.Decides.{nat_tests}
use Rattle.std.proofs.lemmas.List.{get_or_past}
use Rattle.std.proofs.lemmas.List.Elements.{All-drop, All-get_or, All-nil, All-take}
use Rattle.pm_calls.specs.Laws.{IsCode}
use Rattle.pm_volume.specs.declared.entry.Entry.{Entry}
use Rattle.pm_volume.specs.Directory.{block_count, directory_of, files_begin}
use Rattle.pm_volume.specs.Files.{file_bytes, files_of, is_named}
use Rattle.pm_volume.specs.Words.{word_in}
use Rattle.pm_volume.proofs.StayLaws.{files_within}
use Rattle.pm_volume.proofs.OrderLaws.{IsWithin}
use Rattle.pm_codefile.specs.Dictionary.{segment_in}
use Rattle.law_engine.proofs.LoadedSegments.{IsFound, found_all}
use Rattle.law_engine.specs.Loads.{IsImage}

abbrev pub AreBytes : List ℕ → Type 0
AreBytes bs = All (λ b. b < 256) bs

pub range_fits : (bs : List ℕ) (a b : ℕ) → AreBytes bs → AreBytes (slice_range bs a b)
range_fits bs a b h = All-take (λ b. b < 256) _ _ (All-drop (λ b. b < 256) a bs h)

byte_fits : (bs : List ℕ) (k : ℕ) → AreBytes bs → slice_index bs k < 256
byte_fits bs k h = elim (cases_Bool (nat_lt k (length bs))) [
  | inl e ↦ All-get_or (λ b. b < 256) bs k 0 (grind (arith, nat_tests, e)) h
  | inr e ↦ let past : get_or bs k 0 ≡ 0 = get_or_past bs k 0 (grind (arith, nat_tests, e)) in rw past (omega arith)
]

word_fits : (bs : List ℕ) (k : ℕ) → AreBytes bs → word_in bs k < 65536
unfolding word_in
word_fits bs k h = let low = byte_fits bs k h in let high = byte_fits bs (k + 1) h in omega (arith, low, high)

-- If an entry is found in an image of bytes, then the number of its end block is less than 65,536.
pub end_fits : (image name : List ℕ) (entry : Entry) (file : List ℕ) → IsImage image → IsFound image name entry file → entry.end < 65536
end_fits image name entry file is f =
    let lies = found_all (IsWithin (files_begin (directory_of image)) (block_count (directory_of image))) (is_named name) (files_of image) entry
    (files_within image is.volume) f.named in
    let within = lies.within in
    let count = word_fits (directory_of image) 14 (range_fits image 1024 3072 is.bytes) in
    omega (arith, within, count)

-- If the elements of an image are bytes, then the bytes of the file of an entry are bytes.
two_parts : (a b : Bool) (xs file : List ℕ) → AreBytes xs → cond a (Some []) (cond b (Some xs) None) ≡ Some file → AreBytes file
two_parts true b xs file fits h = let same : [] ≡ file = cc in subst AreBytes same (All-nil (λ b. b < 256))
two_parts false true xs file fits h = let same : xs ≡ file = cc in subst AreBytes same fits
two_parts false false xs file fits h = cc

pub file_fits : (image file : List ℕ) (e : Entry) → AreBytes image → file_bytes image e ≡ Some file → AreBytes file
unfolding file_bytes
file_fits image file e fits h =
    let end = 512 * (e.end - 1) + e.last_bytes in
    two_parts (nat_le e.end e.first) (nat_le end (length image)) (slice_range image (512 * e.first) end) file (range_fits image (512 * e.first) end fits) h

one_part : (a b : Bool) (xs : List ℕ) → AreBytes xs → IsCode (cond a None (cond b None (Some xs)))
one_part true b xs fits = tt
one_part false true xs fits = tt
one_part false false xs fits = fits

pub segment_fits : (file : List ℕ) (n : ℕ) → AreBytes file → IsCode (segment_in file n)
unfolding segment_in
segment_fits file n fits = one_part _ _ _ (range_fits file _ _ fits)
