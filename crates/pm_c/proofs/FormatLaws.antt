-- Bytes that are not UTF-8 are not the name of a format.
use Rattle.std.proofs.Common.{arith, ◌≡◌, ◌∙◌, ◌<◌, ℕ, nat_lt, slice_index_or, true, false, List, [], ◌∷◌, ◌++◌, None, Some, ap, refl, subst, sym}
use Rattle.std.proofs.lemmas.Bool.{false_from_ne_true}
use Rattle.std.proofs.lemmas.Slice.Eq.{bytes_eq-Decides}
use Rattle.std.proofs.lemmas.Bool.Decides.{nat_tests}
use Rattle.std.proofs.lemmas.List.Sums.{AllPass-from_list_all}
use Rattle.std.proofs.lemmas.Str.{IsUtf8-from_ascii}
use Rattle.std.proofs.lemmas.Str.Ascii.{IsAscii-from_all}
use Rattle.std.specs.List.{find, list_all}
use Rattle.std.specs.Prelude.{if◌then◌else◌}
use Rattle.std.specs.Str.{IsUtf8, bytes_eq}
use Rattle.pm_convert.specs.Formats.{all_formats, cover_prefix, format_named, name_of, order_name}
use Rattle.pm_convert.specs.declared.format.ByteOrder.{ByteOrder}
use Rattle.pm_convert.specs.declared.format.ByteOrder.TheVariants as orders
use Rattle.pm_convert.specs.declared.format.Cover.{Cover}
use Rattle.pm_convert.specs.declared.format.Cover.TheVariants as covers
use Rattle.pm_convert.specs.declared.format.Format.{Format}

name_is_ascii : (cover : Cover) (order : ByteOrder) → list_all (λ b. nat_lt b 128) (cover_prefix cover ++ order_name order) ≡ true
name_is_ascii covers.Bare orders.Blocks = refl
name_is_ascii covers.Bare orders.Dos = refl
name_is_ascii covers.Bare orders.Swapped = refl
name_is_ascii covers.Bare orders.Big = refl
name_is_ascii covers.TwoImg orders.Blocks = refl
name_is_ascii covers.TwoImg orders.Dos = refl
name_is_ascii covers.TwoImg orders.Swapped = refl
name_is_ascii covers.TwoImg orders.Big = refl
name_is_ascii covers.DiskCopy orders.Blocks = refl
name_is_ascii covers.DiskCopy orders.Dos = refl
name_is_ascii covers.DiskCopy orders.Swapped = refl
name_is_ascii covers.DiskCopy orders.Big = refl

below : (b : ℕ) → nat_lt b 128 ≡ true → b < 128
below b e = grind (arith, nat_tests, e)

ascii_is_text : (name : List ℕ) → list_all (λ b. nat_lt b 128) name ≡ true → IsUtf8 name
ascii_is_text name e = IsUtf8-from_ascii name (IsAscii-from_all name (λ k d inside.
    below (slice_index_or name k d) (AllPass-from_list_all (λ b. nat_lt b 128) name e k d inside)))

other_name : (word name : List ℕ) → ¬ (IsUtf8 word) → IsUtf8 name → bytes_eq word name ≡ false
other_name word name bad good =
    false_from_ne_true (bytes_eq word name) (λ e. bad (subst IsUtf8 (sym ((bytes_eq-Decides word name).0 e)) good))

none_named : (word : List ℕ) → ¬ (IsUtf8 word) → (formats : List Format)
    → find (λ format. bytes_eq word (name_of format)) formats ≡ None
none_named word bad [] = refl
none_named word bad (format ∷ formats) =
    let rest = find (λ (f : Format). bytes_eq word (name_of f)) formats in
    ap (λ same. if same then Some format else rest)
    (other_name word (name_of format) bad (ascii_is_text (name_of format) (name_is_ascii format.cover format.order)))
    ∙ none_named word bad formats

pub no_format : (word : List ℕ) → ¬ (IsUtf8 word) → format_named word ≡ None
no_format word bad = none_named word bad all_formats
