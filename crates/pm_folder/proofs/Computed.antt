-- The laws of names, and the worked examples, computed by the checker.
use Rattle.std.proofs.Common.{◌≡◌, ℕ, All, Bool, true, false, List, [], ◌∷◌, ◌++◌, refl, ap, ◌∙◌, sym, arith}
use Rattle.std.specs.Prelude.{◌==◌, codes, if◌then◌else◌}
use Rattle.std.specs.Str.{bytes_eq}
use Rattle.std.proofs.lemmas.Slice.Eq.{bytes_eq-Decides}
use Rattle.std.proofs.lemmas.List.Elements.{All-tail}
use Rattle.std.proofs.lemmas.Bool.Decides.{nat_tests}
use Rattle.percent_encoding.specs.Percent.{percent_decode, percent_encode, percent_encode_byte}
use Rattle.percent_encoding.specs.AsciiSet.{should_percent_encode}
use Rattle.percent_encoding.proofs.PercentLemmas.{IsByte, percent_decode-percent_encode_byte, round_trip}
use Rattle.pm_filer.specs.Listing.{kind_word}
use Rattle.pm_folder.specs.Names.{dotless, listed_name, plain_host}
use Rattle.pm_folder.specs.Worked.{WorkedFolders}
use Rattle.pm_folder.specs.declared.names.TheConstants.{HOSTED, LISTED}

listed_back : (name : List ℕ) → All IsByte name → percent_decode (listed_name name) ≡ name
listed_back name small = round_trip LISTED name refl small

dotless_back : (name : List ℕ) → All IsByte name → percent_decode (dotless name) ≡ name
unfolding percent_encode percent_encode_byte
dotless_back [] small = round_trip HOSTED [] refl small
dotless_back (c ∷ rest) small = go (c == 46) refl
  where
    go : (b : Bool) → (c == 46) ≡ b
        → percent_decode (if b then codes "%2E" ++ percent_encode HOSTED rest else percent_encode HOSTED (c ∷ rest)) ≡ c ∷ rest
    go true e =
        let is : c ≡ 46 = grind (arith, nat_tests) in
        percent_decode-percent_encode_byte 46 (percent_encode HOSTED rest) (omega arith)
        ∙ ap (λ x. 46 ∷ x) (round_trip HOSTED rest refl (All-tail IsByte c rest small))
        ∙ rw is refl
    go false e = round_trip HOSTED (c ∷ rest) refl small

list_back : percent_decode (codes "%4CIST") ≡ codes "LIST"
unfolding percent_decode
list_back = refl

hosted_back : (name : List ℕ) → All IsByte name → percent_decode (plain_host name) ≡ name
hosted_back name small = go (bytes_eq name (codes "LIST")) refl
  where
    go : (b : Bool) → bytes_eq name (codes "LIST") ≡ b
        → percent_decode (if b then codes "%4CIST" else dotless name) ≡ name
    go true e = list_back ∙ sym ((bytes_eq-Decides name (codes "LIST")).0 e)
    go false e = dotless_back name small

pub worked_folders : WorkedFolders
unfolding percent_encode percent_encode_byte should_percent_encode percent_decode kind_word
worked_folders = record {
  listed_back = listed_back;
  hosted_back = hosted_back;
  listed = refl;
  hosted = refl;
  control = refl;
  first = refl;
  second = refl;
  third = refl;
  lists = refl;
  nothing = refl;
  lf = refl;
  crlf = refl;
  cr = refl;
  bytes = refl;
  short_text = refl;
  text_kind = refl;
  kind_9 = refl;
}
