-- Pieces and texts that come back, and the worked examples, computed.
use Rattle.std.proofs.Common.{◌≡◌, ℕ, Bool, true, false, List, [], ◌∷◌, ◌++◌, Some, refl, ap, ◌∙◌, sym, arith}
use Rattle.std.specs.Prelude.{◌==◌, codes, if◌then◌else◌, map}
use Rattle.std.specs.List.{AllByRecursion}
use Rattle.std.specs.Str.{chars, is_utf8}
use Rattle.std.proofs.Math.Utf8.{encode}
use Rattle.std.proofs.lemmas.Bool.Decides.{nat_tests}
use Rattle.percent_encoding.specs.AsciiSet.{should_percent_encode}
use Rattle.percent_encoding.specs.Percent.{percent_encode, percent_encode_byte}
use Rattle.pm_folder.specs.Contents.{with_ends}
use Rattle.pm_folder.specs.declared.contents.Ends.{Ends}
use Rattle.pm_folder.specs.declared.contents.Ends.TheVariants as ends
use Rattle.pm_import.specs.Feeds.{feed_for, with_feeds, without_returns}
use Rattle.pm_import.specs.Listed.{cut, date_of, kind_of, listed_of}
use Rattle.pm_import.specs.Plain.{has_ending, kind_by_name}
use Rattle.pm_import.specs.Worked.{WorkedLists, WorkedPlain}

same : (b : ℕ) → (b == b) ≡ true
same b = grind (arith, nat_tests)

cut_back : (mark : ℕ) (first second : List ℕ) → AllByRecursion (λ b. (b == mark) ≡ false) first
    → cut mark (first ++ mark ∷ second) ≡ Some (first, second)
cut_back mark [] second other = rw (same mark) refl
cut_back mark (b ∷ first) second other = rw (other.0, cut_back mark first second other.1) refl

ends_back : (e : Ends) (text : List ℕ) → AllByRecursion (λ b. (b == 13) ≡ false) text → with_feeds e (with_ends e text) ≡ text
ends_back ends.Lf [] other = refl
ends_back ends.Lf (b ∷ text) other = ap (λ t. b ∷ t) (ends_back ends.Lf text other.1)
ends_back ends.CrLf [] other = refl
ends_back ends.CrLf (b ∷ text) other = go (b == 10) refl (ends_back ends.CrLf text other.1)
  where
    go : (feed : Bool) → (b == 10) ≡ feed → without_returns (with_ends ends.CrLf text) ≡ text
        → without_returns ((if feed then 13 ∷ 10 ∷ [] else b ∷ []) ++ with_ends ends.CrLf text) ≡ b ∷ text
    go true is rest = let ten : 10 ≡ b = grind (arith, nat_tests) in rw rest (ap (λ c. c ∷ text) ten)
    go false is rest = rw (other.0, rest) refl
ends_back ends.Cr [] other = refl
ends_back ends.Cr (b ∷ text) other = go (b == 10) refl (ends_back ends.Cr text other.1)
  where
    go : (feed : Bool) → (b == 10) ≡ feed → map feed_for (with_ends ends.Cr text) ≡ text
        → map feed_for ((if feed then 13 ∷ [] else b ∷ []) ++ with_ends ends.Cr text) ≡ b ∷ text
    go true is rest = let ten : 10 ≡ b = grind (arith, nat_tests) in rw rest (ap (λ c. c ∷ text) ten)
    go false is rest = rw (other.0, rest) refl

pub worked_lists : WorkedLists
unfolding listed_of kind_of date_of is_utf8 chars encode
worked_lists = record {
  cut_back = cut_back;
  ends_back = ends_back;
  line = refl;
  text_line = refl;
  four_fields = refl;
  other_how = refl;
  other_kind = refl;
  other_date = refl;
  kinds = refl;
  numbers = refl;
  dates = refl;
  last = refl;
  no_date = refl;
  lines = refl;
  ended = refl;
  lone_return = refl;
  two_returns = refl;
  returns = refl;
  feeds = refl;
}

pub worked_plain : WorkedPlain
unfolding listed_of kind_of date_of is_utf8 chars encode has_ending kind_by_name percent_encode percent_encode_byte should_percent_encode
worked_plain = record {
  names = refl;
  kinds = refl;
  plain_text = refl;
  header = refl;
  no_text = refl;
  escaped = refl;
  plain = refl;
  listed = refl;
}
