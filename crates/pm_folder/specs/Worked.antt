-- Laws and worked examples of the names and lines of a folder.
use Rattle.std.specs.Prelude.{◌≡◌, ℕ, ◌<◌, All, true, false, List, [], ◌∷◌, ◌++◌, None, Some, codes, map}
use Rattle.std.specs.Fmt.{decimal}
use Rattle.percent_encoding.specs.AsciiSet.{should_percent_encode}
use Rattle.percent_encoding.specs.Percent.{percent_decode}
use Rattle.pm_folder.specs.Contents.{content_of, how_of, with_ends}
use Rattle.pm_folder.specs.Folder.{kind_text}
use Rattle.pm_folder.specs.Names.{host_name, listed_name, plain_host}
use Rattle.pm_folder.specs.declared.contents.Ends.TheVariants as ends
use Rattle.pm_folder.specs.declared.contents.How.TheVariants as how
use Rattle.pm_folder.specs.declared.names.TheConstants.{HOSTED, LISTED}

-- If the escapes in the form of a name in LIST, or in the folder, are replaced by their bytes, the result is the name.
-- So two names have the same form only if they are equal. The examples are: the bytes that are replaced, at the limits;
-- names in the folder of the first, the second and the third file with a name; line ends; and kinds.
pub record WorkedFolders : Type 0 where
  pub listed_back : (name : List ℕ) → All (λ b. b < 256) name → percent_decode (listed_name name) ≡ name
  pub hosted_back : (name : List ℕ) → All (λ b. b < 256) name → percent_decode (plain_host name) ≡ name
  pub listed : map (should_percent_encode LISTED) (0 ∷ 32 ∷ 37 ∷ 127 ∷ 128 ∷ 255 ∷ 33 ∷ 46 ∷ 47 ∷ 65 ∷ 126 ∷ [])
      ≡ true ∷ true ∷ true ∷ true ∷ true ∷ true ∷ false ∷ false ∷ false ∷ false ∷ false ∷ []
  pub hosted : map (should_percent_encode HOSTED) (0 ∷ 32 ∷ 37 ∷ 47 ∷ 127 ∷ 128 ∷ 255 ∷ 33 ∷ 46 ∷ 65 ∷ 126 ∷ [])
      ≡ true ∷ true ∷ true ∷ true ∷ true ∷ true ∷ true ∷ false ∷ false ∷ false ∷ false ∷ []
  pub control : listed_name (7 ∷ 200 ∷ 65 ∷ []) ≡ codes "%07%C8A"
  pub first : host_name 0 (codes "A/B%C") ≡ codes "A%2FB%25C"
  pub second : host_name 1 (codes ".X.Y") ≡ codes "%2EX.Y%%" ++ decimal 2
  pub third : host_name 2 (codes "LIST") ≡ codes "%4CIST%%" ++ decimal 3
  pub lists : host_name 0 (codes "LISTS") ≡ codes "LISTS"
  pub nothing : host_name 0 [] ≡ []
  pub lf : with_ends ends.Lf (codes "a\nb\n") ≡ codes "a\nb\n"
  pub crlf : with_ends ends.CrLf (codes "a\nb\n") ≡ codes "a\r\nb\r\n"
  pub cr : with_ends ends.Cr (codes "a\nb\n") ≡ codes "a\rb\r"
  pub bytes : content_of None 3 (codes "a") ≡ codes "a"
  pub short_text : how_of (Some ends.Lf) 3 (codes "a") ≡ how.Bytes
  pub text_kind : kind_text 3 ≡ codes "text"
  pub kind_9 : kind_text 9 ≡ decimal 9
