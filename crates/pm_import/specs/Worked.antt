-- What the lines of LIST state, and what line ends become: laws, and worked examples.
use Rattle.std.specs.Prelude.{◌≡◌, ℕ, ◌==◌, false, List, [], ◌∷◌, ◌++◌, None, Some, codes, map}
use Rattle.std.specs.List.{AllByRecursion}
use Rattle.pm_folder.specs.Contents.{with_ends}
use Rattle.pm_folder.specs.declared.contents.Ends.{Ends}
use Rattle.pm_folder.specs.declared.contents.Ends.TheVariants as ends
use Rattle.pm_folder.specs.declared.contents.How.TheVariants as how
use Rattle.pm_import.specs.Feeds.{with_feeds}
use Rattle.pm_import.specs.Listed.{cut, date_of, kind_of, last_date_in, lines_of, listed_of}
use Rattle.pm_import.specs.Plain.{escaped_name, how_by_bytes, kind_by_name, plain_line, plain_listed, plain_name}

-- Two pieces with a byte between them come back if the first piece does not contain the byte. A text comes back from
-- each form of line ends that an export gives it, if it contains no byte 13. The examples are: a line of an
-- export, and lines that are not valid; kinds; dates, at the limits; the first line; lines; and line ends.
pub record WorkedLists : Type 0 where
  pub cut_back : (mark : ℕ) (first second : List ℕ) → AllByRecursion (λ b. (b == mark) ≡ false) first
      → cut mark (first ++ mark ∷ second) ≡ Some (first, second)
  pub ends_back : (e : Ends) (text : List ℕ) → AllByRecursion (λ b. (b == 13) ≡ false) text → with_feeds e (with_ends e text) ≡ text
  pub line : listed_of (codes "A%2FB\tA/B\tcode\t084-05-31\tbytes\t3")
      ≡ Some (record { host = codes "A%2FB"; name = codes "A/B"; kind = 2; date = 43509; how = how.Bytes })
  pub text_line : listed_of (codes "N.TEXT\tN.TEXT\ttext\t000-00-00\ttext")
      ≡ Some (record { host = codes "N.TEXT"; name = codes "N.TEXT"; kind = 3; date = 0; how = how.Text })
  pub four_fields : listed_of (codes "A\tA\tcode\t084-05-31") ≡ None
  pub other_how : listed_of (codes "A\tA\tcode\t084-05-31\tother") ≡ None
  pub other_kind : listed_of (codes "A\tA\tCODE\t084-05-31\tbytes") ≡ None
  pub other_date : listed_of (codes "A\tA\tcode\t84-05-31\tbytes") ≡ None
  pub kinds : map kind_of (codes "none" ∷ codes "badb" ∷ codes "code" ∷ codes "text" ∷ codes "info" ∷ codes "data"
      ∷ codes "graf" ∷ codes "foto" ∷ codes "secd" ∷ []) ≡ map (λ k. Some k) (0 ∷ 1 ∷ 2 ∷ 3 ∷ 4 ∷ 5 ∷ 6 ∷ 7 ∷ 8 ∷ [])
  pub numbers : map kind_of (codes "9" ∷ codes "10" ∷ codes "15" ∷ codes "16" ∷ codes "20" ∷ codes "009" ∷ [] ∷ [])
      ≡ Some 9 ∷ Some 10 ∷ Some 15 ∷ None ∷ None ∷ None ∷ None ∷ []
  pub dates : map date_of (codes "127-15-31" ∷ codes "128-01-01" ∷ codes "084-16-01" ∷ codes "084-01-32"
      ∷ codes "084.05-31" ∷ codes "084-05-3x" ∷ codes "084-05-310" ∷ [])
      ≡ Some 65535 ∷ None ∷ None ∷ None ∷ None ∷ None ∷ None ∷ []
  pub last : last_date_in (codes "volume SHOE 280 084-05-31") ≡ Some 43509
  pub no_date : last_date_in (codes "volume SHOE 280") ≡ None
  pub lines : lines_of (codes "a\n\nb") ≡ codes "a" ∷ [] ∷ codes "b" ∷ []
  pub ended : lines_of (codes "a\n") ≡ codes "a" ∷ [] ∷ []
  pub lone_return : with_feeds ends.CrLf (codes "a\rb\r\n") ≡ codes "a\rb\n"
  pub two_returns : with_feeds ends.CrLf (codes "a\r\r\n") ≡ codes "a\r\n"
  pub returns : with_feeds ends.Cr (codes "a\rb\r\n") ≡ codes "a\nb\n\n"
  pub feeds : with_feeds ends.Lf (codes "a\r\n") ≡ codes "a\r\n"

-- Files of a folder without LIST: names in capital letters, and `.TEXT` for `.TXT`; kinds by the ending; plain texts, and
-- text files with a byte 0; names with escapes; and the line of a file, which states what the file is on the volume.
pub record WorkedPlain : Type 0 where
  pub names : map plain_name (codes "letter.txt" ∷ codes "A.TEXT" ∷ codes "game.code" ∷ codes "az.{" ∷ codes ".txt"
      ∷ codes "txt" ∷ [])
      ≡ codes "LETTER.TEXT" ∷ codes "A.TEXT" ∷ codes "GAME.CODE" ∷ codes "AZ.{" ∷ codes ".TEXT" ∷ codes "TXT" ∷ []
  pub kinds : map kind_by_name (codes "A.TEXT" ∷ codes "A.CODE" ∷ codes "A.DATA" ∷ codes "TEXT" ∷ [] ∷ [])
      ≡ 3 ∷ 2 ∷ 5 ∷ 5 ∷ 5 ∷ []
  pub plain_text : how_by_bytes 3 (codes "hi\n") ≡ how.Text
  pub header : how_by_bytes 3 (104 ∷ 0 ∷ []) ≡ how.Bytes
  pub no_text : how_by_bytes 2 (codes "hi\n") ≡ how.Bytes
  pub escaped : escaped_name (codes "a b") ≡ codes "A%20B"
  pub plain : plain_line (plain_listed (codes "a.txt") (codes "hi")) ≡ codes "a.txt\tA.TEXT\ttext\t000-00-00\ttext\n"
  pub listed : listed_of (codes "a.txt\tA.TEXT\ttext\t000-00-00\ttext")
      ≡ Some (plain_listed (codes "a.txt") (codes "hi"))
