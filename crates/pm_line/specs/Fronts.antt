-- The first words of a line: its label and the word that is its mnemonic or directive.
use Rattle.std.specs.Prelude.{ℕ, false, List, Option, None, Some, option_map}
use Rattle.pm_line.specs.declared.fronts.Front as code
use Rattle.pm_line.specs.Views.{text_seen}
use Rattle.pm_source.specs.Line.{Keyword, keyword_of, label_of, uncommented}
use Rattle.pm_source.specs.Source.{Name}
use Rattle.pm_source.specs.Words.{Cut, cut}

-- The label, if the first word is a label, and the word that is the mnemonic or directive.
pub record Front : Type 0 where
  pub label : Option Name
  pub word : List ℕ

abbrev pub front_by : Cut → Option Name → Front
front_by k None = record { label = None; word = k.word }
front_by k (Some label) = record { label = Some label; word = (cut k.rest).word }

unfoldable pub front_of : List ℕ → Front
front_of text = front_by (cut (uncommented false text)) (label_of (cut (uncommented false text)).word)

-- The mnemonic or directive that `front.word` is, or `None` if it is neither.
abbrev pub keyword_in : Front → Option Keyword
keyword_in front = keyword_of front.word

abbrev pub front_seen : code.Front → Front
front_seen front = record { label = option_map text_seen front.label; word = front.word.now }
