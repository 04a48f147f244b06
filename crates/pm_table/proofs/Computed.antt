-- The laws and the worked examples of lists for other programs, computed.
use Rattle.std.proofs.Common.{refl, ap, ◌++◌, List, ℕ, codes}
use Rattle.percent_encoding.specs.AsciiSet.{should_percent_encode}
use Rattle.percent_encoding.specs.Percent.{percent_encode, percent_encode_byte}
use Rattle.pm_filer.specs.Listing.{kind_word}
use Rattle.pm_volume.specs.Names.{characters_of}
use Rattle.pm_table.specs.Worked.{WorkedJson, WorkedRows, WorkedTabs}
use Rattle.pm_table.proofs.Fields.{cut, fields, one_line}
use Rattle.pm_table.proofs.Listed.{all, fitting, left_out, listed}
use Rattle.pm_table.proofs.Strings.{back}

pub worked_rows : WorkedRows
worked_rows = record {
  listed = listed;
  left_out = left_out;
  all = all;
  fitting = fitting;
}

pub worked_tabs : WorkedTabs
unfolding characters_of kind_word percent_encode percent_encode_byte should_percent_encode
worked_tabs = record {
  fields = fields;
  cut = cut;
  one_line = one_line;
  names = refl;
  kind_9 = refl;
}

pub worked_json : WorkedJson
unfolding characters_of kind_word
worked_json = record {
  back = back;
  letters = refl;
  escapes = refl;
  limits = refl;
  name = refl;
  kind_3 = refl;
  kind_10 = refl;
  date = refl;
  volume = λ image name blocks free largest. rw (name, blocks, free, largest) refl;
  no_file = λ image files. rw files refl;
  two_files = λ image first second. refl;
}
