use Rattle.std.proofs.Common.{◌≡◌, ◌++◌, length}
use Rattle.pm_source.specs.Words.{unindented, words}
use Rattle.pm_line.specs.Views.{texts_seen}
use Rattle.pm_line.proofs.words.words.Given as goal

-- The words so far, followed by the words of the remaining text, are all words. The remaining text begins with a word
-- or is empty.
abbrev pub invariant-words : goal.invariant-words
invariant-words l = record {
  words : texts_seen l.list.items ++ words l.rest ≡ words l.text;
  solid : unindented l.rest ≡ l.rest;
}

abbrev pub decreases-words : goal.decreases-words
decreases-words l = length l.rest
