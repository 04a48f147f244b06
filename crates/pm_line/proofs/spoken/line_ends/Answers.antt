use Rattle.std.proofs.Common.{◌∙◌, sym, ap}
use Rattle.std.specs.Prelude.{codes}
use Rattle.std.specs.Str.{bytes_eq}
use Rattle.pm_source.specs.Words.{cut}
use Rattle.pm_line.proofs.EndLines.{ends_by_word}
use Rattle.pm_line.proofs.spoken.line_ends.Goals as goal

pub returns : goal.returns
returns c = record {
  ends = λ number. c.eq.ensures
      ∙ (ap (λ end. bytes_eq c.cut.result.0.now end) c.as_slice.ensures
      ∙ (ap (λ word. bytes_eq word (codes ".END")) (c.cut.ensures.word ∙ ap (λ text. (cut text).word) c.uncommented.ensures.text)
      ∙ sym (ends_by_word number c.args.text.now)));
}
