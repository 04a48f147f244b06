use Rattle.std.proofs.Common.{◌≡◌, IfOk, sym, subst}
use Rattle.pm_line.specs.Views.{line_seen}
use Rattle.pm_line.proofs.Wholes.{whole_line, filled}
use Rattle.pm_line.proofs.spoken.line.Goals as goal

pub returns : goal.returns
returns c =
    let whole = whole_line c.args.number c.args.text.now c.uncommented.result.now c.cut.result.0.now c.cut.result.1.now
    (sym c.if-not-are_characters.ensures.characters) c.uncommented.ensures.text c.cut.ensures.word c.cut.ensures.rest
    (filled c.cut.result.0.now (sym c.if-is_empty.ensures)) in
    record { line = subst (λ x. IfOk c.line_of_words.result (λ l. line_seen l ≡ x)) (sym whole) c.line_of_words.ensures.line }
