use Rattle.std.proofs.Common.{◌∙◌, ◌++◌, ℕ, List, length, ap, sym, slice_range, arith}
use Rattle.std.proofs.lemmas.List.{at_drop_all, take_rest}
use Rattle.pm_textfile.specs.Reading.{text_from}
use Rattle.pm_textfile.specs.declared.decoding.LinePart.TheVariants.{LineStart}
use Rattle.pm_textfile.proofs.decoding.decode.Goals as goal

pub returns-clause-text : goal.returns-clause-text
returns-clause-text c =
    let bytes = c.args.bytes.now in
    let pages = slice_range bytes 1024 (length bytes) in
    let done = at_drop_all (text_from c.loop-byte.place) pages c.loop-byte.byte-index (omega arith) in
    c.in_ok-end_line.ensures.ended
    ∙ ap (λ (rest : List ℕ). c.loop-byte.text.items ++ rest) (sym done)
    ∙ c.loop-byte.invariant.whole ∙ ap (text_from LineStart) (take_rest bytes 1024)
