use Rattle.std.proofs.Common.{◌≡◌, ◌+◌, sym, ◌∙◌, arith, false, not, ap, take, drop, get_or, if◌then◌else◌}
use Rattle.std.specs.Prelude.{◌==◌, ◌&&◌}
use Rattle.std.proofs.lemmas.Bool.Decides.{nat_tests}
use Rattle.pm_source.specs.Line.{pieces}
use Rattle.pm_line.specs.Views.{onto_piece}
use Rattle.pm_line.proofs.Cuts.{piece_on, piece_ends, piece_whole}
use Rattle.pm_line.proofs.pieces.first_piece.Goals as goal
use Rattle.pm_line.proofs.pieces.first_piece.Goals.{else-byte-eq44-via-then-byte-eq44+else-not-quoted, else-byte-eq44-via-else-byte-eq44}
use Rattle.pm_line.proofs.pieces.first_piece.Goals.{then-byte-eq34, else-byte-eq34}

pub returns-then-not-quoted-clause-pieces : goal.returns-then-not-quoted-clause-pieces
returns-then-not-quoted-clause-pieces c =
    let text = c.args.text.now in
    let i = c.loop-i.i in
    rw (c.split_at.ensures.front, c.split_at-then-not-quoted.ensures.back)
    (sym c.loop-i.invariant ∙ ap (λ q. onto_piece (take i text) (pieces q (drop i text))) c.if-not-quoted.true
    ∙ piece_ends text i c.loop-i-test.true c.if-byte-eq44.true)

pub loop-i-preserved : goal.loop-i-preserved
loop-i-preserved c =
    let text = c.args.text.now in
    let i = c.loop-i.i in
    let on : c.if-byte-eq34.quoted ≡ (if get_or text i 0 == 34 then not c.loop-i.quoted else c.loop-i.quoted) = elim c.if-byte-eq34.branch [
      | then-byte-eq34 w ↦ grind (arith, nat_tests, w.quoted-is, w.if-byte-eq34)
      | else-byte-eq34 w ↦ grind (arith, nat_tests, w.quoted-is, w.if-byte-eq34)
    ] in
    let no_comma : ((get_or text i 0 == 44) && not c.loop-i.quoted) ≡ false = elim c.else-byte-eq44.branch [
      | else-byte-eq44-via-then-byte-eq44+else-not-quoted w ↦ grind (arith, nat_tests, w)
      | else-byte-eq44-via-else-byte-eq44 w ↦ grind (arith, nat_tests, w)
    ] in
    ap (λ q. onto_piece (take (i + 1) text) (pieces q (drop (i + 1) text))) on ∙ piece_on text i c.loop-i.quoted c.loop-i-test.true no_comma
    ∙ c.loop-i.invariant

pub returns-clause-pieces : goal.returns-clause-pieces
returns-clause-pieces c = sym c.loop-i.invariant ∙ piece_whole c.args.text.now c.loop-i.i c.loop-i.quoted c.loop-i-test.false
