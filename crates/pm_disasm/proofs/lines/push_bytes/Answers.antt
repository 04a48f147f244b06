use Rattle.std.proofs.Common.{◌≡◌, ◌+◌, ◌++◌, ◌∷◌, [], List, ℕ, ◌∙◌, drop, get_or, map, sym, arith, refl, append_assoc, string_bytes}
use Rattle.std.specs.Prelude.{codes}
use Rattle.std.specs.Fmt.{decimal}
use Rattle.std.proofs.lemmas.List.{at_drop_more}
use Rattle.pm_code.specs.Item.Item.{OneByte}
use Rattle.pm_disasm.specs.Follow.{code_lines_by, lines_at_by}
use Rattle.pm_code.specs.Shown.{joined}
use Rattle.pm_disasm.specs.Views.{has}
use Rattle.pm_disasm.proofs.Lined.{byte_joined}
use Rattle.pm_disasm.proofs.lines.push_bytes.Goals as goal

pub loop-byte-preserved : goal.loop-byte-preserved
loop-byte-preserved c =
    let bytes = c.args.bytes.now in
    let k = c.loop-byte.byte-index in
    let test = has c.args.marks.named.now in
    let exit = c.args.marks.exit in
    let place = c.loop-byte.place in
    let b : ℕ = get_or bytes k 0 in
    let before : List ℕ = string_bytes c.loop-byte.text in
    let line : string_bytes c.writeln.new.self ≡ (before ++ joined (lines_at_by test exit place [])) ++ (codes "  .BYTE " ++ (decimal b ++ 10 ∷ [])) =
    rw (c.in_ok-writeln.ensures.bytes, c.in_ok-push_place.ensures.text) (simp append_assoc refl) in
    record {
      place = omega (arith, c.loop-byte.invariant.place);
      written = λ rest.
          byte_joined test exit place before (string_bytes c.writeln.new.self) b (map OneByte (drop (k + 1) bytes) ++ rest) line
          ∙ sym (at_drop_more (λ bs. before ++ joined (code_lines_by test exit place (map OneByte bs ++ rest))) bytes k 0 c.loop-byte-test.true)
          ∙ c.loop-byte.invariant.written rest;
    }
