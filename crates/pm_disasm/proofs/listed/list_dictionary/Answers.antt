use Rattle.std.proofs.Common.{rules, ◌≡◌, ◌∙◌, ◌-◌, ◌+◌, ◌*◌, ◌++◌, ◌∷◌, [], List, ℕ, ap, length, string_bytes}
use Rattle.std.specs.Prelude.{codes}
use Rattle.pm_codefile.specs.Segments.{procedures_in}
use Rattle.pm_code.specs.Image.{listed_line}
use Rattle.pm_disasm.specs.Listing.{stored}
use Rattle.pm_disasm.proofs.listed.list_dictionary.Goals as goal

pub returns : goal.returns
returns c =
    let n : ℕ = c.args.slot in
    let segment : List ℕ = c.args.segment.now in
    let t1 : List ℕ = string_bytes c.args.text.now in
    let front : List ℕ = string_bytes c.push_front.new.text in
    let t2 : List ℕ = string_bytes c.writeln.new.self in
    let at : ℕ = c.saturating_sub-at.result in
    let begins : at ≡ length segment - (2 + 2 * procedures_in segment) = search rules in
    let line : t2 ≡ front ++ (codes ".DICT" ++ (10 ∷ [])) = c.in_ok-writeln.ensures.bytes in
    let last : t2 ≡ t1 ++ listed_line n (stored segment 0 at (length segment - at) (codes ".DICT")) =
    line ∙ c.in_ok-push_front.ensures.text (codes ".DICT") in
    record {
      text = last
          ∙ ap (λ j. t1 ++ listed_line n (stored segment 0 j (length segment - j) (codes ".DICT"))) begins;
    }
