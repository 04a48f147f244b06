use Rattle.std.proofs.Common.{◌≡◌, ◌∙◌, ◌++◌, ◌∷◌, [], arith, ℕ, List, drop, map, refl, sym, ap, string_bytes}
use Rattle.std.specs.Prelude.{codes, slice_index, ◌+◌}
use Rattle.std.specs.Fmt.{decimal}
use Rattle.pm_code.specs.Shown.{entry_line, joined, level_text, procedure_lines, words_text}
use Rattle.pm_disasm.specs.Split.{entry_places, procedure_with}
use Rattle.pm_disasm.specs.Follow.{code_lines_by, written_by}
use Rattle.pm_disasm.specs.Chosen.{IsReading}
use Rattle.pm_disasm.specs.Views.{has, part_seen}
use Rattle.pm_disasm.proofs.ShownCode.{four_pieces, procedure_joined}
use Rattle.pm_disasm.proofs.procedures.push_shown.Goals as goal

pub returns : goal.returns
returns c =
    let segment = c.args.segment.now in
    let a = c.args.a in
    let shown = c.in_ok-shown.shown in
    let r = shown.reading in
    let t = c.in_ok-shown.ensures.shown.0 in
    let read : IsReading segment a t r = c.in_ok-shown.ensures.shown.2 in
    let header : List ℕ = codes ".PROC" ++ words_text (decimal a.procedure ∷ level_text (procedure_with segment a shown.allowed t).level ∷ decimal a.parameters
    ∷ decimal a.locals ∷ []) in
    let entries : c.entries_of.result.now ≡ entry_places segment a.jtab 0 t =
    c.entries_of.ensures.entries ∙ ap (drop 1) (c.deref-2.ensures.value ∙ read.forced) in
    let code : List ℕ = joined (code_lines_by (has c.in_ok-named.named) a.exit a.enter
    (written_by (has r.code.boundaries) shown.allowed (map part_seen r.code.parts.items))) in
    let first : string_bytes c.writeln.new.self ≡ string_bytes c.args.text.now ++ (header ++ 10 ∷ []) =
    c.in_ok-writeln.ensures.bytes ∙ ap (λ l. string_bytes c.args.text.now
    ++ ((codes ".PROC" ++ words_text (decimal a.procedure ∷ level_text l ∷ decimal a.parameters ∷ decimal a.locals ∷ [])) ++ 10 ∷ []))
    (ap (slice_index segment) (ap (λ n. n + 1) c.from.ensures) ∙ sym (c.requires.table.level (omega (arith, c.type_inv.segment (a.jtab + 1))))) in
    let second : string_bytes c.push_code.new.text ≡ string_bytes c.writeln.new.self ++ code = c.in_ok-push_code.ensures.text
    ∙ ap (λ e. string_bytes c.writeln.new.self ++ joined (code_lines_by (has c.in_ok-named.named) e r.code.boundaries.begin
    (written_by (has r.code.boundaries) shown.allowed (map part_seen c.deref.result.now)))) c.from-exit.ensures
    ∙ ap (λ b. string_bytes c.writeln.new.self ++ joined (code_lines_by (has c.in_ok-named.named) a.exit b
    (written_by (has r.code.boundaries) shown.allowed (map part_seen c.deref.result.now)))) read.begin
    ∙ ap (λ ps. string_bytes c.writeln.new.self ++ joined (code_lines_by (has c.in_ok-named.named) a.exit a.enter
    (written_by (has r.code.boundaries) shown.allowed (map part_seen ps)))) c.deref.ensures.value in
    let third : string_bytes c.push_entries.new.text ≡ string_bytes c.push_code.new.text ++ joined (map entry_line (entry_places segment a.jtab 0 t)) =
    c.in_ok-push_entries.ensures.text ∙ ap (λ es. string_bytes c.push_code.new.text ++ joined (map entry_line es)) entries in
    let fourth : string_bytes c.writeln-2.new.self ≡ string_bytes c.push_entries.new.text ++ (codes ".END" ++ 10 ∷ []) = c.in_ok-writeln-2.ensures.bytes in
    record {
      text = four_pieces _ _ _ _ _ _ _ _ _ first second third fourth
          ∙ ap (λ u. string_bytes c.args.text.now ++ u)
          (sym (procedure_joined segment a t a.procedure r shown.allowed c.in_ok-named.named header c.requires.table read
          (c.in_ok-named.ensures.places t read) refl))
          ∙ ap (λ p. string_bytes c.args.text.now ++ joined (procedure_lines a.procedure p)) (sym c.in_ok-shown.ensures.shown.1);
    }
