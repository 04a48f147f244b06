use Rattle.std.proofs.Common.{◌≡◌, ◌+◌, ◌++◌, ◌∷◌, ◌∙◌, List, ℕ, ap, arith, length, map, reverse, sym, string_bytes}
use Rattle.pm_code.specs.Image.{Listed, listed_attributes, listed_entries, listed_items, listed_line, listed_lines, listed_procedure}
use Rattle.pm_code.specs.Program.{attribute_bytes, code_bytes, code_end, entry_bytes, procedure_bytes}
use Rattle.pm_code.specs.Views.{placed_item, procedure_seen}
use Rattle.pm_code.proofs.ListedMore.{line_more}
use Rattle.pm_code.proofs.Lists.{on_ok_map}
use Rattle.pm_code.proofs.Pushed.{Coded, Tabled, code_long, procedure_pushed, tables_long}
use Rattle.pm_code.proofs.listing.list_procedure.Goals as goal

pub list_entries-requires : goal.list_entries-requires
list_entries-requires c =
    let p = procedure_seen c.args.procedure.now in
    let before : List ℕ = c.args.bytes.now.items in
    let code : List ℕ = c.list_code.new.bytes.items in
    let laid : Coded before code p = record {
      start = c.requires.start;
      bytes = c.in_ok-list_code.ensures.bytes ∙ ap (λ is. before ++ code_bytes (length before) (map placed_item is)) c.deref.ensures.value;
    } in
    record { short = omega (arith, code_long before code p laid, c.requires.short, ap length c.deref-2.ensures.value) }

pub list_attributes-requires-clause-there : goal.list_attributes-requires-clause-there
list_attributes-requires-clause-there c =
    let p = procedure_seen c.args.procedure.now in
    let before : List ℕ = c.args.bytes.now.items in
    let code : List ℕ = c.list_code.new.bytes.items in
    let laid : Tabled before code c.list_entries.new.bytes.items p = record {
      coded = record {
        start = c.requires.start;
        bytes = c.in_ok-list_code.ensures.bytes ∙ ap (λ is. before ++ code_bytes (length before) (map placed_item is)) c.deref.ensures.value;
      };
      bytes = c.in_ok-list_entries.ensures.bytes ∙ ap (λ ps. code ++ entry_bytes (length code) (reverse ps)) c.deref-2.ensures.value;
    } in
    tables_long before code c.list_entries.new.bytes.items p laid

pub list_attributes-requires-clause-short : goal.list_attributes-requires-clause-short
list_attributes-requires-clause-short c =
    let there = list_attributes-requires-clause-there c in
    omega (arith, there, c.requires.short)

pub returns-clause-bytes : goal.returns-clause-bytes
returns-clause-bytes c =
    let p = procedure_seen c.args.procedure.now in
    let number : ℕ = c.args.place.procedure in
    let before : List ℕ = c.args.bytes.now.items in
    let code : List ℕ = c.list_code.new.bytes.items in
    let tables : List ℕ = c.list_entries.new.bytes.items in
    let after : List ℕ = c.list_attributes.new.bytes.items in
    let laid : Tabled before code tables p = record {
      coded = record {
        start = c.requires.start;
        bytes = c.in_ok-list_code.ensures.bytes ∙ ap (λ is. before ++ code_bytes (length before) (map placed_item is)) c.deref.ensures.value;
      };
      bytes = c.in_ok-list_entries.ensures.bytes ∙ ap (λ ps. code ++ entry_bytes (length code) (reverse ps)) c.deref-2.ensures.value;
    } in
    on_ok_map c.list_attributes.result (after ≡ tables ++ attribute_bytes number p) (after ≡ before ++ procedure_bytes number p)
    (procedure_pushed before code tables after number p laid) c.list_attributes.ensures.bytes

pub returns-clause-text : goal.returns-clause-text
returns-clause-text c =
    let p = procedure_seen c.args.procedure.now in
    let segment : ℕ = c.args.place.segment in
    let number : ℕ = c.args.place.procedure in
    let before : List ℕ = c.args.bytes.now.items in
    let code : List ℕ = c.list_code.new.bytes.items in
    let laid : Coded before code p = record {
      start = c.requires.start;
      bytes = c.in_ok-list_code.ensures.bytes ∙ ap (λ is. before ++ code_bytes (length before) (map placed_item is)) c.deref.ensures.value;
    } in
    let last : Listed = listed_attributes number p in
    let first : List ℕ = string_bytes c.args.text.now in
    let second : List ℕ = string_bytes c.list_code.new.text in
    let third : List ℕ = string_bytes c.list_entries.new.text in
    let fourth : List ℕ = string_bytes c.list_attributes.new.text in
    on_ok_map c.list_attributes.result (fourth ≡ third ++ listed_line segment last)
    ((rest : List Listed) → fourth ++ listed_lines segment rest ≡ first ++ listed_lines segment (listed_procedure number p rest))
    (λ e rest. line_more segment last third fourth rest e
    ∙ c.in_ok-list_entries.ensures.text (last ∷ rest)
    ∙ ap (λ ps. second ++ listed_lines segment (listed_entries number (length code) (reverse ps) ++ last ∷ rest)) c.deref-2.ensures.value
    ∙ ap (λ n. second ++ listed_lines segment (listed_entries number n (reverse p.entries) ++ last ∷ rest)) (code_long before code p laid)
    ∙ c.in_ok-list_code.ensures.text (listed_entries number (code_end p) (reverse p.entries) ++ last ∷ rest)
    ∙ ap (λ is. first ++ listed_lines segment (listed_items number (length before) (map placed_item is)
    ++ (listed_entries number (code_end p) (reverse p.entries) ++ last ∷ rest))) c.deref.ensures.value
    ∙ ap (λ n. first ++ listed_lines segment (listed_items number n p.items
    ++ (listed_entries number (code_end p) (reverse p.entries) ++ last ∷ rest))) (sym c.requires.start))
    c.list_attributes.ensures.text
