use Rattle.std.proofs.Common.{◌≡◌, ◌∙◌, arith, ℕ, List, ap, drop, map, sym}
use Rattle.std.specs.Prelude.{slice_index, ◌+◌}
use Rattle.std.specs.Int.{w8, cast_unsigned}
use Rattle.pm_code.specs.Item.{Item}
use Rattle.pm_code.specs.Program.{Procedure}
use Rattle.pm_code.specs.Views.{placed_item}
use Rattle.pm_disasm.specs.Split.{entry_places, procedure_with}
use Rattle.pm_disasm.specs.Follow.{written_by}
use Rattle.pm_disasm.specs.Chosen.{IsReading, IsTable}
use Rattle.pm_disasm.specs.Views.{has, part_seen}
use Rattle.pm_disasm.proofs.Readings.{items_read}
use Rattle.pm_disasm.proofs.Tabled.{table_lies}
use Rattle.pm_disasm.proofs.items.code.Goals as goal

abbrev made : ℕ → ℕ → ℕ → ℕ → List (Item ℕ) → ℕ → List ℕ → Procedure
made level parameters locals start items exit entries =
    record { level = level; parameters = parameters; locals = locals; start = start; items = items; exit = exit; entries = entries }

-- If the fields of two procedures are equal, then the procedures are equal.
same_parts : (l m pa lo s b x y : ℕ) (is js : List (Item ℕ)) (es fs : List ℕ) → l ≡ m → s ≡ b → is ≡ js → x ≡ y → es ≡ fs
    → made l pa lo s is x es ≡ made m pa lo b js y fs
same_parts l m pa lo s b x y is js es fs level start items exit entries =
    ap (λ n. made n pa lo s is x es) level ∙ ap (λ n. made m pa lo n is x es) start ∙ ap (λ ks. made m pa lo b ks x es) items
    ∙ ap (λ n. made m pa lo b js n es) exit ∙ ap (λ ks. made m pa lo b js y ks) entries

pub shown_code-requires-clause-table : goal.shown_code-requires-clause-table
shown_code-requires-clause-table c = table_lies c.args.segment.now c.requires.of_segment.0 c.args.attributes.now c.requires.of_segment.1

pub bounds-segment-from : goal.bounds-segment-from
bounds-segment-from c =
    let table : IsTable c.args.segment.now c.args.attributes.now =
    table_lies c.args.segment.now c.requires.of_segment.0 c.args.attributes.now c.requires.of_segment.1 in
    omega (arith, c.from.ensures, table.within)

pub returns : goal.returns
returns c =
    let segment = c.args.segment.now in
    let a = c.args.attributes.now in
    let table : IsTable segment a = table_lies segment c.requires.of_segment.0 a c.requires.of_segment.1 in
    let shown = c.in_ok-shown.shown in
    let r = shown.reading in
    let t = c.in_ok-shown.ensures.shown.0 in
    let read : IsReading segment a t r = c.in_ok-shown.ensures.shown.2 in
    let level : slice_index segment (c.from.result + 1) ≡ cast_unsigned w8 a.level =
    ap (slice_index segment) (ap (λ n. n + 1) c.from.ensures) ∙ sym (table.level (omega (arith, c.type_inv.segment (a.jtab + 1)))) in
    let items : map placed_item c.in_ok-items.items.items ≡ (procedure_with segment a shown.allowed t).items = c.in_ok-items.ensures.items
    ∙ ap (λ ps. written_by (has r.code.boundaries) shown.allowed (map part_seen ps)) c.deref.ensures.value
    ∙ items_read segment a t r shown.allowed table read in
    let entries : c.in_ok-entries.entries.items ≡ entry_places segment a.jtab 0 t = c.in_ok-entries.ensures.offsets
    ∙ c.entries_of.ensures.entries ∙ ap (drop 1) (c.deref-2.ensures.value ∙ read.forced) in
    record {
      procedure = same_parts _ _ _ _ _ _ _ _ _ _ _ _ level c.from-2.ensures items c.from-3.ensures entries
          ∙ sym c.in_ok-shown.ensures.shown.1;
    }
