use Rattle.std.proofs.Common.{◌≡◌, ◌∙◌, drop, map, sym, ap, subst}
use Rattle.std.specs.Prelude.{◌||◌}
use Rattle.std.specs.List.{AllByRecursion}
use Rattle.pm_code.specs.Program.{is_among}
use Rattle.pm_code.specs.Shown.{named_places}
use Rattle.pm_disasm.specs.Split.{entry_places}
use Rattle.pm_disasm.specs.Follow.{written_by}
use Rattle.pm_disasm.specs.Chosen.{IsReading}
use Rattle.pm_disasm.specs.Views.{IsInside, has, part_seen}
use Rattle.pm_disasm.proofs.ShownCode.{inside_code, places_read}
use Rattle.pm_disasm.proofs.procedures.places_shown.Goals as goal

pub add_entries-requires : goal.add_entries-requires
add_entries-requires c =
    let segment = c.args.segment.now in
    let a = c.args.a.now in
    let r = c.args.shown.now.reading in
    let t = c.requires.reading.0 in
    let read : IsReading segment a t r = c.requires.reading.1 in
    let entries : c.entries_of.result.now ≡ entry_places segment a.jtab 0 t =
    c.entries_of.ensures.entries ∙ ap (drop 1) (c.deref-2.ensures.value ∙ read.forced) in
    record {
      inside = subst (AllByRecursion (IsInside c.in_ok-named.named)) (sym entries)
          (inside_code segment a t r c.in_ok-named.named read c.in_ok-named.ensures.alike);
    }

pub returns : goal.returns
returns c = record {
  places = λ t read place.
      let segment = c.args.segment.now in
      let a = c.args.a.now in
      let shown = c.args.shown.now in
      let r = shown.reading in
      let entries : c.entries_of.result.now ≡ entry_places segment a.jtab 0 t =
      c.entries_of.ensures.entries ∙ ap (drop 1) (c.deref-2.ensures.value ∙ read.forced) in
      places_read segment a t r shown.allowed c.in_ok-named.named c.add_entries.new.named c.requires.table read
      (λ p. c.in_ok-named.ensures.has p ∙ ap (λ ps. is_among (named_places
      (written_by (has r.code.boundaries) shown.allowed (map part_seen ps))) p) c.deref.ensures.value)
      (λ p. c.add_entries.ensures.has p ∙ ap (λ es. has c.in_ok-named.named p || is_among es p) entries)
      place;
}
