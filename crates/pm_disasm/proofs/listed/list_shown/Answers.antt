use Rattle.std.proofs.Common.{◌≡◌, ◌∙◌, ◌-◌, ◌++◌, ◌∷◌, [], List, ℕ, ap, arith, drop, length, map, reverse, string_bytes, sym}
use Rattle.std.specs.Prelude.{codes}
use Rattle.pm_code.specs.Image.{listed_line, listed_lines}
use Rattle.pm_disasm.specs.Chosen.{IsReading}
use Rattle.pm_disasm.specs.Follow.{written_by}
use Rattle.pm_disasm.specs.Listing.{stored, stored_entries, stored_items, stored_procedure}
use Rattle.pm_disasm.specs.Split.{entry_places}
use Rattle.pm_disasm.specs.Views.{has, part_seen}
use Rattle.pm_disasm.proofs.Stored.{length-entry_places}
use Rattle.pm_disasm.proofs.Stores.{procedure_stored}
use Rattle.pm_disasm.proofs.listed.list_shown.Goals as goal

pub list_entries-requires : goal.list_entries-requires
list_entries-requires c =
    let segment = c.args.from.segment.now in
    let a = c.args.a.now in
    let t = c.in_ok-shown.ensures.shown.0 in
    let read : IsReading segment a t c.in_ok-shown.shown.reading = c.in_ok-shown.ensures.shown.2 in
    let entries : c.entries_of.result.now ≡ entry_places segment a.jtab 0 t =
    c.entries_of.ensures.entries ∙ ap (drop 1) (c.deref.ensures.value ∙ read.forced) in
    let count : length c.entries_of.result.now ≡ t = ap length entries ∙ length-entry_places segment a.jtab 0 t in
    record { within = omega (arith, count, read.end, read.room, c.requires.table.within) }

pub returns : goal.returns
returns c =
    let segment : List ℕ = c.args.from.segment.now in
    let slot : ℕ = c.args.from.slot in
    let number : ℕ = c.args.from.procedure in
    let a = c.args.a.now in
    let shown = c.in_ok-shown.shown in
    let r = shown.reading in
    let t = c.in_ok-shown.ensures.shown.0 in
    let read : IsReading segment a t r = c.in_ok-shown.ensures.shown.2 in
    let entries : c.entries_of.result.now ≡ entry_places segment a.jtab 0 t =
    c.entries_of.ensures.entries ∙ ap (drop 1) (c.deref.ensures.value ∙ read.forced) in
    let t0 : List ℕ = string_bytes c.args.text.now in
    let t1 : List ℕ = string_bytes c.list_code.new.text in
    let t2 : List ℕ = string_bytes c.list_entries.new.text in
    let front : List ℕ = string_bytes c.push_front.new.text in
    let t3 : List ℕ = string_bytes c.writeln.new.self in
    let items = written_by (has r.code.boundaries) shown.allowed (map part_seen r.code.parts.items) in
    let one : t1 ≡ t0 ++ listed_lines slot (stored_items segment a.procedure a.enter items) = c.in_ok-list_code.ensures.text
    ∙ ap (λ n. t0 ++ listed_lines slot (stored_items segment n r.code.boundaries.begin items)) c.requires.number
    ∙ ap (λ at. t0 ++ listed_lines slot (stored_items segment a.procedure at items)) read.begin in
    let two : t2 ≡ t1 ++ listed_lines slot (stored_entries segment a.procedure r.end (reverse (entry_places segment a.jtab 0 t))) =
    c.in_ok-list_entries.ensures.text
    ∙ ap (λ n. t1 ++ listed_lines slot (stored_entries segment n r.end (reverse c.entries_of.result.now))) c.requires.number
    ∙ ap (λ es. t1 ++ listed_lines slot (stored_entries segment a.procedure r.end (reverse es))) entries in
    let line : t3 ≡ front ++ (codes ".ATTR" ++ (10 ∷ [])) = c.in_ok-writeln.ensures.bytes in
    let three : t3 ≡ t2 ++ listed_line slot (stored segment a.procedure (a.jtab - 8) 10 (codes ".ATTR")) =
    line ∙ c.in_ok-push_front.ensures.text (codes ".ATTR")
    ∙ ap (λ n. t2 ++ listed_line slot (stored segment n (c.from.result - 8) 10 (codes ".ATTR"))) c.requires.number
    ∙ ap (λ j. t2 ++ listed_line slot (stored segment a.procedure (j - 8) 10 (codes ".ATTR"))) c.from.ensures in
    record {
      text = procedure_stored slot segment a t r shown.allowed t0 t1 t2 t3 c.requires.table read one two three
          ∙ ap (λ p. t0 ++ listed_lines slot (stored_procedure segment a p)) (sym c.in_ok-shown.ensures.shown.1);
    }
