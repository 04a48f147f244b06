-- Lemmas: the lines of a procedure follow each other without gaps from its first byte to the end of its table.
use Rattle.std.proofs.Common.{◌≡◌, ◌≤◌, ℕ, ◌+◌, ◌-◌, ◌*◌, Bool, true, false, cond, leb, List, [], ◌∷◌, ◌++◌, length}
use Rattle.std.proofs.Common.{drop, take, reverse, refl, sym, ap, ◌∙◌, subst, arith, append-nil, append_assoc, drop-drop, Option, Some, None, IfSome}
use Rattle.std.specs.Prelude.{codes}
use Rattle.std.specs.List.{AllByRecursion}
use Rattle.std.proofs.Math.Seq.{take-add}
use Rattle.std.proofs.lemmas.Bool.{and_parts, le-ltb, leb-true}
use Rattle.std.proofs.lemmas.List.{length-drop, length-reverse, length-take-le, take_all}
use Rattle.pm_codefile.specs.declared.table.Attributes.{Attributes}
use Rattle.pm_codefile.specs.Segments.{attributes_in, procedures_in}
use Rattle.pm_code.proofs.Laid.{are_segment_bytes, length-jtabs}
use Rattle.pm_code.specs.Image.{Listed, StandFrom, listed_bytes, listed_line, listed_lines}
use Rattle.pm_code.specs.Item.{IsByte, Item, size}
use Rattle.pm_code.specs.Program.{FollowFrom, IsProcedure, Procedure, end_of, jtab_of, procedures_end, segment_bytes}
use Rattle.pm_code.specs.Shown.{entry_line, joined, shown_item}
use Rattle.pm_disasm.proofs.Fronts.{drop-bytes, take-bytes}
use Rattle.pm_disasm.proofs.Joined.{code_joined}
use Rattle.pm_disasm.proofs.Stored.{length-entry_places}
use Rattle.pm_disasm.proofs.Stores.{lines_joined}
use Rattle.pm_disasm.proofs.Tabled.{table_lies}
use Rattle.pm_disasm.specs.Chosen.{IsTable}
use Rattle.pm_disasm.specs.Laws.{attributes_of}
use Rattle.pm_disasm.specs.Listing.{stored, stored_dictionary, stored_entries, stored_items, stored_procedure, table_listing_or, tables_listing}
use Rattle.pm_disasm.specs.Shown.{missing_line}
use Rattle.pm_disasm.specs.Split.{code_with, end_with, entry_places, fits, least_from, procedure_of, procedure_with, with_count}
use Rattle.law_text.proofs.Again.{later}
use Rattle.law_text.proofs.LeastCount.{least_fits}
use Rattle.law_text.proofs.ShownSegment.{AllFound, shown_well}
use Rattle.law_text.proofs.Standing.{dictionary_there}
use Rattle.law_text.specs.ListingLaws.{LinesCoverProcedures, LinesCoverSegments}

-- The lines follow each other from the offset `at` to the offset `end`, and have the bytes of the segment at their
-- offsets.
record Covers (segment : List ℕ) (at end : ℕ) (lines : List Listed) : Type 0 where
  within : at ≤ end
  placed : StandFrom at lines
  bytes : listed_bytes lines ≡ take (end - at) (drop at segment)

module _ (segment : List ℕ) where
  none_covers : (at end : ℕ) → at ≡ end → Covers segment at end []
  none_covers at end e =
      let no : end - at ≡ 0 = omega arith in
      record { within = omega arith; placed = tt; bytes = ap (λ n. take n (drop at segment)) (sym no) }

  -- If lines follow each other from `at + n` on, then a line of `n` bytes at `at` and these lines follow each other
  -- from `at` on.
  line_covers : (number at n end : ℕ) (what : List ℕ) (lines : List Listed) → end ≤ length segment → Covers segment (at + n) end lines
      → Covers segment at end (stored segment number at n what ∷ lines)
  line_covers number at n end what lines short c =
      let whole : n ≤ length (drop at segment) = omega (arith, length-drop at segment, c.within, short) in
      let sized : length (take n (drop at segment)) ≡ n = length-take-le n (drop at segment) whole in
      let split : end - at ≡ n + (end - (at + n)) = omega (arith, c.within) in
      record {
        within = omega (arith, c.within);
        placed = (refl, subst (λ m. StandFrom (at + m) lines) (sym sized) c.placed);
        bytes =
            ap (λ bs. take n (drop at segment) ++ bs) c.bytes
            ∙ ap (λ bs. take n (drop at segment) ++ take (end - (at + n)) bs) (sym (drop-drop n at segment))
            ∙ sym (take-add n (end - (at + n)) (drop at segment))
            ∙ ap (λ m. take m (drop at segment)) (sym split);
      }

  items_cover : (number at end : ℕ) (items : List (Item ℕ)) (rest : List Listed) → end ≤ length segment → Covers segment (end_of at items) end rest
      → Covers segment at end (stored_items segment number at items ++ rest)
  items_cover number at end [] rest short c = c
  items_cover number at end (item ∷ items) rest short c =
      line_covers number at (size at item) end (shown_item item) (stored_items segment number (at + size at item) items ++ rest) short
      (items_cover number (at + size at item) end items rest short c)

  entries_cover : (number at end : ℕ) (places : List ℕ) (rest : List Listed) → end ≤ length segment → Covers segment (at + 2 * length places) end rest
      → Covers segment at end (stored_entries segment number at places ++ rest)
  entries_cover number at end [] rest short c = subst (λ n. Covers segment n end rest) (omega arith) c
  entries_cover number at end (place ∷ places) rest short c =
      line_covers number at 2 end (entry_line place) (stored_entries segment number (at + 2) places ++ rest) short
      (entries_cover number (at + 2) end places rest short (subst (λ n. Covers segment n end rest) (omega arith) c))

-- If the lines `rest` begin after the table of a procedure, then the lines of the procedure with `count` entries and
-- `rest` follow each other from its first byte on.
module _ (segment : List ℕ) (a : Attributes) (b : AllByRecursion IsByte segment) (t : IsTable segment a) (end : ℕ) (rest : List Listed)
    (short : end ≤ length segment) (c : Covers segment (a.jtab + 2) end rest) where
  with_covers : (allowed : Bool) (count : ℕ) → a.enter + 8 + 2 * count ≤ a.jtab
      → Covers segment a.enter end (stored_procedure segment a (procedure_with segment a allowed count) ++ rest)
  with_covers allowed count room =
      let p : Procedure = procedure_with segment a allowed count in
      let code : List ℕ = code_with segment a count in
      let whole : end_with a count - a.enter ≤ length (drop a.enter segment) = omega (arith, length-drop a.enter segment, t.within, room) in
      let long : length code ≡ end_with a count - a.enter = length-take-le _ (drop a.enter segment) whole in
      let joins = code_joined (a.exit ∷ entry_places segment a.jtab 0 count) allowed a.enter code
      (take-bytes (end_with a count - a.enter) (drop a.enter segment) (drop-bytes a.enter segment b)) in
      let many : length p.entries ≡ count = length-entry_places segment a.jtab 0 count in
      let last : Listed = stored segment a.procedure (a.jtab - 8) 10 (codes ".ATTR") in
      let behind : a.jtab + 2 ≡ a.jtab - 8 + 10 = omega (arith, room) in
      let table : Covers segment (a.jtab - 8) end (last ∷ rest) =
      line_covers segment a.procedure (a.jtab - 8) 10 end (codes ".ATTR") rest short (subst (λ n. Covers segment n end rest) behind c) in
      let from : ℕ = a.jtab - 8 - 2 * length p.entries in
      let entries : List Listed = stored_entries segment a.procedure from (reverse p.entries) in
      let items : List Listed = stored_items segment a.procedure a.enter p.items in
      let there : a.jtab - 8 ≡ from + 2 * length (reverse p.entries) = omega (arith, many, room, length-reverse p.entries) in
      let jumps : Covers segment from end (entries ++ last ∷ rest) =
      entries_cover segment a.procedure from end (reverse p.entries) (last ∷ rest) short (subst (λ n. Covers segment n end (last ∷ rest)) there table) in
      let ends : from ≡ end_of a.enter p.items = omega (arith, many, room, joins.ends, long) in
      let all : Covers segment a.enter end (items ++ (entries ++ last ∷ rest)) =
      items_cover segment a.procedure a.enter end p.items (entries ++ last ∷ rest) short
      (subst (λ n. Covers segment n end (entries ++ last ∷ rest)) ends jumps) in
      let joined : items ++ (entries ++ last ∷ rest) ≡ (items ++ (entries ++ last ∷ [])) ++ rest =
      ap (λ ls. items ++ ls) (sym (append_assoc entries (last ∷ []) rest)) ∙ sym (append_assoc items (entries ++ last ∷ []) rest) in
      subst (Covers segment a.enter end) joined all

  count_covers : (o : Option ℕ) → IfSome o (λ u. fits segment a u ≡ true)
      → Covers segment a.enter end (stored_procedure segment a (with_count segment a o) ++ rest)
  count_covers None h = with_covers false 0 (omega (arith, t.enter))
  count_covers (Some u) h = with_covers true u (leb-true _ _ (and_parts (leb (a.enter + 8 + 2 * u) a.jtab) _ h).0)

  procedure_covers : Covers segment a.enter end (stored_procedure segment a (procedure_of segment a) ++ rest)
  unfolding procedure_of
  procedure_covers = count_covers (least_from segment a 0 61) (least_fits segment a 0 61)

-- The listed text of a procedure is the text of its lines.
procedure_text : (slot : ℕ) (segment : List ℕ) (n : ℕ) (a : Attributes) → a.enter ≤ a.exit
    → table_listing_or slot segment n (Some a) ≡ listed_lines slot (stored_procedure segment a (procedure_of segment a))
procedure_text slot segment n a after =
    ap (λ b. cond b (joined (missing_line a.procedure)) (listed_lines slot (stored_procedure segment a (procedure_of segment a)))) (le-ltb _ _ after)

pub lines_cover_procedures : LinesCoverProcedures
lines_cover_procedures slot segment n a b found after =
    let lines : List Listed = stored_procedure segment a (procedure_of segment a) in
    let t = table_lies segment n a found in
    let c = procedure_covers segment a b t (a.jtab + 2) [] t.within (none_covers segment (a.jtab + 2) (a.jtab + 2) refl) in
    let own : Covers segment a.enter (a.jtab + 2) lines = subst (Covers segment a.enter (a.jtab + 2)) (append-nil lines) c in
    record { lines = lines; text = procedure_text slot segment n a after; placed = own.placed; bytes = own.bytes }

-- ---- a whole segment

-- The lines of the procedures `ps`, followed by the lines `rest`, follow each other from the offset `at` to the offset
-- `end`.
record Follow (slot : ℕ) (segment : List ℕ) (number at end : ℕ) (ps : List Procedure) (rest : List Listed) : Type 0 where
  lines : List Listed
  text : tables_listing slot segment number (length ps) ++ listed_lines slot rest ≡ listed_lines slot lines
  covers : Covers segment at end lines

module _ (slot : ℕ) (segment : List ℕ) (b : AllByRecursion IsByte segment) (end : ℕ) (rest : List Listed) (short : end ≤ length segment) where
  follow : (number at : ℕ) (ps : List Procedure) → FollowFrom at ps → AllFound segment number ps → AllByRecursion IsProcedure ps
      → Covers segment (procedures_end at ps) end rest → Follow slot segment number at end ps rest
  follow number at [] f found are c = record { lines = rest; text = refl; covers = c }
  follow number at (p ∷ ps) f found are c =
      let a : Attributes = attributes_of number p in
      let more = follow (number + 1) (jtab_of p + 2) ps f.1 found.1 are.1 c in
      let own : List Listed = stored_procedure segment a (procedure_of segment a) in
      let behind : List ℕ = tables_listing slot segment (number + 1) (length ps) in
      let one : table_listing_or slot segment number (attributes_in segment number) ≡ listed_lines slot own =
      ap (table_listing_or slot segment number) found.0 ∙ procedure_text slot segment number a (later p.start p.items p.exit are.0.exit) in
      record {
        lines = own ++ more.lines;
        text = ap (λ bs. (bs ++ behind) ++ listed_lines slot rest) one
            ∙ append_assoc (listed_lines slot own) behind (listed_lines slot rest)
            ∙ ap (λ bs. listed_lines slot own ++ bs) more.text
            ∙ sym (lines_joined slot own more.lines);
        covers = subst (λ n. Covers segment n end (own ++ more.lines)) f.0
            (procedure_covers segment a b (table_lies segment number a found.0) end more.lines short more.covers);
      }

pub lines_cover_segments : LinesCoverSegments
lines_cover_segments s h room =
    let segment : List ℕ = segment_bytes s in
    let ps : List Procedure = s.procedures in
    let at : ℕ = procedures_end 0 ps in
    let well = shown_well s h room in
    let t = dictionary_there s h in
    let size : ℕ = length segment - at in
    let dictionary : Listed = stored segment 0 at size (codes ".DICT") in
    let long : length segment ≡ at + (2 * length ps + 2) = omega (arith, t.ends, length-jtabs ps) in
    let begins : length segment - (2 + 2 * procedures_in segment) ≡ at = omega (arith, long, well.count) in
    let same : stored_dictionary segment ≡ dictionary = ap (λ n. stored segment 0 n (length segment - n) (codes ".DICT")) begins in
    let within : length segment ≤ length segment = omega arith in
    let last : Covers segment at (length segment) (dictionary ∷ []) =
    line_covers segment 0 at size (length segment) (codes ".DICT") [] within (none_covers segment (at + size) (length segment) (omega (arith, long))) in
    let all = follow s.number segment (are_segment_bytes s h room) (length segment) (dictionary ∷ []) within 1 0 ps h.follow well.found h.procedures last in
    let whole : take (length segment - 0) (drop 0 segment) ≡ segment = take_all (length segment - 0) segment (omega arith) in
    record {
      lines = all.lines;
      text = ap (λ n. tables_listing s.number segment 1 n ++ listed_line s.number (stored_dictionary segment)) well.count
          ∙ ap (λ l. tables_listing s.number segment 1 (length ps) ++ listed_line s.number l) same
          ∙ ap (λ bs. tables_listing s.number segment 1 (length ps) ++ bs) (sym (append-nil (listed_line s.number dictionary)))
          ∙ all.text;
      placed = all.covers.placed;
      bytes = all.covers.bytes ∙ whole;
    }
