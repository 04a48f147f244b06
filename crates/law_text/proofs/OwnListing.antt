-- Lemmas: the listing of the bytes of a segment is the listing of the program that they spell.
use Rattle.std.proofs.Common.{◌≡◌, ℕ, ◌+◌, ◌-◌, ◌*◌, false, cond, ltb, List, [], ◌∷◌, ◌++◌, length, map, drop, take}
use Rattle.std.proofs.Common.{reverse, refl, sym, ap, ◌∙◌, arith, append-nil, append_assoc, drop-drop, length-append}
use Rattle.std.specs.Prelude.{codes}
use Rattle.std.specs.List.{AllByRecursion}
use Rattle.std.proofs.Math.Seq.{drop-append_seam, take-append_seam}
use Rattle.std.proofs.lemmas.Bool.{le-ltb}
use Rattle.std.proofs.lemmas.List.{length-reverse, map-append}
use Rattle.pm_codefile.specs.Segments.{attributes_in, procedures_in}
use Rattle.pm_code.specs.Image.{Listed, StandFrom, listed_attributes, listed_bytes, listed_dictionary, listed_entries, listed_items}
use Rattle.pm_code.specs.Image.{listed_line, listed_lines, listed_procedure, listed_procedures, listed_segment}
use Rattle.pm_code.specs.Item.{Item, size}
use Rattle.pm_code.specs.Program.{IsProcedure, Procedure, code_end, dictionary_bytes, entry_bytes, jtab_of, procedures_end, segment_bytes}
use Rattle.pm_code.specs.Shown.{entry_line, joined, shown_item}
use Rattle.pm_code.proofs.Laid.{dictionary_reversed, length-jtabs}
use Rattle.law_text.proofs.Listed.{listing_is_placed, listing_is_segment}
use Rattle.pm_code.proofs.Sizes.{length-item}
use Rattle.pm_code.proofs.Stored.{length-entry_bytes}
use Rattle.pm_disasm.specs.Laws.{attributes_of}
use Rattle.pm_disasm.specs.Listing.{ListingIsProgrammed, stored, stored_dictionary, stored_entries, stored_items, stored_procedure}
use Rattle.pm_disasm.specs.Listing.{table_listing_or, tables_listing}
use Rattle.pm_disasm.specs.Shown.{missing_line}
use Rattle.pm_disasm.specs.Split.{procedure_of}
use Rattle.law_text.proofs.Again.{later}
use Rattle.law_text.proofs.ShownSegment.{AllFound, shown_from, shown_well}
use Rattle.law_text.proofs.Standing.{dictionary_there}
use Rattle.pm_disasm.proofs.Stores.{lines_joined}

-- Returns the line with the bytes of the segment at the line's offset.
abbrev restored : List ℕ → Listed → Listed
restored segment l = stored segment l.procedure l.at (length l.bytes) l.what

line_restored : (segment rest : List ℕ) (at : ℕ) (l : Listed) → l.at ≡ at → drop at segment ≡ l.bytes ++ rest → restored segment l ≡ l
line_restored segment rest at l here there =
    ap (λ bs. record { procedure = l.procedure; at = l.at; bytes = bs; what = l.what })
    (ap (λ n. take (length l.bytes) (drop n segment)) here ∙ ap (take (length l.bytes)) there ∙ take-append_seam l.bytes rest)

-- Lines that follow each other are those of the bytes at their offsets.
lines_restored : (segment rest : List ℕ) (at : ℕ) (ls : List Listed) → drop at segment ≡ listed_bytes ls ++ rest → StandFrom at ls
    → map (restored segment) ls ≡ ls
lines_restored segment rest at [] h s = refl
lines_restored segment rest at (l ∷ ls) h s =
    let here : drop at segment ≡ l.bytes ++ (listed_bytes ls ++ rest) = h ∙ append_assoc l.bytes (listed_bytes ls) rest in
    let next : drop (at + length l.bytes) segment ≡ listed_bytes ls ++ rest =
    sym (drop-drop (length l.bytes) at segment) ∙ ap (drop (length l.bytes)) here ∙ drop-append_seam l.bytes (listed_bytes ls ++ rest) in
    ap (λ x. x ∷ map (restored segment) ls) (line_restored segment (listed_bytes ls ++ rest) at l s.0 here)
    ∙ ap (λ xs. l ∷ xs) (lines_restored segment rest (at + length l.bytes) ls next s.1)

items_are : (segment : List ℕ) (number at : ℕ) (items : List (Item ℕ))
    → map (restored segment) (listed_items number at items) ≡ stored_items segment number at items
items_are segment number at [] = refl
items_are segment number at (item ∷ items) =
    ap (λ n. stored segment number at n (shown_item item) ∷ map (restored segment) (listed_items number (at + size at item) items)) (length-item at item)
    ∙ ap (λ ls. stored segment number at (size at item) (shown_item item) ∷ ls) (items_are segment number (at + size at item) items)

entries_are : (segment : List ℕ) (number at : ℕ) (places : List ℕ)
    → map (restored segment) (listed_entries number at places) ≡ stored_entries segment number at places
entries_are segment number at [] = refl
entries_are segment number at (place ∷ places) =
    ap (λ ls. stored segment number at 2 (entry_line place) ∷ ls) (entries_are segment number (at + 2) places)

-- The restored lines of a procedure and of `rest` are the stored lines of the procedure, followed by the restored
-- `rest`.
procedure_is : (segment : List ℕ) (number : ℕ) (p : Procedure) (rest : List Listed)
    → map (restored segment) (listed_procedure number p rest)
    ≡ stored_procedure segment (attributes_of number p) p ++ map (restored segment) rest
procedure_is segment number p rest =
    let f = restored segment in
    let at : jtab_of p - 8 - 2 * length p.entries ≡ code_end p = omega arith in
    let items : List Listed = stored_items segment number p.start p.items in
    let last : Listed = stored segment number (jtab_of p - 8) 10 (codes ".ATTR") in
    let entries : List Listed = stored_entries segment number (code_end p) (reverse p.entries) in
    map-append f (listed_items number p.start p.items) (listed_entries number (code_end p) (reverse p.entries) ++ listed_attributes number p ∷ rest)
    ∙ ap (λ ls. ls ++ map f
    (listed_entries number (code_end p) (reverse p.entries) ++ listed_attributes number p ∷ rest)) (items_are segment number p.start p.items)
    ∙ ap (λ ls. items ++ ls) (map-append f (listed_entries number (code_end p) (reverse p.entries)) (listed_attributes number p ∷ rest))
    ∙ ap (λ ls. items ++ (ls ++ last ∷ map f rest)) (entries_are segment number (code_end p) (reverse p.entries))
    ∙ ap (λ ls. items ++ ls) (sym (append_assoc entries (last ∷ []) (map f rest)))
    ∙ sym (append_assoc items (entries ++ last ∷ []) (map f rest))
    ∙ ap (λ n. (items ++ (stored_entries segment number n (reverse p.entries) ++ last ∷ [])) ++ map f rest) (sym at)

-- Each of the procedures is read from the segment as itself.
abbrev AllOwn : List ℕ → ℕ → List Procedure → Type 0
AllOwn segment number [] = Unit {0}
AllOwn segment number (p ∷ ps) = (procedure_of segment (attributes_of number p) ≡ p) × AllOwn segment (number + 1) ps

all_own : (segment : List ℕ) (number : ℕ) (ps : List Procedure) → shown_from segment number ps ≡ ps → AllOwn segment number ps
all_own segment number [] h = tt
all_own segment number (p ∷ ps) h = (cc, all_own segment (number + 1) ps cc)

procedures_are : (slot : ℕ) (segment : List ℕ) (number : ℕ) (ps : List Procedure) (rest : List Listed) → AllFound segment number ps
    → AllOwn segment number ps → AllByRecursion IsProcedure ps
    → listed_lines slot (map (restored segment) (listed_procedures number ps rest))
    ≡ tables_listing slot segment number (length ps) ++ listed_lines slot (map (restored segment) rest)
procedures_are slot segment number [] rest found own are = refl
procedures_are slot segment number (p ∷ ps) rest found own are =
    let a = attributes_of number p in
    let more : List Listed = listed_procedures (number + 1) ps rest in
    let own_lines : List ℕ = listed_lines slot (stored_procedure segment a p) in
    let behind : List ℕ = tables_listing slot segment (number + 1) (length ps) in
    let after : ltb p.exit p.start ≡ false = le-ltb _ _ (later p.start p.items p.exit are.0.exit) in
    let one : table_listing_or slot segment number (attributes_in segment number) ≡ own_lines =
    ap (table_listing_or slot segment number) found.0
    ∙ ap (λ b. cond b (joined (missing_line number)) (listed_lines slot (stored_procedure segment a (procedure_of segment a)))) after
    ∙ ap (λ q. listed_lines slot (stored_procedure segment a q)) own.0 in
    ap (listed_lines slot) (procedure_is segment number p more)
    ∙ lines_joined slot (stored_procedure segment a p) (map (restored segment) more)
    ∙ ap (λ bs. own_lines ++ bs) (procedures_are slot segment (number + 1) ps rest found.1 own.1 are.1)
    ∙ sym (append_assoc own_lines behind (listed_lines slot (map (restored segment) rest)))
    ∙ ap (λ bs. (bs ++ behind) ++ listed_lines slot (map (restored segment) rest)) (sym one)

pub listing_is_programmed : ListingIsProgrammed
listing_is_programmed s h short instructions =
    let segment : List ℕ = segment_bytes s in
    let ps : List Procedure = s.procedures in
    let slot : ℕ = s.number in
    let at : ℕ = procedures_end 0 ps in
    let well = shown_well s h short in
    let last : List ℕ = slot ∷ length ps ∷ [] in
    let t = dictionary_there s h in
    let own : AllOwn segment 1 ps = all_own segment 1 ps (ap (λ r. r.procedures) (well.same.same instructions)) in
    let jtabs : length (map jtab_of ps) ≡ length ps = length-jtabs ps in
    let long : length segment ≡ at + (2 * length ps + 2) = omega (arith, t.ends, jtabs) in
    let dictionary : List ℕ = dictionary_bytes at (reverse ps) ++ last in
    let sized : length dictionary ≡ 2 * length ps + 2 =
    ap length (ap (λ bs. bs ++ last) (dictionary_reversed at ps)) ∙ length-append (entry_bytes at (reverse (map jtab_of ps))) last
    ∙ omega (arith, length-entry_bytes at (reverse (map jtab_of ps)), length-reverse (map jtab_of ps), jtabs) in
    let begins : at ≡ length segment - (2 + 2 * procedures_in segment) = omega (arith, long, well.count) in
    let ends : length dictionary ≡ length segment - at = omega (arith, long, sized) in
    let whole : map (restored segment) (listed_segment s) ≡ listed_segment s =
    lines_restored segment [] 0 (listed_segment s) (sym (listing_is_segment s) ∙ sym (append-nil (listed_bytes (listed_segment s))))
    (listing_is_placed s h.follow) in
    let dict : listed_line slot (restored segment (listed_dictionary s)) ≡ listed_line slot (stored_dictionary segment) =
    ap (λ n. listed_line slot (stored segment 0 at n (codes ".DICT"))) ends
    ∙ ap (λ j. listed_line slot (stored segment 0 j (length segment - j) (codes ".DICT"))) begins in
    ap (λ n. tables_listing slot segment 1 n ++ listed_line slot (stored_dictionary segment)) well.count
    ∙ ap (λ bs. tables_listing slot segment 1 (length ps) ++ bs) (sym dict ∙ sym (append-nil (listed_line slot (restored segment (listed_dictionary s)))))
    ∙ sym (procedures_are slot segment 1 ps (listed_dictionary s ∷ []) well.found own h.procedures)
    ∙ ap (listed_lines slot) whole
