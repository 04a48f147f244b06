-- Lemmas about the listing of a code file, line by line.
use Rattle.std.proofs.Common.{◌≡◌, ◌<◌, ℕ, zero, suc, ◌+◌, ◌-◌, ◌*◌, Bool, List, [], ◌∷◌}
use Rattle.std.proofs.Common.{◌++◌, append_assoc, append-nil, arith, drop, get_or, length, map, refl, reverse, sym, ap, ◌∙◌, take}
use Rattle.std.specs.Prelude.{codes}
use Rattle.pm_codefile.specs.declared.table.Attributes.{Attributes}
use Rattle.pm_codefile.specs.Dictionary.{segment_in}
use Rattle.pm_codefile.specs.Segments.{attributes_in}
use Rattle.pm_code.specs.Image.{Listed, listed_line, listed_lines}
use Rattle.pm_code.specs.Item.{Item, size}
use Rattle.pm_code.specs.Shown.{entry_line, shown_item}
use Rattle.pm_code.proofs.Lists.{last_first}
use Rattle.pm_disasm.specs.declared.counts.Reading.{Reading}
use Rattle.pm_disasm.specs.Chosen.{IsReading, IsTable}
use Rattle.pm_disasm.specs.Follow.{written_by}
use Rattle.std.specs.List.{AllByRecursion}
use Rattle.pm_disasm.specs.Listing.{LinesAreStored, slot_listing, slots_listing, stored}
use Rattle.pm_disasm.specs.Listing.{stored_entries, stored_items, stored_procedure, table_listing_or, tables_listing}
use Rattle.pm_disasm.specs.Split.{entry_places, procedure_of, procedure_with}
use Rattle.pm_disasm.specs.Views.{has, part_seen}
use Rattle.pm_disasm.proofs.Readings.{items_read}
use Rattle.pm_disasm.proofs.Stored.{length-entry_places}

-- If `line` is appended, then the written text followed by the remaining lines is unchanged.
pub line_stored : (slot : ℕ) (line : Listed) (before after : List ℕ) (rest : List Listed) → after ≡ before ++ listed_line slot line
    → after ++ listed_lines slot rest ≡ before ++ listed_lines slot (line ∷ rest)
line_stored slot line before after rest e = ap (λ u. u ++ listed_lines slot rest) e ∙ append_assoc before (listed_line slot line) (listed_lines slot rest)

-- If the line of `item` is appended, then the written text followed by the lines of the remaining items is unchanged.
pub item_stored : (slot : ℕ) (segment : List ℕ) (number at count : ℕ) (item : Item ℕ) (rest : List (Item ℕ)) (before after : List ℕ) → size at item ≡ count
    → after ≡ before ++ listed_line slot (stored segment number at count (shown_item item))
    → after ++ listed_lines slot (stored_items segment number (at + count) rest) ≡ before ++ listed_lines slot (stored_items segment number at (item ∷ rest))
item_stored slot segment number at count item rest before after sized e =
    line_stored slot (stored segment number at count (shown_item item)) before after (stored_items segment number (at + count) rest) e
    ∙ ap (λ n. before ++ listed_lines slot (stored segment number at n (shown_item item) ∷ stored_items segment number (at + n) rest)) (sym sized)

-- The text of the lines `xs ++ ys` is the text of `xs` followed by the text of `ys`.
pub lines_joined : (slot : ℕ) (xs ys : List Listed) → listed_lines slot (xs ++ ys) ≡ listed_lines slot xs ++ listed_lines slot ys
lines_joined slot [] ys = refl
lines_joined slot (x ∷ xs) ys =
    ap (λ u. listed_line slot x ++ u) (lines_joined slot xs ys)
    ∙ sym (append_assoc (listed_line slot x) (listed_lines slot xs) (listed_lines slot ys))

-- If the line of one entry is appended, then the written text followed by the lines of the remaining entries is
-- unchanged.
pub entry_stored : (slot : ℕ) (segment : List ℕ) (number at count done : ℕ) (entries : List ℕ) (before after whole : List ℕ) → done < count
    → count ≡ length entries
    → after ≡ before ++ listed_line slot (stored segment number (at + 2 * done) 2 (entry_line (get_or entries (count - 1 - done) 0)))
    → before ++ listed_lines slot (stored_entries segment number (at + 2 * done) (reverse (take (count - done) entries))) ≡ whole
    → after ++ listed_lines slot (stored_entries segment number (at + 2 * (done + 1)) (reverse (take (count - (done + 1)) entries))) ≡ whole
entry_stored slot segment number at count done entries before after whole more long e all =
    let place : ℕ = get_or entries (count - 1 - done) 0 in
    let rest : List ℕ = reverse (take (count - (done + 1)) entries) in
    let next : at + 2 * (done + 1) ≡ at + 2 * done + 2 = omega arith in
    ap (λ n. after ++ listed_lines slot (stored_entries segment number n rest)) next
    ∙ line_stored slot (stored segment number (at + 2 * done) 2 (entry_line place)) before after (stored_entries segment number (at + 2 * done + 2) rest) e
    ∙ ap (λ ps. before ++ listed_lines slot (stored_entries segment number (at + 2 * done) ps)) (sym (last_first entries count done more long))
    ∙ all

-- If the lines of one procedure are appended, then the written text followed by the lines of the remaining procedures
-- is unchanged.
pub next_listed : (slot : ℕ) (segment : List ℕ) (done count : ℕ) (after before whole lines : List ℕ) → done < count
    → table_listing_or slot segment (done + 1) (attributes_in segment (done + 1)) ≡ lines → after ≡ before ++ lines
    → before ++ tables_listing slot segment (done + 1) (count - done) ≡ whole
    → after ++ tables_listing slot segment (done + 1 + 1) (count - (done + 1)) ≡ whole
next_listed slot segment done count after before whole lines h e t i =
    let more : count - done ≡ suc (count - (done + 1)) = omega (arith, h) in
    let rest : List ℕ = tables_listing slot segment (done + 1 + 1) (count - (done + 1)) in
    ap (λ u. u ++ rest) t
    ∙ append_assoc before lines rest
    ∙ ap (λ ls. before ++ (ls ++ rest)) (sym e)
    ∙ ap (λ n. before ++ tables_listing slot segment (done + 1) n) (sym more)
    ∙ i

-- If the lines of one slot are appended, then the written text followed by the lines of the remaining slots is
-- unchanged.
pub slot_listed : (file : List ℕ) (n : ℕ) (after before whole : List ℕ) → n < 16 → after ≡ before ++ slot_listing n (segment_in file n)
    → before ++ slots_listing file n (16 - n) ≡ whole → after ++ slots_listing file (n + 1) (16 - (n + 1)) ≡ whole
slot_listed file n after before whole h t i =
    let more : 16 - n ≡ suc (16 - (n + 1)) = omega (arith, h) in
    let lines : List ℕ = slot_listing n (segment_in file n) in
    let rest : List ℕ = slots_listing file (n + 1) (16 - (n + 1)) in
    ap (λ u. u ++ rest) t
    ∙ append_assoc before lines rest
    ∙ ap (λ k. before ++ slots_listing file n k) (sym more)
    ∙ i

-- If the lines of the items, of the jump table and of the attributes were appended, then all lines of the procedure
-- were.
pub procedure_stored : (slot : ℕ) (segment : List ℕ) (a : Attributes) (t : ℕ) (r : Reading) (allowed : Bool) (t0 t1 t2 t3 : List ℕ)
    → IsTable segment a → IsReading segment a t r
    → t1 ≡ t0 ++ listed_lines slot (stored_items segment a.procedure a.enter (written_by (has r.code.boundaries) allowed (map part_seen r.code.parts.items)))
    → t2 ≡ t1 ++ listed_lines slot (stored_entries segment a.procedure r.end (reverse (entry_places segment a.jtab 0 t)))
    → t3 ≡ t2 ++ listed_line slot (stored segment a.procedure (a.jtab - 8) 10 (codes ".ATTR"))
    → t3 ≡ t0 ++ listed_lines slot (stored_procedure segment a (procedure_with segment a allowed t))
procedure_stored slot segment a t r allowed t0 t1 t2 t3 table read one two three =
    let items = (procedure_with segment a allowed t).items in
    let entries : List ℕ = entry_places segment a.jtab 0 t in
    let last : Listed = stored segment a.procedure (a.jtab - 8) 10 (codes ".ATTR") in
    let at : r.end ≡ a.jtab - 8 - 2 * length entries = read.end ∙ ap (λ n. a.jtab - 8 - 2 * n) (sym (length-entry_places segment a.jtab 0 t)) in
    let code : List Listed = stored_items segment a.procedure a.enter items in
    let jumps : List Listed = stored_entries segment a.procedure (a.jtab - 8 - 2 * length entries) (reverse entries) in
    let one_is : t1 ≡ t0 ++ listed_lines slot code =
    one ∙ ap (λ is. t0 ++ listed_lines slot (stored_items segment a.procedure a.enter is)) (items_read segment a t r allowed table read) in
    let two_is : t2 ≡ t1 ++ listed_lines slot jumps =
    two ∙ ap (λ n. t1 ++ listed_lines slot (stored_entries segment a.procedure n (reverse entries))) at in
    let three_is : t3 ≡ t2 ++ listed_lines slot (last ∷ []) = three ∙ ap (λ u. t2 ++ u) (sym (append_nil_line slot last)) in
    three_is
    ∙ ap (λ t. t ++ listed_lines slot (last ∷ [])) two_is ∙ append_assoc t1 (listed_lines slot jumps) (listed_lines slot (last ∷ []))
    ∙ ap (λ u. t1 ++ u) (sym (lines_joined slot jumps (last ∷ [])))
    ∙ ap (λ t. t ++ listed_lines slot (jumps ++ last ∷ [])) one_is ∙ append_assoc t0 (listed_lines slot code) (listed_lines slot (jumps ++ last ∷ []))
    ∙ ap (λ u. t0 ++ u) (sym (lines_joined slot code (jumps ++ last ∷ [])))
  where
    append_nil_line : (slot : ℕ) (line : Listed) → listed_lines slot (line ∷ []) ≡ listed_line slot line
    append_nil_line slot line = append-nil (listed_line slot line)

taken : (n : ℕ) (xs : List ℕ) → take n xs ≡ take (length (take n xs)) xs
taken zero xs = refl
taken (suc n) [] = refl
taken (suc n) (x ∷ xs) = ap (λ ys. x ∷ ys) (taken n xs)

-- Is true if the bytes of line `l` are those of `segment` at the offset in the line.
abbrev Stands : List ℕ → Listed → Type 0
Stands segment l = l.bytes ≡ take (length l.bytes) (drop l.at segment)

both_stand : (segment : List ℕ) (xs ys : List Listed) → AllByRecursion (Stands segment) xs → AllByRecursion (Stands segment) ys
    → AllByRecursion (Stands segment) (xs ++ ys)
both_stand segment [] ys h k = k
both_stand segment (x ∷ xs) ys h k = (h.0, both_stand segment xs ys h.1 k)

items_stand : (segment : List ℕ) (number at : ℕ) (items : List (Item ℕ)) → AllByRecursion (Stands segment) (stored_items segment number at items)
items_stand segment number at [] = tt
items_stand segment number at (item ∷ items) = (taken (size at item) (drop at segment), items_stand segment number (at + size at item) items)

entries_stand : (segment : List ℕ) (number at : ℕ) (places : List ℕ) → AllByRecursion (Stands segment) (stored_entries segment number at places)
entries_stand segment number at [] = tt
entries_stand segment number at (place ∷ places) = (taken 2 (drop at segment), entries_stand segment number (at + 2) places)

pub lines_are_stored : LinesAreStored
lines_are_stored segment a =
    let p = procedure_of segment a in
    let at = a.jtab - 8 - 2 * length p.entries in
    both_stand segment (stored_items segment a.procedure a.enter p.items) _ (items_stand segment a.procedure a.enter p.items)
    (both_stand segment (stored_entries segment a.procedure at (reverse p.entries)) _ (entries_stand segment a.procedure at (reverse p.entries))
    (taken 10 (drop (a.jtab - 8) segment), tt))
