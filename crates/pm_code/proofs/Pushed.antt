-- Lemmas about bytes that are appended one after the other: the bytes up to here, followed by the rest, are all bytes.
use Rattle.std.proofs.Common.{◌≡◌, ◌≤◌, ℕ, ◌+◌, ◌-◌, ◌*◌, List, [], ◌∷◌, ◌++◌, length, map, reverse, sym, ap, subst, ◌∙◌, arith, append_assoc, length-append}
use Rattle.std.specs.List.{AllByRecursion}
use Rattle.std.proofs.lemmas.List.{length-reverse}
use Rattle.pm_opcode.specs.Spelling.{spelled_word}
use Rattle.pm_code.specs.Item.{Item, item_bytes, size}
use Rattle.pm_code.specs.Program.{AreItems, FollowFrom, IsProcedure, IsSegment, Procedure, Segment, attribute_bytes, back_to, code_bytes, code_end, code_of}
use Rattle.pm_code.specs.Program.{entry_bytes, jtab_of, procedure_bytes, procedures_bytes, dictionary_bytes, procedures_end, segment_bytes}
use Rattle.pm_code.proofs.Laid.{dictionary_reversed, ends_later, length-jtabs, length-procedure, length-procedures, length-segment}
use Rattle.pm_code.proofs.Sizes.{length-code, length-item}
use Rattle.pm_code.proofs.Stored.{length-entry_bytes}

-- If the bytes of `item` were appended to `before`, then the length increased by the size of `item`.
pub item_long : (before after : List ℕ) (item : Item ℕ) → after ≡ before ++ item_bytes (length before) item
    → length after ≡ length before + size (length before) item
item_long before after item e =
    ap length e ∙ length-append before (item_bytes (length before) item) ∙ ap (λ n. length before + n) (length-item (length before) item)

pub item_more : (before after : List ℕ) (item : Item ℕ) (rest : List (Item ℕ)) → after ≡ before ++ item_bytes (length before) item
    → after ++ code_bytes (length after) rest ≡ before ++ code_bytes (length before) (item ∷ rest)
item_more before after item rest e =
    let next : ℕ = length before + size (length before) item in
    ap (λ n. after ++ code_bytes n rest) (item_long before after item e)
    ∙ ap (λ bs. bs ++ code_bytes next rest) e
    ∙ append_assoc before (item_bytes (length before) item) (code_bytes next rest)

pub item_good : (before after : List ℕ) (item : Item ℕ) (rest : List (Item ℕ)) → after ≡ before ++ item_bytes (length before) item
    → AreItems (length before) (item ∷ rest) → AreItems (length after) rest
item_good before after item rest e h = subst (λ n. AreItems n rest) (sym (item_long before after item e)) h.1

-- If `jtab_of p` is 8 more than the length of `before`, then the values that `push_attributes` appends after `before`
-- are the attribute bytes of `p`.
pub attributes_pushed : (before : List ℕ) (number : ℕ) (p : Procedure) → jtab_of p ≡ length before + 8
    → spelled_word p.locals ++ (spelled_word p.parameters ++ (back_to (length before + 4) p.exit
    ++ (back_to (length before + 6) p.start ++ number ∷ p.level ∷ []))) ≡ attribute_bytes number p
attributes_pushed before number p e =
    let lower : length before + 4 ≡ jtab_of p - 4 = omega (arith, e) in
    let upper : length before + 6 ≡ jtab_of p - 2 = omega (arith, e) in
    ap (λ n. spelled_word p.locals ++ (spelled_word p.parameters ++ (back_to n p.exit
    ++ (back_to (length before + 6) p.start ++ number ∷ p.level ∷ [])))) lower
    ∙ ap (λ n. spelled_word p.locals ++ (spelled_word p.parameters ++ (back_to (jtab_of p - 4) p.exit
    ++ (back_to n p.start ++ number ∷ p.level ∷ [])))) upper

-- States that `code` is `before` followed by the code of procedure `p`, which begins at the end of `before`.
pub record Coded (before code : List ℕ) (p : Procedure) : Type 0 where
  pub start : p.start ≡ length before
  pub bytes : code ≡ before ++ code_bytes (length before) p.items

code_is : (before code : List ℕ) (p : Procedure) → Coded before code p → code ≡ before ++ code_of p
code_is before code p h = h.bytes ∙ ap (λ n. before ++ code_bytes n p.items) (sym h.start)

pub code_long : (before code : List ℕ) (p : Procedure) → Coded before code p → length code ≡ code_end p
code_long before code p h = omega (arith, ap length (code_is before code p h), length-append before (code_of p), h.start, length-code p.start p.items)

-- States that `tables` is `before` followed by the code and the jump table of procedure `p`.
pub record Tabled (before code tables : List ℕ) (p : Procedure) : Type 0 where
  pub coded : Coded before code p
  pub bytes : tables ≡ code ++ entry_bytes (length code) (reverse p.entries)

pub tables_long : (before code tables : List ℕ) (p : Procedure) → Tabled before code tables p → jtab_of p ≡ length tables + 8
tables_long before code tables p h =
    let long = code_long before code p h.coded in
    omega (
      arith,
      ap length h.bytes,
      length-append code (entry_bytes (length code) (reverse p.entries)),
      length-entry_bytes (length code) (reverse p.entries),
      length-reverse p.entries,
      long,
    )

-- If the code, the jump table and then the attributes of `p` were appended to `before`, then all bytes of `p` were
-- appended.
pub procedure_pushed : (before code tables after : List ℕ) (number : ℕ) (p : Procedure) → Tabled before code tables p
    → after ≡ tables ++ attribute_bytes number p → after ≡ before ++ procedure_bytes number p
procedure_pushed before code tables after number p h e =
    let entries : List ℕ = entry_bytes (code_end p) (reverse p.entries) in
    let last : List ℕ = attribute_bytes number p in
    e
    ∙ ap (λ bs. bs ++ last) (h.bytes ∙ ap (λ n. code ++ entry_bytes n (reverse p.entries)) (code_long before code p h.coded)
    ∙ ap (λ bs. bs ++ entries) (code_is before code p h.coded))
    ∙ append_assoc (before ++ code_of p) entries last
    ∙ append_assoc before (code_of p) (entries ++ last)

-- If procedure `p` was appended at its offset, then the bytes end where `p` ends.
pub procedure_long : (before after : List ℕ) (number : ℕ) (p : Procedure) → p.start ≡ length before → after ≡ before ++ procedure_bytes number p
    → length after ≡ jtab_of p + 2
procedure_long before after number p s e =
    omega (arith, ap length e, length-append before (procedure_bytes number p), length-procedure number p, s)

pub procedure_more : (before after : List ℕ) (number : ℕ) (p : Procedure) (ps : List Procedure) → after ≡ before ++ procedure_bytes number p
    → after ++ procedures_bytes (number + 1) ps ≡ before ++ procedures_bytes number (p ∷ ps)
procedure_more before after number p ps e =
    ap (λ bs. bs ++ procedures_bytes (number + 1) ps) e ∙ append_assoc before (procedure_bytes number p) (procedures_bytes (number + 1) ps)

pub procedure_table : (before after : List ℕ) (number : ℕ) (p : Procedure) (ps : List Procedure) (tables : List ℕ) (last : ℕ) → p.start ≡ length before
    → after ≡ before ++ procedure_bytes number p → last ≡ length after - 2
    → (tables ++ last ∷ []) ++ map jtab_of ps ≡ tables ++ map jtab_of (p ∷ ps)
procedure_table before after number p ps tables last s e l =
    let same : last ≡ jtab_of p = omega (arith, l, procedure_long before after number p s e) in
    append_assoc tables (last ∷ []) (map jtab_of ps) ∙ ap (λ n. tables ++ n ∷ map jtab_of ps) same

pub procedure_short : (at : ℕ) (p : Procedure) (ps : List Procedure) → FollowFrom at (p ∷ ps) → AllByRecursion IsProcedure (p ∷ ps)
    → procedures_end at (p ∷ ps) ≤ 65534 → jtab_of p ≤ 65534
procedure_short at p ps f h short = omega (arith, short, ends_later (jtab_of p + 2) ps f.1 h.1)

-- If the segment `s` has at most 65,534 bytes, then its procedures end at offset 65,534 or before.
pub segment_ends : (s : Segment) → IsSegment s → length (segment_bytes s) ≤ 65534 → procedures_end 0 s.procedures ≤ 65534
segment_ends s h short = omega (arith, short, length-segment s h)

-- States that `bytes` are the procedures of `s`, and that `tables` are the offsets of their attribute tables.
pub record Headed (s : Segment) (bytes tables : List ℕ) : Type 0 where
  pub first : bytes ≡ procedures_bytes 1 s.procedures
  pub places : tables ≡ map jtab_of s.procedures

pub headed_end : (s : Segment) (bytes tables : List ℕ) → IsSegment s → Headed s bytes tables → length bytes ≡ procedures_end 0 s.procedures
headed_end s bytes tables h f = omega (arith, ap length f.first, length-procedures 0 1 s.procedures h.follow)

pub headed_count : (s : Segment) (bytes tables : List ℕ) → Headed s bytes tables → length tables ≡ length s.procedures
headed_count s bytes tables f = ap length f.places ∙ length-jtabs s.procedures

pub headed_room : (s : Segment) (bytes tables : List ℕ) → IsSegment s → length (segment_bytes s) ≤ 65534 → Headed s bytes tables
    → length bytes + 2 * length tables ≤ 65536
headed_room s bytes tables h short f =
    omega (arith, headed_end s bytes tables h f, headed_count s bytes tables f, short, length-segment s h)

-- If the dictionary is appended with the offsets `tables`, then it is the dictionary of segment `s`.
pub dictionary_pushed : (s : Segment) (bytes tables : List ℕ) → IsSegment s → Headed s bytes tables
    → entry_bytes (length bytes) (reverse tables) ++ s.number ∷ length tables ∷ []
    ≡ dictionary_bytes (procedures_end 0 s.procedures) (reverse s.procedures) ++ s.number ∷ length s.procedures ∷ []
dictionary_pushed s bytes tables h f =
    let end = procedures_end 0 s.procedures in
    ap (λ n. entry_bytes n (reverse tables) ++ s.number ∷ length tables ∷ []) (headed_end s bytes tables h f)
    ∙ ap (λ n. entry_bytes end (reverse tables) ++ s.number ∷ n ∷ []) (headed_count s bytes tables f)
    ∙ ap (λ ts. entry_bytes end (reverse ts) ++ s.number ∷ length s.procedures ∷ []) f.places
    ∙ ap (λ bs. bs ++ s.number ∷ length s.procedures ∷ []) (sym (dictionary_reversed end s.procedures))

pub segment_pushed : (s : Segment) (bytes tables after : List ℕ) → IsSegment s → Headed s bytes tables
    → after ≡ bytes ++ (entry_bytes (length bytes) (reverse tables) ++ s.number ∷ length tables ∷ []) → after ≡ segment_bytes s
segment_pushed s bytes tables after h f e =
    let last : List ℕ = dictionary_bytes (procedures_end 0 s.procedures) (reverse s.procedures) ++ s.number ∷ length s.procedures ∷ [] in
    e ∙ ap (λ ds. bytes ++ ds) (dictionary_pushed s bytes tables h f) ∙ ap (λ bs. bs ++ last) f.first
