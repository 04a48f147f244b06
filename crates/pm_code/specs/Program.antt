-- Programs and their bytes. Positions are offsets in a segment. A label is only a spelling of an offset, so a program
-- has no labels.
use Rattle.std.specs.Prelude.{◌≡◌, ℕ, ◌+◌, ◌-◌, ◌*◌, ◌%◌, ◌<◌, ◌≤◌, Bool, true, not, List, [], ◌∷◌, ◌++◌, length}
use Rattle.std.specs.Prelude.{reverse, max, nat_le, ◌==◌, ◌&&◌, ◌||◌, Option, Some, None, if◌then◌else◌}
use Rattle.std.specs.List.{AllByRecursion, list_any, list_all}
use Rattle.pm_opcode.specs.Spelling.{spelled_word}
use Rattle.pm_code.specs.Item.{Item, Target, item_bytes, size, IsItem, is_instruction}
use Rattle.pm_code.specs.Item.Item.{Jump, Case}
use Rattle.pm_code.specs.Item.Target.{To, Through}

-- A procedure. Its code begins at `start`, and its exit code at `exit`. An entry of its jump table is an offset in its
-- code. Sizes are in bytes. The level is a byte in two's complement.
pub record Procedure : Type 0 where
  pub level : ℕ
  pub parameters : ℕ
  pub locals : ℕ
  pub start : ℕ
  pub items : List (Item ℕ)
  pub exit : ℕ
  pub entries : List ℕ

-- A segment. Its procedures are numbered from 1.
pub record Segment : Type 0 where
  pub number : ℕ
  pub name : List ℕ
  pub procedures : List Procedure

-- The bytes of `items` if the first one begins at offset `at`.
abbrev pub code_bytes : ℕ → List (Item ℕ) → List ℕ
code_bytes at [] = []
code_bytes at (item ∷ items) = item_bytes at item ++ code_bytes (at + size at item) items

-- The offset at which `items` end if the first one begins at offset `at`.
abbrev pub end_of : {P : Type 0} → ℕ → List (Item P) → ℕ
end_of at [] = at
end_of at (item ∷ items) = end_of (at + size at item) items

-- The offset at which each of `items` begins, and the offset at which the last one ends, if the first one begins at
-- `at`.
abbrev pub boundaries : ℕ → List (Item ℕ) → List ℕ
boundaries at [] = at ∷ []
boundaries at (item ∷ items) = at ∷ boundaries (at + size at item) items

abbrev pub AreItems : ℕ → List (Item ℕ) → Type 0
AreItems at [] = Unit {0}
AreItems at (item ∷ items) = IsItem at item × AreItems (at + size at item) items

-- The number of jump table entries that a jump to this target needs.
abbrev pub entries_for : {P : Type 0} → Target P → ℕ
entries_for (To place) = 0
entries_for (Through k) = k + 1

abbrev pub entries_used : {P : Type 0} → Item P → ℕ
entries_used (Jump op target) = entries_for target
entries_used (Case low high otherwise places) = entries_for otherwise
entries_used _ = 0

-- The number of jump table entries that `items` need: 1 + the highest entry that a jump uses, or 0 if no jump uses one.
abbrev pub entries_needed : {P : Type 0} → List (Item P) → ℕ
entries_needed [] = 0
entries_needed (item ∷ items) = max (entries_used item) (entries_needed items)

abbrev pub is_among : List ℕ → ℕ → Bool
is_among places place = list_any (λ p. p == place) places

abbrev pub IsIn : List ℕ → ℕ → Type 0
IsIn places place = is_among places place ≡ true

-- The offset to which a target leads, as a list. The list is empty if the target is an entry of the jump table.
abbrev pub target_places : Target ℕ → List ℕ
target_places (To place) = place ∷ []
target_places (Through k) = []

abbrev pub item_places : Item ℕ → List ℕ
item_places (Jump op target) = target_places target
item_places (Case low high otherwise places) = target_places otherwise ++ places
item_places _ = []

-- Is true if each offset to which `item` jumps is one of `places`. Jumps through the jump table are not counted.
abbrev pub NamesWithin : List ℕ → Item ℕ → Type 0
NamesWithin places item = AllByRecursion (IsIn places) (item_places item)

abbrev pub code_of : Procedure → List ℕ
code_of p = code_bytes p.start p.items

abbrev pub places_of : Procedure → List ℕ
places_of p = boundaries p.start p.items

-- The offset at which the code of procedure `p` ends.
abbrev pub code_end : Procedure → ℕ
code_end p = end_of p.start p.items

-- States that `p` is a procedure of a program. Its jumps, its exit code and the entries of its jump table lead to
-- boundaries of its items. The jump table ends with the highest entry that a jump uses. The code begins and ends at an
-- even offset.
pub record IsProcedure (p : Procedure) : Type 0 where
  pub level : p.level < 256
  pub parameters : (p.parameters < 65536) × (p.parameters % 2 ≡ 0)
  pub locals : (p.locals < 65536) × (p.locals % 2 ≡ 0)
  pub items : AreItems p.start p.items
  pub jumps : AllByRecursion (NamesWithin (places_of p)) p.items
  pub exit : IsIn (places_of p) p.exit
  pub entries : AllByRecursion (IsIn (places_of p)) p.entries
  pub used : length p.entries ≡ entries_needed p.items
  pub begins : p.start % 2 ≡ 0
  pub ends : code_end p % 2 ≡ 0

-- The two bytes of a word at offset `at`. The word is the distance from `at` down to offset `place`.
abbrev pub back_to : ℕ → ℕ → List ℕ
back_to at place = spelled_word (at - place)

-- The bytes of a jump table whose lowest word is at offset `at`. The lowest word is the last entry, so the offsets to
-- which the entries lead are given from the last entry to the first.
abbrev pub entry_bytes : ℕ → List ℕ → List ℕ
entry_bytes at [] = []
entry_bytes at (place ∷ places) = back_to at place ++ entry_bytes (at + 2) places

-- The offset of the highest word of the attribute table of procedure `p`.
abbrev pub jtab_of : Procedure → ℕ
jtab_of p = code_end p + 2 * length p.entries + 8

-- The ten bytes of the attribute table of procedure `p`, which has the number `number`: the sizes of locals and
-- parameters, exit code, code, number and level.
abbrev pub attribute_bytes : ℕ → Procedure → List ℕ
attribute_bytes number p =
    let jtab = jtab_of p in
    spelled_word p.locals ++ (spelled_word p.parameters
    ++ (back_to (jtab - 4) p.exit ++ (back_to (jtab - 2) p.start ++ number ∷ p.level ∷ [])))

-- The bytes of procedure `p`, which has the number `number`: its code, its jump table (entry 0 is the highest word),
-- and its attributes.
abbrev pub procedure_bytes : ℕ → Procedure → List ℕ
procedure_bytes number p = code_of p ++ (entry_bytes (code_end p) (reverse p.entries) ++ attribute_bytes number p)

abbrev pub procedures_bytes : ℕ → List Procedure → List ℕ
procedures_bytes number [] = []
procedures_bytes number (p ∷ ps) = procedure_bytes number p ++ procedures_bytes (number + 1) ps

-- The offset at which the procedures end if the first one begins at offset `at`.
abbrev pub procedures_end : ℕ → List Procedure → ℕ
procedures_end at [] = at
procedures_end at (p ∷ ps) = procedures_end (jtab_of p + 2) ps

-- The bytes of a dictionary that begins at offset `at`. It has a word for each procedure, in the given order. A segment
-- passes its procedures from the last to the first.
abbrev pub dictionary_bytes : ℕ → List Procedure → List ℕ
dictionary_bytes at [] = []
dictionary_bytes at (p ∷ ps) = back_to at (jtab_of p) ++ dictionary_bytes (at + 2) ps

-- The bytes of segment `s`: its procedures, its dictionary, and its highest word. The highest word has the number of
-- the segment and the number of its procedures.
abbrev pub segment_bytes : Segment → List ℕ
segment_bytes s =
    procedures_bytes 1 s.procedures ++ (dictionary_bytes (procedures_end 0 s.procedures) (reverse s.procedures)
    ++ s.number ∷ length s.procedures ∷ [])

-- Is true if the first procedure begins at offset `at`, and each further one at the end of the procedure before it.
abbrev pub FollowFrom : ℕ → List Procedure → Type 0
FollowFrom at [] = Unit {0}
FollowFrom at (p ∷ ps) = (p.start ≡ at) × FollowFrom (jtab_of p + 2) ps

-- Is true if `c` may be in the name of a segment: 33 to 126, except the semicolon, the comma and the quote.
abbrev pub is_name_character : ℕ → Bool
is_name_character c = nat_le 33 c && nat_le c 126 && not ((c == 59) || (c == 44) || (c == 34))

-- Is true if `name` has one to eight characters that are allowed in the name of a segment.
abbrev pub is_segment_name : List ℕ → Bool
is_segment_name name = nat_le 1 (length name) && nat_le (length name) 8 && list_all is_name_character name

-- States that `s` is a segment of a program.
pub record IsSegment (s : Segment) : Type 0 where
  pub number : s.number < 16
  pub name : is_segment_name s.name ≡ true
  pub procedures : AllByRecursion IsProcedure s.procedures
  pub few : length s.procedures < 256
  pub follow : FollowFrom 0 s.procedures

-- Is true if the segments are in ascending order of their numbers, and each number is at least `least`.
abbrev pub AscendFrom : ℕ → List Segment → Type 0
AscendFrom least [] = Unit {0}
AscendFrom least (s ∷ ss) = (least ≤ s.number) × AscendFrom (s.number + 1) ss

-- States that `ss` are the segments of a program, in ascending order of their numbers.
pub record IsProgram (ss : List Segment) : Type 0 where
  pub segments : AllByRecursion IsSegment ss
  pub ascend : AscendFrom 0 ss

-- Is true if each segment has at most 65,534 bytes, the most that a slot of a code file can contain.
abbrev pub FitSlots : List Segment → Type 0
FitSlots ss = AllByRecursion (λ s. length (segment_bytes s) ≤ 65534) ss

-- Is true if each of `items` is an instruction.
abbrev pub AreInstructions : List (Item ℕ) → Type 0
AreInstructions items = AllByRecursion (λ item. is_instruction item ≡ true) items

-- The segment with the number `n`, or `None` if no segment has this number.
abbrev pub segment_numbered : ℕ → List Segment → Option Segment
segment_numbered n [] = None
segment_numbered n (s ∷ ss) = if s.number == n then Some s else segment_numbered n ss
