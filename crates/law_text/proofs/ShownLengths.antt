-- Lemmas for where the code of procedures ends, and for the length of their bytes.
use Rattle.std.proofs.Common.{◌≡◌, ◌≤◌, ℕ, ◌+◌, ◌*◌, List, [], ◌∷◌, ◌++◌, length, reverse, refl, arith}
use Rattle.std.specs.List.{AllByRecursion}
use Rattle.std.proofs.lemmas.List.{length-append, length-reverse}
use Rattle.std.proofs.lemmas.Grind.{common_steps}
use Rattle.pm_opcode.specs.Spelling.{pad_byte, flip, is_odd, spelled_word}
use Rattle.pm_code.specs.Item.{Item, size, item_bytes, table_place, table_words, case_opcode, jump_opcode, jump_byte}
use Rattle.pm_code.specs.Item.Item.{Plain, Jump, Case, OneByte}
use Rattle.pm_code.specs.Program.{Procedure, FollowFrom, attribute_bytes, code_bytes, code_end, code_of}
use Rattle.pm_code.specs.Program.{end_of, entry_bytes, jtab_of, procedure_bytes, procedures_bytes}

table_length : (at : ℕ) (places : List ℕ) → length (table_words at places) ≡ 2 * length places
table_length at [] = refl
table_length at (place ∷ places) = omega (arith, table_length (at + 2) places)

item_length : (at : ℕ) (item : Item ℕ) → length (item_bytes at item) ≡ size at item
item_length at (Plain i named) = refl
item_length at (Jump op target) = refl
item_length at (Case low high otherwise places) =
    let table = table_length (table_place at) places in
    behind (pad_byte (flip (is_odd at)) 0) (spelled_word low ++ (spelled_word high
    ++ (jump_opcode ∷ jump_byte (table_place at) otherwise ∷ table_words (table_place at) places))) (length places) (omega (arith, table))
  where
    behind : (pad bytes : List ℕ) (n : ℕ) → length bytes ≡ 6 + 2 * n → length (case_opcode ∷ pad ++ bytes) ≡ 7 + length pad + 2 * n
    behind pad bytes n e = grind (arith, common_steps)
item_length at (OneByte b) = refl

code_length : (at : ℕ) (items : List (Item ℕ)) → at + length (code_bytes at items) ≡ end_of at items
code_length at [] = omega arith
code_length at (item ∷ items) =
    omega (arith, length-append (item_bytes at item) (code_bytes (at + size at item) items), item_length at item, code_length (at + size at item) items)

entries_length : (at : ℕ) (places : List ℕ) → length (entry_bytes at places) ≡ 2 * length places
entries_length at [] = refl
entries_length at (place ∷ places) = omega (arith, entries_length (at + 2) places)

procedure_length : (k : ℕ) (p : Procedure) → p.start + length (procedure_bytes k p) ≡ jtab_of p + 2
procedure_length k p =
    omega (
      arith,
      length-append (code_of p) (entry_bytes (code_end p) (reverse p.entries) ++ attribute_bytes k p),
      length-append (entry_bytes (code_end p) (reverse p.entries)) (attribute_bytes k p),
      code_length p.start p.items,
      entries_length (code_end p) (reverse p.entries),
      length-reverse p.entries,
    )

-- The code of each procedure ends within the bytes of all procedures.
pub ends_within : (at k last : ℕ) (ps : List Procedure) → FollowFrom at ps → at + length (procedures_bytes k ps) ≤ last
    → AllByRecursion (λ p. code_end p ≤ last) ps
ends_within at k last [] f l = tt
ends_within at k last (p ∷ ps) f l =
    let whole = length-append (procedure_bytes k p) (procedures_bytes (k + 1) ps) in
    let one = procedure_length k p in
    let rest : jtab_of p + 2 + length (procedures_bytes (k + 1) ps) ≤ last = omega (arith, whole, one, f.0, l) in
    (omega (arith, rest), ends_within (jtab_of p + 2) (k + 1) last ps f.1 rest)
