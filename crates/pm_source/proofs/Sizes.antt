-- The sizes of procedures and segments in bytes, and the parity of the offsets at which items end.
use Rattle.std.proofs.Common.{◌≡◌, ◌≤◌, ℕ, ◌+◌, ◌*◌, ◌%◌, List, [], ◌∷◌, ◌++◌, length, reverse, refl, ap, arith, length-append}
use Rattle.std.specs.Prelude.{◌==◌}
use Rattle.std.proofs.lemmas.List.{length-reverse}
use Rattle.pm_opcode.specs.Spelling.{pad_byte, flip, spelling}
use Rattle.pm_code.specs.Item.{Item, size}
use Rattle.pm_code.specs.Item.Item.{Plain, Jump, Case, OneByte}
use Rattle.pm_code.specs.Program.{Procedure, Segment, FollowFrom, code_of, code_end, end_of, entry_bytes, attribute_bytes, dictionary_bytes, jtab_of}
use Rattle.pm_code.specs.Program.{procedure_bytes, procedures_bytes, procedures_end, segment_bytes}
use Rattle.pm_code.proofs.Sizes.{length-code}
use Rattle.pm_source.specs.Source.{Row, row_items}
use Rattle.pm_source.specs.Source as source

entries_length : (at : ℕ) (places : List ℕ) → length (entry_bytes at places) ≡ 2 * length places
entries_length at [] = refl
entries_length at (place ∷ places) = omega (arith, entries_length (at + 2) places)

procedure_length : (number : ℕ) (p : Procedure) → p.start + length (procedure_bytes number p) ≡ jtab_of p + 2
procedure_length number p =
    let entries : List ℕ = entry_bytes (code_end p) (reverse p.entries) in
    let last : List ℕ = attribute_bytes number p in
    let ten : length last ≡ 10 = refl in
    omega (
      arith,
      length-append (code_of p) (entries ++ last),
      length-append entries last,
      length-code p.start p.items,
      entries_length (code_end p) (reverse p.entries),
      length-reverse p.entries,
      ten,
    )

procedures_length : (number at : ℕ) (ps : List Procedure) → FollowFrom at ps → at + length (procedures_bytes number ps) ≡ procedures_end at ps
procedures_length number at [] f = omega arith
procedures_length number at (p ∷ ps) f =
    omega (
      arith,
      length-append (procedure_bytes number p) (procedures_bytes (number + 1) ps),
      f.0,
      procedure_length number p,
      procedures_length (number + 1) (jtab_of p + 2) ps f.1,
    )

-- The end of each procedure of a segment is inside the segment.
pub end_within : (s : Segment) → FollowFrom 0 s.procedures → procedures_end 0 s.procedures ≤ length (segment_bytes s)
end_within s f =
    let rest : List ℕ = dictionary_bytes (procedures_end 0 s.procedures) (reverse s.procedures) ++ s.number ∷ length s.procedures ∷ [] in
    omega (arith, length-append (procedures_bytes 1 s.procedures) rest, procedures_length 1 0 s.procedures f)

-- The end of the last of the procedures is not before the offset at which the first one begins.
pub end_later : (at : ℕ) (ps : List Procedure) → FollowFrom at ps → at ≤ procedures_end at ps
end_later at ps f = omega (arith, procedures_length 1 at ps f)

-- If two offsets have the same parity, then an item has the same size at both.
size_parity : {P : Type 0} (m n : ℕ) (item : Item P) → m % 2 ≡ n % 2 → size m item ≡ size n item
size_parity m n (Plain i named) e = ap (λ r. length (spelling (r == 1) 0 i named)) e
size_parity m n (Jump op target) e = refl
size_parity m n (Case low high otherwise places) e = ap (λ r. 7 + length (pad_byte (flip (r == 1)) 0) + 2 * length places) e
size_parity m n (OneByte b) e = refl

end_parity : {P : Type 0} (m n : ℕ) (items : List (Item P)) → m % 2 ≡ n % 2 → end_of m items % 2 ≡ end_of n items % 2
end_parity m n [] e = e
end_parity m n (item ∷ items) e =
    let same : size m item ≡ size n item = size_parity m n item e in
    end_parity (m + size m item) (n + size n item) items (omega (arith, e, same))

pub code_parity : (m n : ℕ) (rows : List Row) → m % 2 ≡ n % 2 → source.code_end m rows % 2 ≡ source.code_end n rows % 2
code_parity m n [] e = e
code_parity m n (row ∷ rows) e = code_parity (end_of m (row_items row)) (end_of n (row_items row)) rows (end_parity m n (row_items row) e)
