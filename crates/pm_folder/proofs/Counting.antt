-- Laws of counting the files that have a name.
use Rattle.std.proofs.Common.{◌≡◌, ◌+◌, ◌-◌, ℕ, zero, suc, Bool, true, false, List, ◌∷◌, length, take, refl, arith}
use Rattle.std.specs.Prelude.{if◌then◌else◌, nat_lt}
use Rattle.std.proofs.lemmas.Bool.Decides.{nat_tests}
use Rattle.std.specs.List.{filter}
use Rattle.pm_folder.specs.Folder.{counted, has_name}
use Rattle.pm_volume.specs.declared.entry.Entry.{Entry}

one-more : (b : Bool) (e : Entry) (files : List Entry)
    → (if b then 1 else 0) + length files ≡ length (if b then e ∷ files else files)
one-more true e files = omega arith
one-more false e files = omega arith

-- The number of the first `left` entries with a name is the count for the first entry plus the number of the first
-- `left - 1` entries after it.
pub counted_first : (name : List ℕ) (left : ℕ) (e : Entry) (rest : List Entry)
    → counted left name e + length (filter (has_name name) (take (left - 1) rest))
    ≡ length (filter (has_name name) (take left (e ∷ rest)))
counted_first name zero e rest = refl
counted_first name (suc left) e rest =
    let less : suc left - 1 ≡ left = omega arith in
    let more : nat_lt 0 (suc left) ≡ true = grind (arith, nat_tests) in
    rw (less, more) (one-more (has_name name e) e (filter (has_name name) (take left rest)))
