-- The loops of the order `big`.
use Rattle.std.proofs.Common.{◌≡◌, ◌+◌, ◌-◌, ◌<◌, ◌≤◌, ℕ, Bool, true, false, List, [], ◌∷◌, ◌++◌, refl, sym, arith, length, append_assoc, append-nil}
use Rattle.std.specs.Prelude.{◌==◌, slice_index}
use Rattle.std.proofs.lemmas.List.FromFn.{length-map-range_with_len, map-range_with_len_more}
use Rattle.pm_convert.specs.Big.{big_place, code_firsts, directory_front, directory_place, exchanged_front, exchanged_with, turned_directory}
use Rattle.pm_volume.specs.Directory.{entries_from, entry_in}
use Rattle.pm_volume.specs.declared.kinds.TheConstants.{CODE}
use Rattle.pm_volume.proofs.DirectoryLaws.{entries_from-more}

-- The first 0 bytes of a converted image. The next law adds one byte.
pub front_none : (second : Bool) (blocks image : List ℕ) → [] ≡ exchanged_front second blocks image 0
unfolding exchanged_front
front_none second blocks image = refl

pub front_more : (second : Bool) (blocks image made : List ℕ) (place from : ℕ)
    → made ≡ exchanged_front second blocks image place → from ≡ big_place second blocks (length image) place
    → made ++ (slice_index image from ∷ []) ≡ exchanged_front second blocks image (place + 1)
unfolding exchanged_front
front_more second blocks image made place from whole value =
    rw (whole, value) (sym (map-range_with_len_more _ 0 place place (omega arith)))

-- The same for a converted directory.
pub directory_none : (directory : List ℕ) → [] ≡ directory_front directory 0
unfolding directory_front
directory_none directory = refl

pub directory_more : (directory made : List ℕ) (place from : ℕ)
    → made ≡ directory_front directory place → from ≡ directory_place place
    → made ++ (slice_index directory from ∷ []) ≡ directory_front directory (place + 1)
unfolding directory_front
directory_more directory made place from whole value =
    rw (whole, value) (sym (map-range_with_len_more _ 0 place place (omega arith)))

-- A converted directory has 2,048 bytes.
pub turned_directory_size : (directory : List ℕ) → length (turned_directory directory) ≡ 2048
unfolding turned_directory directory_front
turned_directory_size directory =
    length-map-range_with_len (λ (place : ℕ). slice_index directory (directory_place place)) 0 2048

-- A conversion keeps the length of the image.
pub exchanged_size : (second : Bool) (blocks image : List ℕ) → length (exchanged_with second blocks image) ≡ length image
unfolding exchanged_with exchanged_front
exchanged_size second blocks image =
    length-map-range_with_len (λ (place : ℕ). slice_index image (big_place second blocks (length image) place)) 0 (length image)

module _ (directory blocks : List ℕ) (n end : ℕ) where
  -- The next entry is a code file, or another file. The last law: no entry is left.
  pub code_here : n < end → ((entry_in directory n).kind == CODE) ≡ true
      → blocks ++ code_firsts (entries_from directory n (end - n))
      ≡ (blocks ++ ((entry_in directory n).first ∷ [])) ++ code_firsts (entries_from directory (n + 1) (end - (n + 1)))
  code_here below is = rw (entries_from-more directory n end below, is)
      (sym (append_assoc blocks ((entry_in directory n).first ∷ []) (code_firsts (entries_from directory (n + 1) (end - (n + 1))))))

  pub code_other : n < end → ((entry_in directory n).kind == CODE) ≡ false
      → blocks ++ code_firsts (entries_from directory n (end - n))
      ≡ blocks ++ code_firsts (entries_from directory (n + 1) (end - (n + 1)))
  code_other below is = rw (entries_from-more directory n end below, is) refl

  pub code_none : end ≤ n → blocks ++ code_firsts (entries_from directory n (end - n)) ≡ blocks
  unfolding entries_from
  code_none over = let e : end - n ≡ 0 = omega arith in rw e (append-nil blocks)

pub ruleset big_steps = (front_none, front_more)

pub ruleset directory_steps = (directory_none, directory_more)

pub ruleset code_steps = (code_here, code_other, code_none)
