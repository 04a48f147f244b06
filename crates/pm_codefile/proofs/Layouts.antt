-- Laws of the loops that write the parts of a code file, for one more slot.
use Rattle.std.proofs.Common.{◌≡◌, ℕ, ◌+◌, ◌<◌, List, ◌++◌, length, take, drop, get_or, refl, add-one, drop-cons}
use Rattle.std.specs.Prelude.{sum}
use Rattle.std.proofs.lemmas.List.Sums.{sum_by-drop_more}
use Rattle.pm_codefile.specs.Layout.{blocks_for, name_for, names_for, in_blocks, block_padding, slot_pair, pairs}

pub pairs-more : (b : ℕ) (ns : List ℕ) (i : ℕ) → i < length ns →
    pairs b (drop i ns) ≡ slot_pair b (get_or ns i 0) ++ pairs (b + blocks_for (get_or ns i 0)) (drop (i + 1) ns)
unfolding pairs
pairs-more b ns i h = rw (add-one, drop-cons ns i 0) refl

pub padded-more : (ns bs : List ℕ) (i : ℕ) → i < length ns →
    in_blocks (drop i ns) bs ≡ (take (get_or ns i 0) bs ++ block_padding (get_or ns i 0)) ++ in_blocks (drop (i + 1) ns) (drop (get_or ns i 0) bs)
unfolding in_blocks
padded-more ns bs i h = rw (add-one, drop-cons ns i 0) refl

pub names-more : (names : List (List ℕ)) (ns : List ℕ) (i : ℕ) (d : List ℕ) → i < length names → i < length ns
    → names_for (drop i names) (drop i ns) ≡ name_for (get_or names i d) (get_or ns i 0) ++ names_for (drop (i + 1) names) (drop (i + 1) ns)
unfolding names_for
names-more names ns i d h k = rw (add-one, drop-cons names i d, drop-cons ns i 0) refl

pub sum-more : (ns : List ℕ) (i : ℕ) → i < length ns → sum (drop i ns) ≡ get_or ns i 0 + sum (drop (i + 1) ns)
sum-more ns i h = sum_by-drop_more (λ x. x) ns i 0 h
