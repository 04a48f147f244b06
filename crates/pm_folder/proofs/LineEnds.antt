-- Laws of a text with other line ends, from a position on.
use Rattle.std.proofs.Common.{◌≡◌, ◌++◌, ◌+◌, ◌<◌, ◌≤◌, ℕ, zero, suc, List, [], ◌∷◌, drop, length, get_or, refl, arith}
use Rattle.std.proofs.Common.{append_assoc, add-one}
use Rattle.std.proofs.Math.Seq.{drop-cons}
use Rattle.pm_folder.specs.Contents.{byte_with_ends, with_ends}
use Rattle.pm_folder.specs.declared.contents.Ends.{Ends}

pub ends-more : (e : Ends) (bytes text : List ℕ) (i : ℕ) → i < length text
    → (bytes ++ byte_with_ends e (get_or text i 0)) ++ with_ends e (drop (i + 1) text) ≡ bytes ++ with_ends e (drop i text)
ends-more e bytes text i h =
    rw (add-one, drop-cons text i 0 h) (append_assoc bytes (byte_with_ends e (get_or text i 0)) (with_ends e (drop (suc i) text)))

pub ends-done : (e : Ends) (text : List ℕ) (i : ℕ) → length text ≤ i → with_ends e (drop i text) ≡ []
ends-done e [] zero h = refl
ends-done e [] (suc i) h = refl
ends-done e (c ∷ text) zero h = absurd (omega arith)
ends-done e (c ∷ text) (suc i) h = ends-done e text i (omega arith)
