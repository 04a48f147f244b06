-- Laws of lists of blocks and statements whose last item is the innermost or the last one.
use Rattle.std.proofs.Common.{◌≡◌, ℕ, true, false, List, [], ◌∷◌, ◌++◌, refl, reverse}
use Rattle.std.proofs.lemmas.List.{reverse-append}
use Rattle.pm_trees.specs.declared.block.Block.{Block}
use Rattle.pm_trees.specs.declared.statement.Statement.{Statement}
use Rattle.pm_trees.specs.Blocks.{end_behind, end_here, end_lines, has_ended, open_at}

pub reverse_pushed : {A : Type 0} → (l : List A) (s : A) → reverse (l ++ s ∷ []) ≡ s ∷ reverse l
reverse_pushed l s = reverse-append l (s ∷ [])

pub end_behind_last : (end : ℕ) (ss : List Statement) (s : Statement) → end_behind end (ss ++ s ∷ []) ≡ s.behind
end_behind_last end [] s = refl
end_behind_last end (t ∷ ss) s = end_behind_last t.behind ss s

pub none_open : (at : ℕ) (bs : List Block) → has_ended at bs ≡ false → open_at at bs ≡ bs
none_open at [] e = refl
none_open at (b ∷ bs) e = rw e refl

pub none_lines : (at : ℕ) (bs : List Block) → has_ended at bs ≡ false → end_lines at bs ≡ []
none_lines at [] e = refl
none_lines at (b ∷ bs) e = rw e refl

pub none_here : (at : ℕ) (bs : List Block) → has_ended at bs ≡ false → end_here at bs ≡ true
none_here at [] e = refl
none_here at (b ∷ bs) e = rw e refl
