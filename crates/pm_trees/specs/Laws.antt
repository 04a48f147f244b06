-- Laws about statements. A statement is a tree whose nodes are parts, which are items of the code with their stack
-- effects.
use Rattle.std.specs.Prelude.{◌≡◌, true, ℕ, zero, suc, false, List, [], ◌∷◌, ◌++◌, map, replicate, if◌then◌else◌}
use Rattle.std.specs.Prelude.{Option, Some, None}
use Rattle.pm_code.specs.Item.{Item}
use Rattle.pm_code.specs.Program.{Procedure}
use Rattle.pm_effects.specs.declared.effect.Share.{Share}
use Rattle.pm_effects.specs.declared.effect.Share.TheVariants as share
use Rattle.pm_phrases.specs.declared.around.Missing.{Missing}
use Rattle.pm_trees.specs.declared.part.Leaves.{Leaves}
use Rattle.pm_trees.specs.declared.part.Leaves.TheVariants as leaves
use Rattle.pm_trees.specs.declared.part.Takes.{Takes}
use Rattle.pm_trees.specs.Parts.{Known, Part, is_reached, procedure_parts}
use Rattle.pm_trees.specs.Trees.{Forest, is_none, none_missing, parts_of, statements}
use Rattle.pm_trees.specs.Trees.Forest.{Bare, Tree}

abbrev pub items_of : Forest → List (Item ℕ)
items_of f = map (λ (p : Part). p.item) (parts_of f)

-- If the statements of a procedure are read with the operands first, the result is its code: every item once, in order.
abbrev pub StatementsAreTheCode : Type 0
StatementsAreTheCode = (k : Known) (p : Procedure) → items_of (statements (procedure_parts k p)) ≡ p.items

-- ---- what operands leave on the stack

-- An entry of the stack: a word, a word with a known value, or a set whose size is not known.
pub data Entry : Type 0 where
  AWord : Entry
  AConstant : ℕ → Entry
  ASet : Entry

abbrev pub entries : Leaves → List Entry
entries (leaves.Words n) = replicate n AWord
entries (leaves.Constant c) = AConstant c ∷ []
entries leaves.Set = ASet ∷ []

-- The entries that the trees push on the stack, the top entry first.
abbrev pub entries_of : Forest → List Entry
entries_of Bare = []
entries_of (Tree p missing operands before) = entries p.leaves ++ entries_of before

-- The result of taking entries from a stack: the share that is still needed, and the rest of the stack.
pub record Rest : Type 0 where
  pub wanted : Share
  pub stack : List Entry

-- Takes `n` words from the stack `es`. The result is `None` if a set would have to be divided into words.
unfoldable pub off_words : ℕ → List Entry → Option Rest
off_words zero es = Some (record { wanted = share.Words 0; stack = es })
off_words (suc n) [] = Some (record { wanted = share.Words (suc n); stack = [] })
off_words (suc n) (AWord ∷ es) = off_words n es
off_words (suc n) (AConstant c ∷ es) = off_words n es
off_words (suc n) (ASet ∷ es) = None

-- Takes a set from a stack: either one entry that is a set, or a constant and the number of words that it gives.
abbrev pub off_set : List Entry → Option Rest
off_set [] = Some (record { wanted = share.Set; stack = [] })
off_set (ASet ∷ es) = Some (record { wanted = share.Words 0; stack = es })
off_set (AConstant c ∷ es) = off_words c es
off_set (AWord ∷ es) = None

abbrev pub off_share : Share → List Entry → Option Rest
off_share (share.Words n) es = off_words n es
off_share share.Set es = off_set es

-- The shares that are missing, if the stack is now empty. The result is `None` if entries are left on the stack.
abbrev pub missing_of : Share → Share → List Entry → Option Missing
missing_of top below [] = Some (record { top = top; below = below })
missing_of top below (e ∷ es) = None

abbrev pub missing_below : Option Rest → Option Missing
missing_below None = None
missing_below (Some l) = missing_of (share.Words 0) l.wanted l.stack

abbrev pub missing_then : Share → Option Rest → Option Missing
missing_then below None = None
missing_then below (Some l) =
    if is_none l.wanted then missing_below (off_share below l.stack) else missing_of l.wanted below l.stack

-- What is missing after a part with the shares `w` has taken all entries of a stack. The result is `None` if entries
-- are left.
unfoldable pub missing_from : Takes → List Entry → Option Missing
missing_from w es = missing_then w.below (off_share w.top es)

-- States that each part pops exactly what its operands push, and what is recorded as missing.
abbrev pub TakesItsOperands : Forest → Type 0
TakesItsOperands Bare = Unit {0}
TakesItsOperands (Tree p missing operands before) =
    (missing_from p.takes (entries_of operands) ≡ Some missing) × TakesItsOperands operands × TakesItsOperands before

abbrev pub OperandsAreWhatIsTaken : Type 0
OperandsAreWhatIsTaken = (k : Known) (p : Procedure) → TakesItsOperands (statements (procedure_parts k p))

-- ---- labels

abbrev pub AreUnreached : List Part → Type 0
AreUnreached [] = Unit {0}
AreUnreached (p ∷ ps) = (is_reached p.place ≡ false) × AreUnreached ps

abbrev pub AreInOne : List Part → Type 0
AreInOne [] = Unit {0}
AreInOne (p ∷ ps) = AreUnreached ps

-- States that in each statement only the first part can have a label or begin the exit code.
abbrev pub AreReachedAtTheFront : Forest → Type 0
AreReachedAtTheFront Bare = Unit {0}
AreReachedAtTheFront (Tree p missing operands before) =
    AreInOne (parts_of operands ++ p ∷ []) × AreReachedAtTheFront before

abbrev pub LabelsStandBeforeStatements : Type 0
LabelsStandBeforeStatements = (k : Known) (p : Procedure) → AreReachedAtTheFront (statements (procedure_parts k p))

-- ---- what is missing: what a part pops although none of its operands pushes it

-- States that nothing is missing in these trees.
abbrev pub AreWhole : Forest → Type 0
AreWhole Bare = Unit {0}
AreWhole (Tree p missing operands before) = (none_missing missing ≡ true) × AreWhole operands × AreWhole before

-- States that in a list of trees something can be missing only in the first tree, and there only in its first operand.
abbrev pub MissBelow : Forest → Type 0
MissBelow Bare = Unit {0}
MissBelow (Tree p missing operands Bare) = MissBelow operands
MissBelow (Tree p missing operands (Tree q more others before)) =
    (none_missing missing ≡ true) × AreWhole operands × MissBelow (Tree q more others before)

abbrev pub EachMissesBelow : Forest → Type 0
EachMissesBelow Bare = Unit {0}
EachMissesBelow (Tree p missing operands before) = MissBelow operands × EachMissesBelow before

-- If a statement pops something that none of its operands pushes, then this was on the stack before the statement,
-- below everything that the operands push.
abbrev pub MissingIsBelow : Type 0
MissingIsBelow = (k : Known) (p : Procedure) → EachMissesBelow (statements (procedure_parts k p))
