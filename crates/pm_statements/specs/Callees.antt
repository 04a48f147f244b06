-- The sizes of the parameters and of the result of a procedure, in words.
use Rattle.std.specs.Prelude.{ℕ, ◌/◌, Bool, List, [], ◌∷◌, ◌==◌, ◌||◌, nat_le, if◌then◌else◌, Option, Some, None}
use Rattle.std.specs.Map.{lookup}
use Rattle.pm_families.specs.declared.families.Return.TheVariants as return
use Rattle.pm_opcode.specs.declared.operation.Operation.{Operation}
use Rattle.pm_opcode.specs.declared.operation.Operation.TheVariants as operation
use Rattle.pm_opcode.specs.Operations.{operation_of}
use Rattle.pm_code.specs.Item.{Item}
use Rattle.pm_code.specs.Item.Item.{Plain}
use Rattle.pm_code.specs.Program.{Procedure}
use Rattle.pm_statements.specs.declared.callees.Returns.{Returns}
use Rattle.pm_statements.specs.declared.callees.Returns.TheVariants as returns
use Rattle.pm_trees.specs.declared.part.Callee.{Callee}

abbrev pub sized : ℕ → ℕ → Callee
sized parameters results = record { parameters = parameters; results = results }

-- The numbers and sizes of the procedures of the operating system that a program calls. A parameter that is a file, or
-- the address of a string, has one word. A function has two parameter words for its result, and leaves one word.
unfoldable pub system_callees : List (ℕ × Callee)
system_callees =
    (3, sized 3 0) ∷
    (4, sized 1 0) ∷
    (5, sized 4 0) ∷
    (6, sized 2 0) ∷
    (7, sized 1 0) ∷
    (8, sized 1 0) ∷
    (9, sized 2 0) ∷
    (10, sized 3 1) ∷
    (11, sized 3 1) ∷
    (12, sized 2 0) ∷
    (13, sized 3 0) ∷
    (16, sized 2 0) ∷
    (17, sized 3 0) ∷
    (18, sized 3 0) ∷
    (19, sized 3 0) ∷
    (20, sized 4 0) ∷
    (21, sized 1 0) ∷
    (22, sized 1 0) ∷
    (23, sized 3 0) ∷
    (24, sized 4 0) ∷
    (25, sized 4 0) ∷
    (26, sized 3 0) ∷
    (27, sized 4 1) ∷
    (28, sized 8 1) ∷
    (29, sized 2 0) ∷
    []

unfoldable pub system_callee : ℕ → Option Callee
system_callee n = lookup (λ m. m == n) system_callees

-- ---- procedures of the file, by their code

abbrev pub no_return : Returns
no_return = returns.NoReturn

abbrev pub operation_returns : Operation → Option ℕ
operation_returns (operation.Return (return.Normal n)) = Some n
operation_returns (operation.Return (return.Base n)) = Some n
operation_returns _ = None

-- Is true if `op` is the opcode of RNP or RBP. No other opcode is a return.
abbrev pub is_return_opcode : ℕ → Bool
is_return_opcode op = (op == 173) || (op == 193)

abbrev pub words_returned : Item ℕ → Option ℕ
words_returned (Plain i named) = operation_returns (operation_of i)
words_returned _ = None

abbrev pub with_return : Returns → ℕ → Returns
with_return returns.NoReturn n = returns.Of n
with_return (returns.Of m) n = if m == n then returns.Of m else returns.Different
with_return returns.Different n = returns.Different

abbrev pub joined : Returns → Option ℕ → Returns
joined r None = r
joined r (Some n) = with_return r n

abbrev pub returns_from : Returns → List (Item ℕ) → Returns
returns_from r [] = r
returns_from r (item ∷ items) = returns_from (joined r (words_returned item)) items

abbrev pub callee_by : ℕ → Returns → Option Callee
callee_by words (returns.Of n) = if nat_le words 255 then Some (sized words n) else None
callee_by words _ = None

-- Returns the sizes of the procedure `p`: the words of its parameters, and the number of words that each of its returns
-- leaves. Returns None if the returns leave different numbers of words.
abbrev pub callee_of : Procedure → Option Callee
callee_of p = callee_by (p.parameters / 2) (returns_from no_return p.items)
