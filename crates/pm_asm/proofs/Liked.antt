-- The first opcode whose mnemonic is similar to a word.
use Rattle.std.proofs.Common.{◌≡◌, ℕ, suc, ◌+◌, ◌-◌, ◌<◌, Bool, true, false, List, ap, ◌∙◌, arith, Some, None, if◌then◌else◌}
use Rattle.pm_opcode.specs.Table.{mnemonic_of}
use Rattle.pm_asm.specs.Near.{is_like, liked_from}

-- The search from opcode `op` on first tests `op`, and then continues with `op + 1`.
from_here : (near : Bool) (word : List ℕ) (op : ℕ) → op < 256 → liked_from near word op (256 - op)
    ≡ (if is_like near word (mnemonic_of op) then Some op else liked_from near word (op + 1) (256 - (op + 1)))
from_here near word op h = let e : 256 - op ≡ suc (256 - (op + 1)) = omega (arith, h) in ap (liked_from near word op) e

pub found_here : (near : Bool) (word : List ℕ) (op : ℕ) → op < 256 → is_like near word (mnemonic_of op) ≡ true
    → liked_from near word op (256 - op) ≡ Some op
found_here near word op h e =
    from_here near word op h ∙ ap (λ b. if b then Some op else liked_from near word (op + 1) (256 - (op + 1))) e

pub not_here : (near : Bool) (word : List ℕ) (op : ℕ) → op < 256 → is_like near word (mnemonic_of op) ≡ false
    → liked_from near word op (256 - op) ≡ liked_from near word (op + 1) (256 - (op + 1))
not_here near word op h e =
    from_here near word op h ∙ ap (λ b. if b then Some op else liked_from near word (op + 1) (256 - (op + 1))) e

pub nowhere : (near : Bool) (word : List ℕ) (op : ℕ) → op ≡ 256 → liked_from near word op (256 - op) ≡ None
nowhere near word op h = let e : 256 - op ≡ 0 = omega (arith, h) in ap (liked_from near word op) e
