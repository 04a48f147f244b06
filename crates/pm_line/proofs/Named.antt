-- Laws of the search for the first opcode with a mnemonic.
use Rattle.std.proofs.Common.{◌≡◌, ℕ, suc, ◌+◌, ◌-◌, ◌<◌, true, false, List, ap, ◌∙◌, arith, Some, None, if◌then◌else◌}
use Rattle.std.specs.Str.{bytes_eq}
use Rattle.pm_opcode.specs.Table.{mnemonic_of}
use Rattle.pm_source.specs.Line.{named_from}

-- The search from `op` on checks `op`, and then searches from `op + 1` on.
from_here : (name : List ℕ) (op : ℕ) → op < 256 → named_from name op (256 - op)
    ≡ (if bytes_eq name (mnemonic_of op) then Some op else named_from name (op + 1) (256 - (op + 1)))
from_here name op h = let e : 256 - op ≡ suc (256 - (op + 1)) = omega (arith, h) in ap (named_from name op) e

pub found_here : (name : List ℕ) (op : ℕ) → op < 256 → bytes_eq name (mnemonic_of op) ≡ true → named_from name op (256 - op) ≡ Some op
found_here name op h e = from_here name op h ∙ ap (λ b. if b then Some op else named_from name (op + 1) (256 - (op + 1))) e

pub not_here : (name : List ℕ) (op : ℕ) → op < 256 → bytes_eq name (mnemonic_of op) ≡ false
    → named_from name op (256 - op) ≡ named_from name (op + 1) (256 - (op + 1))
not_here name op h e = from_here name op h ∙ ap (λ b. if b then Some op else named_from name (op + 1) (256 - (op + 1))) e

pub nowhere : (name : List ℕ) (op : ℕ) → op ≡ 256 → named_from name op (256 - op) ≡ None
nowhere name op h = let e : 256 - op ≡ 0 = omega (arith, h) in ap (named_from name op) e
