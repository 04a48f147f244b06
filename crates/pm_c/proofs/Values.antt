-- How a handle is represented in the machine: a struct with one pointer.
use Rattle.std.proofs.Common.{◌≡◌, ℕ, zero, suc, List, [], ◌∷◌, ◌++◌, refl, ◌∙◌, lit<}
use lib.Dec.{T}
use seplogic.Ra.Ura.{Ura}
use mir.Raw.{raw as bare}
use mir.Syntax.{Ty, ty_ptr, ty_struct, tcons, tnil}
use mir.Val.{Val, vstruct, vcons, vnil, of_list, has_ty, WT}
use base.Fml.{Fml}
use base.Fraction.{full_share}
use base.Logic.{ent, emp, never, guard, via, fst∗, snd∗, guard_i}
use types.Kit.{Item, Goal, Seq, ‵, ◌$◌, given, drop, fpick, learn, use1}
use types.Logic.{Logic, sem}
use contract.Monad.{fact_use}
use denote.Builtin.{unit}
use denote.Memory.{lone}
use denote.RattleType.{RattleType}
use denote.RawPtr.{Ptr, RawPtr, block_ptr, null_ptr, ptr_val, lies_at, Testable, in_a_block}
use denote.Shadow.{shadow, makes_shadow}
use denote.Signature.{Slot, plain}
use denote.Struct.Struct.{Struct}
use Rattle.std.proofs.GlobalToken.{dealloc_token-Testable}
use Rattle.std.specs.Box.Ownership.{box_owns}
use Rattle.std.specs.Prelude.{Option, Some, None}
use Rattle.std.specs.contracts.impls.GlobalAllocator.TheImpl.{ghosts}
use Rattle.std.specs.declared.alloc.Global.{Global}
use Rattle.pm_c.specs.Owned.{owned}

abbrev pub Good : Ty → Val → Type 0
Good τ v = T (has_ty τ v) × WT v

-- Returns the parameter at the position `k` of a list.
abbrev pub slot_at : {n : ℕ} → ℕ → List (Slot n) → Slot n
slot_at k [] = plain (λ _. unit)
slot_at zero (s ∷ ss) = s
slot_at (suc k) (s ∷ ss) = slot_at k ss

-- A struct type with the fields `Rs` and without a name. What a struct owns does not depend on its name.
abbrev pub plainly : List RattleType → RattleType
plainly Rs = Struct (record { name = []; args = []; types = []; fields = Rs })

-- The machine value of a handle with the pointer `p`.
abbrev pub handle_val : Ptr → Val
handle_val p = vstruct (vcons (ptr_val p) vnil)

abbrev pub handle_own : Ptr → List Val → Fml
handle_own p = (plainly (RawPtr ∷ [])).own_val (p, tt)

pub handle_told : (p : Ptr) (vs : List Val) → shadow (handle_own p vs) → vs ≡ handle_val p ∷ []
handle_told p vs s = s.1.0 ∙ (λ i. vstruct (of_list (s.1.1.0 i ++ [])) ∷ [])

pub handle_made : {M : Type 1} {𝓤 : Ura M} (𝓛 : Logic 𝓤) (p : Ptr) → ent 𝓤 (emp 𝓤) (sem 𝓛 (handle_own p (handle_val p ∷ [])))
handle_made 𝓛 p = makes_shadow 𝓛 (handle_own p (handle_val p ∷ [])) (λ _. (tt, (tt, tt))) ((ptr_val p ∷ [], tt), (refl, (refl, tt)))

pub handle_typed : (p : Ptr) → Good (ty_struct [] (tcons ty_ptr tnil)) (handle_val p)
handle_typed (block_ptr b o) = (tt, (tt, tt))
handle_typed null_ptr = (tt, (record { fits = lit< tt }, tt))

-- The pointer owns a block of the heap that contains a value.
abbrev pub boxed : (R : RattleType) → Global → Ptr → R.Denot → Fml
boxed R heap = box_owns (ghosts.dealloc_token heap) R

-- A pointer to a block that an allocator can free may be compared with null.
tested : {M : Type 1} {𝓤 : Ura M} (𝓛 : Logic 𝓤) (R : RattleType) (heap : Global) (p : Ptr) (x : R.Denot)
    → ent 𝓤 (sem 𝓛 (boxed R heap p x)) (guard 𝓤 (Testable p) (sem 𝓛 (boxed R heap p x)))
tested {𝓤 = 𝓤} 𝓛 R heap p x =
    let τ = bare (lone R.mir) in
    fact_use 𝓤 (Testable p) (via 𝓤 _ (snd∗ 𝓤 (sem 𝓛 (lies_at R full_share p x)) (sem 𝓛 (ghosts.dealloc_token heap τ p)))
    (dealloc_token-Testable 𝓛 heap τ p)) (guard_i 𝓤 (Testable p) (sem 𝓛 (boxed R heap p x)))

module _ (R : RattleType) {M : Type 1} {𝓤 : Ura M} {𝓛 : Logic 𝓤} {K : Type 0} {Γ : List (Item 𝓤)} {G : Goal 𝓤 𝓛.H} where
  -- If a goal follows for an empty handle, whose pointer is null, and for a handle with a value in a block, then it
  -- follows for any handle.
  pub either_owned : K → (p : Ptr) (o : Option R.Denot) → (p ≡ null_ptr → o ≡ None → Seq K 𝓛 Γ G)
      → ((b n : ℕ) (heap : Global) (x : R.Denot) → p ≡ block_ptr b n → o ≡ Some x → Testable (block_ptr b n)
      → Seq K 𝓛 (‵ (boxed R heap (block_ptr b n) x) ∷ Γ) G)
      → Seq K 𝓛 (‵ (owned R p o) ∷ Γ) G
  either_owned t p None none one = fpick t (λ e. drop t $ none e refl)
  either_owned t p (Some x) none one = fpick t (λ heap. in_a_block t p (λ q. boxed R heap q x) (fst∗ 𝓤 (never 𝓤)
      (sem 𝓛 (ghosts.dealloc_token heap (bare (lone R.mir)) null_ptr)))
      (λ b n e. let q : Ptr = block_ptr b n in use1 𝓛 (given (Testable q) (‵ (boxed R heap q x))) (tested 𝓛 R heap q x) $
      learn t (λ shown. one b n heap x e refl shown)))
