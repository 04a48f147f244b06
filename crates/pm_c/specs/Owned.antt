-- The memory that a handle owns.
use base.Fml.{Fml, ftrue, fex}
use denote.RawPtr.{Ptr, null_ptr}
use denote.RattleType.{RattleType}
use Rattle.std.specs.Prelude.{◌≡◌, Option, None, Some}
use Rattle.std.specs.declared.alloc.Global.{Global}
use Rattle.std.specs.contracts.impls.GlobalAllocator.TheImpl.{ghosts}
use Rattle.std.specs.Box.Ownership.{box_owns}

-- A handle without a value has a null pointer and owns nothing. A handle with the value `x` has a pointer to a block
-- that contains `x` and that the allocator can free.
abbrev pub owned : (R : RattleType) → Ptr → Option R.Denot → Fml
owned R at None = fex (at ≡ null_ptr) (λ _. ftrue)
owned R at (Some x) = fex Global (λ heap. box_owns (ghosts.dealloc_token heap) R at x)
