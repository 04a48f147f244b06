-- The answer of a call that returns free blocks, if memory runs out.
use Rattle.std.proofs.Common.{◌≡◌, ℕ, List, Option, None, Some, refl}
use Rattle.pm_volume.specs.declared.fault.VolumeFault.{VolumeFault}
use Rattle.pm_c.specs.Removed.{GivesBlocks}
use Rattle.pm_c.specs.declared.status.TheConstants.{NO_MEMORY}

pub no_memory_for_blocks : (fault : Option VolumeFault) (bytes : Option (List ℕ)) (status : ℕ) (old : List ℕ)
    (needed : ℕ) → status ≡ NO_MEMORY → needed ≡ 0 → GivesBlocks fault bytes status old old needed
no_memory_for_blocks (Some fault) bytes status old needed is zero = record {
  answer = λ has. absurd (has.room is);
  none = λ no. (refl, zero);
}
no_memory_for_blocks None (Some bytes) status old needed is zero = record {
  answer = λ has. absurd (has.room is);
  none = λ no. (refl, zero);
}
no_memory_for_blocks None None status old needed is zero = record {
  answer = λ has. absurd (has.room is);
  none = λ no. (refl, zero);
}
