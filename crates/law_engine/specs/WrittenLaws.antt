-- The law of the words that a step writes.
use Rattle.std.specs.Prelude.{◌≡◌, ◌<◌, ℕ, ◌%◌, false, List, All, Some}
use Rattle.pm_words.specs.Words.{IsMemory, word_at}
use Rattle.pm_words.specs.Stack.{IsStack}
use Rattle.pm_units.specs.Devices.{image_at}
use Rattle.pm_machine.specs.State.{State}
use Rattle.pm_machine.specs.Steps.{stepped}
use Rattle.pm_machine.specs.Written.{writes}

-- The state `s` is plain: it has a valid memory and a valid stack (`IsMemory`, `IsStack`), and bytes on its disks and
-- in its queue. Each machine has such a state.
pub record IsPlain (s : State) : Type 0 where
  pub memory : IsMemory s.memory
  pub stack : IsStack s.registers.sp s.registers.np
  pub disks : (k : ℕ) (image : List ℕ) → image_at s.devices k ≡ Some image → All (λ b. b < 256) image
  pub queue : All (λ b. b < 256) s.devices.queue

-- A step leaves each word unchanged of which it writes no byte, as `writes` states. This holds for each instruction and
-- each result.
abbrev pub StepsWriteWhatIsNamed : Type 0
StepsWriteWhatIsNamed =
    (s : State) (x : ℕ) →
    IsPlain s → x % 2 ≡ 0 → writes x 2 s ≡ false → word_at (stepped s).0.memory x ≡ word_at s.memory x
