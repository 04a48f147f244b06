-- The answer that a call for a whole job copies to the buffer of the caller.
use Rattle.std.specs.Prelude.{◌≡◌, ◌≢◌, ◌⊎◌, ℕ, List, ◌++◌, Option, None, Some, length, if◌then◌else◌, nat_lt}
use Rattle.pm_tool.specs.Outcomes.{Said, exit_number}
use Rattle.pm_c.specs.Changes.{filled}
use Rattle.pm_c.specs.declared.status.TheConstants.{NO_KIND, NO_MEMORY, NO_TEXT, TOO_LONG, TOO_SHORT}

-- Returns the image to be saved, if one is given. Otherwise returns `told`, the written bytes followed by the message.
abbrev pub or_told : Option (List ℕ) → List ℕ → List ℕ
or_told (Some image) told = image
or_told None told = told

abbrev pub answer_of : Said → List ℕ
answer_of told = or_told told.image (told.written ++ told.message)

-- Returns the status of a job with the defined output `told` and a buffer with the old bytes `old`. It is the exit
-- status of the job, or `TOO_SHORT` if the answer does not fit into the buffer.
abbrev pub answer_code : Said → List ℕ → ℕ
answer_code told old = if nat_lt (length old) (length (answer_of told)) then TOO_SHORT else exit_number told.exit

-- The status means that the call has no answer: the input is too long, memory ran out, or a name is not UTF-8.
abbrev pub NoAnswer : ℕ → Type 0
NoAnswer status = (status ≡ TOO_LONG) ⊎ (status ≡ NO_MEMORY) ⊎ (status ≡ NO_TEXT)

pub record HasAnswer (status : ℕ) : Type 0 where
  pub fits : status ≢ TOO_LONG
  pub room : status ≢ NO_MEMORY
  pub text : status ≢ NO_TEXT

-- The call has copied the answer of the job to the buffer: `needed`, the new bytes of the buffer and the status are
-- correct for the defined output `told`.
pub record Answered (told : Said) (status : ℕ) (old new : List ℕ) (needed : ℕ) : Type 0 where
  pub wants : needed ≡ length (answer_of told)
  pub holds : new ≡ filled (answer_of told) old
  pub says : status ≡ answer_code told old

-- If the status is that of a call with an answer, the answer was copied. If the call has no answer, the buffer is
-- unchanged and `needed` is 0.
pub record Answers (told : Said) (status : ℕ) (old new : List ℕ) (needed : ℕ) : Type 0 where
  pub answer : HasAnswer status → Answered told status old new needed
  pub none : NoAnswer status → (new ≡ old) × (needed ≡ 0)

-- The call was refused because the kind is above 15: the buffer is unchanged and `needed` is 0.
pub record RefusesKind (status : ℕ) (old new : List ℕ) (needed : ℕ) : Type 0 where
  pub says : status ≡ NO_KIND
  pub same : new ≡ old
  pub none : needed ≡ 0
