-- Laws of calls, returns and keep requests.
use Rattle.std.specs.Prelude.{◌≡◌, ◌≢◌, ◌<◌, ◌≤◌, ℕ, ◌+◌, ◌-◌, ◌*◌, ◌%◌, Bool, false, IsTrue, List, All}
use Rattle.std.specs.Prelude.{Option, Some, None, Ok, slice_get, slice_index, slice_index_or, length}
use Rattle.pm_words.specs.Words.{Contents, IsMemory, bytes_at}
use Rattle.pm_words.specs.Watch.{is_watched}
use Rattle.pm_words.specs.Stack.{minus}
use Rattle.pm_calls.specs.declared.registers.Registers.{Registers}
use Rattle.pm_calls.specs.declared.frames.Table.{Table}
use Rattle.pm_families.specs.declared.families.Call.{Call}
use Rattle.pm_families.specs.declared.families.Call.TheVariants.{Clp, Cgp, Cbp, Cip, Cxp}
use Rattle.pm_calls.specs.declared.frames.SegmentPlace.{SegmentPlace}
use Rattle.pm_calls.specs.Places.{Parts, Standing, placed}
use Rattle.pm_calls.specs.Kept.{Agrees, kept_table_words}
use Rattle.pm_calls.specs.Keeps.{segment_kept, segment_unkept}
use Rattle.pm_calls.specs.Tables.{attributes}
use Rattle.pm_calls.specs.Calls.{Reached, called, here, is_base, reach_loading, procedure_called, reach_standing}
use Rattle.pm_calls.specs.Returns.{returned, stands_at}
use Rattle.pm_words.specs.declared.layout.TheConstants.{STACK_END}

-- The code that is passed to a call, if any, is a list of bytes.
abbrev pub IsCode : Option (List ℕ) → Type 0
IsCode None = Unit {0}
IsCode (Some code) = All (λ b. b < 256) code

-- A CXP to slot `n` with the given entry reaches the segment `at`. If the segment is not loaded, its code is required.
abbrev pub ReachesSlot : Parts → ℕ → Option (List ℕ) → Option (Option SegmentPlace) → Reached → Type 0
ReachesSlot c n code None at = ⊥
ReachesSlot c n code (Some (Some p)) at = reach_standing c n p ≡ Ok at
ReachesSlot c n None (Some None) at = ⊥
ReachesSlot c n (Some bytes) (Some None) at = reach_loading c n bytes ≡ Ok at

-- The given call reaches the segment `at`: the segment of its slot for CXP, and otherwise the running segment.
abbrev pub Reaches : Parts → Call → Option (List ℕ) → Reached → Type 0
Reaches c (Cxp n p) code at = ReachesSlot c n code (slice_get c.places n) at
Reaches c (Clp p) code at = at ≡ here c
Reaches c (Cgp p) code at = at ≡ here c
Reaches c (Cbp p) code at = at ≡ here c
Reaches c (Cip p) code at = at ≡ here c

-- After a call and a return with a result of `words` words, the registers `after` are those before the call, with IPC
-- at the instruction after the call. Only SP differs: the parameters are popped, and the result is pushed. This
-- requires a base return after a base call, and a normal return after any other call.
pub record GivesBack (c : Parts) (call : Call) (code : Option (List ℕ)) (words : ℕ) (base : Bool)
    (after : Registers) : Type 0 where
  pub at : Reached
  pub reached : Reaches c call code at
  -- The table of the procedure, in the memory and the segment that the call reached.
  pub table : Table
  pub found : attributes at.memory at.place (procedure_called call) ≡ Ok table
  pub registers :
      base ≡ is_base call table.level
      → after ≡ record c.registers { sp = c.registers.sp + table.parameters - 2 * words }

-- If a return follows immediately after a call, then the registers are restored as `GivesBack` states.
abbrev pub ReturnGivesBack : Type 0
ReturnGivesBack =
    (c d e : Parts) (call : Call) (code : Option (List ℕ)) (words : ℕ) (base : Bool) →
    IsMemory c.memory → IsCode code →
    called c call code ≡ Ok d → returned d words base ≡ Ok e → GivesBack c call code words base e.registers

-- If a call loads a segment, then all of its code is immediately below the SP from before the call.
abbrev pub LoadedCodeStands : Type 0
LoadedCodeStands =
    (c d : Parts) (n p : ℕ) (code : List ℕ) →
    IsMemory c.memory → IsCode (Some code) → placed c.places n ≡ None →
    called c (Cxp n p) (Some code) ≡ Ok d → bytes_at d.memory (c.registers.sp - length code) (length code) ≡ code

-- No slot before slot `n` has a segment at `s` with a call. So a return from the segment at `s` subtracts 1 from the
-- count of slot `n`.
abbrev pub IsFirstAt : ℕ → ℕ → List (Option SegmentPlace) → Type 0
IsFirstAt s n places = (k : ℕ) → k < n → stands_at s (slice_index_or places k None) ≡ false

-- A return subtracts 1 from the count of the same slot `n` to which a CXP added 1, in each of these cases:
--
-- - The segment is already the running one, so that no count changes.
-- - The segment has a call or a keep request, and no slot before `n` has a segment with a call at its address.
-- - The segment is loaded below SP. No running segment is at this address, and no slot before `n` has a segment with a
--   call there.
abbrev pub IsFoundAgain : Parts → ℕ → Option (Option SegmentPlace) → Type 0
IsFoundAgain c n None = Unit {0}
IsFoundAgain c n (Some (Some p)) = p.place ≢ c.registers.seg → (0 < p.count + p.keeps) × IsFirstAt p.place n c.places
IsFoundAgain c n (Some None) =
    (c.registers.seg ≢ minus c.registers.sp 2) × IsFirstAt (minus c.registers.sp 2) n c.places

-- The given call is a CXP for which `IsFoundAgain` holds, or another call. Other calls change no count.
abbrev pub FindsAgain : Parts → Call → Type 0
FindsAgain c (Cxp n p) = IsFoundAgain c n (slice_get c.places n)
FindsAgain c (Clp p) = Unit {0}
FindsAgain c (Cgp p) = Unit {0}
FindsAgain c (Cbp p) = Unit {0}
FindsAgain c (Cip p) = Unit {0}

-- If a return follows immediately after a call, then the entries of all slots are restored. A segment that was loaded
-- for the call is then not loaded any more, and every other segment has its old count.
abbrev pub ReturnGivesPlacesBack : Type 0
ReturnGivesPlacesBack =
    (c d e : Parts) (call : Call) (code : Option (List ℕ)) (words : ℕ) (base : Bool) →
    IsMemory c.memory → IsCode code → FindsAgain c call →
    called c call code ≡ Ok d → returned d words base ≡ Ok e → e.places ≡ c.places

-- If the caches agree with a memory in which no watched word was written, then each word from which a cached value was
-- read is watched. These are the word at each base except the last, and the seven words of each table.
abbrev pub KeptWordsAreWatched : Type 0
KeptWordsAreWatched =
    (memory : Contents) (frames : Standing) (mp : ℕ) → Agrees memory frames mp → memory.touched ≡ false
    → ((n : ℕ) → n + 1 < length frames.bases → IsTrue (is_watched memory.watched (slice_index frames.bases n)))
    × All (λ k. All (λ a. IsTrue (is_watched memory.watched a)) (kept_table_words k)) frames.kept

-- The slot has no address, or its segment has a call or a keep request.
abbrev pub IsUsed : Option (Option SegmentPlace) → Type 0
IsUsed None = Unit {0}
IsUsed (Some None) = Unit {0}
IsUsed (Some (Some p)) = 0 < p.count + p.keeps

-- If a keep request is withdrawn immediately after it was made, then the slot has its old entry, and SP has its old
-- value. If the segment was loaded, its code is not on the stack any more, but still in memory.
abbrev pub UnkeepGivesBack : Type 0
UnkeepGivesBack =
    (c d : Parts) (n : ℕ) (code : List ℕ) →
    c.registers.sp % 2 ≡ 0 → c.registers.sp ≤ STACK_END → IsUsed (slice_get c.places n) →
    segment_kept c n (Some code) ≡ Ok d → segment_unkept d n (length code) ≡ Ok (record c { memory = d.memory })
