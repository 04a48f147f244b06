-- How a call changes the machine in a handle.
use Rattle.std.specs.Prelude.{◌≡◌, ◌≢◌, ℕ, List, length, drop, ◌++◌, Option, None, Some}
use Rattle.std.specs.Prelude.{[], Result, Ok, Err, if◌then◌else◌, nat_lt, string_bytes}
use Rattle.pm_debug.specs.Session.{Debugged, session_of}
use Rattle.pm_machine.specs.State.{State, Whole}
use Rattle.pm_machine.specs.declared.code_place.CodePlace.{CodePlace}
use Rattle.pm_machine.specs.declared.state.BootFault.{BootFault}
use Rattle.pm_volume.specs.Directory.{image_fault}
use Rattle.pm_volume.specs.declared.fault.VolumeFault.{VolumeFault}
use Rattle.pm_units.specs.Devices.{ejected_image}
use Rattle.pm_machine.specs.Events.{Eject, Mount, next}
use Rattle.pm_machine.specs.Runs.{Ran}
use Rattle.pm_machine.specs.Steps.{stepped}
use Rattle.pm_machine.specs.declared.state.Stop.{Stop}
use Rattle.pm_session.specs.Sessions.{opened}
use Rattle.pm_c.specs.Codes.{image_code, status_code, stop_code}
use Rattle.pm_c.specs.declared.held.Held.{Held}
use Rattle.pm_c.specs.declared.lines.Place.{Place}
use Rattle.pm_c.specs.declared.shows.Shown.{Shown}
use Rattle.pm_c.specs.declared.status.TheConstants.{DONE, NO_DISK, NO_MACHINE, NO_MEMORY, NO_PLACE, ODD_ADDRESS}
use Rattle.pm_c.specs.declared.status.TheConstants.{TOO_SHORT}

-- The effect of a call on a handle, whose values before and after the call are the two options. If the handle was
-- empty, it remains empty, and the status is `NO_MACHINE`. Otherwise the handle still has a value, and the relation `P`
-- holds between the old value and the new value.
abbrev pub Leads : ℕ → Option Held → Option Held → (Held → Held → Type 0) → Type 0
Leads status None new P = (status ≡ NO_MACHINE) × (new ≡ None)
Leads status (Some m) None P = ⊥
Leads status (Some m) (Some n) P = P m n

-- The relation `P` holds between the old and the new debugger. Nothing else changes.
abbrev pub ChangesDebugger : (Debugged → Debugged → Type 0) → Held → Held → Type 0
ChangesDebugger P m n = P m.debugger n.debugger × (n ≡ record m { debugger = n.debugger })

-- The relation `P` holds between the old and the new machine. Nothing else changes: the breakpoints, the watched words
-- and the rest of the last run are unchanged.
abbrev pub ChangesMachine : (Whole → Whole → Type 0) → Held → Held → Type 0
ChangesMachine P = ChangesDebugger (λ d e. P d.machine e.machine × (e ≡ record d { machine = e.machine }))

-- The machine executes one step, from `m` to `n`, and `status` is the status for the end of this step.
abbrev pub StepsTo : ℕ → Whole → Whole → Type 0
StepsTo status m n = (stop : Stop) × (stepped m.state ≡ (n.state, stop)) × (status ≡ stop_code stop)

-- The machine executes a run of at most `limit` steps, from `m` to `n`. `count` is the number of counted steps, and
-- `status` is the status for the end of the last step.
abbrev pub RunsTo : ℕ → ℕ → ℕ → Whole → Whole → Type 0
RunsTo limit count status m n = (stop : Stop) × Ran limit m.state count stop n.state × (status ≡ stop_code stop)

-- The property `P` holds for the value, and the value does not change.
abbrev pub Looks : (Held → Type 0) → Held → Held → Type 0
Looks P m n = P m × (n ≡ m)

-- The value `m` is a machine at the start `start`, with a new session, without an ejected disk and with an empty
-- answer.
pub record Started (start : Result State BootFault) (m : Held) : Type 0 where
  pub starts : start ≡ Ok m.debugger.machine.state
  pub session : session_of m.debugger ≡ opened m.debugger.machine.state
  pub ejected : m.ejected ≡ None
  pub answer : string_bytes m.answer ≡ []

-- The handle has a machine at the start `start`.
abbrev pub Holds : Option Held → Result State BootFault → Type 0
Holds None start = ⊥
Holds (Some m) start = Started start m

-- ---- bytes for a buffer of the caller

-- Returns the new bytes of a buffer: `bytes` at its beginning, followed by its old bytes. If the buffer is too short
-- for `bytes`, it keeps its old bytes.
abbrev pub filled : List ℕ → List ℕ → List ℕ
filled bytes old = if nat_lt (length old) (length bytes) then old else bytes ++ drop (length bytes) old

abbrev pub fill_code : List ℕ → List ℕ → ℕ
fill_code bytes old = if nat_lt (length old) (length bytes) then TOO_SHORT else DONE

pub record Fills (bytes : List ℕ) (status : ℕ) (old new : List ℕ) (needed : ℕ) : Type 0 where
  pub wants : needed ≡ length bytes
  pub holds : new ≡ filled bytes old
  pub says : status ≡ fill_code bytes old

-- Either the bytes are copied to the buffer as `Fills` states; or memory ran out, the buffer is unchanged, and `needed`
-- is 0.
pub record Tells (bytes : List ℕ) (status : ℕ) (old new : List ℕ) (needed : ℕ) : Type 0 where
  pub fills : status ≢ NO_MEMORY → Fills bytes status old new needed
  pub none : status ≡ NO_MEMORY → (new ≡ old) × (needed ≡ 0)

-- ---- reading the state of a machine

-- The call returns the position of the machine, or the status `NO_PLACE` if the machine has no position.
abbrev pub Places : Option CodePlace → ℕ → Place → Place → Type 0
Places (Some p) status old new =
    (status ≡ DONE) × (new ≡ record { segment = p.segment; procedure = p.procedure; offset = p.offset })
Places None status old new = (status ≡ NO_PLACE) × (new ≡ old)

-- The call returns the word at an even address, or the status `ODD_ADDRESS`.
abbrev pub Reads : Option ℕ → ℕ → ℕ → ℕ → Type 0
Reads (Some word) status old new = (status ≡ DONE) × (new ≡ word)
Reads None status old new = (status ≡ ODD_ADDRESS) × (new ≡ old)

-- The registers, the number of steps and the status of the machine in the state `s`.
abbrev pub shown_of : State → Shown
shown_of s = record {
  steps = s.steps;
  status = status_code s.status;
  ipc = s.registers.ipc;
  sp = s.registers.sp;
  mp = s.registers.mp;
  base = s.registers.base;
  np = s.registers.np;
  seg = s.registers.seg;
  jtab = s.registers.jtab;
  ioresult = s.registers.ioresult;
}

-- ---- disks

-- The call returns `image` as a volume, or the first fault of an image that is no volume.
abbrev pub Opens : List ℕ → Result (List ℕ) VolumeFault → Type 0
Opens image (Ok volume) = (volume ≡ image) × (image_fault image ≡ None)
Opens image (Err fault) = image_fault image ≡ Some fault

-- The call mounts `image` on `unit`, or refuses it. If it is refused or memory runs out, nothing changes.
pub record Mounts (unit : ℕ) (image : List ℕ) (status : ℕ) (m n : Whole) : Type 0 where
  pub says : status ≢ NO_MEMORY → status ≡ image_code unit image m.state.devices
  pub done : status ≡ DONE → n.state ≡ next m.state (Mount unit image)
  pub same : status ≢ DONE → n ≡ m

-- The disk that is ejected from a unit replaces the disk that was ejected before. If the unit has no disk, no disk is
-- ejected and the old one remains.
abbrev pub Takes : Option (List ℕ) → ℕ → Held → Held → Type 0
Takes None status m n = (status ≡ NO_DISK) × (n.ejected ≡ m.ejected)
Takes (Some image) status m n = (status ≡ DONE) × (n.ejected ≡ Some image)

pub record Ejects (unit status : ℕ) (m n : Held) : Type 0 where
  pub takes : Takes (ejected_image unit m.debugger.machine.state.devices) status m n
  pub event : n.debugger.machine.state ≡ next m.debugger.machine.state (Eject unit)
  pub same : n ≡ record m { debugger = record m.debugger { machine = n.debugger.machine }; ejected = n.ejected }

-- The image of the last ejected disk is copied to the buffer. If no disk was ejected, the buffer is unchanged.
abbrev pub GivesImage : Option (List ℕ) → ℕ → List ℕ → List ℕ → ℕ → Type 0
GivesImage None status old new needed = (status ≡ NO_DISK) × (new ≡ old)
GivesImage (Some image) status old new needed = Fills image status old new needed
