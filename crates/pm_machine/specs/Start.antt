-- The state of a machine at its start.
use Rattle.std.specs.Prelude.{ℕ, ◌+◌, ◌%◌, ◌≡◌, List, [], Option, Result, Ok, Err, IsOk, if◌then◌else◌, nat_lt}
use Rattle.std.specs.Prelude.{length, replicate, None}
use Rattle.pm_words.specs.Words.{zero_words, with_word, with_bytes}
use Rattle.pm_units.specs.Devices.{Devices}
use Rattle.pm_machine.specs.declared.state.BootFault.{BootFault}
use Rattle.pm_machine.specs.declared.state.BootFault.TheVariants.{NoFile, NotCode, BadCode, Exec, NoMemory}
use Rattle.pm_stdproc.specs.declared.loads.SlotRow.{SlotRow}
use Rattle.pm_machine.specs.declared.state.Status.TheVariants as status
use Rattle.pm_machine.specs.State.{State, Whole}
use Rattle.pm_words.specs.declared.layout.TheConstants.{HEAP, LONGEST_CODE, STACK_END, SYSTEM_FRAME}

-- The memory `m` with the system's frame at 65,492. Its static and dynamic links contain its own address, its JTAB, SEG
-- and IPC are 0, and its SP is 65,504.
unfoldable pub with_system_frame : List ℕ → List ℕ
with_system_frame m =
    let static = with_word m SYSTEM_FRAME SYSTEM_FRAME in
    let dynamic = with_word static (SYSTEM_FRAME + 2) SYSTEM_FRAME in
    let jtab = with_word dynamic (SYSTEM_FRAME + 4) 0 in
    let seg = with_word jtab (SYSTEM_FRAME + 6) 0 in
    let ipc = with_word seg (SYSTEM_FRAME + 8) 0 in
    with_word ipc (SYSTEM_FRAME + 10) STACK_END

-- The location on disk of the code of an empty slot, which has no code.
abbrev pub no_row : SlotRow
no_row = record { unit = 0; block = 0; length = 0 }

-- The devices with the disks `images`. The input queue is empty, and nothing was written.
abbrev pub devices_with : List (Option (List ℕ)) → ℕ → Devices
devices_with images clock = record { disks = images; queue = []; console = []; printer = []; clock = clock }

-- The end of the code `bytes` that begins at 1,024, rounded up to an even address.
abbrev pub bare_code_end : List ℕ → ℕ
bare_code_end bytes = HEAP + length bytes + length bytes % 2

-- The state at the start on the bare code `bytes`. The code begins at 1,024. The rest of the memory is zero, except for
-- the system's frame. All slots are empty, no disk is mounted, and the clock is 0. More than 60,000 bytes are refused.
unfoldable pub raw_start : List ℕ → Result State BootFault
raw_start bytes =
    if nat_lt LONGEST_CODE (length bytes) then Err BadCode
    else (let e = bare_code_end bytes in
    Ok (record {
      memory = with_system_frame (with_bytes zero_words HEAP bytes);
      registers = record {
        sp = SYSTEM_FRAME;
        ipc = HEAP;
        seg = e;
        jtab = e;
        mp = SYSTEM_FRAME;
        base = SYSTEM_FRAME;
        np
            = e;
        ioresult = 0;
      };
      steps = 0;
      status = status.Running;
      places = replicate 16 None;
      rows = replicate 16 no_row;
      devices = devices_with (replicate 6 None) 0;
    }))

-- A machine was created as `start` defines, or was refused with its fault. `NoMemory` is possible only if `start` is
-- not a fault.
abbrev pub Starts : Result Whole BootFault → Result State BootFault → Type 0
Starts (Ok m) start = start ≡ Ok m.state
Starts (Err NoFile) start = start ≡ Err NoFile
Starts (Err NotCode) start = start ≡ Err NotCode
Starts (Err BadCode) start = start ≡ Err BadCode
Starts (Err (Exec e)) start = start ≡ Err (Exec e)
Starts (Err NoMemory) start = IsOk start
