-- Transfers between units and memory. IORESULT is:
--   0  after a transfer
--   1  for a bad block
--   2  if the number selects no unit
--   3  if the unit cannot do the transfer
--   9  if the unit does not exist or has no disk
use Rattle.std.specs.Prelude.{ℕ, ◌*◌, ◌≡◌, Bool, true, false, ◌&&◌, List, ◌++◌, length, take, drop, slice_set, Option}
use Rattle.std.specs.Prelude.{Some, None, Result, Ok, Err, if◌then◌else◌, nat_lt}
use Rattle.pm_words.specs.Words.{with_bytes, bytes_at}
use Rattle.pm_volume.specs.Words as disk
use Rattle.pm_units.specs.Traps.{Pause, Fails, Waits, Outgrows}
use Rattle.pm_units.specs.Devices.{Devices, Room, image_at, lies_on, bytes_from_block}
use Rattle.pm_units.specs.declared.ports.Port.{Port}
use Rattle.pm_units.specs.declared.ports.Port.TheVariants.{Console, Terminal, Absent, Printer, Disk, Unknown}
use Rattle.pm_units.specs.declared.transfers.Transfer.{Transfer}
use Rattle.pm_units.specs.declared.trap.Trap.{Trap}
use Rattle.pm_units.specs.declared.trap.Trap.TheVariants as trap

-- The state after a transfer: the words of memory, the devices, and the IORESULT.
pub record Moved : Type 0 where
  pub memory : List ℕ
  pub devices : Devices
  pub ioresult : ℕ

-- The result of a transfer that copies nothing: the IORESULT is `code`, and memory and devices are unchanged.
abbrev pub idle : ℕ → List ℕ → Devices → Moved
idle code m d = record { memory = m; devices = d; ioresult = code }

-- ---- reading from a unit into memory

-- The result of reading from the input queue. The first bytes of the queue are removed, and written to the console if
-- `echo` is true. If the queue has fewer bytes than the transfer reads, the program waits, and no byte is removed.
abbrev pub from_queue : Bool → Transfer → List ℕ → Devices → Result Moved Pause
from_queue echo t m d =
    if nat_lt (length d.queue) t.count then Err Waits
    else Ok (record {
      memory = with_bytes m t.address (take t.count d.queue);
      devices = record d {
        queue = drop t.count d.queue;
        console = if echo then d.console ++ take t.count d.queue else d.console;
      };
      ioresult = 0;
    })

-- Whether the block of the transfer `t` is not negative and all its bytes are within `image`.
abbrev pub can_move : List ℕ → Transfer → Bool
can_move image t = nat_lt t.block 32768 && lies_on image t.block t.count

abbrev pub from_disk : Option (List ℕ) → Transfer → List ℕ → Devices → Moved
from_disk None t m d = idle 9 m d
from_disk (Some image) t m d =
    if can_move image t then
    record { memory = with_bytes m t.address (bytes_from_block image t.block t.count); devices = d; ioresult = 0 }
    else idle 1 m d

-- The result of reading from a unit. The console echoes the bytes that are read, and the terminal does not.
unfoldable pub unit_read : Port → Transfer → List ℕ → Devices → Result Moved Pause
unit_read Unknown t m d = Ok (idle 2 m d)
unit_read Absent t m d = Ok (idle 9 m d)
unit_read Printer t m d = Ok (idle 3 m d)
unit_read Console t m d = from_queue true t m d
unit_read Terminal t m d = from_queue false t m d
unit_read (Disk k) t m d = Ok (from_disk (image_at d k) t m d)

-- ---- writing from memory to a unit

-- The bytes of the memory `m` that the transfer `t` reads or writes.
abbrev pub named_bytes : List ℕ → Transfer → List ℕ
named_bytes m t = bytes_at m t.address t.count

abbrev pub to_disk : ℕ → Option (List ℕ) → Transfer → List ℕ → Devices → Moved
to_disk k None t m d = idle 9 m d
to_disk k (Some image) t m d =
    if can_move image t then record {
      memory = m;
      devices = record d { disks = slice_set d.disks k (Some (disk.written image (512 * t.block) (named_bytes m t))) };
      ioresult = 0;
    }
    else idle 1 m d

-- The result of writing to a unit. Bytes for the console and for the terminal are appended to the same output.
unfoldable pub unit_written : Port → Transfer → List ℕ → Devices → Moved
unit_written Unknown t m d = idle 2 m d
unit_written Absent t m d = idle 9 m d
unit_written Printer t m d = idle 0 m (record d { printer = d.printer ++ named_bytes m t })
unit_written Console t m d = idle 0 m (record d { console = d.console ++ named_bytes m t })
unit_written Terminal t m d = idle 0 m (record d { console = d.console ++ named_bytes m t })
unit_written (Disk k) t m d = to_disk k (image_at d k) t m d

abbrev pub devices_after : Moved → Devices
devices_after t = t.devices

-- States what a transfer returns and changes. Without an error, the IORESULT, memory and devices are the result of
-- `done`. With an error, memory and devices are unchanged. Out of memory is possible only if `done` writes more to the
-- console or to the printer than their spare capacity.
abbrev pub Transfers : Room → Result ℕ Trap → List ℕ → Devices → List ℕ → Devices → Result Moved Pause → Type 0
Transfers room (Ok code) m d m2 d2 done = done ≡ Ok (record { memory = m2; devices = d2; ioresult = code })
Transfers room (Err (trap.Exec e)) m d m2 d2 done = (done ≡ Err (Fails e)) × (m2 ≡ m) × (d2 ≡ d)
Transfers room (Err trap.Waiting) m d m2 d2 done = (done ≡ Err Waits) × (m2 ≡ m) × (d2 ≡ d)
Transfers room (Err trap.NoMemory) m d m2 d2 done = (m2 ≡ m) × (d2 ≡ d) × Outgrows devices_after room d done
