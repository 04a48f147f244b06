-- The devices of the machine, and the numbers of units.
use Rattle.std.specs.Prelude.{ℕ, ◌+◌, ◌*◌, ◌<◌, ◌||◌, ◌&&◌, List, [], length, slice_range, slice_set, slice_index_or}
use Rattle.std.specs.Prelude.{Option, Some, None, is_none, Result, Ok, Err, if◌then◌else◌, ◌==◌, nat_le, Bool}
use Rattle.pm_units.specs.declared.ports.Port.{Port}
use Rattle.pm_units.specs.declared.ports.Port.TheVariants.{Console, Terminal, Absent, Printer, Disk, Unknown}
use Rattle.pm_units.specs.declared.ports.MountFault.{MountFault}
use Rattle.pm_units.specs.declared.ports.MountFault.TheVariants.{NoUnit, Taken}

-- The state of the devices: the images on the disk units 4, 5, 9, 10, 11 and 12; the input queue; the bytes that were
-- written to the console and to the printer; and the clock.
pub record Devices : Type 0 where
  pub disks : List (Option (List ℕ))
  pub queue : List ℕ
  pub console : List ℕ
  pub printer : List ℕ
  pub clock : ℕ

-- The spare capacity of each list of bytes: the number of bytes that can be appended without a new allocation.
pub record Room : Type 0 where
  pub queue : ℕ
  pub console : ℕ
  pub printer : ℕ

-- The representation of `Units` in contracts: the devices, and their spare capacity.
pub record Held : Type 0 where
  pub devices : Devices
  pub room : Room

-- Whether the bytes that `new` has more than `old`, on the console and on the printer, fit into the spare capacity `r`.
abbrev pub has_room : Room → Devices → Devices → Bool
has_room r old new =
    nat_le (length new.console) (length old.console + r.console)
    && nat_le (length new.printer) (length old.printer + r.printer)

abbrev pub mount_number : MountFault → ℕ
mount_number NoUnit = 1
mount_number Taken = 2

-- The unit that the unit number `n` selects. The disk units have the indexes 0 to 5.
unfoldable pub unit_of : ℕ → Port
unit_of n =
    if n == 1 then Console
    else (if n == 2 then Terminal
    else (if n == 3 || n == 7 || n == 8 then Absent
    else (if n == 4 then Disk 0
    else (if n == 5 then Disk 1
    else (if n == 6 then Printer
    else (if n == 9 then Disk 2
    else (if n == 10 then Disk 3
    else (if n == 11 then Disk 4
    else (if n == 12 then Disk 5
    else Unknown)))))))))

-- States that the index of a disk unit is below 6. It is true for every other unit.
abbrev pub HasPlace : Port → Type 0
HasPlace (Disk k) = k < 6
HasPlace Console = Unit {0}
HasPlace Terminal = Unit {0}
HasPlace Absent = Unit {0}
HasPlace Printer = Unit {0}
HasPlace Unknown = Unit {0}

-- ---- the images on the disk units

-- The image on the disk unit with index `k`, or `None` if this unit has no disk.
abbrev pub image_at : Devices → ℕ → Option (List ℕ)
image_at d k = slice_index_or d.disks k None

-- The image on a unit, or `None` if the unit is not a disk unit or has no disk.
abbrev pub image_on : Port → Devices → Option (List ℕ)
image_on (Disk k) d = image_at d k
image_on Console d = None
image_on Terminal d = None
image_on Absent d = None
image_on Printer d = None
image_on Unknown d = None

-- Whether the `n` bytes that begin with block `block` are within `image`. The directory of the image is not used.
abbrev pub lies_on : List ℕ → ℕ → ℕ → Bool
lies_on image block n = nat_le (512 * block + n) (length image)

-- The `n` bytes of `image` that begin with block `block`.
abbrev pub bytes_from_block : List ℕ → ℕ → ℕ → List ℕ
bytes_from_block image block n = slice_range image (512 * block) (512 * block + n)

abbrev pub code_in : Option (List ℕ) → ℕ → ℕ → Option (List ℕ)
code_in None block n = None
code_in (Some image) block n = if lies_on image block n then Some (bytes_from_block image block n) else None

-- The `n` bytes that begin with block `block` of the disk of unit `unit`, or `None` if the unit has no disk or the
-- bytes extend past the end of the disk.
unfoldable pub code_on : Devices → ℕ → ℕ → ℕ → Option (List ℕ)
code_on d unit block n = code_in (image_on (unit_of unit) d) block n

-- The devices after `image` is mounted on a unit. The error is `Taken` if the disk unit has a disk, and `NoUnit` if the
-- unit is not a disk unit.
abbrev pub mounted_at : Port → List ℕ → Devices → Result Devices MountFault
mounted_at (Disk k) image d =
    if is_none (image_at d k) then Ok (record d { disks = slice_set d.disks k (Some image) }) else Err Taken
mounted_at Console image d = Err NoUnit
mounted_at Terminal image d = Err NoUnit
mounted_at Absent image d = Err NoUnit
mounted_at Printer image d = Err NoUnit
mounted_at Unknown image d = Err NoUnit

unfoldable pub mounted : ℕ → List ℕ → Devices → Result Devices MountFault
mounted unit image d = mounted_at (unit_of unit) image d

-- The image that an eject of unit `unit` returns: the image on this unit, if it has one.
unfoldable pub ejected_image : ℕ → Devices → Option (List ℕ)
ejected_image unit d = image_on (unit_of unit) d

abbrev pub ejected_at : Port → Devices → Devices
ejected_at (Disk k) d = record d { disks = slice_set d.disks k None }
ejected_at Console d = d
ejected_at Terminal d = d
ejected_at Absent d = d
ejected_at Printer d = d
ejected_at Unknown d = d

unfoldable pub ejected : ℕ → Devices → Devices
ejected unit d = ejected_at (unit_of unit) d

-- ---- queries of a unit

-- The IORESULT of a query of a unit: 2 if the number selected no unit, otherwise 0.
abbrev pub known : Port → ℕ
known Unknown = 2
known (Disk k) = 0
known Console = 0
known Terminal = 0
known Absent = 0
known Printer = 0

-- The result of clearing a unit: the IORESULT, and the devices afterwards. If the unit is the console or the terminal,
-- the input queue is empty afterwards.
abbrev pub cleared : Port → Devices → ℕ × Devices
cleared Unknown d = (2, d)
cleared Absent d = (9, d)
cleared Printer d = (0, d)
cleared Console d = (0, record d { queue = [] })
cleared Terminal d = (0, record d { queue = [] })
cleared (Disk k) d = (if is_none (image_at d k) then 9 else 0, d)
