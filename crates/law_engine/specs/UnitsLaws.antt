-- The law of the bytes that a disk stores.
use Rattle.std.specs.Prelude.{◌≡◌, ◌≤◌, ℕ, ◌+◌, ◌*◌, true, List}
use Rattle.pm_words.specs.Words.{IsMemory}
use Rattle.pm_volume.specs.Words as disk
use Rattle.pm_units.specs.Devices.{bytes_from_block}
use Rattle.pm_units.specs.Transfers.{can_move, named_bytes}
use Rattle.pm_units.specs.declared.transfers.Transfer.{Transfer}

-- If the bytes of the transfer `t` are in memory, and the transfer is possible on the disk, then reading with the same
-- transfer returns the bytes that were written.
abbrev pub DisksKeep : Type 0
DisksKeep =
    (m : List ℕ) (image : List ℕ) (t : Transfer) → IsMemory m → t.address + t.count ≤ 65536 → can_move image t ≡ true →
    bytes_from_block (disk.written image (512 * t.block) (named_bytes m t)) t.block t.count ≡ named_bytes m t
