-- Conversions between an order and blocks in order.
use Rattle.std.specs.Prelude.{ℕ, ◌==◌, Bool, true, nat_le, List}
use Rattle.pm_check.specs.Orders.{turned}
use Rattle.pm_check.specs.declared.order.Order.TheVariants as turns
use Rattle.pm_convert.specs.Big.{from_big, to_big}
use Rattle.pm_convert.specs.declared.format.ByteOrder.{ByteOrder}
use Rattle.pm_convert.specs.declared.format.ByteOrder.TheVariants as orders

-- Is true if a volume of `size` bytes can be in this order. Only a disk of 143,360 bytes has sectors in DOS order, and
-- a volume in the order `big` has a directory.
abbrev pub fits : ByteOrder → ℕ → Bool
fits orders.Blocks size = true
fits orders.Dos size = size == 143360
fits orders.Swapped size = true
fits orders.Big size = nat_le 3072 size

-- `volume`, which is in this order, with its blocks in order.
abbrev pub in_blocks : ByteOrder → List ℕ → List ℕ
in_blocks orders.Blocks volume = volume
in_blocks orders.Dos volume = turned turns.Dos volume
in_blocks orders.Swapped volume = turned turns.Swapped volume
in_blocks orders.Big volume = from_big volume

-- `blocks`, a volume with its blocks in order, in this order.
abbrev pub in_order : ByteOrder → List ℕ → List ℕ
in_order orders.Blocks blocks = blocks
in_order orders.Dos blocks = turned turns.Dos blocks
in_order orders.Swapped blocks = turned turns.Swapped blocks
in_order orders.Big blocks = to_big blocks
