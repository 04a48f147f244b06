-- Conversions between an order and blocks in order, there and back.
use Rattle.std.proofs.Common.{◌≡◌, ℕ, true, List, refl, length}
use Rattle.std.proofs.lemmas.Bool.{leb-true}
use Rattle.pm_check.specs.declared.order.Order.TheVariants as turns
use Rattle.pm_check.proofs.OrderLaws as Orders
use Rattle.pm_volume.specs.Directory.{directory_of}
use Rattle.pm_convert.specs.Big.{big_with, from_big, to_big, turned_directory}
use Rattle.pm_convert.specs.Turning.{fits, in_blocks, in_order}
use Rattle.pm_convert.specs.Worked.{ComesBack, GoesBack, WorkedTurns}
use Rattle.pm_convert.specs.declared.format.ByteOrder.{ByteOrder}
use Rattle.pm_convert.specs.declared.format.ByteOrder.TheVariants as orders
use Rattle.pm_convert.proofs.BigLaws.{from_size, from_to, to_from, to_size}

pub turn_back : (order : ByteOrder) (blocks : List ℕ) → fits order (length blocks) ≡ true → ComesBack order blocks
    → in_blocks order (in_order order blocks) ≡ blocks
turn_back orders.Blocks blocks fit clear = refl
turn_back orders.Dos blocks fit clear = Orders.turned_back turns.Dos blocks
turn_back orders.Swapped blocks fit clear = Orders.turned_back turns.Swapped blocks
turn_back orders.Big blocks fit clear = from_to blocks (leb-true 3072 (length blocks) fit) clear

pub turn_forth : (order : ByteOrder) (volume : List ℕ) → fits order (length volume) ≡ true → GoesBack order volume
    → in_order order (in_blocks order volume) ≡ volume
turn_forth orders.Blocks volume fit clear = refl
turn_forth orders.Dos volume fit clear = Orders.turned_back turns.Dos volume
turn_forth orders.Swapped volume fit clear = Orders.turned_back turns.Swapped volume
turn_forth orders.Big volume fit clear = to_from volume (leb-true 3072 (length volume) fit) clear

pub order_size : (order : ByteOrder) (blocks : List ℕ) → length (in_order order blocks) ≡ length blocks
order_size orders.Blocks blocks = refl
order_size orders.Dos blocks = Orders.turned_size turns.Dos blocks
order_size orders.Swapped blocks = Orders.turned_size turns.Swapped blocks
order_size orders.Big blocks = to_size blocks

pub blocks_size : (order : ByteOrder) (volume : List ℕ) → length (in_blocks order volume) ≡ length volume
blocks_size orders.Blocks volume = refl
blocks_size orders.Dos volume = Orders.turned_size turns.Dos volume
blocks_size orders.Swapped volume = Orders.turned_size turns.Swapped volume
blocks_size orders.Big volume = from_size volume

from_directory : (volume : List ℕ) → in_blocks orders.Big volume ≡ big_with (turned_directory (directory_of volume)) volume
unfolding from_big
from_directory volume = refl

to_directory : (blocks : List ℕ) → in_order orders.Big blocks ≡ big_with (directory_of blocks) blocks
unfolding to_big
to_directory blocks = refl

pub worked_turns : WorkedTurns
worked_turns = record {
  back = turn_back;
  forth = turn_forth;
  size = order_size;
  blocks_size = blocks_size;
  dos = λ volume. refl;
  swapped = λ volume. refl;
  from_directory = from_directory;
  to_directory = to_directory;
}
