use Rattle.std.proofs.Common.{◌≡◌}
use Rattle.pm_check.specs.Orders.{turned_front}
use Rattle.pm_check.proofs.order.Order.turned.Given as goal

-- The bytes so far are the first bytes of the converted image.
abbrev pub invariant-loop-place : goal.invariant-loop-place
invariant-loop-place l = record { whole : l.made.items ≡ turned_front l.self l.image l.place }
