use Rattle.std.proofs.Common.{rules, ◌≡◌, ◌==◌, None, Some, arith, false}
use Rattle.pm_statements.proofs.sized.add_slot.Goals as goal
