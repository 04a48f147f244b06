use Rattle.std.proofs.Common.{◌≡◌, ◌++◌, string_bytes, take}
use Rattle.std.specs.List.{flat_map}
use Rattle.pm_phrases.specs.Shown.{further}
use Rattle.pm_phrases.proofs.operand.push_further.Given as goal

-- The written text is the old text and the text of the operands up to here.
abbrev pub invariant-loop-operand : goal.invariant-loop-operand
invariant-loop-operand l = string_bytes l.out ≡ string_bytes l.fn.out ++ flat_map further (take l.operand-index l.operands)
