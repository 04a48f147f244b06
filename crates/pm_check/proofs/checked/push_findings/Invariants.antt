use Rattle.std.proofs.Common.{◌≡◌, ◌++◌, string_bytes, take}
use Rattle.std.specs.List.{flat_map}
use Rattle.pm_check.specs.Checked.{finding_line}
use Rattle.pm_check.proofs.checked.push_findings.Given as goal

-- The lines of the findings so far have been appended to the text.
abbrev pub invariant-loop-finding : goal.invariant-loop-finding
invariant-loop-finding l = string_bytes l.text ≡ string_bytes l.fn.text ++ flat_map finding_line (take l.finding-index l.findings)
