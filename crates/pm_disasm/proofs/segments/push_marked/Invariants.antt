use Rattle.std.proofs.Common.{◌≡◌, ◌++◌, drop, map, string_bytes, if◌then◌else◌}
use Rattle.pm_code.specs.Program.{is_name_character}
use Rattle.pm_disasm.proofs.segments.push_marked.Given as goal

-- The written text, followed by that of the remaining bytes, is the whole text.
abbrev pub invariant-loop-byte : goal.invariant-loop-byte
invariant-loop-byte l =
    string_bytes l.text ++ map (λ c. if is_name_character c then c else 63) (drop l.byte-index l.name)
    ≡ string_bytes l.fn.text ++ map (λ c. if is_name_character c then c else 63) l.name
