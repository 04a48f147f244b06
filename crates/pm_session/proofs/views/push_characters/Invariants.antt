use Rattle.std.proofs.Common.{◌≡◌, ◌++◌, map, take, string_bytes}
use Rattle.pm_session.specs.Views.{shown_character}
use Rattle.pm_session.proofs.views.push_characters.Given as goal

-- The written text is the old text and the characters of the bytes up to here.
abbrev pub invariant-loop-byte : goal.invariant-loop-byte
invariant-loop-byte l = string_bytes l.text ≡ string_bytes l.fn.text ++ map shown_character (take l.byte-index l.bytes)
