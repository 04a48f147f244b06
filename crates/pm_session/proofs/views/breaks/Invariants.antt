use Rattle.std.proofs.Common.{◌≡◌, ◌++◌, drop, string_bytes, codes}
use Rattle.pm_session.specs.Texts.{more_parts}
use Rattle.pm_session.specs.Views.{break_text, breaks_text}
use Rattle.pm_session.proofs.views.breaks.Given as goal

-- The written text, followed by the text of the remaining breakpoints, is the whole text.
abbrev pub invariant-loop-known : goal.invariant-loop-known
invariant-loop-known l = record { rest : string_bytes l.text ++ more_parts (codes ", ") break_text (drop l.known-index l.rest) ≡ breaks_text l.breaks }
