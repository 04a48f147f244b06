use Rattle.std.proofs.Common.{◌≡◌, ◌++◌, drop, string_bytes, codes, Some}
use Rattle.pm_session.specs.Texts.{more_parts}
use Rattle.pm_session.specs.Views.{frame_text, frames_text}
use Rattle.pm_session.proofs.views.frame_list.Given as goal

-- The written text, followed by the text of the remaining frames, is the whole text.
abbrev pub invariant-loop-frame : goal.invariant-loop-frame
invariant-loop-frame l = record { rest : string_bytes l.text ++ more_parts (codes ", ") frame_text (drop l.frame-index l.rest) ≡ frames_text (Some l.frames) }
