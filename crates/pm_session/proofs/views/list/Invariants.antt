use Rattle.std.proofs.Common.{◌≡◌, ◌++◌, drop, string_bytes, codes, Some}
use Rattle.pm_session.specs.Texts.{more_parts}
use Rattle.pm_session.specs.Views.{ahead_text, list_text}
use Rattle.pm_session.proofs.views.list.Given as goal

-- The written text, followed by the text of the remaining instructions, is the whole text.
abbrev pub invariant-loop-address : goal.invariant-loop-address
invariant-loop-address l =
    record {
      rest : string_bytes l.text ++ more_parts (codes "; ") (ahead_text l.place l.machine.state) (drop l.address-index l.rest)
          ≡ list_text (Some l.place) l.machine.state l.addresses;
    }
