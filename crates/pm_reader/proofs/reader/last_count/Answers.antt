use Rattle.std.proofs.Common.{◌≡◌, ◌-◌, ◌∙◌, length, sym}
use Rattle.std.specs.Prelude.{Some, slice_get}
use Rattle.pm_reader.proofs.Seen.{count_of_last}
use Rattle.pm_reader.proofs.reader.last_count.Goals as goal

pub returns-in-Some : goal.returns-in-Some
returns-in-Some c =
    let segments = c.args.segments.now in
    let last = c.in-Some.segment.now in
    let found : slice_get segments (length segments - 1) ≡ Some last = sym c.in-Some.ensures.value in
    let count : length last.procedures.items ≡ _ = count_of_last segments last found in
    record { count = c.len.ensures ∙ (last.procedures.ok.0 ∙ count) }
