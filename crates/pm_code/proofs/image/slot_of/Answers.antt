use Rattle.std.proofs.Common.{◌≡◌, ◌≤◌, ◌∙◌, Some, ap, length, subst, sym}
use Rattle.pm_code.specs.Image.{bytes_of_segment, name_of_segment}
use Rattle.pm_code.specs.Program.{IsSegment, segment_bytes}
use Rattle.pm_code.specs.Views.{program_seen, segment_seen}
use Rattle.pm_code.proofs.Slotted.{name_short, numbered_all}
use Rattle.pm_code.proofs.image.slot_of.Goals as goal

pub returns-in_default-clause-name : goal.returns-in_default-clause-name
returns-in_default-clause-name c = ap name_of_segment c.in_default.ensures.segment

pub returns-in_default-clause-bytes : goal.returns-in_default-clause-bytes
returns-in_default-clause-bytes c = c.new.ensures.items ∙ ap bytes_of_segment c.in_default.ensures.segment

pub padded_name-name-requires : goal.padded_name-name-requires
padded_name-name-requires c =
    let s = segment_seen c.in-Some.segment.now in
    let good = numbered_all IsSegment c.args.number (program_seen c.args.program.now) s (sym c.in-Some.ensures.segment) c.requires.program.segments in
    record { short = subst (λ bs. length bs ≤ 8) (sym c.deref.ensures.value) (name_short s.name good.name) }

pub segment_bytes-requires-clause-segment : goal.segment_bytes-requires-clause-segment
segment_bytes-requires-clause-segment c =
    numbered_all IsSegment c.args.number (program_seen c.args.program.now) (segment_seen c.in-Some.segment.now) (sym c.in-Some.ensures.segment)
    c.requires.program.segments

pub segment_bytes-requires-clause-short : goal.segment_bytes-requires-clause-short
segment_bytes-requires-clause-short c =
    numbered_all (λ t. length (segment_bytes t) ≤ 65534) c.args.number (program_seen c.args.program.now) (segment_seen c.in-Some.segment.now)
    (sym c.in-Some.ensures.segment) c.requires.fit

pub returns-clause-name : goal.returns-clause-name
returns-clause-name c =
    c.padded_name-name.ensures.padded ∙ ap (λ bs. name_of_segment (Some (record (segment_seen c.in-Some.segment.now) { name = bs }))) c.deref.ensures.value
    ∙ ap name_of_segment c.in-Some.ensures.segment

pub returns-clause-bytes : goal.returns-clause-bytes
returns-clause-bytes c = c.in_ok-bytes.ensures.bytes ∙ ap bytes_of_segment c.in-Some.ensures.segment

pub returns-clause-short : goal.returns-clause-short
returns-clause-short c =
    subst (λ bs. length bs ≤ 65534) (sym c.in_ok-bytes.ensures.bytes)
    (numbered_all (λ t. length (segment_bytes t) ≤ 65534) c.args.number (program_seen c.args.program.now) (segment_seen c.in-Some.segment.now)
    (sym c.in-Some.ensures.segment) c.requires.fit)
