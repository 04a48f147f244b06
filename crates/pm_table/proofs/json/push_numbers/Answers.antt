use Rattle.std.proofs.Common.{append_assoc}
use Rattle.pm_table.proofs.json.push_numbers.Goals as goal

pub returns : goal.returns
returns c = record {
  text = rw (
    c.in_ok-push_number-4.ensures.text,
    c.in_ok-push_number-3.ensures.text,
    c.in_ok-push_number-2.ensures.text,
    c.in_ok-push_number.ensures.text,
    c.bytes_of.ensures.bytes,
    c.from-3.ensures,
    c.from-2.ensures,
    c.from.ensures,
    c.saturating_sub-blocks.ensures,
  )
      (simp append_assoc);
}
