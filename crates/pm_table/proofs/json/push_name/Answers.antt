use Rattle.std.proofs.Common.{append_assoc}
use Rattle.pm_table.proofs.json.push_name.Goals as goal

pub returns : goal.returns
returns c = record {
  text = rw (
    c.in_ok-push_string.ensures.text,
    c.characters.ensures.characters,
    c.in_ok-extend_from_slice.ensures.items,
    c.in_ok-push_number.ensures.text,
    c.from.ensures,
  )
      (simp append_assoc);
}
