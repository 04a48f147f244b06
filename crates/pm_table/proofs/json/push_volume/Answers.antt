use Rattle.std.proofs.Common.{append_assoc}
use Rattle.pm_table.proofs.json.push_volume.Goals as goal

pub returns : goal.returns
returns c = record {
  text = rw (
    c.in_ok-push_number-3.ensures.text,
    c.in_ok-push_number-2.ensures.text,
    c.in_ok-push_number.ensures.text,
    c.in_ok-push_string.ensures.text,
    c.in_ok-extend_from_slice.ensures.items,
    c.name.ensures.characters,
    c.from-2.ensures,
    c.from.ensures,
    c.blocks-2.ensures.count,
    c.space-free.ensures.free,
    c.space-free.ensures.largest,
  )
      (simp append_assoc);
}
