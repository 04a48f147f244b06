use Rattle.std.proofs.Common.{append_assoc}
use Rattle.pm_table.proofs.json.json_of.Goals as goal

pub returns : goal.returns
returns c = record {
  text = rw (
    c.in_ok-extend_from_slice-2.ensures.items,
    c.in_ok-push_files.ensures.text,
    c.deref.ensures.value,
    c.in_ok-rows.ensures.rows,
    c.in_ok-extend_from_slice.ensures.items,
    c.in_ok-push_volume.ensures.text,
    c.new-text.ensures.items,
  )
      (simp append_assoc);
}
