use Rattle.std.proofs.Common.{append_assoc, ap, ◌∙◌, ◌++◌, ◌∷◌, [], List, ℕ, decimal}
use Rattle.pm_table.proofs.json.push_date.Goals as goal

pub returns : goal.returns
returns c = record {
  text = rw (
    c.in_ok-push.ensures.items,
    c.in_ok-push_number-3.ensures.text,
    c.in_ok-push_number-2.ensures.text,
    c.in_ok-push_number.ensures.text,
    c.from-3.ensures,
    c.from-2.ensures,
    c.from.ensures,
    c.of-year.ensures.date,
  )
      (simp append_assoc);
}
