use Rattle.std.proofs.Common.{refl}
use Rattle.pm_volume.specs.Changes.{no_slot, entry_slot}
use Rattle.pm_volume.proofs.entry.Entry.slot.Goals as goal

pub returns-clause-fields : goal.returns-clause-fields
unfolding entry_slot no_slot
returns-clause-fields c =
    rw (
      c.set_word-5.ensures.written,
      c.set_word-4.ensures.written,
      c.set_bytes.ensures.written,
      c.set_word-3.ensures.written,
      c.from.ensures,
      c.set_word-2.ensures.written,
      c.set_word.ensures.written,
    ) refl
