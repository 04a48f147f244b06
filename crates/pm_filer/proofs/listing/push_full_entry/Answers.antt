use Rattle.std.proofs.Common.{refl, append_assoc}
use Rattle.pm_filer.specs.Listing.{full_line}
use Rattle.pm_filer.proofs.Columns.{shown_length}
use Rattle.pm_filer.proofs.listing.push_full_entry.Goals as goal

pub returns : goal.returns
unfolding full_line
returns c =
    record {
      text = rw (
        c.in_ok-writeln.ensures.bytes,
        c.in_ok-push_spaces.ensures.text,
        c.in_ok-push_name.ensures.text,
        c.saturating_sub.ensures,
        shown_length,
        ←
            c.characters-name.ensures.characters,
      ) (simp append_assoc refl);
    }
