use Rattle.std.proofs.Common.{rules, ◌≡◌, ◌∙◌, ◌++◌, List, ℕ, Some, ap, append_assoc, string_bytes, sym}
use Rattle.pm_codefile.specs.Dictionary.{segment_in}
use Rattle.pm_codefile.specs.Segments.{procedures_in}
use Rattle.pm_code.specs.Image.{listed_line}
use Rattle.pm_disasm.specs.Listing.{slot_listing, stored_dictionary, tables_listing}
use Rattle.pm_disasm.proofs.listed.list_slot.Goals as goal
