use Rattle.std.proofs.Common.{◌≡◌, ◌≤◌, ◌++◌, drop, string_bytes}
use Rattle.std.specs.List.{AllByRecursion}
use Rattle.pm_code.specs.Image.{listing}
use Rattle.pm_code.specs.Program.{FitSlots, IsSegment}
use Rattle.pm_code.specs.Views.{program_seen}
use Rattle.pm_code.proofs.listing.listing_of.Given as goal

-- The text already written, followed by the listing of the remaining segments, is the listing of the program.
abbrev pub invariant-loop-segment : goal.invariant-loop-segment
invariant-loop-segment l = record {
  written : string_bytes l.text ++ listing (program_seen (drop l.segment-index l.program)) ≡ listing (program_seen l.fn.program);
  good : AllByRecursion IsSegment (program_seen (drop l.segment-index l.program));
  fit : FitSlots (program_seen (drop l.segment-index l.program));
}
