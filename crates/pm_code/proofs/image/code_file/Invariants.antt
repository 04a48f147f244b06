use Rattle.std.proofs.Common.{◌≡◌, length, map, take}
use Rattle.pm_code.specs.Image.{bytes_of_segment, joined_bytes, name_of_segment, slots_of}
use Rattle.pm_code.specs.Views.{program_seen}
use Rattle.pm_code.proofs.image.code_file.Given as goal

-- The names, the lengths and the joined bytes are those of the first `n` slots.
abbrev pub invariant-loop-n : goal.invariant-loop-n
invariant-loop-n l = record {
  names : take l.n l.names ≡ map name_of_segment (slots_of 0 l.n (program_seen l.program));
  lengths : take l.n l.lengths ≡ map (λ s. length (bytes_of_segment s)) (slots_of 0 l.n (program_seen l.program));
  joined : l.joined.items ≡ joined_bytes (slots_of 0 l.n (program_seen l.program));
  sixteen : length l.names ≡ 16;
  all : length l.lengths ≡ 16;
}
