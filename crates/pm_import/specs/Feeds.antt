-- The line ends of the texts in a folder.
use Rattle.std.specs.Prelude.{ℕ, ◌==◌, ◌&&◌, List, [], ◌∷◌, map, slice_index, if◌then◌else◌}
use Rattle.pm_folder.specs.declared.contents.Ends.{Ends}
use Rattle.pm_folder.specs.declared.contents.Ends.TheVariants as ends

-- A text without each byte 13 that comes directly before a byte 10.
abbrev pub without_returns : List ℕ → List ℕ
without_returns [] = []
without_returns (b ∷ text) = if (b == 13) && (slice_index text 0 == 10) then without_returns text else b ∷ without_returns text

-- A byte of a text whose lines end with byte 13, with line feeds.
abbrev pub feed_for : ℕ → ℕ
feed_for b = if b == 13 then 10 else b

-- A text whose lines end with these bytes, with line feeds.
abbrev pub with_feeds : Ends → List ℕ → List ℕ
with_feeds ends.Lf text = text
with_feeds ends.CrLf text = without_returns text
with_feeds ends.Cr text = map feed_for text
