-- Columns of characters, one after the other.
use Rattle.std.proofs.Common.{ℕ, List, [], ◌∷◌}
use Rattle.std.specs.List.{AllByRecursion, flat_map}
use Rattle.std.specs.Str.{IsAscii, IsUtf8}
use Rattle.std.proofs.lemmas.Str.{IsUtf8-from_ascii, IsAscii-append}
use Rattle.std.proofs.lemmas.Str.Ascii.{IsAscii-nil}

columns_ascii : (cs : List (List ℕ)) → AllByRecursion IsAscii cs → IsAscii (flat_map (λ column. column) cs)
columns_ascii [] h = IsAscii-nil
columns_ascii (c ∷ cs) h = IsAscii-append c (flat_map (λ column. column) cs) h.0 (columns_ascii cs h.1)

pub columns_utf8 : (cs : List (List ℕ)) → AllByRecursion IsAscii cs → IsUtf8 (flat_map (λ column. column) cs)
columns_utf8 cs h = IsUtf8-from_ascii (flat_map (λ column. column) cs) (columns_ascii cs h)
