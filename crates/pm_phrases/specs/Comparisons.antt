-- The texts of comparisons of strings, truth values, sets, bytes and words.
use Rattle.std.specs.Prelude.{ℕ, List, ◌++◌, codes}
use Rattle.pm_families.specs.declared.families.Kind.{Kind}
use Rattle.pm_families.specs.declared.families.Kind.TheVariants as kind
use Rattle.pm_families.specs.declared.families.Relation.{Relation}
use Rattle.pm_phrases.specs.declared.spelling.Spelling.{Spelling}
use Rattle.pm_phrases.specs.Shown.{Shown, place_text, value, value_text}
use Rattle.pm_phrases.specs.Signs.{relation_sign}
use Rattle.pm_phrases.specs.Spelled.{marked}

-- The name of the kind of a comparison. The sizes of bytes and words follow, with the marks of their encoding.
unfoldable pub kind_text : Spelling → Kind → List ℕ
kind_text s kind.Real = codes "real"
kind_text s kind.String = codes "str"
kind_text s kind.Boolean = codes "bool"
kind_text s kind.Set = codes "sets"
kind_text s (kind.Bytes n) = codes "bytes[" ++ (marked n s ++ codes "]")
kind_text s (kind.Words n) = codes "words[" ++ (marked n s ++ codes "]")

abbrev pub compared : List ℕ → Relation → List ℕ → List ℕ → Shown
compared name r a b = value 1 (name ++ (codes " " ++ (a ++ (codes " " ++ (relation_sign r ++ (codes " " ++ b))))))

unfoldable pub values_compared : List ℕ → Relation → Shown → Shown → Shown
values_compared name r a b = compared name r (value_text a 2) (value_text b 2)

unfoldable pub places_compared : List ℕ → Relation → Shown → Shown → Shown
places_compared name r a b = compared name r (place_text a) (place_text b)

-- The text of the comparison `r` of `a` and `b` (EQU and similar). Real numbers, truth values and sets are operands
-- themselves. The operands of the other kinds are addresses, and the text shows what is at these addresses.
unfoldable pub compare_two : Spelling → Relation → Kind → Shown → Shown → Shown
compare_two s r kind.Real a b = values_compared (kind_text s kind.Real) r a b
compare_two s r kind.Boolean a b = values_compared (kind_text s kind.Boolean) r a b
compare_two s r kind.Set a b = values_compared (kind_text s kind.Set) r a b
compare_two s r kind.String a b = places_compared (kind_text s kind.String) r a b
compare_two s r (kind.Bytes n) a b = places_compared (kind_text s (kind.Bytes n)) r a b
compare_two s r (kind.Words n) a b = places_compared (kind_text s (kind.Words n)) r a b
