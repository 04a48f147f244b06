-- The text of case jumps.
use Rattle.std.specs.Prelude.{ℕ, ◌+◌, ◌==◌, if◌then◌else◌, List, [], ◌∷◌, ◌++◌, codes}
use Rattle.pm_code.specs.Item.{Target}
use Rattle.pm_code.specs.Shown.{label_text, target_text}
use Rattle.pm_code.specs.Text.{signed_text}
use Rattle.pm_phrases.specs.Shown.{Shown, value, value_text}

-- The case value that follows `v`. The value after 65,535 (-1) is 0.
abbrev pub next_value : ℕ → ℕ
next_value v = if v == 65535 then 0 else v + 1

-- The text of the case value `v` and its label.
unfoldable pub arm_text : ℕ → ℕ → List ℕ
arm_text v place = signed_text v ++ (codes ": " ++ label_text place)

abbrev pub more_arms : ℕ → List ℕ → List ℕ
more_arms v [] = []
more_arms v (place ∷ places) = codes "; " ++ (arm_text v place ++ more_arms (next_value v) places)

-- The text of the arms for the values from `low`. For an empty table, it is the bounds in braces.
unfoldable pub table_text : ℕ → ℕ → List ℕ → List ℕ
table_text low high [] = codes "{" ++ (signed_text low ++ (codes ", " ++ (signed_text high ++ codes "}")))
table_text low high (place ∷ places) = arm_text low place ++ more_arms (next_value low) places

-- The text of XJP with the value `a`.
unfoldable pub case_on : ℕ → ℕ → Target ℕ → List ℕ → Shown → Shown
case_on low high otherwise places a =
    value 0 (codes "CASE " ++ (value_text a 0 ++ (codes " OF "
    ++ (table_text low high places ++ (codes " ELSE " ++ target_text otherwise)))))
