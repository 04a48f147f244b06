-- Laws of the first fault of each line.
use Rattle.std.proofs.Common.{◌≡◌, ◌≢◌, ℕ, ◌+◌, ◌<◌, List, [], ◌∷◌, ◌++◌, ◌∙◌, Option, None, Some, length, get_or, ap, sym, refl, append_assoc}
use Rattle.std.specs.Option.{option_to_list}
use Rattle.pm_source.specs.Line.{line_of}
use Rattle.pm_source.specs.Faults.{Reading, after_line, line_faults}
use Rattle.pm_source.specs.declared.fault.AsmFault.{AsmFault}
use Rattle.pm_source.specs.declared.fault.AsmFault.TheVariants.{NoMemory}
use Rattle.pm_reader.specs.Each.{first_in, firsts_from}
use Rattle.pm_reader.specs.Reader.{Answers}
use Rattle.pm_reader.proofs.Numbering.{front, seen_from}

-- If the returned fault agrees with the list of faults and is not `NoMemory`, then it is the first of the list.
pub first_noted : (answer : Option AsmFault) (faults : List AsmFault) → Answers answer faults → answer ≢ Some NoMemory
    → option_to_list answer ≡ first_in faults
first_noted None [] is known = refl
first_noted None (fault ∷ faults) is known = cc
first_noted (Some fault) [] is known = absurd (let h = is (λ e. known (ap Some e)) in cc)
first_noted (Some fault) (f ∷ faults) is known = let h = is (λ e. known (ap Some e)) in cc

-- If the first fault of the next line is appended to the faults so far, then they and the first faults of the remaining
-- lines are all faults.
pub firsts_behind : (texts : List (List ℕ)) (n : ℕ) (text : List ℕ) (before behind : Reading) (old new all : List AsmFault)
    → (n < length texts) × (text ≡ get_or texts n text)
    → new ≡ old ++ first_in (line_faults (n + 1) before (line_of (n + 1) text) (seen_from (n + 1) texts))
    → behind ≡ after_line before (line_of (n + 1) text) → old ++ firsts_from (n + 1) before (seen_from n texts) ≡ all
    → new ++ firsts_from (n + 1 + 1) behind (seen_from (n + 1) texts) ≡ all
unfolding firsts_from
firsts_behind texts n text before behind old new all turn noted is whole =
    let rest = seen_from (n + 1) texts in
    let line = line_of (n + 1) text in
    let more = firsts_from (n + 1 + 1) (after_line before line) rest in
    rw (noted, is, append_assoc old (first_in (line_faults (n + 1) before line rest)) more)
    (sym (ap (λ ls. old ++ firsts_from (n + 1) before ls) (front texts n text turn)) ∙ whole)
