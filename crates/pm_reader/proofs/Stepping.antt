-- Laws of reading one more line.
use Rattle.std.proofs.Common.{◌≡◌, ℕ, ◌+◌, ◌<◌, List, [], ◌++◌, ◌∙◌, length, get_or, ap, sym, subst}
use Rattle.pm_source.specs.Line.{line_of}
use Rattle.pm_source.specs.Faults.{Reading, line_faults, after_line, faults_from, after_lines}
use Rattle.pm_source.specs.declared.fault.AsmFault.{AsmFault}
use Rattle.pm_reader.specs.Firsts.{IsFirstOf}
use Rattle.pm_reader.proofs.Firsts.{first_front}
use Rattle.pm_reader.proofs.Numbering.{front, seen_from}

-- If a line has no fault, then the faults of the remaining lines are the faults of the lines after this line.
pub faults_behind : (texts : List (List ℕ)) (n : ℕ) (text : List ℕ) (before behind : Reading) (faults : List AsmFault)
    → (n < length texts) × (text ≡ get_or texts n text) → line_faults (n + 1) before (line_of (n + 1) text) (seen_from (n + 1) texts) ≡ []
    → behind ≡ after_line before (line_of (n + 1) text) → faults_from (n + 1) before (seen_from n texts) ≡ faults
    → faults_from (n + 1 + 1) behind (seen_from (n + 1) texts) ≡ faults
faults_behind texts n text before behind faults turn none is whole =
    let rest = seen_from (n + 1) texts in
    ap (λ r. faults_from (n + 1 + 1) r rest) is
    ∙ (sym (ap (λ fs. fs ++ faults_from (n + 1 + 1) (after_line before (line_of (n + 1) text)) rest) none)
    ∙ (sym (ap (faults_from (n + 1) before) (front texts n text turn)) ∙ whole))

pub said_behind : (texts : List (List ℕ)) (n : ℕ) (text : List ℕ) (before behind whole : Reading)
    → (n < length texts) × (text ≡ get_or texts n text) → behind ≡ after_line before (line_of (n + 1) text)
    → after_lines before (seen_from n texts) ≡ whole → after_lines behind (seen_from (n + 1) texts) ≡ whole
said_behind texts n text before behind whole turn is all =
    ap (λ r. after_lines r (seen_from (n + 1) texts)) is ∙ (sym (ap (after_lines before) (front texts n text turn)) ∙ all)

-- If a fault is the first fault of the next line, then it is the first fault of all remaining lines.
pub first_fault : (texts : List (List ℕ)) (n : ℕ) (text : List ℕ) (before : Reading) (faults : List AsmFault) (fault : AsmFault)
    → (n < length texts) × (text ≡ get_or texts n text)
    → IsFirstOf fault (line_faults (n + 1) before (line_of (n + 1) text) (seen_from (n + 1) texts))
    → faults_from (n + 1) before (seen_from n texts) ≡ faults → IsFirstOf fault faults
first_fault texts n text before faults fault turn here whole =
    let rest = seen_from (n + 1) texts in
    let line = line_of (n + 1) text in
    let more = faults_from (n + 1 + 1) (after_line before line) rest in
    let first : IsFirstOf fault (line_faults (n + 1) before line rest ++ more) =
    λ memory. first_front fault (line_faults (n + 1) before line rest) more (here memory) in
    subst (IsFirstOf fault) (sym (ap (faults_from (n + 1) before) (front texts n text turn)) ∙ whole) first
