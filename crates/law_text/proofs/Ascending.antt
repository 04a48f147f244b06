-- Lemmas: the faults of lines ascend by their lines.
use Rattle.std.proofs.Common.{◌≡◌, ◌≤◌, ◌+◌, ℕ, Bool, true, false, List, [], ◌∷◌, ◌++◌, refl, arith, Some}
use Rattle.std.specs.Prelude.{not, ◌&&◌, ◌||◌}
use Rattle.std.specs.List.{AllByRecursion, list_any}
use Rattle.pm_source.specs.declared.fault.AsmFault.{AsmFault}
use Rattle.pm_source.specs.declared.fault.AsmFault.TheVariants.{Syntax, Unknown, Range, Twice}
use Rattle.pm_source.specs.FaultNumbers.{place_of}
use Rattle.pm_source.specs.Faults.{Reading, after_line, ends, faults_from, is_again, is_begin, is_in_place, is_miscounted}
use Rattle.pm_source.specs.Faults.{is_out_of_range, is_unknown, line_faults, lines_of, only_if, start}
use Rattle.pm_source.specs.Line.{Line}
use Rattle.pm_source.specs.Line.Line.{Blank, Wrong, Strange, Says}
use Rattle.law_text.specs.Same.{AscendFrom, LineFaultsAscend}

abbrev pub AreAt : ℕ → List AsmFault → Type 0
AreAt n faults = AllByRecursion (λ fault. place_of fault ≡ Some n) faults

pub both : (n : ℕ) (xs ys : List AsmFault) → AreAt n xs → AreAt n ys → AreAt n (xs ++ ys)
both n [] ys h k = k
both n (x ∷ xs) ys h k = (h.0, both n xs ys h.1 k)

pub one : (n : ℕ) (b : Bool) (fault : AsmFault) → place_of fault ≡ Some n → AreAt n (only_if b fault)
one n true fault h = (h, tt)
one n false fault h = tt

line_at : (n : ℕ) (r : Reading) (line : Line) (rest : List Line) → AreAt n (line_faults n r line rest)
line_at n r Blank rest = tt
line_at n r (Wrong end) rest = (refl, tt)
line_at n r Strange rest = (refl, tt)
line_at n r (Says said flaw) rest =
    both n _ _ (one n (not (is_in_place r said) || (is_begin said && not (list_any ends rest))) (Syntax n) refl)
    (both n _ _ (one n (is_unknown flaw) (Unknown n) refl)
    (both n _ _ (one n (is_again r said) (Twice n) refl) (one n (is_out_of_range flaw || is_miscounted r said) (Range n) refl)))

pub lower : (k n : ℕ) (faults : List AsmFault) → k ≤ n → AscendFrom n faults → AscendFrom k faults
lower k n [] h a = tt
lower k n (fault ∷ faults) h a = let above = a.1.1.0 in (a.0, (a.1.0, (omega (arith, h, above), a.1.1.1)))

pub before : (n : ℕ) (faults more : List AsmFault) → AreAt n faults → AscendFrom n more → AscendFrom n (faults ++ more)
before n [] more h a = a
before n (fault ∷ faults) more h a = (n, (h.0, (omega arith, before n faults more h.1 a)))

from : (n : ℕ) (r : Reading) (lines : List Line) → AscendFrom n (faults_from n r lines)
from n r [] = tt
from n r (line ∷ rest) =
    before n (line_faults n r line rest) (faults_from (n + 1) (after_line r line) rest) (line_at n r line rest)
    (lower n (n + 1) (faults_from (n + 1) (after_line r line) rest) (omega arith) (from (n + 1) (after_line r line) rest))

pub line_faults_ascend : LineFaultsAscend
line_faults_ascend text = from 1 start (lines_of text)
