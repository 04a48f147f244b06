-- The first fault of a text is the fault of the first line that has a fault.
use Rattle.std.proofs.Common.{◌≡◌, ◌⊎◌, inl, inr, ℕ, ◌+◌, List, [], ◌∷◌, ◌++◌, length, ap, ◌∙◌, refl, arith, Option, Some, None, length-append}
use Rattle.std.specs.List.{AllByRecursion, flat_map}
use Rattle.pm_textfile.specs.Writing.{IsFirstTextFault, IsSoundLine, TextLine, ended, line_fault, lines_fault, text_lines, text_fault}
use Rattle.pm_textfile.specs.declared.fault.TextFault.{TextFault}
use Rattle.pm_textfile.proofs.PageLaws.{line-sound}

none_or_some : (f : Option TextFault) → (f ≡ None) ⊎ ((e : TextFault) × (f ≡ Some e))
none_or_some None = inl refl
none_or_some (Some e) = inr (e, refl)

-- States that a line has the fault `fault`, and that the lines before it have none. The first line begins at position
-- `place` and has the number `number`.
record Found (place number : ℕ) (lines : List TextLine) (fault : TextFault) : Type 0 where
  before : List TextLine
  line : TextLine
  after : List TextLine
  parts : lines ≡ before ++ line ∷ after
  sound : AllByRecursion IsSoundLine before
  there : line_fault (place + length (flat_map ended before)) (number + length before) line ≡ Some fault

found_here : (place number : ℕ) (line : TextLine) (lines : List TextLine) (fault : TextFault) → line_fault place number line ≡ Some fault
    → Found place number (line ∷ lines) fault
found_here place number line lines fault h =
    let p : place + 0 ≡ place = omega arith in
    let n : number + 0 ≡ number = omega arith in
    record { before = []; line = line; after = lines; parts = refl; sound = tt; there = rw (p, n) h }

found_later : (place number : ℕ) (line : TextLine) (lines : List TextLine) (fault : TextFault) → line_fault place number line ≡ None
    → Found (place + length line + 1) (number + 1) lines fault → Found place number (line ∷ lines) fault
found_later place number line lines fault none k =
    let rest = flat_map ended k.before in
    let p : place + length (ended line ++ rest) ≡ (place + length line + 1) + length rest =
    omega (arith, length-append (ended line) rest, length-append line (10 ∷ [])) in
    let n : number + length (line ∷ k.before) ≡ (number + 1) + length k.before = omega arith in
    record {
      before = line ∷ k.before;
      line = k.line;
      after = k.after;
      parts = ap (λ (ls : List TextLine). line ∷ ls) k.parts;
      sound = (line-sound place number line none, k.sound);
      there = rw (p, n) k.there;
    }

found : (lines : List TextLine) (place number : ℕ) (fault : TextFault) → lines_fault place number lines ≡ Some fault → Found place number lines fault
unfolding lines_fault
found [] place number fault h = cc
found (line ∷ lines) place number fault h = elim (none_or_some (line_fault place number line)) [
  | inl none ↦
      let h' : lines_fault (place + length line + 1) (number + 1) lines ≡ Some fault = rw none at h in
      found_later place number line lines fault none (found lines (place + length line + 1) (number + 1) fault h')
  | inr some ↦
      let h' : Some some.0 ≡ Some fault = rw some.1 at h in
      found_here place number line lines fault (some.1 ∙ h')
]

pub first-from_fault : (text : List ℕ) (fault : TextFault) → text_fault text ≡ Some fault → IsFirstTextFault text fault
first-from_fault text fault h =
    let k = found (text_lines text) 0 1 fault h in
    let p : 0 + length (flat_map ended k.before) ≡ length (flat_map ended k.before) = omega arith in
    let n : 1 + length k.before ≡ length k.before + 1 = omega arith in
    record {
      before = k.before;
      line = k.line;
      after = k.after;
      lines = k.parts;
      sound = k.sound;
      there = rw (p, n) at k.there;
    }
