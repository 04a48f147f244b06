use Rattle.std.proofs.Common.{◌≡◌, ◌∙◌, ◌+◌, ◌-◌, ◌++◌, ℕ, List, [], ◌∷◌, ap, append_assoc, append-nil, arith, drop, refl, sym, take}
use Rattle.std.proofs.lemmas.List.{at_drop_all, take_rest}
use Rattle.pm_textfile.specs.Writing.{TextLine, line_length, text_lines}
use Rattle.pm_textfile.proofs.LineLaws.{lines_of-drop}
use Rattle.pm_search.specs.Texts.{matches_from, matching}
use Rattle.pm_search.proofs.texts.push_matches.Goals as goal

-- The lines for a line and for the lines after it.
matches_next : (needle front : List ℕ) (n : ℕ) (line : TextLine) (lines : List TextLine)
    → matching needle front n line ++ matches_from needle front (n + 1) lines ≡ matches_from needle front n (line ∷ lines)
unfolding matches_from
matches_next needle front n line lines = refl

-- No line remains, so nothing is appended.
matches_none : (needle front : List ℕ) (n : ℕ) → matches_from needle front n (text_lines []) ≡ []
unfolding matches_from text_lines
matches_none needle front n = refl

pub loop-start-preserved : goal.loop-start-preserved
loop-start-preserved c =
    let needle = c.args.finder.now in
    let front = c.args.front.now in
    let text = c.args.lines.now in
    let start = c.loop-start.start in
    let number = c.loop-start.number in
    let n = c.line_length.result in
    let long = c.line_length.ensures.length ∙ ap line_length (take_rest text start) in
    let step = lines_of-drop text start n (omega arith) long in
    let line = take ((start + n) - start) (drop start text) in
    let rest = text_lines (drop ((start + n) + 1) text) in
    let old = c.loop-start.text.items in
    record {
      whole = ap (λ (t : List ℕ). t ++ matches_from needle front (number + 1) rest) c.in_ok-push_matching.ensures.text
          ∙ append_assoc old (matching needle front number line) (matches_from needle front (number + 1) rest)
          ∙ ap (λ (m : List ℕ). old ++ m) (matches_next needle front number line rest)
          ∙ ap (λ (ls : List TextLine). old ++ matches_from needle front number ls) (sym step) ∙ c.loop-start.invariant.whole;
      counted = omega arith;
      within = omega arith;
    }

pub returns : goal.returns
returns c =
    let needle = c.args.finder.now in
    let front = c.args.front.now in
    let items = c.loop-start.text.items in
    let done = at_drop_all (λ rest. matches_from needle front c.loop-start.number (text_lines rest)) c.args.lines.now c.loop-start.start (omega arith) in
    record {
      text = sym (append-nil items) ∙ ap (λ (m : List ℕ). items ++ m) (sym (done ∙ matches_none needle front c.loop-start.number))
          ∙ c.loop-start.invariant.whole;
    }
