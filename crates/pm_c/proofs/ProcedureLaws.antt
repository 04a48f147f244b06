-- Lemmas about the lines of the procedures of a code file.
use Rattle.std.proofs.Common.{◌≡◌, ◌<◌, ℕ, suc, ◌+◌, ◌-◌, List, ◌++◌, append_assoc, arith, sym, ap, ◌∙◌}
use Rattle.pm_codefile.specs.Dictionary.{segment_in}
use Rattle.pm_codefile.specs.Segments.{attributes_in}
use Rattle.pm_c.specs.Procedures.{line_or_none, procedures_from, slot_procedures, slots_procedures}

-- If the line of one procedure is appended, then the written text followed by the lines of the remaining procedures is
-- unchanged.
pub next_procedure : (slot : ℕ) (segment : List ℕ) (done count : ℕ) (after before whole : List ℕ) → done < count
    → after ≡ before ++ line_or_none slot segment (attributes_in segment (done + 1))
    → before ++ procedures_from slot segment (done + 1) (count - done) ≡ whole
    → after ++ procedures_from slot segment (done + 1 + 1) (count - (done + 1)) ≡ whole
next_procedure slot segment done count after before whole h t i =
    let more : count - done ≡ suc (count - (done + 1)) = omega (arith, h) in
    let line : List ℕ = line_or_none slot segment (attributes_in segment (done + 1)) in
    let rest : List ℕ = procedures_from slot segment (done + 1 + 1) (count - (done + 1)) in
    ap (λ u. u ++ rest) t
    ∙ append_assoc before line rest
    ∙ ap (λ n. before ++ procedures_from slot segment (done + 1) n) (sym more)
    ∙ i

-- If the lines of one slot are appended, then the written text followed by the lines of the remaining slots is
-- unchanged.
pub next_slot : (file : List ℕ) (n : ℕ) (after before whole : List ℕ) → n < 16
    → after ≡ before ++ slot_procedures n (segment_in file n)
    → before ++ slots_procedures file n (16 - n) ≡ whole → after ++ slots_procedures file (n + 1) (16 - (n + 1)) ≡ whole
next_slot file n after before whole h t i =
    let more : 16 - n ≡ suc (16 - (n + 1)) = omega (arith, h) in
    let lines : List ℕ = slot_procedures n (segment_in file n) in
    let rest : List ℕ = slots_procedures file (n + 1) (16 - (n + 1)) in
    ap (λ u. u ++ rest) t
    ∙ append_assoc before lines rest
    ∙ ap (λ k. before ++ slots_procedures file n k) (sym more)
    ∙ i
