-- The line of a trace, appended to a page part by part.
use Rattle.std.proofs.Common.{◌≡◌, refl, ℕ, List, [], ◌∷◌, ◌++◌, ap, ◌∙◌, append_assoc}
use Rattle.std.specs.Prelude.{Option}
use Rattle.std.specs.List.{flat_map}
use Rattle.pm_calls.specs.declared.registers.Registers.{Registers}
use Rattle.pm_code.specs.Shown.{padded}
use Rattle.pm_disasm.specs.Text.{line_text}
use Rattle.pm_machine.specs.State.{State}
use Rattle.pm_trace.specs.Trace.{spaced, top_text, top_word, trace_line}

joined : (p steps ipc sp mp base np top line : List ℕ)
    → (((p ++ (steps ++ 32 ∷ []))
    ++ flat_map (λ column. column) ((ipc ++ 32 ∷ []) ∷ (sp ++ 32 ∷ []) ∷ (mp ++ 32 ∷ [])
    ∷ (base ++ 32 ∷ []) ∷ (np ++ 32 ∷ []) ∷ (top ++ 32 ∷ []) ∷ [])) ++ line) ++ 10 ∷ []
    ≡ (p ++ spaced (steps ∷ ipc ∷ sp ∷ mp ∷ base ∷ np ∷ top ∷ line ∷ [])) ++ 10 ∷ []
joined p steps ipc sp mp base np top line = ap (λ u. u ++ 10 ∷ []) (simp append_assoc refl)

pub line_added : (s : State) (r : Registers) (words : List ℕ) (count : ℕ) (t : Option ℕ) (front ipc sp mp base np top flat line p p1 p2 p3 p4 : List ℕ)
    → count ≡ s.steps → r ≡ s.registers → words ≡ s.memory → front ≡ padded 8 count ++ 32 ∷ []
    → ipc ≡ padded 5 r.ipc ++ 32 ∷ [] → sp ≡ padded 5 r.sp ++ 32 ∷ [] → mp ≡ padded 5 r.mp ++ 32 ∷ []
    → base ≡ padded 5 r.base ++ 32 ∷ [] → np ≡ padded 5 r.np ++ 32 ∷ []
    → t ≡ top_word words r.sp → top ≡ top_text t ++ 32 ∷ [] → line ≡ line_text words r.ipc
    → flat ≡ flat_map (λ column. column) (ipc ∷ sp ∷ mp ∷ base ∷ np ∷ top ∷ [])
    → p1 ≡ p ++ front → p2 ≡ p1 ++ flat → p3 ≡ p2 ++ line → p4 ≡ p3 ++ 10 ∷ []
    → p4 ≡ p ++ trace_line s ++ 10 ∷ []
unfolding trace_line
line_added s r words count t front ipc sp mp base np top flat line p p1 p2 p3 p4 ec er ew et ei es em eb en ew2 etop el ef e1 e2 e3 e4 =
    rw (e4, e3, e2, e1, ef, et, ei, es, em, eb, en, etop, ew2, el)
    (joined p (padded 8 count) (padded 5 r.ipc) (padded 5 r.sp) (padded 5 r.mp) (padded 5 r.base) (padded 5 r.np) (top_text (top_word words r.sp))
    (line_text words r.ipc)
    ∙ rw (ec, er, ew) refl)
