-- Code ranges and lines of blocks are appended one after another.
use Rattle.std.proofs.Common.{◌≡◌, ℕ, ◌-◌, Bool, List, [], ◌∷◌, ◌++◌, append_assoc, drop, refl, sym, ap, ◌∙◌}
use Rattle.std.proofs.lemmas.List.{append-nil}
use Rattle.pm_trees.specs.declared.line.Line.{Line}
use Rattle.pm_trees.specs.declared.statement.Leads.{Leads}
use Rattle.pm_trees.specs.declared.statement.Statement.{Statement}
use Rattle.pm_trees.specs.Lines.{depth_at, depth_behind}
use Rattle.pm_phrases.specs.Shown.{Shown}
use Rattle.pm_trees.specs.declared.left.Left.{Left}
use Rattle.pm_statements.specs.BlockLines.{block_line, block_lines, calls_at, statements_at}
use Rattle.pm_statements.specs.Leading.{leads_by, next_place, stretches}

-- If the code range of the statement `l` is appended to `list`, then the ranges of the other statements `ls` complete
-- the list of all ranges.
pub stretches_step : (start : ℕ) (entries : List ℕ) (end behind : ℕ) (to : Leads) (l : Left) (s : Shown) (ls now : List Left) (ss texts : List Shown)
    (list new : List Statement) → now ≡ l ∷ ls → texts ≡ s ∷ ss → behind ≡ next_place end ls → to ≡ leads_by start entries l.role s.form
    → new ≡ list ++ record { at = l.place.offset - start; behind = behind - start; leads = to } ∷ []
    → new ++ stretches start entries end ls ss ≡ list ++ stretches start entries end now texts
unfolding stretches
stretches_step start entries end behind to l s ls now ss texts list new a b c d e =
    let rest : List Statement = stretches start entries end ls ss in
    let at : ℕ = l.place.offset - start in
    ap (λ x. x ++ rest) e
    ∙ append_assoc list (record { at = at; behind = behind - start; leads = to } ∷ []) rest
    ∙ ap (λ (n : ℕ). list ++ record { at = at; behind = n - start; leads = to } ∷ rest) c
    ∙ ap (λ (t : Leads). list ++ record { at = at; behind = next_place end ls - start; leads = t } ∷ rest) d
    ∙ ap (λ x. list ++ stretches start entries end (l ∷ ls) x) (sym b)
    ∙ ap (λ x. list ++ stretches start entries end x texts) (sym a)

pub stretches_none : (start : ℕ) (entries : List ℕ) (end : ℕ) (ls : List Left) → stretches start entries end ls [] ≡ []
unfolding stretches
stretches_none start entries end [] = refl
stretches_none start entries end (l ∷ ls) = refl

pub stretches_done : (start : ℕ) (entries : List ℕ) (end : ℕ) (ls : List Left) (ss : List Shown) → ls ≡ [] → stretches start entries end ls ss ≡ []
unfolding stretches
stretches_done start entries end ls ss e = ap (λ x. stretches start entries end x ss) e

-- If the line `x` is appended to the text `out`, then the other lines `xs` complete the text of all lines.
pub block_step : (depth next : ℕ) (calls behind : Bool) (x : Line) (xs now : List Line) (ls rest : List Left) (ss texts : List Shown) (out new : List ℕ)
    → now ≡ x ∷ xs → new ≡ out ++ block_line (depth_at x.word depth) calls x.word ls ss → next ≡ depth_behind x.word depth
    → behind ≡ calls_at x.word ls → rest ≡ drop (statements_at x.word) ls → texts ≡ drop (statements_at x.word) ss
    → new ++ block_lines next behind xs rest texts ≡ out ++ block_lines depth calls now ls ss
unfolding block_lines
block_step depth next calls behind x xs now ls rest ss texts out new a b c d e f =
    let own : List ℕ = block_line (depth_at x.word depth) calls x.word ls ss in
    ap (λ t. t ++ block_lines next behind xs rest texts) b
    ∙ append_assoc out own (block_lines next behind xs rest texts)
    ∙ ap (λ (n : ℕ). out ++ (own ++ block_lines n behind xs rest texts)) c
    ∙ ap (λ (w : Bool). out ++ (own ++ block_lines (depth_behind x.word depth) w xs rest texts)) d
    ∙ ap (λ l. out ++ (own ++ block_lines (depth_behind x.word depth) (calls_at x.word ls) xs l texts)) e
    ∙ ap (λ t. out ++ (own ++ block_lines (depth_behind x.word depth) (calls_at x.word ls) xs (drop (statements_at x.word) ls) t)) f
    ∙ ap (λ l. out ++ block_lines depth calls l ls ss) (sym a)

pub block_done : (depth : ℕ) (calls : Bool) (xs : List Line) (ls : List Left) (ss : List Shown) (out : List ℕ) → xs ≡ []
    → out ++ block_lines depth calls xs ls ss ≡ out
unfolding block_lines
block_done depth calls xs ls ss out e = ap (λ x. out ++ block_lines depth calls x ls ss) e ∙ append-nil out
