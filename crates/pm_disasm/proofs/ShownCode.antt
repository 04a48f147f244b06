-- The text of a procedure, composed of its pieces.
use Rattle.std.proofs.Common.{◌≡◌, ◌≤◌, ℕ, Bool, List, [], ◌∷◌, ◌++◌, map, refl, sym, ap, ◌∙◌, arith, append_assoc}
use Rattle.std.specs.Prelude.{codes, ◌||◌}
use Rattle.std.specs.Fmt.{decimal}
use Rattle.std.specs.List.{AllByRecursion}
use Rattle.pm_codefile.specs.declared.table.Attributes.{Attributes}
use Rattle.pm_disasm.specs.declared.counts.Reading.{Reading}
use Rattle.pm_disasm.specs.declared.places.PlaceSet.{PlaceSet}
use Rattle.pm_code.specs.Program.{Procedure, is_among}
use Rattle.pm_code.specs.Shown.{code_lines, entry_line, joined, level_text, named_places, procedure_lines, words_text}
use Rattle.pm_disasm.specs.Split.{entry_places, procedure_with}
use Rattle.pm_disasm.specs.Follow.{code_lines_by, written_by}
use Rattle.pm_disasm.specs.Chosen.{IsReading, IsTable}
use Rattle.pm_disasm.specs.Views.{IsAlike, IsInside, IsSetOf, has, part_seen}
use Rattle.pm_disasm.proofs.PlaceSets.{among-append}
use Rattle.pm_disasm.proofs.Readings.{items_read, same_lines}

pub joined-append : (xs ys : List (List ℕ)) → joined (xs ++ ys) ≡ joined xs ++ joined ys
joined-append [] ys = refl
joined-append (x ∷ xs) ys = ap (λ u. x ++ (10 ∷ u)) (joined-append xs ys) ∙ sym (append_assoc x (10 ∷ joined xs) (joined ys))

-- If `r` is the code decoded with `t` entries, then each target of these entries is in the range of `s`.
pub inside_code : (segment : List ℕ) (a : Attributes) (t : ℕ) (r : Reading) (s : PlaceSet) → IsReading segment a t r → IsAlike s r.code.boundaries
    → AllByRecursion (IsInside s) (entry_places segment a.jtab 0 t)
inside_code segment a t r s h e = go (entry_places segment a.jtab 0 t) h.inside
  where
    go : (ps : List ℕ) → AllByRecursion (λ place. (a.enter ≤ place) × (place ≤ r.end)) ps → AllByRecursion (IsInside s) ps
    go [] k = tt
    go (p ∷ ps) k = ((omega (arith, e.0, h.begin, k.0.0), omega (arith, e.0, e.1, h.begin, h.size, h.order, k.0.0, k.0.1)), go ps k.1)

-- If the targets of the entries are added to the targets of the items, then the set has the labels of the procedure's
-- text.
pub places_read : (segment : List ℕ) (a : Attributes) (t : ℕ) (r : Reading) (allowed : Bool) (before after : PlaceSet) → IsTable segment a
    → IsReading segment a t r
    → ((p : ℕ) → has before p ≡ is_among (named_places (written_by (has r.code.boundaries) allowed (map part_seen r.code.parts.items))) p)
    → ((p : ℕ) → has after p ≡ (has before p || is_among (entry_places segment a.jtab 0 t) p))
    → IsSetOf after (named_places (procedure_with segment a allowed t).items ++ (procedure_with segment a allowed t).entries)
places_read segment a t r allowed before after w h b e place =
    let entries : List ℕ = entry_places segment a.jtab 0 t in
    e place
    ∙ ap (λ v. v || is_among entries place) (b place ∙ ap (λ items. is_among (named_places items) place) (items_read segment a t r allowed w h))
    ∙ sym (among-append (named_places (procedure_with segment a allowed t).items) entries place)

-- The text of a whole procedure is the header, the lines of its code, the lines of its entries, and `.END`.
pub procedure_joined : (segment : List ℕ) (a : Attributes) (t number : ℕ) (r : Reading) (allowed : Bool) (named : PlaceSet) (header : List ℕ)
    → IsTable segment a → IsReading segment a t r
    → IsSetOf named (named_places (procedure_with segment a allowed t).items ++ (procedure_with segment a allowed t).entries)
    → header ≡ codes ".PROC" ++ words_text (decimal number ∷ level_text (procedure_with segment a allowed t).level ∷ decimal a.parameters ∷ decimal a.locals
    ∷ [])
    → joined (procedure_lines number (procedure_with segment a allowed t))
    ≡ (header ++ 10 ∷ []) ++ (joined (code_lines_by (has named) a.exit a.enter (written_by (has r.code.boundaries) allowed (map part_seen r.code.parts.items)))
    ++ (joined (map entry_line (entry_places segment a.jtab 0 t)) ++ (codes ".END" ++ 10 ∷ [])))
procedure_joined segment a t number r allowed named header w h s e =
    let p : Procedure = procedure_with segment a allowed t in
    let used : List ℕ = named_places p.items ++ p.entries in
    let code : List (List ℕ) = code_lines used p.exit p.start p.items in
    let entries : List (List ℕ) = map entry_line p.entries in
    let same : code_lines_by (has named) a.exit a.enter (written_by (has r.code.boundaries) allowed (map part_seen r.code.parts.items)) ≡ code =
    ap (code_lines_by (has named) a.exit a.enter) (items_read segment a t r allowed w h) ∙ same_lines (has named) used a.exit a.enter p.items s in
    ap (λ u. u ++ (10 ∷ joined (code ++ (entries ++ codes ".END" ∷ [])))) (sym e)
    ∙ ap (λ u. header ++ (10 ∷ u)) (joined-append code (entries ++ codes ".END" ∷ []) ∙ ap (λ u. joined code ++ u) (joined-append entries (codes ".END" ∷ [])))
    ∙ ap (λ ls. header ++ (10 ∷ (joined ls ++ (joined entries ++ (codes ".END" ++ 10 ∷ []))))) (sym same)
    ∙ sym (append_assoc header (10 ∷ []) _)

-- If four pieces are appended one after another, then their concatenation is appended.
pub four_pieces : (t0 t1 t2 t3 t4 p1 p2 p3 p4 : List ℕ) → t1 ≡ t0 ++ p1 → t2 ≡ t1 ++ p2 → t3 ≡ t2 ++ p3 → t4 ≡ t3 ++ p4 → t4 ≡ t0 ++ (p1 ++ (p2 ++ (p3 ++ p4)))
four_pieces t0 t1 t2 t3 t4 p1 p2 p3 p4 a b c d =
    d ∙ ap (λ t. t ++ p4) c ∙ append_assoc t2 p3 p4
    ∙ ap (λ t. t ++ (p3 ++ p4)) b ∙ append_assoc t1 p2 (p3 ++ p4)
    ∙ ap (λ t. t ++ (p2 ++ (p3 ++ p4))) a ∙ append_assoc t0 p1 (p2 ++ (p3 ++ p4))
