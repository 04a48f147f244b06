-- Lists that are built piece by piece, such as the text of a file. In each lemma, `whole` is the complete list.
use Rattle.std.proofs.Common.{◌≡◌, ◌<◌, ◌+◌, ◌-◌, ◌++◌, ◌∷◌, [], ◌∙◌, ℕ, suc, List, ap, append_assoc, arith, refl, sym, subst}
use Rattle.std.proofs.Common.{Option, Some, IfSome, zero, length, get_or, take, take_all, ◌≤◌}
use Rattle.std.proofs.lemmas.List.Folds.{list_any_more}
use Rattle.pm_codefile.specs.Dictionary.{segment_in}
use Rattle.pm_codefile.specs.Segments.{attributes_in}
use Rattle.pm_statements.specs.Callees.{system_callee}
use Rattle.std.specs.Fmt.{decimal}
use Rattle.std.specs.List.{AllByRecursion}
use Rattle.std.proofs.lemmas.List.{append-nil}
use Rattle.std.proofs.lemmas.Slice.Eq.{bytes_eq-Decides}
use Rattle.std.specs.Prelude.{Bool, false, true, ◌||◌}
use Rattle.std.specs.Str.{bytes_eq}
use Rattle.pm_statements.specs.declared.sized.SizedSegment.{SizedSegment}
use Rattle.pm_code.specs.Shown.{label_text}
use Rattle.pm_statements.specs.Files.{callee_in, callees_from, entry_lines, is_sized, numbered_text, slot_callees, slot_text, slots_callees}
use Rattle.pm_statements.specs.Files.{slots_text, system_from, tables_text, with_table}
use Rattle.pm_trees.specs.Parts.{Known}
use Rattle.pm_trees.specs.declared.items.Layout.{Layout}
use Rattle.pm_trees.specs.declared.part.Callee.{Callee}

-- If piece `n` is appended to `before`, then `after` and the pieces from `n + 1` on are the complete list.
next : {A : Type 0} (all : ℕ → ℕ → List A) (piece : ℕ → List A) → ((n k : ℕ) → all n (suc k) ≡ piece n ++ all (n + 1) k)
    → (n done count : ℕ) (after before whole : List A) → done < count → after ≡ before ++ piece n
    → before ++ all n (count - done) ≡ whole → after ++ all (n + 1) (count - (done + 1)) ≡ whole
next all piece step n done count after before whole h t i =
    let more : count - done ≡ suc (count - (done + 1)) = omega (arith, h) in
    let rest = all (n + 1) (count - (done + 1)) in
    ap (λ u. u ++ rest) t
    ∙ append_assoc before (piece n) rest
    ∙ ap (λ u. before ++ u) (sym (step n (count - (done + 1))))
    ∙ ap (λ k. before ++ all n k) (sym more)
    ∙ i

-- If the sizes of the next procedure are appended, then the sizes of the remaining procedures of the segment complete
-- the list.
pub next_callee : (segment : List ℕ) (done : ℕ) (after before whole : List (Option Callee)) (callee : Option Callee) → done < 255
    → callee_in segment (attributes_in segment (done + 1)) ≡ callee → after ≡ before ++ callee ∷ []
    → before ++ callees_from segment (done + 1) (255 - done) ≡ whole
    → after ++ callees_from segment (done + 1 + 1) (255 - (done + 1)) ≡ whole
next_callee segment done after before whole callee h e t i =
    next (callees_from segment) (λ n. callee_in segment (attributes_in segment n) ∷ []) (λ n k. refl) (done + 1) done 255
    after before whole h (t ∙ ap (λ c. before ++ c ∷ []) (sym e)) i

-- If the sizes of the next procedure of the operating system are appended, then the sizes of the remaining procedures
-- complete the list.
pub next_system : (done : ℕ) (after before whole : List (Option Callee)) → done < 255
    → after ≡ before ++ system_callee (done + 1) ∷ [] → before ++ system_from (done + 1) (255 - done) ≡ whole
    → after ++ system_from (done + 1 + 1) (255 - (done + 1)) ≡ whole
next_system done after before whole h t i =
    next system_from (λ n. system_callee n ∷ []) (λ n k. refl) (done + 1) done 255 after before whole h t i

-- If the sizes for slot `n` are appended, then the sizes for the remaining slots complete the list.
pub next_slot : (file : List ℕ) (n : ℕ) (after before whole : List (Option Callee)) → n < 16
    → after ≡ before ++ slot_callees n (segment_in file n) → before ++ slots_callees file n (16 - n) ≡ whole
    → after ++ slots_callees file (n + 1) (16 - (n + 1)) ≡ whole
next_slot file n after before whole h t i =
    next (slots_callees file) (λ n. slot_callees n (segment_in file n)) (λ n k. refl) n n 16 after before whole h t i

-- If the text of the next procedure number is appended and its attribute table is recorded in `noted`, then the text of
-- the remaining numbers completes the text.
pub next_table : (k : Known) (segment shown noted : List ℕ) (done count : ℕ) (after before whole text : List ℕ) → done < count
    → noted ≡ with_table shown (attributes_in segment (done + 1))
    → numbered_text k segment shown (done + 1) (attributes_in segment (done + 1)) ≡ text → after ≡ before ++ text
    → before ++ tables_text k segment shown (done + 1) (count - done) ≡ whole
    → after ++ tables_text k segment noted (done + 1 + 1) (count - (done + 1)) ≡ whole
next_table k segment shown noted done count after before whole text h s e t i =
    let more : count - done ≡ suc (count - (done + 1)) = omega (arith, h) in
    let left = count - (done + 1) in
    let own = numbered_text k segment shown (done + 1) (attributes_in segment (done + 1)) in
    ap (λ u. u ++ tables_text k segment noted (done + 1 + 1) left) t
    ∙ append_assoc before text (tables_text k segment noted (done + 1 + 1) left)
    ∙ ap (λ u. before ++ (u ++ tables_text k segment noted (done + 1 + 1) left)) (sym e)
    ∙ ap (λ n. before ++ (own ++ tables_text k segment n (done + 1 + 1) left)) s
    ∙ ap (λ m. before ++ tables_text k segment shown (done + 1) m) (sym more)
    ∙ i

-- If the text of slot `n` is appended, then the text of the remaining slots completes the text.
pub next_text : (callees : List (Option Callee)) (layout : Layout) (file : List ℕ) (n : ℕ) (after before whole : List ℕ) → n < 16
    → after ≡ before ++ slot_text callees layout n (segment_in file n) → before ++ slots_text callees layout file n (16 - n) ≡ whole
    → after ++ slots_text callees layout file (n + 1) (16 - (n + 1)) ≡ whole
next_text callees layout file n after before whole h t i =
    next (slots_text callees layout file) (λ n. slot_text callees layout n (segment_in file n)) (λ n k. refl) n n 16 after before whole h t i

-- If an option is `Some x` and its value has the property `P`, then `x` has the property `P`.
pub given : {A : Type 0} (P : A → Type 0) (o : Option A) (x : A) → o ≡ Some x → IfSome o P → P x
given P o x e h = let g : IfSome (Some x) P = subst (λ k. IfSome k P) e h in g

-- If `a`, `b` and `c` are appended one after the other, then `(a ++ b) ++ c` is appended.
pub three_pieces : (t0 t1 t2 t3 a b c : List ℕ) → t1 ≡ t0 ++ a → t2 ≡ t1 ++ b → t3 ≡ t2 ++ c → t3 ≡ t0 ++ ((a ++ b) ++ c)
three_pieces t0 t1 t2 t3 a b c e f g =
    g ∙ ap (λ t. t ++ c) (f ∙ ap (λ t. t ++ b) e ∙ append_assoc t0 a b) ∙ append_assoc t0 (a ++ b) c

-- If `a` and `b` are appended one after the other, then `a ++ b` is appended.
pub two_pieces : (t0 t1 t2 a b : List ℕ) → t1 ≡ t0 ++ a → t2 ≡ t1 ++ b → t2 ≡ t0 ++ (a ++ b)
two_pieces t0 t1 t2 a b e f = f ∙ ap (λ t. t ++ b) e ∙ append_assoc t0 a b

-- If the line of the next entry is appended, then the lines of the remaining entries complete the text.
pub entries_step : (k place : ℕ) (places all out new whole : List ℕ) → all ≡ place ∷ places
    → new ≡ out ++ (10 ∷ 94 ∷ (decimal k ++ (32 ∷ label_text place)))
    → out ++ entry_lines k all ≡ whole → new ++ entry_lines (k + 1) places ≡ whole
entries_step k place places all out new whole e n i =
    ap (λ t. t ++ entry_lines (k + 1) places) n
    ∙ append_assoc out (10 ∷ 94 ∷ (decimal k ++ (32 ∷ label_text place))) (entry_lines (k + 1) places)
    ∙ ap (λ l. out ++ entry_lines k l) (sym e)
    ∙ i

pub entries_done : (k : ℕ) (all out whole : List ℕ) → all ≡ [] → out ++ entry_lines k all ≡ whole → out ≡ whole
entries_done k all out whole e i = sym (ap (λ l. out ++ entry_lines k l) e ∙ append-nil out) ∙ i

-- If all items of `xs` and the item `x` have the property `P`, then all items of `xs ++ x ∷ []` have it.
pub all_behind : {A : Type 0} (P : A → Type 0) (xs : List A) (x : A) → AllByRecursion P xs → P x → AllByRecursion P (xs ++ x ∷ [])
all_behind P [] x h p = (p, tt)
all_behind P (y ∷ xs) x h p = (h.0, all_behind P xs x h.1 p)

-- The last of some segments is among them.
pub sized_last : (segments : List SizedSegment) (s : SizedSegment) (bytes : List ℕ) → s.segment.now ≡ bytes
    → is_sized (segments ++ s ∷ []) bytes ≡ true
sized_last [] s bytes e = rw ((bytes_eq-Decides s.segment.now bytes).1 e) refl
sized_last (first ∷ more) s bytes e = rw (sized_last more s bytes e) (or_true (bytes_eq first.segment.now bytes))
  where
    or_true : (b : Bool) → (b || true) ≡ true
    or_true true = refl
    or_true false = refl

-- A property of all elements holds for the element at `i`.
pub all_at : {A : Type 0} (P : A → Type 0) (xs : List A) (i : ℕ) (d : A) → i < length xs → AllByRecursion P xs → P (get_or xs i d)
all_at P [] i d h all = absurd (omega arith)
all_at P (x ∷ xs) zero d h all = all.0
all_at P (x ∷ xs) (suc i) d h all = all_at P xs i d (omega arith) all.1

-- If none of the first `i` segments has the bytes, and the next one has not, then none of the first `i + 1` has.
pub none_more : (segments : List SizedSegment) (bytes : List ℕ) (i : ℕ) (d : SizedSegment) → i < length segments
    → bytes_eq (get_or segments i d).segment.now bytes ≡ false → is_sized (take i segments) bytes ≡ false
    → is_sized (take (i + 1) segments) bytes ≡ false
none_more segments bytes i d h other none = list_any_more (λ s. bytes_eq s.segment.now bytes) segments i d h ∙ rw (none, other) refl

-- If none of the first `i` segments has the bytes, and there are no more, then none has.
pub taken_all : (segments : List SizedSegment) (bytes : List ℕ) (i : ℕ) → length segments ≤ i
    → is_sized (take i segments) bytes ≡ false → is_sized segments bytes ≡ false
taken_all segments bytes i h none = rw (sym (take_all i segments h)) none
