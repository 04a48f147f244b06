-- Lemmas for the count of jump table entries with which a procedure is shown.
use Rattle.std.proofs.Common.{◌≡◌, ◌<◌, ◌≤◌, ℕ, zero, suc, ◌+◌, Bool, true, false, cond, max, List, [], ◌∷◌, ◌++◌}
use Rattle.std.proofs.Common.{length, map, refl, sym, ap, ◌∙◌, subst, arith, inl, inr, Option, Some, None, IfSome}
use Rattle.std.specs.List.{list_all}
use Rattle.std.proofs.lemmas.Bool.{and_parts, cases_Bool, cases_lt, true≢false}
use Rattle.pm_codefile.specs.declared.table.Attributes.{Attributes}
use Rattle.pm_code.specs.Item.{Item, Target, IsNear, IsItem, size}
use Rattle.pm_code.specs.Item.Item.{Plain, Jump, Case, OneByte}
use Rattle.pm_code.specs.Item.Target.{To, Through}
use Rattle.pm_code.specs.Program.{Procedure, AreItems, AreInstructions, code_end, is_among, item_places, entries_for, entries_used, entries_needed}
use Rattle.pm_disasm.specs.Split.{Part, parts, is_allowed, is_allowed_item, leads, written, written_as, ends_of}
use Rattle.pm_disasm.specs.Split.{code_with, procedure_with, fits, least_from, with_count, procedure_of}
use Rattle.pm_disasm.specs.Laws.{StandsIn, attributes_of, IsShownAs, ProcedureIsShown}
use Rattle.law_text.proofs.Again.{later, earlier}
use Rattle.law_text.proofs.OwnCount.{own_count, own_fits, smaller_count_fails}
use Rattle.law_text.proofs.ShownAs.{Counted, fits_counted, counted_shown}

pub least_fits : (segment : List ℕ) (a : Attributes) (t count : ℕ) → IfSome (least_from segment a t count) (λ u. fits segment a u ≡ true)
least_fits segment a t zero = tt
least_fits segment a t (suc count) = elim (cases_Bool (fits segment a t)) [
  | inl e ↦ rw e e
  | inr e ↦ rw e (least_fits segment a (t + 1) count)
]

least_is : (segment : List ℕ) (a : Attributes) (u t count : ℕ) → ((n : ℕ) → n < u → fits segment a n ≡ false) → fits segment a u ≡ true → t ≤ u → u < t + count
    → least_from segment a t count ≡ Some u
least_is segment a u t zero f e low high = absurd (omega arith)
least_is segment a u t (suc count) f e low high = elim (cases_lt t u) [
  | inl less ↦ (let w = f t less in rw w (least_is segment a u (t + 1) count f e (omega arith) (omega arith)))
  | inr more ↦ (let same : t ≡ u = omega arith in let w : fits segment a t ≡ true = ap (fits segment a) same ∙ e in rw w (ap Some same))
]

-- A jump uses at most 60 entries of the table.
few_entries : (next : ℕ) (target : Target ℕ) → IsNear next target → entries_for target ≤ 60
few_entries next (To place) h = omega arith
few_entries next (Through k) h = omega (arith, h)

few_used : (at : ℕ) (item : Item ℕ) → IsItem at item → entries_used item ≤ 60
few_used at (Plain i named) h = omega arith
few_used at (Jump op target) h = few_entries (at + 2) target h.2
few_used at (Case low high otherwise places) h = few_entries _ otherwise h.near
few_used at (OneByte b) h = omega arith

few_needed : (at : ℕ) (items : List (Item ℕ)) → AreItems at items → entries_needed items ≤ 60
few_needed at [] h = omega arith
few_needed at (item ∷ items) h = omega (arith, few_used at item h.0, few_needed (at + size at item) items h.1)

-- If no entry is allowed, none is used.
none_for : (target : Target ℕ) → is_allowed false target ≡ true → entries_for target ≡ 0
none_for (To place) h = refl
none_for (Through k) h = absurd (true≢false (sym h))

none_used : (item : Item ℕ) → is_allowed_item false item ≡ true → entries_used item ≡ 0
none_used (Plain i named) h = refl
none_used (Jump op target) h = none_for target h
none_used (Case low high otherwise places) h = none_for otherwise h
none_used (OneByte b) h = refl

needed_of_both : (xs ys : List (Item ℕ)) → entries_needed (xs ++ ys) ≡ max (entries_needed xs) (entries_needed ys)
needed_of_both [] ys = omega arith
needed_of_both (x ∷ xs) ys = omega (arith, needed_of_both xs ys)

needed_of_bytes : (bs : List ℕ) → entries_needed {P = ℕ} (map OneByte bs) ≡ 0
needed_of_bytes [] = refl
needed_of_bytes (b ∷ bs) = omega (arith, needed_of_bytes bs)

none_of_part : (ends bytes : List ℕ) (item : Option (Item ℕ)) → entries_needed (written_as ends false bytes item) ≡ 0
none_of_part ends bytes None = needed_of_bytes bytes
none_of_part ends bytes (Some item) = chosen (leads ends false item) refl
  where
    chosen : (b : Bool) → leads ends false item ≡ b → entries_needed (cond b (item ∷ []) (map OneByte bytes)) ≡ 0
    chosen true e = omega (arith, none_used item (and_parts (is_allowed_item false item) (list_all (is_among ends) (item_places item)) e).0)
    chosen false e = needed_of_bytes bytes

none_needed : (ends : List ℕ) (ps : List Part) → entries_needed (written ends false ps) ≡ 0
none_needed ends [] = refl
none_needed ends (p ∷ ps) =
    omega (arith, needed_of_both (written_as ends false p.bytes p.item) (written ends false ps), none_of_part ends p.bytes p.item, none_needed ends ps)

shown_as : (segment : List ℕ) (number : ℕ) (p : Procedure) (o : Option ℕ) → StandsIn segment number p → least_from segment (attributes_of number p) 0 61 ≡ o
    → IsShownAs number p (with_count segment (attributes_of number p) o)
shown_as segment number p o s e = by_cases o e (subst (λ o. IfSome o (λ u. fits segment a u ≡ true)) e (least_fits segment a 0 61))
  where
    a : Attributes
    a = attributes_of number p

    own : AreInstructions p.items → least_from segment (attributes_of number p) 0 61 ≡ Some (length p.entries)
    own i = least_is segment (attributes_of number p) (length p.entries) 0 61 (λ t n. smaller_count_fails segment number p t s i n)
        (own_fits segment number p s i) (omega arith) (omega (arith, s.procedure.used, few_needed p.start p.items s.procedure.items))

    by_cases : (o : Option ℕ) → least_from segment (attributes_of number p) 0 61 ≡ o → IfSome o (λ u. fits segment (attributes_of number p) u ≡ true)
        → IsShownAs number p (with_count segment (attributes_of number p) o)
    by_cases None e f =
        let h = s.procedure in
        let exit : p.exit ≤ code_end p = earlier p.start p.items p.exit h.exit in
        let c : Counted segment number p false 0 = record {
          room = omega (arith, later p.start p.items p.exit h.exit, exit);
          exit = omega (arith, exit);
          after = refl;
          within = tt;
          used = sym (none_needed (ends_of (p.start + length (code_with segment (attributes_of number p) 0))
              (parts (p.exit ∷ []) 0 p.start (code_with segment (attributes_of number p) 0)))
              (parts (p.exit ∷ []) 0 p.start (code_with segment (attributes_of number p) 0)));
        } in
        let same = counted_shown segment number p false 0 s c in
        record {
          procedure = same.procedure;
          start = refl;
          jtab = same.jtab;
          bytes = same.bytes;
          same = λ i. absurd (let w : None ≡ Some (length p.entries) = sym e ∙ own i in cc);
        }
    by_cases (Some t) e f =
        let same = counted_shown segment number p true t s (fits_counted segment number p t f) in
        record {
          procedure = same.procedure;
          start = refl;
          jtab = same.jtab;
          bytes = same.bytes;
          same = λ i. (let w : Some t ≡ Some (length p.entries) = sym e
              ∙ own i in let n : t ≡ length p.entries = cc in ap (procedure_with segment (attributes_of number p) true) n ∙ own_count segment number p s i);
        }

pub procedure_is_shown : ProcedureIsShown
unfolding procedure_of
procedure_is_shown segment number p s = shown_as segment number p (least_from segment (attributes_of number p) 0 61) s refl
