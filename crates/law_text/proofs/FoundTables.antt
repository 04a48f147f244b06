-- Lemmas: the table of a procedure in a segment is found by the number of the procedure.
use Rattle.std.proofs.Common.{◌≡◌, ◌≤◌, ℕ, ◌+◌, ◌-◌, ◌*◌, ◌%◌, Bool, true, leb, List, [], ◌∷◌, ◌++◌}
use Rattle.std.proofs.Common.{length, drop, reverse, refl, sym, ap, ◌∙◌, arith, drop-drop, Some}
use Rattle.std.specs.Prelude.{◌&&◌, nat_le, slice_index, ◌==◌}
use Rattle.std.proofs.Math.Seq.{drop-append_seam}
use Rattle.std.proofs.lemmas.List.{get_or-drop, length-reverse}
use Rattle.std.proofs.lemmas.Bool.{and_from, le-leb, eq-eqb}
use Rattle.pm_opcode.specs.Spelling.{spelled_word}
use Rattle.pm_codefile.specs.Dictionary.{word_in}
use Rattle.pm_codefile.specs.Segments.{attributes_in, demanded, less_or_none, procedures_in}
use Rattle.pm_code.specs.Program.{Procedure, attribute_bytes, back_to, code_end, entry_bytes, jtab_of}
use Rattle.pm_disasm.specs.Laws.{StandsIn, attributes_of}
use Rattle.law_text.proofs.Again.{later, earlier}
use Rattle.pm_disasm.proofs.Stored.{stored_word}
use Rattle.pm_code.proofs.Stored.{length-entry_bytes}
use Rattle.law_text.proofs.OwnCount.{table_there}

given_true : (b : Bool) → b ≡ true → demanded b ≡ Some tt
given_true b e = rw e refl

less_is : (a b c : ℕ) → c + b ≡ a → less_or_none a b ≡ Some c
less_is a b c e =
    let t : leb b a ≡ true = le-leb _ _ (omega arith) in
    let d : a - b ≡ c = omega arith in
    rw (t, d) refl

pub stored_byte : (segment bytes : List ℕ) (at p k : ℕ) → drop at segment ≡ bytes → p ≡ at + k → slice_index segment p ≡ slice_index bytes k
stored_byte segment bytes at p k e f = ap (slice_index segment) f ∙ sym (get_or-drop at segment k 0) ∙ ap (λ bs. slice_index bs k) e

-- The attributes of a procedure follow its code and its entries.
attributes_there : (segment : List ℕ) (number : ℕ) (p : Procedure) (s : StandsIn segment number p)
    → drop (code_end p + 2 * length p.entries) segment ≡ attribute_bytes number p ++ s.rest
attributes_there segment number p s =
    let entries : List ℕ = entry_bytes (code_end p) (reverse p.entries) in
    let long : length entries ≡ 2 * length p.entries = length-entry_bytes (code_end p) (reverse p.entries) ∙ ap (λ n. 2 * n) (length-reverse p.entries) in
    ap (λ n. drop (code_end p + n) segment) (sym long)
    ∙ sym (drop-drop (length entries) (code_end p) segment)
    ∙ ap (drop (length entries)) (table_there segment number p s).there
    ∙ drop-append_seam entries (attribute_bytes number p ++ s.rest)

-- If a word of the dictionary leads to the table of a procedure in the segment, then the attributes of the procedure
-- are found.
pub table_found : (segment : List ℕ) (number at : ℕ) (p : Procedure) → StandsIn segment number p → 1 ≤ number → number ≤ procedures_in segment
    → at + (2 * number + 2) ≡ length segment → word_in segment at ≡ at - jtab_of p → jtab_of p ≤ at
    → attributes_in segment number ≡ Some (attributes_of number p)
unfolding attributes_in
table_found segment number at p s low high place word_at below =
    let h = s.procedure in
    let base = code_end p + 2 * length p.entries in
    let j = jtab_of p in
    let there = attributes_there segment number p s in
    let start_low : p.start ≤ p.exit = later p.start p.items p.exit h.exit in
    let exit_low : p.exit ≤ code_end p = earlier p.start p.items p.exit h.exit in
    let locals : word_in segment (j - 8) ≡ p.locals = stored_word segment []
    (spelled_word p.parameters ++ (back_to (j - 4) p.exit ++ (back_to (j - 2) p.start ++ number ∷ p.level ∷ s.rest))) base (j - 8) p.locals there
    (omega arith) in
    let parameters : word_in segment (j - 6) ≡ p.parameters =
    stored_word segment (spelled_word p.locals) (back_to (j - 4) p.exit ++ (back_to (j - 2) p.start ++ number ∷ p.level ∷ s.rest)) base
    (j - 6) p.parameters there (omega arith) in
    let exit : word_in segment (j - 4) ≡ j - 4 - p.exit =
    stored_word segment (spelled_word p.locals ++ spelled_word p.parameters) (back_to (j - 2) p.start ++ number ∷ p.level ∷ s.rest) base (j - 4)
    (j - 4 - p.exit) there (omega arith) in
    let start : word_in segment (j - 2) ≡ j - 2 - p.start =
    stored_word segment (spelled_word p.locals ++ spelled_word p.parameters ++ back_to (j - 4) p.exit) (number ∷ p.level ∷ s.rest) base (j - 2)
    (j - 2 - p.start) there (omega arith) in
    let number_at : slice_index segment j ≡ number = stored_byte segment (attribute_bytes number p ++ s.rest) base j 8 there (omega arith) in
    let level_at : slice_index segment (j + 1) ≡ p.level = stored_byte segment (attribute_bytes number p ++ s.rest) base (j + 1) 9 there (omega arith) in
    let even : (j % 2 == 0) ≡ true = eq-eqb (j % 2) 0 (omega (arith, h.ends)) in
    let one = given_true (nat_le 1 number && nat_le number (procedures_in segment)) (and_from _ _ (le-leb _ _ low) (le-leb _ _ high)) in
    let two : less_or_none (length segment) (2 * number + 2) ≡ Some at = less_is (length segment) (2 * number + 2) at place in
    let three : less_or_none at (word_in segment at) ≡ Some j = less_is at (word_in segment at) j (omega (arith, word_at, below)) in
    let four : less_or_none j 8 ≡ Some (j - 8) = less_is j 8 (j - 8) (omega arith) in
    let five = given_true (j % 2 == 0) even in
    let six : less_or_none (j - 2) (word_in segment (j - 2)) ≡ Some p.start =
    less_is (j - 2) (word_in segment (j - 2)) p.start (omega (arith, start, start_low, exit_low)) in
    let seven : less_or_none (j - 4) (word_in segment (j - 4)) ≡ Some p.exit =
    less_is (j - 4) (word_in segment (j - 4)) p.exit (omega (arith, exit, exit_low)) in
    let eight = given_true (nat_le p.start (j - 8) && nat_le p.exit (j - 8))
    (and_from (nat_le p.start (j - 8)) (nat_le p.exit (j - 8)) (le-leb p.start (j - 8) (omega (arith, start_low, exit_low)))
    (le-leb p.exit (j - 8) (omega (arith, exit_low)))) in
    rw one (rw two (rw three (rw four (rw five (rw six (rw seven (rw eight (rw (number_at, level_at, parameters, locals) refl))))))))
