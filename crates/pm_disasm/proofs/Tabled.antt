-- If an attribute table is found in a segment, then it is inside the segment.
use Rattle.std.proofs.lemmas.List.{reverse-append, reverse-reverse, take_more}
use Rattle.pm_disasm.specs.Shown.{cut, slot_lines, slots_lines, table_lines_or, tables_lines}
use Rattle.pm_code.specs.Shown.{joined}
use Rattle.pm_code.specs.Laws.{name_of}
use Rattle.pm_disasm.proofs.ShownCode.{joined-append}
use Rattle.std.proofs.Common.{◌≡◌, ◌<◌, ◌≤◌, List, [], ◌∷◌, take, reverse, get_or, cond, ◌++◌, suc, append_assoc, ℕ, ◌+◌}
use Rattle.std.proofs.Common.{◌-◌, ◌*◌, ◌%◌, Bool, true, false, length, refl, sym, ap, ◌∙◌, arith, Option, Some, None}
use Rattle.std.specs.Prelude.{◌==◌, ◌&&◌, nat_le, nat_lt, slice_index}
use Rattle.std.specs.Int.{w8, cast_signed, cast_unsigned}
use Rattle.std.proofs.lemmas.Int.{of_z-to_z}
use Rattle.std.proofs.lemmas.Bool.{and_parts, eqb-true, le-ltb, leb-true}
use Rattle.pm_codefile.specs.declared.table.Attributes.{Attributes}
use Rattle.pm_codefile.specs.Dictionary.{segment_in, slot_in, word_in}
use Rattle.pm_codefile.specs.Segments.{◌>>=◌, attributes_in, demanded, less_or_none, procedures_in}
use Rattle.pm_disasm.specs.Chosen.{IsTable}

-- If `o >>= f` is `Some b`, then `o` is some `x`, and `f x` is `Some b`.
bound : {A B : Type 0} (o : Option A) (f : A → Option B) (b : B) → (o >>= f) ≡ Some b → (x : A) × (o ≡ Some x) × (f x ≡ Some b)
bound None f b e = absurd (cc)
bound (Some x) f b e = (x, refl, e)

given_true : (b : Bool) (u : Unit {0}) → demanded b ≡ Some u → b ≡ true
given_true true u e = refl
given_true false u e = absurd (cc)

-- If `less_or_none a b` is `Some c`, then `b` is at most `a`, and `c` is `a - b`.
less_some : (a b c : ℕ) → less_or_none a b ≡ Some c → (b ≤ a) × (c ≡ a - b)
less_some a b c e = go (nat_le b a) refl
  where
    go : (v : Bool) → nat_le b a ≡ v → (b ≤ a) × (c ≡ a - b)
    go true t = (leb-true _ _ t, (let f : Some (a - b) ≡ Some c = sym (rw t refl) ∙ e in let g : a - b ≡ c = cc in sym g))
    go false t = (let f : None ≡ Some c = sym (rw t refl) ∙ e in absurd (cc))

some_eq : {A : Type 0} (x y : A) → Some x ≡ Some y → x ≡ y
some_eq x y e = cc

within : (len p at w j k : ℕ) → 1 ≤ p → 2 * p + 2 ≤ len → at ≡ len - (2 * p + 2) → w ≤ at → j ≡ at - w → j ≡ k → k + 2 ≤ len
within len p at w j k a b c d e f = omega arith

under : (j last x k y : ℕ) → 8 ≤ j → last ≡ j - 8 → x ≤ last → j ≡ k → x ≡ y → y + 8 ≤ k
under j last x k y a b c d e = omega arith

pub table_lies : (segment : List ℕ) (p : ℕ) (a : Attributes) → attributes_in segment p ≡ Some a → IsTable segment a
unfolding attributes_in
table_lies segment p a e =
    let s1 = bound (demanded (nat_le 1 p && nat_le p (procedures_in segment))) _ a e in
    let one = and_parts (nat_le 1 p) (nat_le p (procedures_in segment)) (given_true _ s1.0 s1.1) in
    let s2 = bound (less_or_none (length segment) (2 * p + 2)) _ a s1.2 in
    let at = less_some (length segment) (2 * p + 2) s2.0 s2.1 in
    let s3 = bound (less_or_none s2.0 (word_in segment s2.0)) _ a s2.2 in
    let j = less_some s2.0 (word_in segment s2.0) s3.0 s3.1 in
    let s4 = bound (less_or_none s3.0 8) _ a s3.2 in
    let last = less_some s3.0 8 s4.0 s4.1 in
    let s5 = bound (demanded (s3.0 % 2 == 0)) _ a s4.2 in
    let s6 = bound (less_or_none (s3.0 - 2) (word_in segment (s3.0 - 2))) _ a s5.2 in
    let s7 = bound (less_or_none (s3.0 - 4) (word_in segment (s3.0 - 4))) _ a s6.2 in
    let s8 = bound (demanded (nat_le s6.0 s4.0 && nat_le s7.0 s4.0)) _ a s7.2 in
    let both = and_parts (nat_le s6.0 s4.0) (nat_le s7.0 s4.0) (given_true _ s8.0 s8.1) in
    let low : s6.0 ≤ s4.0 = leb-true _ _ both.0 in
    let high : s7.0 ≤ s4.0 = leb-true _ _ both.1 in
    let some : 1 ≤ p = leb-true _ _ one.0 in
    let same = some_eq _ a s8.2 in
    let jtab : s3.0 ≡ a.jtab = ap (λ (x : Attributes). x.jtab) same in
    let enter : s6.0 ≡ a.enter = ap (λ (x : Attributes). x.enter) same in
    let exit : s7.0 ≡ a.exit = ap (λ (x : Attributes). x.exit) same in
    record {
      within = within (length segment) p s2.0 (word_in segment s2.0) s3.0 a.jtab some at.0 at.1 j.0 j.1 jtab;
      enter = under s3.0 s4.0 s6.0 a.jtab a.enter last.0 last.1 low jtab enter;
      exit = under s3.0 s4.0 s7.0 a.jtab a.exit last.0 last.1 high jtab exit;
      level = λ h. ap (cast_unsigned w8) (sym (ap (λ (x : Attributes). x.level) same))
          ∙ ap (λ j. cast_unsigned w8 (cast_signed w8 (slice_index segment (j + 1)))) jtab ∙ of_z-to_z w8 (slice_index segment (a.jtab + 1)) h;
    }

-- If character `n` is a space, then the first `n` and the first `n + 1` characters are equal without spaces at the end.
pub cut_space : (xs : List ℕ) (n : ℕ) → n < length xs → get_or xs n 0 ≡ 32 → reverse (cut (reverse (take n xs))) ≡ reverse (cut (reverse (take (n + 1) xs)))
cut_space xs n h e =
    let last : reverse (take (n + 1) xs) ≡ get_or xs n 0 ∷ reverse (take n xs) =
    ap reverse (take_more xs n 0 h) ∙ reverse-append (take n xs) (get_or xs n 0 ∷ []) in
    sym (ap (λ cs. reverse (cut cs)) (last ∙ ap (λ c. c ∷ reverse (take n xs)) e))

-- If character `n` is not a space, then the first `n + 1` characters have no space at their end.
pub cut_none : (xs : List ℕ) (n : ℕ) → n < length xs → (get_or xs n 0 ≡ 32 → ⊥) → reverse (cut (reverse (take (n + 1) xs))) ≡ take (n + 1) xs
cut_none xs n h e =
    let last : reverse (take (n + 1) xs) ≡ get_or xs n 0 ∷ reverse (take n xs) =
    ap reverse (take_more xs n 0 h) ∙ reverse-append (take n xs) (get_or xs n 0 ∷ []) in
    let same : cut (reverse (take (n + 1) xs)) ≡ reverse (take (n + 1) xs) = ap cut last ∙ go (get_or xs n 0 == 32) refl ∙ sym last in
    ap reverse same ∙ reverse-reverse (take (n + 1) xs)
  where
    go : (b : Bool) → (get_or xs n 0 == 32) ≡ b → cut (get_or xs n 0 ∷ reverse (take n xs)) ≡ get_or xs n 0 ∷ reverse (take n xs)
    go true f = absurd (e (eqb-true _ _ f))
    go false f = rw f refl

-- If the lines of one procedure are appended, then the written text followed by the lines of the remaining procedures
-- is unchanged.
pub next_table : (segment : List ℕ) (done count : ℕ) (after before whole : List ℕ) (lines : List (List ℕ)) → done < count
    → table_lines_or segment (done + 1) (attributes_in segment (done + 1)) ≡ lines → after ≡ before ++ joined lines
    → before ++ joined (tables_lines segment (done + 1) (count - done)) ≡ whole
    → after ++ joined (tables_lines segment (done + 1 + 1) (count - (done + 1))) ≡ whole
next_table segment done count after before whole lines h e t i =
    let more : count - done ≡ suc (count - (done + 1)) = omega arith in
    let rest : List (List ℕ) = tables_lines segment (done + 1 + 1) (count - (done + 1)) in
    ap (λ u. u ++ joined rest) t
    ∙ append_assoc before (joined lines) (joined rest)
    ∙ ap (λ u. before ++ u) (sym (joined-append lines rest))
    ∙ ap (λ ls. before ++ joined (ls ++ rest)) (sym e)
    ∙ ap (λ n. before ++ joined (tables_lines segment (done + 1) n)) (sym more)
    ∙ i

there : {A : Type 0} (b : Bool) (x : A) → b ≡ false → cond b None (Some x) ≡ None → ⊥
there true x e f = absurd (cc)
there false x e f = absurd (cc)

-- If `n` is below 16, then slot `n` exists.
pub slot_there : (file : List ℕ) (n : ℕ) → n < 16 → slot_in file n ≡ None → ⊥
unfolding slot_in
slot_there file n h e =
    let low : nat_lt 15 n ≡ false = le-ltb _ _ (omega arith) in
    there (nat_lt 15 n) _ low e

-- If the lines of one slot are appended, then the written text followed by the lines of the remaining slots is
-- unchanged.
pub next_slot : (file : List ℕ) (n : ℕ) (after before whole : List ℕ) → n < 16
    → after ≡ before ++ joined (slot_lines n (name_of (slot_in file n)) (segment_in file n))
    → before ++ joined (slots_lines file n (16 - n)) ≡ whole → after ++ joined (slots_lines file (n + 1) (16 - (n + 1))) ≡ whole
next_slot file n after before whole h t i =
    let more : 16 - n ≡ suc (16 - (n + 1)) = omega arith in
    let lines : List (List ℕ) = slot_lines n (name_of (slot_in file n)) (segment_in file n) in
    let rest : List (List ℕ) = slots_lines file (n + 1) (16 - (n + 1)) in
    ap (λ u. u ++ joined rest) t
    ∙ append_assoc before (joined lines) (joined rest)
    ∙ ap (λ u. before ++ u) (sym (joined-append lines rest))
    ∙ ap (λ k. before ++ joined (slots_lines file n k)) (sym more)
    ∙ i
