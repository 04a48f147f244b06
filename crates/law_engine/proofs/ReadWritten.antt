-- Lemmas: rows and procedures write the same ranges of bytes in two memories that agree on the bytes that they read.
use Rattle.std.proofs.Common.{◌≡◌, ◌≤◌, ℕ, ◌+◌, ◌*◌, ◌%◌, Bool, true, false, nat_lt}
use Rattle.std.proofs.Common.{List, [], ◌∷◌, refl, arith}
use Rattle.std.specs.Prelude.{if◌then◌else◌}
use Rattle.pm_words.specs.Words.{byte_at, word_at}
use Rattle.pm_families.specs.declared.families.Arithmetic.{Arithmetic}
use Rattle.pm_families.specs.declared.families.Arithmetic.TheVariants as arithmetic
use Rattle.pm_families.specs.declared.families.Byte.TheVariants as byte
use Rattle.pm_families.specs.declared.families.Field.TheVariants as field
use Rattle.pm_families.specs.declared.families.Kind.{Kind}
use Rattle.pm_families.specs.declared.families.Kind.TheVariants as kind
use Rattle.pm_families.specs.declared.families.Literal.{Literal}
use Rattle.pm_families.specs.declared.families.Literal.TheVariants as literal
use Rattle.pm_families.specs.declared.families.Pointer.{Pointer}
use Rattle.pm_families.specs.declared.families.Pointer.TheVariants as pointer
use Rattle.pm_families.specs.declared.families.Set.{Set}
use Rattle.pm_families.specs.declared.families.Set.TheVariants as set
use Rattle.pm_families.specs.declared.families.Text.TheVariants as text
use Rattle.pm_families.specs.declared.families.Value.{Value}
use Rattle.pm_families.specs.declared.families.Value.TheVariants as value
use Rattle.pm_effects.specs.Effects.{arithmetic_effect, compare_effect, literal_effect, set_effect}
use Rattle.pm_stdproc.specs.declared.procedures.OnMemory.{OnMemory}
use Rattle.pm_stdproc.specs.declared.procedures.OnMemory.TheVariants as memory
use Rattle.pm_stdproc.specs.declared.procedures.OnUnits.{OnUnits}
use Rattle.pm_stdproc.specs.declared.procedures.OnUnits.TheVariants as units
use Rattle.pm_machine.specs.Written.{compare_written, memory_written, place_on_stack, pointer_written, pushes}
use Rattle.pm_machine.specs.Written.{pushes_words, set_words}
use Rattle.pm_machine.specs.Written.{stretch, text_length, units_written, value_written}
use Rattle.pm_machine.specs.ReadStretches.{pointer_read, source_read, taken, taken_if, text_stretch, value_read}
use Rattle.law_engine.proofs.ReadSteps.{Agree, Same, first_same, left_agree, rest_agree, word_same}
use Rattle.law_engine.proofs.ReadMemory.{taken_by_memory}
use Rattle.law_engine.proofs.ReadUnits.{taken_by_units}

-- ---- words that are popped

pub at_top : (m n : List ℕ) (sp k : ℕ) → Same m n sp k → sp % 2 ≡ 0 → 2 ≤ k → word_at n sp ≡ word_at m sp
at_top m n sp k same even room = word_same m n sp k sp same even (omega arith) (omega (arith, room))

pub above_top : (m n : List ℕ) (sp k j : ℕ) → Same m n sp k → sp % 2 ≡ 0 → j % 2 ≡ 0 → j + 2 ≤ k → word_at n (sp + j) ≡ word_at m (sp + j)
above_top m n sp k j same even half room = word_same m n sp k (sp + j) same (omega (arith, even, half)) (omega arith) (omega (arith, room))

-- If the two words from `a` on are the same in `m` and `n`, then the address that is their sum is the same.
placed : (m n : List ℕ) (sp k a : ℕ) → Same m n sp k → a % 2 ≡ 0 → sp ≤ a → a + 4 ≤ sp + k → place_on_stack n a ≡ place_on_stack m a
placed m n sp k a same even low high =
    rw (
      word_same m n sp k (a + 2) same (omega (arith, even)) (omega (arith, low)) (omega (arith, high)),
      word_same m n sp k a same even low (omega (arith, high)),
    ) refl

-- ---- rows on the stack

pub arithmetic_names : (o : Arithmetic) (m n : List ℕ) (sp : ℕ) → pushes_words (arithmetic_effect o) n sp ≡ pushes_words (arithmetic_effect o) m sp
arithmetic_names (arithmetic.Constant w) m n sp = refl
arithmetic_names arithmetic.Nil m n sp = refl
arithmetic_names (arithmetic.OnOne o) m n sp = refl
arithmetic_names (arithmetic.OnTwo o) m n sp = refl
arithmetic_names (arithmetic.Compare o) m n sp = refl
arithmetic_names arithmetic.Check m n sp = refl

pub literal_names : (o : Literal) (m n : List ℕ) (sp : ℕ) → pushes_words (literal_effect o) n sp ≡ pushes_words (literal_effect o) m sp
literal_names (literal.String start) m n sp = refl
literal_names (literal.Characters start) m n sp = refl
literal_names (literal.Words start count) m n sp = refl

pub pointer_names : (o : Pointer) (m n : List ℕ) (sp : ℕ) → sp % 2 ≡ 0 → Agree (pointer_read o m sp) m n → pointer_written o n sp ≡ pointer_written o m sp
pointer_names (pointer.Increment b) m n sp even agree = refl
pointer_names (pointer.Load b) m n sp even agree = refl
pointer_names (pointer.Index b) m n sp even agree = refl
pointer_names pointer.Store m n sp even agree = rw (above_top m n sp 4 2 (first_same sp 4 [] m n agree) even refl (omega arith)) refl
pointer_names (pointer.LoadWords c) m n sp even agree = refl
pointer_names (pointer.StoreWords c) m n sp even agree =
    rw (above_top m n sp (2 * (c + 1 + 0)) (2 * c) (first_same sp (2 * (c + 1 + 0)) [] m n agree) even (omega arith) (omega arith)) refl
pointer_names (pointer.Move b) m n sp even agree =
    rw (above_top m n sp 4 2 (first_same sp 4 (stretch (word_at m sp) (2 * b) ∷ []) m n agree) even refl (omega arith)) refl

-- ---- values

-- If the bytes of two sets at `sp` are the same in `m` and `n`, then the count of the second set is the same.
two_counts : (m n : List ℕ) (sp : ℕ) → sp % 2 ≡ 0 → Same m n sp (2 * (word_at m sp + 1 + (word_at m (sp + 2 * (word_at m sp + 1)) + 1)))
    → word_at n (sp + 2 * (word_at m sp + 1)) ≡ word_at m (sp + 2 * (word_at m sp + 1))
two_counts m n sp even same =
    above_top m n sp (2 * (word_at m sp + 1 + (word_at m (sp + 2 * (word_at m sp + 1)) + 1))) (2 * (word_at m sp + 1)) same even (omega arith) (omega arith)

set_names : (o : Set) (m n : List ℕ) (sp : ℕ) → sp % 2 ≡ 0 → Agree (taken (set_effect o) m sp) m n
    → pushes (set_effect o) (set_words o n sp) n sp ≡ pushes (set_effect o) (set_words o m sp) m sp
set_names set.Member m n sp even agree =
    let k = 2 * (word_at m sp + 1 + 1) in rw (at_top m n sp k (first_same sp k [] m n agree) even (omega arith)) refl
set_names set.Intersection m n sp even agree =
    let k = 2 * (word_at m sp + 1 + (word_at m (sp + 2 * (word_at m sp + 1)) + 1)) in
    let same = first_same sp k [] m n agree in
    rw (at_top m n sp k same even (omega arith)) (rw (two_counts m n sp even same) refl)
set_names set.Union m n sp even agree =
    let k = 2 * (word_at m sp + 1 + (word_at m (sp + 2 * (word_at m sp + 1)) + 1)) in
    let same = first_same sp k [] m n agree in
    rw (at_top m n sp k same even (omega arith)) (rw (two_counts m n sp even same) refl)
set_names set.Difference m n sp even agree =
    let k = 2 * (word_at m sp + 1 + (word_at m (sp + 2 * (word_at m sp + 1)) + 1)) in
    let same = first_same sp k [] m n agree in
    rw (at_top m n sp k same even (omega arith)) (rw (two_counts m n sp even same) refl)
set_names set.Singleton m n sp even agree = rw (at_top m n sp 2 (first_same sp 2 [] m n agree) even (omega arith)) refl
set_names set.Subrange m n sp even agree =
    let same = first_same sp 4 [] m n agree in
    rw (at_top m n sp 4 same even (omega arith), above_top m n sp 4 2 same even refl (omega arith)) refl
set_names (set.Adjust c) m n sp even agree =
    let k = 2 * (word_at m sp + 1 + 0) in rw (at_top m n sp k (first_same sp k [] m n agree) even (omega arith)) refl

length_same : (m n : List ℕ) (e : ℕ) → Agree (source_read m e) m n → text_length n e ≡ text_length m e
length_same m n e agree = of (nat_lt e 256) agree
  where
    of : (b : Bool) → Agree (if b then [] else text_stretch m e ∷ []) m n → (if b then 1 else byte_at n e) ≡ (if b then 1 else byte_at m e)
    of true h = refl
    of false h = first_same e (1 + byte_at m e) [] m n h e (omega arith) (omega arith)

compare_names : (k : Kind) (m n : List ℕ) (sp : ℕ) → sp % 2 ≡ 0 → Agree (taken_if (compare_effect k) m sp) m n
    → compare_written (compare_effect k) n sp ≡ compare_written (compare_effect k) m sp
compare_names kind.Real m n sp even agree = refl
compare_names kind.String m n sp even agree = refl
compare_names kind.Boolean m n sp even agree = refl
compare_names kind.Set m n sp even agree =
    let k = 2 * (word_at m sp + 1 + (word_at m (sp + 2 * (word_at m sp + 1)) + 1)) in
    let same = first_same sp k [] m n agree in
    rw (at_top m n sp k same even (omega arith)) (rw (two_counts m n sp even same) refl)
compare_names (kind.Bytes c) m n sp even agree = refl
compare_names (kind.Words c) m n sp even agree = refl

pub value_names : (o : Value) (m n : List ℕ) (sp : ℕ) → sp % 2 ≡ 0 → Agree (value_read o m sp) m n → value_written o n sp ≡ value_written o m sp
value_names (value.Byte byte.Load) m n sp even agree = refl
value_names (value.Byte byte.Store) m n sp even agree =
    rw (placed m n sp 6 (sp + 2) (first_same sp 6 [] m n agree) (omega (arith, even)) (omega arith) (omega arith)) refl
value_names (value.Set o) m n sp even agree = set_names o m n sp even (left_agree (taken (set_effect o) m sp) [] m n agree)
value_names (value.Text text.Index) m n sp even agree = refl
value_names (value.Text (text.Assign c)) m n sp even agree =
    let more = source_read m (word_at m sp) in
    let same = first_same sp 4 more m n agree in
    rw (
      at_top m n sp 4 same even (omega arith),
      above_top m n sp 4 2 same even refl (omega arith),
      length_same m n (word_at m sp) (rest_agree (stretch sp 4) more m n agree),
    ) refl
value_names (value.Field (field.Index p w)) m n sp even agree = refl
value_names (value.Field field.Load) m n sp even agree = refl
value_names (value.Field field.Store) m n sp even agree =
    rw (above_top m n sp 8 6 (first_same sp 8 (stretch (word_at m (sp + 6)) 2 ∷ []) m n agree) even refl (omega arith)) refl
value_names (value.Compare r k) m n sp even agree = compare_names k m n sp even (left_agree (taken_if (compare_effect k) m sp) _ m n agree)

-- ---- standard procedures

pub memory_names : (o : OnMemory) (m n : List ℕ) (sp : ℕ) → sp % 2 ≡ 0 → Same m n sp (2 * taken_by_memory o) → memory_written o n sp ≡ memory_written o m sp
memory_names memory.CheckIo m n sp even same = refl
memory_names memory.New m n sp even same = rw (above_top m n sp 4 2 same even refl (omega arith)) refl
memory_names memory.MoveLeft m n sp even same =
    rw (at_top m n sp 10 same even (omega arith), placed m n sp 10 (sp + 2) same (omega (arith, even)) (omega arith) (omega arith)) refl
memory_names memory.MoveRight m n sp even same =
    rw (at_top m n sp 10 same even (omega arith), placed m n sp 10 (sp + 2) same (omega (arith, even)) (omega arith) (omega arith)) refl
memory_names memory.Fill m n sp even same =
    rw (above_top m n sp 8 2 same even refl (omega arith), placed m n sp 8 (sp + 4) same (omega (arith, even)) (omega arith) (omega arith)) refl
memory_names memory.Scan m n sp even same = refl
memory_names memory.Mark m n sp even same = rw (at_top m n sp 2 same even (omega arith)) refl
memory_names memory.Release m n sp even same = refl
memory_names memory.IoResult m n sp even same = refl
memory_names memory.Halt m n sp even same = refl
memory_names memory.FreeMemory m n sp even same = refl

pub units_names : (o : OnUnits) (m n : List ℕ) (sp : ℕ) → sp % 2 ≡ 0 → Same m n sp (2 * taken_by_units o) → units_written o n sp ≡ units_written o m sp
units_names units.Read m n sp even same =
    rw (above_top m n sp 12 4 same even refl (omega arith), placed m n sp 12 (sp + 6) same (omega (arith, even)) (omega arith) (omega arith)) refl
units_names units.Write m n sp even same = refl
units_names units.Time m n sp even same = rw (at_top m n sp 4 same even (omega arith), above_top m n sp 4 2 same even refl (omega arith)) refl
units_names units.Busy m n sp even same = refl
units_names units.Wait m n sp even same = refl
units_names units.Clear m n sp even same = refl
