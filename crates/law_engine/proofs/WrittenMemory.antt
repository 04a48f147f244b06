-- Lemmas: standard procedures on memory write only words that share a byte with the ranges that `pm_machine` defines
-- for them.
use Rattle.std.proofs.Common.{◌≡◌, ◌<◌, ◌≤◌, ◌⊎◌, inl, inr, ℕ, ◌+◌, ◌-◌, ◌*◌, ◌/◌, ◌%◌, ◌==◌, ◌&&◌, nat_le, nat_lt}
use Rattle.std.proofs.Common.{List, [], ◌∷◌, length, replicate, Result, Ok, Err, sym, ap, ◌∙◌, subst, arith}
use Rattle.std.proofs.lemmas.Bool.{and_parts, cases_Bool, ltb-false}
use Rattle.std.proofs.lemmas.Bool.Decides.{nat_tests}
use Rattle.std.proofs.lemmas.List.{length-replicate}
use Rattle.std.proofs.lemmas.List.Elements.{All-replicate}
use Rattle.pm_words.specs.declared.error.ExecError.{ExecError}
use Rattle.pm_words.specs.declared.error.ExecError.TheVariants.{InvalidMemory, StackOverflow, UserIo}
use Rattle.pm_words.specs.declared.stack.Popped.{Popped}
use Rattle.pm_words.specs.Words.{IsMemory, byte_at, filled, moved_down, moved_up, word_at}
use Rattle.pm_words.specs.Stack.{demand, is_even, lies_in_memory, load, pop, push, store}
use Rattle.pm_words.proofs.Laws.{byte_at-with_bytes_other}
use Rattle.pm_calls.specs.declared.registers.Registers.{Registers}
use Rattle.pm_calls.proofs.ReturnLaws.{bound, ok_same, passed}
use Rattle.pm_stdproc.specs.declared.procedures.OnMemory.{OnMemory}
use Rattle.pm_stdproc.specs.declared.procedures.OnMemory.TheVariants as memory
use Rattle.pm_stdproc.specs.MemoryRows.{check_io_row, fill_row, filled_with, is_positive, mark_row, memory_row, move_bytes_row, moved, new_row, passed_by}
use Rattle.pm_stdproc.specs.MemoryRows.{pop_place, push_row, release_row, scan_row}
use Rattle.pm_machine.specs.Written.{Stretch, counted_stretch, memory_written, place_on_stack, stretch, stretch_to}
use Rattle.law_engine.proofs.MoveLaws.{moves_stay_inside}
use Rattle.law_engine.proofs.StandardEffectLaws.{place_above}
use Rattle.law_engine.proofs.StoreRows.{word_below}
use Rattle.law_engine.proofs.StoredWords.{popped}
use Rattle.law_engine.proofs.Stretches.{IfMade, Kept, all_kept, bytes_kept, kept_to, made, stored_kept}

-- ---- a word that is stored, and one that is pushed

abbrev refused : Result (List ℕ) ExecError
refused = Err InvalidMemory

pub word_stored : (m : List ℕ) (a w : ℕ) (n : List ℕ) → store m a w ≡ Ok n → Kept (stretch a 2 ∷ []) m n
word_stored m a w n h = elim (cases_Bool (is_even a)) [
  | inl e ↦ subst (λ (k : List ℕ). Kept (stretch a 2 ∷ []) m k) (ok_same _ n (rw e at h)) (stored_kept m a w)
  | inr e ↦ none (rw e at h)
]
  where
    none : refused ≡ Ok n → Kept (stretch a 2 ∷ []) m n
    none k = cc

abbrev not_pushed : Result (List ℕ × ℕ) ExecError
not_pushed = Err StackOverflow

pub word_pushed : (m : List ℕ) (sp np w g : ℕ) (t : List ℕ × ℕ) → sp ≡ g → push m sp np w ≡ Ok t → Kept (stretch_to g (2 * 1) ∷ []) m t.0
word_pushed m sp np w g t e h = elim (cases_Bool (nat_lt sp (np + 2))) [
  | inl l ↦ none (rw l at h)
  | inr l ↦
      let b = bound (store m (sp - 2) w) _ t (rw l at h) in
      let same : b.0 ≡ t.0 = ap (λ (q : List ℕ × ℕ). q.0) (ok_same _ t b.2) in
      let room : np + 2 ≤ sp = ltb-false sp (np + 2) l in
      subst (λ (k : List ℕ). Kept (stretch_to g (2 * 1) ∷ []) m k) same
      (kept_to g (2 * 1) m b.0 (omega (arith, room, e))
      (subst (λ (a : ℕ). Kept (stretch (a - 2) 2 ∷ []) m b.0) e (word_stored m (sp - 2) w b.0 b.1)))
]
  where
    none : not_pushed ≡ Ok t → Kept (stretch_to g (2 * 1) ∷ []) m t.0
    none k = cc

-- ---- addresses

-- If an address is popped, then it is the sum of the index at `sp` and the base after the index, modulo 65,536.
pub place_is : (m : List ℕ) (sp : ℕ) (p : Popped) → pop_place m sp ≡ Ok p → p.word ≡ place_on_stack m sp
place_is m sp p h =
    let i = bound (pop m sp) _ p h in
    let b = bound (pop m i.0.above) _ p i.2 in
    let same = ok_same _ p b.2 in
    sym (ap (λ (q : Popped). q.word) same)
    ∙ ap (λ (w : ℕ). (w + i.0.word) % 65536) (word_below m sp i.0 b.0 i.1 b.1).0
    ∙ ap (λ (w : ℕ). (word_at m (sp + 2) + w) % 65536) (popped m sp i.0 i.1).word

-- ---- moves and fills

-- The function `move` changes only the `n` bytes from `to` on.
abbrev StaysInside : (List ℕ → ℕ → ℕ → ℕ → List ℕ) → Type 0
StaysInside move =
    (m : List ℕ) (from to n x : ℕ) → IsMemory m → from + n ≤ 65536 → to + n ≤ 65536 → (x < to) ⊎ (to + n ≤ x) → byte_at (move m from to n) x ≡ byte_at m x

moved_keeps : (move : List ℕ → ℕ → ℕ → ℕ → List ℕ) (m : List ℕ) (from to count : ℕ) (n : List ℕ) → StaysInside move → IsMemory m
    → moved move m from to count ≡ Ok n → Kept (counted_stretch to count) m n
moved_keeps move m from to count n inside memory h = elim (cases_Bool (is_positive count)) [
  | inl e ↦ rw e (
      let g = passed (lies_in_memory from count && lies_in_memory to count) InvalidMemory (Ok (move m from to count)) n (rw e at h) in
      let parts = and_parts (lies_in_memory from count) (lies_in_memory to count) g.0 in
      let source : from + count ≤ 65536 = grind (arith, nat_tests, parts.0) in
      let target : to + count ≤ 65536 = grind (arith, nat_tests, parts.1) in
      subst (λ (k : List ℕ). Kept (stretch to count ∷ []) m k) (ok_same _ n g.1)
      (bytes_kept m (move m from to count) to count (λ y far. inside m from to count y memory source target far)))
  | inr e ↦ rw e (subst (λ (k : List ℕ). Kept [] m k) (ok_same m n (rw e at h)) (all_kept [] m))
]

fill_bytes : (m : List ℕ) (a n b x : ℕ) → IsMemory m → a + n ≤ 65536 → b < 256 → (x < a) ⊎ (a + n ≤ x) → byte_at (filled m a n b) x ≡ byte_at m x
unfolding filled
fill_bytes m a n b x memory room fits far =
    let count : length (replicate n b) ≡ n = length-replicate {A = ℕ} n b in
    byte_at-with_bytes_other m (replicate n b) a x memory (omega (arith, count, room)) (All-replicate (λ w. w < 256) n b fits)
    (subst (λ k. (x < a) ⊎ (a + k ≤ x)) (sym count) far)

filled_keeps : (m : List ℕ) (a count b : ℕ) (n : List ℕ) → IsMemory m → b < 256 → filled_with m a count b ≡ Ok n → Kept (counted_stretch a count) m n
filled_keeps m a count b n memory fits h = elim (cases_Bool (is_positive count)) [
  | inl e ↦ rw e (
      let g = passed (lies_in_memory a count) InvalidMemory (Ok (filled m a count b)) n (rw e at h) in
      let room : a + count ≤ 65536 = grind (arith, nat_tests, g.0) in
      subst (λ (k : List ℕ). Kept (stretch a count ∷ []) m k) (ok_same _ n g.1)
      (bytes_kept m (filled m a count b) a count (λ y far. fill_bytes m a count b y memory room fits far)))
  | inr e ↦ rw e (subst (λ (k : List ℕ). Kept [] m k) (ok_same m n (rw e at h)) (all_kept [] m))
]

-- ---- the rows

abbrev RowKeeps : List Stretch → List ℕ → Result (List ℕ × Registers) ExecError → Type 0
RowKeeps ss m row = IfMade (λ (t : List ℕ × Registers). Kept ss m t.0) row

move_keeps : (move : List ℕ → ℕ → ℕ → ℕ → List ℕ) (m : List ℕ) (r : Registers) → StaysInside move → IsMemory m
    → RowKeeps (counted_stretch (place_on_stack m (r.sp + 2)) (word_at m r.sp)) m (move_bytes_row move m r)
unfolding move_bytes_row
move_keeps move m r inside memory =
    let ss = counted_stretch (place_on_stack m (r.sp + 2)) (word_at m r.sp) in
    let P = λ (t : List ℕ × Registers). Kept ss m t.0 in
    made P (pop m r.sp) _ (λ count h. made P (pop_place m count.above) _ (λ to k. made P (pop_place m to.above) _ (λ from l.
    made P (moved move m from.word to.word count.word) _ (λ new q.
    let is = popped m r.sp count h in
    let place : to.word ≡ place_on_stack m (r.sp + 2) = place_is m count.above to k ∙ ap (λ a. place_on_stack m a) is.above in
    subst (λ c. Kept (counted_stretch (place_on_stack m (r.sp + 2)) c) m new) is.word
    (subst (λ p. Kept (counted_stretch p count.word) m new) place (moved_keeps move m from.word to.word count.word new inside memory q))))))

new_keeps : (m : List ℕ) (r : Registers) → RowKeeps (stretch (word_at m (r.sp + 2)) 2 ∷ []) m (new_row m r)
unfolding new_row
new_keeps m r =
    let P = λ (t : List ℕ × Registers). Kept (stretch (word_at m (r.sp + 2)) 2 ∷ []) m t.0 in
    made P (pop m r.sp) _ (λ n h. made P (pop m n.above) _ (λ a k. made P (store m a.word r.np) _ (λ new l.
    made P (demand (nat_le (r.np + 2 * n.word) a.above) StackOverflow) _ (λ u q.
    subst (λ i. Kept (stretch i 2 ∷ []) m new) (word_below m r.sp n a h k).0 (word_stored m a.word r.np new l)))))

mark_keeps : (m : List ℕ) (r : Registers) → RowKeeps (stretch (word_at m r.sp) 2 ∷ []) m (mark_row m r)
unfolding mark_row
mark_keeps m r =
    let P = λ (t : List ℕ × Registers). Kept (stretch (word_at m r.sp) 2 ∷ []) m t.0 in
    made P (pop m r.sp) _ (λ a h. made P (store m a.word r.np) _ (λ new l.
    subst (λ i. Kept (stretch i 2 ∷ []) m new) (popped m r.sp a h).word (word_stored m a.word r.np new l)))

fill_keeps : (m : List ℕ) (r : Registers) → IsMemory m → RowKeeps (counted_stretch (place_on_stack m (r.sp + 4)) (word_at m (r.sp + 2))) m (fill_row m r)
unfolding fill_row
fill_keeps m r memory =
    let ss = counted_stretch (place_on_stack m (r.sp + 4)) (word_at m (r.sp + 2)) in
    let P = λ (t : List ℕ × Registers). Kept ss m t.0 in
    made P (pop m r.sp) _ (λ ch h. made P (pop m ch.above) _ (λ count k. made P (pop_place m count.above) _ (λ p l.
    made P (filled_with m p.word count.word (ch.word % 256)) _ (λ new q.
    let is = word_below m r.sp ch count h k in
    let place : p.word ≡ place_on_stack m (r.sp + 4) = place_is m count.above p l ∙ ap (λ a. place_on_stack m a) is.1 in
    subst (λ c. Kept (counted_stretch (place_on_stack m (r.sp + 4)) c) m new) is.0
    (subst (λ a. Kept (counted_stretch a count.word) m new) place
    (filled_keeps m p.word count.word (ch.word % 256) new memory (omega arith) q))))))

scan_keeps : (m : List ℕ) (r : Registers) → RowKeeps (stretch_to (r.sp + 2 * 6) (2 * 1) ∷ []) m (scan_row m r)
unfolding scan_row
scan_keeps m r =
    let P = λ (t : List ℕ × Registers). Kept (stretch_to (r.sp + 2 * 6) (2 * 1) ∷ []) m t.0 in
    made P (pop m r.sp) _ (λ mask a. made P (pop_place m mask.above) _ (λ place b. made P (pop m place.above) _ (λ ch c.
    made P (pop m ch.above) _ (λ kind d. made P (pop m kind.above) _ (λ limit e.
    made P (passed_by m place.word limit.word (ch.word % 256) (kind.word % 2 == 0)) _ (λ k f.
    made P (push m limit.above r.np k) _ (λ new q.
    let mask_up = (popped m r.sp mask a).above in
    let place_up = place_above m mask.above place b in
    let ch_up = (popped m place.above ch c).above in
    let kind_up = (popped m ch.above kind d).above in
    let limit_up = (popped m kind.above limit e).above in
    word_pushed m limit.above r.np k (r.sp + 2 * 6) new (omega (arith, mask_up, place_up, ch_up, kind_up, limit_up)) q)))))))

push_keeps : (w : ℕ) (m : List ℕ) (r : Registers) → RowKeeps (stretch_to (r.sp + 2 * 0) (2 * 1) ∷ []) m (push_row w m r)
unfolding push_row
push_keeps w m r = made (λ (t : List ℕ × Registers). Kept (stretch_to (r.sp + 2 * 0) (2 * 1) ∷ []) m t.0) (push m r.sp r.np w) _ (λ new q.
    word_pushed m r.sp r.np w (r.sp + 2 * 0) new (omega arith) q)

pub memory_keeps : (o : OnMemory) (m : List ℕ) (r : Registers) → IsMemory m → RowKeeps (memory_written o m r.sp) m (memory_row o m r)
unfolding memory_row check_io_row release_row
memory_keeps memory.CheckIo m r memory = made (λ (t : List ℕ × Registers). Kept [] m t.0) (demand (r.ioresult == 0) UserIo) _ (λ u h. all_kept [] m)
memory_keeps memory.New m r memory = new_keeps m r
memory_keeps memory.MoveLeft m r memory = move_keeps moved_up m r (λ m from to n x h k l q. (moves_stay_inside m from to n x h k l q).0) memory
memory_keeps memory.MoveRight m r memory = move_keeps moved_down m r (λ m from to n x h k l q. (moves_stay_inside m from to n x h k l q).1) memory
memory_keeps memory.Fill m r memory = fill_keeps m r memory
memory_keeps memory.Scan m r memory = scan_keeps m r
memory_keeps memory.Mark m r memory = mark_keeps m r
memory_keeps memory.Release m r memory =
    let P = λ (t : List ℕ × Registers). Kept [] m t.0 in
    made P (pop m r.sp) _ (λ a h. made P (load m a.word) _ (λ v k. made P (demand (is_even v) InvalidMemory) _ (λ u l.
    made P (demand (nat_le v a.above) StackOverflow) _ (λ w q. all_kept [] m))))
memory_keeps memory.IoResult m r memory = push_keeps r.ioresult m r
memory_keeps memory.Halt m r memory = tt
memory_keeps memory.FreeMemory m r memory = push_keeps ((r.sp - r.np) / 2) m r
