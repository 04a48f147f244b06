-- Lemmas for standard procedures on memory in two memories that agree on the bytes that the procedures read.
use Rattle.std.proofs.Common.{◌≡◌, ◌<◌, ◌≤◌, inl, inr, ℕ, zero, suc, ◌+◌, ◌-◌, ◌*◌, ◌/◌, ◌%◌, ◌==◌, ◌&&◌, Bool, true, false, nat_le}
use Rattle.std.proofs.Common.{List, [], ◌∷◌, length, replicate, Ok, refl, sym, ap, ◌∙◌, subst, arith}
use Rattle.std.specs.List.{All}
use Rattle.std.specs.Prelude.{if◌then◌else◌, ℤ, pos, negsuc}
use Rattle.std.proofs.lemmas.Bool.{and_parts, cases_Bool}
use Rattle.std.proofs.lemmas.Bool.Decides.{nat_tests}
use Rattle.std.proofs.lemmas.List.{length-replicate}
use Rattle.std.proofs.lemmas.List.Elements.{All-cons, All-nil, All-replicate}
use Rattle.pm_words.specs.declared.error.ExecError.TheVariants.{InvalidMemory, StackOverflow, UserIo}
use Rattle.pm_words.specs.declared.stack.Popped.{Popped}
use Rattle.pm_words.specs.Signed.{signed}
use Rattle.pm_words.specs.Words.{IsMemory, byte_at, filled, moved_down, moved_up, scanned, with_byte, with_word, word_at}
use Rattle.pm_words.specs.Stack.{◌>>=◌, demand, is_even, lies_in_memory, load, pop, push, store}
use Rattle.pm_words.proofs.RangeLaws.{IsMemory-with_byte}
use Rattle.pm_calls.specs.declared.registers.Registers.{Registers}
use Rattle.pm_stdproc.specs.declared.procedures.OnMemory.{OnMemory}
use Rattle.pm_stdproc.specs.declared.procedures.OnMemory.TheVariants as memory
use Rattle.pm_stdproc.specs.MemoryRows.{check_io_row, fill_row, filled_with, is_positive, mark_row, memory_row, move_bytes_row, moved, new_row, passed_by}
use Rattle.pm_stdproc.specs.MemoryRows.{pop_place, push_row, release_row, scan_lies_in_memory, scan_row}
use Rattle.pm_machine.specs.Written.{Stretch, counted_stretch, place_on_stack, stretch}
use Rattle.pm_machine.specs.ReadStretches.{memory_leads, scan_stretch}
use Rattle.law_engine.specs.ReadLaws.{ChangeAlike}
use Rattle.law_engine.proofs.MoveLaws.{byte_at-below}
use Rattle.law_engine.proofs.StoreRows.{word_below}
use Rattle.law_engine.proofs.StoredWords.{popped}
use Rattle.law_engine.proofs.Stretches.{all_stand}
use Rattle.law_engine.proofs.WrittenMemory.{place_is}
use Rattle.law_engine.proofs.ReadSteps.{Agree, Both, RowAlike, RowsAlike, Same, andthen, bind_same, both, bytes_alike, bytes_same, demanded, done, first_same}
use Rattle.law_engine.proofs.ReadSteps.{load_same, pop_same, pushed_alike, still_same, then_alike, unchanged, word_alike}
use Rattle.law_engine.proofs.ReadRows.{next_same}
use Rattle.pm_calls.proofs.ReturnLaws.{bound, ok_same}

-- ---- the words that are written

-- If storing the word `w` at the address `a` succeeds in `m`, then it succeeds in `n`, and both memories change alike.
pub store_alike : (m n : List ℕ) (a w : ℕ) → IsMemory m → IsMemory n → Both (λ p q. ChangeAlike m p n q) (store m a w) (store n a w)
store_alike m n a w memory other = elim (cases_Bool (is_even a)) [
  | inl e ↦ rw e (record { other = with_word n a w; made = refl; like = word_alike m n a w memory other })
  | inr e ↦ rw e tt
]

-- If a row pushes the word `w` and returns the registers `r` with the new SP, then it changes `m` and `n` alike.
pushed_with : (m n : List ℕ) (sp np w : ℕ) (r : Registers) → IsMemory m → IsMemory n
    → RowsAlike m n (push m sp np w >>= λ t. Ok (t.0, record r { sp = t.1 })) (push n sp np w >>= λ t. Ok (t.0, record r { sp = t.1 }))
pushed_with m n sp np w r memory other =
    andthen (RowAlike m n) (RowAlike m n) (push m sp np w) (push n sp np w) _ _ (pushed_alike m n sp np w memory other) (λ t u h like.
    rw like.0 (done m n t.0 u.0 (record r { sp = t.1 }) like.1))

-- ---- moves

one_byte : (b : ℕ) → b < 256 → All (λ x. x < 256) (b ∷ [])
one_byte b h = All-cons (λ x. x < 256) b [] h (All-nil (λ x. x < 256))

-- If the byte at `from` is the same in `m` and `n`, then moving it to `to` changes both memories alike.
byte_moved : (m n : List ℕ) (from to : ℕ) → IsMemory m → IsMemory n → from < 65536 → to < 65536 → byte_at n from ≡ byte_at m from
    → ChangeAlike m (with_byte m to (byte_at m from)) n (with_byte n to (byte_at n from))
unfolding with_byte
byte_moved m n from to memory other source room same =
    rw same (bytes_alike m n (byte_at m from ∷ []) to memory other (omega (arith, room)) (one_byte (byte_at m from) (byte_at-below m from memory source)))

pub up_alike : (k : ℕ) (m n : List ℕ) (from to : ℕ) → Same m n from k → IsMemory m → IsMemory n → from + k ≤ 65536 → to + k ≤ 65536
    → ChangeAlike m (moved_up m from to k) n (moved_up n from to k)
unfolding moved_up
up_alike zero m n from to same memory other source room = unchanged m n
up_alike (suc k) m n from to same memory other source room =
    let f : from < 65536 = omega (arith, source) in
    let t : to < 65536 = omega (arith, room) in
    let p = with_byte m to (byte_at m from) in
    let q = with_byte n to (byte_at n from) in
    let first = byte_moved m n from to memory other f t (same from (omega arith) (omega arith)) in
    then_alike m p (moved_up p (suc from) (suc to) k) n q (moved_up q (suc from) (suc to) k) first
    (up_alike k p q (suc from) (suc to) (still_same m p n q (suc from) k first (λ x low high. same x (omega (arith, low)) (omega (arith, high))))
    (IsMemory-with_byte m to (byte_at m from) memory t (byte_at-below m from memory f))
    (IsMemory-with_byte n to (byte_at n from) other t (byte_at-below n from other f)) (omega (arith, source)) (omega (arith, room)))

pub down_alike : (k : ℕ) (m n : List ℕ) (from to : ℕ) → Same m n from k → IsMemory m → IsMemory n → from + k ≤ 65536 → to + k ≤ 65536
    → ChangeAlike m (moved_down m from to k) n (moved_down n from to k)
unfolding moved_down
down_alike zero m n from to same memory other source room = unchanged m n
down_alike (suc k) m n from to same memory other source room =
    let f : from + k < 65536 = omega (arith, source) in
    let t : to + k < 65536 = omega (arith, room) in
    let p = with_byte m (to + k) (byte_at m (from + k)) in
    let q = with_byte n (to + k) (byte_at n (from + k)) in
    let first = byte_moved m n (from + k) (to + k) memory other f t (same (from + k) (omega arith) (omega arith)) in
    then_alike m p (moved_down p from to k) n q (moved_down q from to k) first
    (down_alike k p q from to (still_same m p n q from k first (λ x low high. same x low (omega (arith, high))))
    (IsMemory-with_byte m (to + k) (byte_at m (from + k)) memory t (byte_at-below m (from + k) memory f))
    (IsMemory-with_byte n (to + k) (byte_at n (from + k)) other t (byte_at-below n (from + k) other f)) (omega (arith, source)) (omega (arith, room)))

abbrev MovesAlike : (List ℕ → ℕ → ℕ → ℕ → List ℕ) → Type 0
MovesAlike move = (k : ℕ) (m n : List ℕ) (from to : ℕ) → Same m n from k → IsMemory m → IsMemory n → from + k ≤ 65536 → to + k ≤ 65536
    → ChangeAlike m (move m from to k) n (move n from to k)

moved_alike : (move : List ℕ → ℕ → ℕ → ℕ → List ℕ) (m n : List ℕ) (from to count : ℕ) → MovesAlike move → IsMemory m → IsMemory n
    → Agree (counted_stretch from count) m n → Both (λ p q. ChangeAlike m p n q) (moved move m from to count) (moved move n from to count)
moved_alike move m n from to count moves memory other agree = of (is_positive count) agree
  where
    of : (b : Bool) → Agree (if b then stretch from count ∷ [] else []) m n
        → Both (λ p q. ChangeAlike m p n q)
        (if b then (demand (lies_in_memory from count && lies_in_memory to count) InvalidMemory >>= λ u. Ok (move m from to count)) else Ok m)
        (if b then (demand (lies_in_memory from count && lies_in_memory to count) InvalidMemory >>= λ u. Ok (move n from to count)) else Ok n)
    of true h = demanded (λ p q. ChangeAlike m p n q) (lies_in_memory from count && lies_in_memory to count) InvalidMemory _ _ (λ g.
        let parts = and_parts (lies_in_memory from count) (lies_in_memory to count) g in
        let source : from + count ≤ 65536 = grind (arith, nat_tests, parts.0) in
        let room : to + count ≤ 65536 = grind (arith, nat_tests, parts.1) in
        record {
          other = move n from to count;
          made = refl;
          like = moves count m n from to (first_same from count [] m n h) memory other source room;
        })
    of false h = record { other = n; made = refl; like = unchanged m n }

-- ---- addresses

pub place_same : (m n : List ℕ) (a k sp : ℕ) → Same m n a k → a ≤ sp → sp + 4 ≤ a + k → pop_place n sp ≡ pop_place m sp
place_same m n a k sp same low high =
    bind_same (pop m sp) (pop n sp) _ _ (pop_same m n a k sp same low (omega (arith, high))) (λ i h.
    let above = (popped m sp i h).above in
    bind_same (pop m i.above) (pop n i.above) _ _ (pop_same m n a k i.above same (omega (arith, low, above)) (omega (arith, above, high))) (λ b l. refl))

pub place_up : (m : List ℕ) (sp : ℕ) (p : Popped) → pop_place m sp ≡ Ok p → p.above ≡ sp + 4
place_up m sp p h =
    let i = bound (pop m sp) _ p h in
    let b = bound (pop m i.0.above) _ p i.2 in
    sym (ap (λ (q : Popped). q.above) (ok_same _ p b.2)) ∙ (word_below m sp i.0 b.0 i.1 b.1).1

-- ---- the rows

move_row_alike : (move : List ℕ → ℕ → ℕ → ℕ → List ℕ) (m n : List ℕ) (r : Registers) → MovesAlike move → IsMemory m → IsMemory n → Same m n r.sp 10
    → Agree (counted_stretch (place_on_stack m (r.sp + 6)) (word_at m r.sp)) m n → RowsAlike m n (move_bytes_row move m r) (move_bytes_row move n r)
unfolding move_bytes_row
move_row_alike move m n r moves memory other same agree =
    both (RowAlike m n) (pop m r.sp) (pop n r.sp) _ _ (pop_same m n r.sp 10 r.sp same (omega arith) (omega arith)) (λ count h.
    let is = popped m r.sp count h in
    let up = is.above in
    both (RowAlike m n) (pop_place m count.above) (pop_place n count.above) _ _
    (place_same m n r.sp 10 count.above same (omega (arith, up)) (omega (arith, up))) (λ to k.
    let upper = place_up m count.above to k in
    let sixth : to.above ≡ r.sp + 6 = omega (arith, up, upper) in
    both (RowAlike m n) (pop_place m to.above) (pop_place n to.above) _ _
    (place_same m n r.sp 10 to.above same (omega (arith, sixth)) (omega (arith, sixth))) (λ from l.
    let place : place_on_stack m (r.sp + 6) ≡ from.word = ap (λ a. place_on_stack m a) (sym sixth) ∙ sym (place_is m to.above from l) in
    andthen (λ p q. ChangeAlike m p n q) (RowAlike m n) (moved move m from.word to.word count.word) (moved move n from.word to.word count.word) _ _
    (moved_alike move m n from.word to.word count.word moves memory other
    (subst (λ c. Agree (counted_stretch from.word c) m n) (sym is.word)
    (subst (λ a. Agree (counted_stretch a (word_at m r.sp)) m n) place agree))) (λ p q g like.
    done m n p q (record r { sp = from.above }) like))))

fill_alike : (m n : List ℕ) (a count b : ℕ) → IsMemory m → IsMemory n → b < 256
    → Both (λ p q. ChangeAlike m p n q) (filled_with m a count b) (filled_with n a count b)
unfolding filled
fill_alike m n a count b memory other small = of (is_positive count)
  where
    of : (c : Bool) → Both (λ p q. ChangeAlike m p n q)
        (if c then (demand (lies_in_memory a count) InvalidMemory >>= λ u. Ok (filled m a count b)) else Ok m)
        (if c then (demand (lies_in_memory a count) InvalidMemory >>= λ u. Ok (filled n a count b)) else Ok n)
    of true = demanded (λ p q. ChangeAlike m p n q) (lies_in_memory a count) InvalidMemory _ _ (λ g.
        let room : a + count ≤ 65536 = grind (arith, nat_tests) in
        let size : length (replicate count b) ≡ count = length-replicate {A = ℕ} count b in
        record {
          other = filled n a count b;
          made = refl;
          like = bytes_alike m n (replicate count b) a memory other (omega (arith, room, size)) (All-replicate (λ w. w < 256) count b small);
        })
    of false = record { other = n; made = refl; like = unchanged m n }

fill_row_alike : (m n : List ℕ) (r : Registers) → IsMemory m → IsMemory n → Same m n r.sp 8 → RowsAlike m n (fill_row m r) (fill_row n r)
unfolding fill_row
fill_row_alike m n r memory other same =
    both (RowAlike m n) (pop m r.sp) (pop n r.sp) _ _ (pop_same m n r.sp 8 r.sp same (omega arith) (omega arith)) (λ ch h.
    both (RowAlike m n) (pop m ch.above) (pop n ch.above) _ _ (next_same m n r.sp 8 r.sp ch same h (omega arith) (omega arith)) (λ count k.
    let up = (word_below m r.sp ch count h k).1 in
    both (RowAlike m n) (pop_place m count.above) (pop_place n count.above) _ _
    (place_same m n r.sp 8 count.above same (omega (arith, up)) (omega (arith, up))) (λ p l.
    andthen (λ p q. ChangeAlike m p n q) (RowAlike m n) (filled_with m p.word count.word (ch.word % 256)) (filled_with n p.word count.word (ch.word % 256)) _ _
    (fill_alike m n p.word count.word (ch.word % 256) memory other (omega arith)) (λ x y g like. done m n x y (record r { sp = p.above }) like))))

new_alike : (m n : List ℕ) (r : Registers) → IsMemory m → IsMemory n → Same m n r.sp 4 → RowsAlike m n (new_row m r) (new_row n r)
unfolding new_row
new_alike m n r memory other same =
    both (RowAlike m n) (pop m r.sp) (pop n r.sp) _ _ (pop_same m n r.sp 4 r.sp same (omega arith) (omega arith)) (λ c h.
    both (RowAlike m n) (pop m c.above) (pop n c.above) _ _ (next_same m n r.sp 4 r.sp c same h (omega arith) (omega arith)) (λ a k.
    andthen (λ p q. ChangeAlike m p n q) (RowAlike m n) (store m a.word r.np) (store n a.word r.np) _ _ (store_alike m n a.word r.np memory other)
    (λ p q g like.
    demanded (RowAlike m n) (nat_le (r.np + 2 * c.word) a.above) StackOverflow _ _ (λ l.
    done m n p q (record r { sp = a.above; np = r.np + 2 * c.word }) like))))

mark_alike : (m n : List ℕ) (r : Registers) → IsMemory m → IsMemory n → Same m n r.sp 2 → RowsAlike m n (mark_row m r) (mark_row n r)
unfolding mark_row
mark_alike m n r memory other same =
    both (RowAlike m n) (pop m r.sp) (pop n r.sp) _ _ (pop_same m n r.sp 2 r.sp same (omega arith) (omega arith)) (λ a h.
    andthen (λ p q. ChangeAlike m p n q) (RowAlike m n) (store m a.word r.np) (store n a.word r.np) _ _ (store_alike m n a.word r.np memory other)
    (λ p q g like.
    done m n p q (record r { sp = a.above }) like))

release_alike : (m n : List ℕ) (r : Registers) → Same m n r.sp 2 → Same m n (word_at m r.sp) 2 → RowsAlike m n (release_row m r) (release_row n r)
unfolding release_row
release_alike m n r same source =
    both (RowAlike m n) (pop m r.sp) (pop n r.sp) _ _ (pop_same m n r.sp 2 r.sp same (omega arith) (omega arith)) (λ a h.
    both (RowAlike m n) (load m a.word) (load n a.word) _ _
    (load_same m n a.word 2 a.word (subst (λ i. Same m n i 2) (sym (popped m r.sp a h).word) source) (omega arith) (omega arith)) (λ v k.
    demanded (RowAlike m n) (is_even v) InvalidMemory _ _ (λ g.
    demanded (RowAlike m n) (nat_le v a.above) StackOverflow _ _ (λ l. done m n m n (record r { sp = a.above; np = v }) (unchanged m n)))))

-- ---- scans

scan_same : (m n : List ℕ) (a : ℕ) (z : ℤ) (b : ℕ) (equal : Bool) → IsMemory m → IsMemory n → a < 65536 → scan_lies_in_memory a z ≡ true
    → Agree (scan_stretch a z ∷ []) m n → scanned n a z b equal ≡ scanned m a z b equal
unfolding scanned
scan_same m n a (pos k) b equal memory other small lies agree =
    let room : a + k ≤ 65536 = grind (arith, nat_tests) in
    rw (bytes_same m n a k a k (first_same a k [] m n agree) memory other (omega arith) (omega arith) room) refl
scan_same m n a (negsuc k) b equal memory other small lies agree =
    let room : k ≤ a = grind (arith, nat_tests) in
    let from : a + 1 - (k + 1) ≡ a - k = omega arith in
    let down = subst (λ (s : Stretch). Agree (s ∷ []) m n) (all_stand (a + 1) (k + 1) (omega (arith, room))) agree in
    let there = subst (λ (i : ℕ). Agree (stretch i (k + 1) ∷ []) m n) from down in
    rw (bytes_same m n (a - k) (k + 1) (a - k) (k + 1) (first_same (a - k) (k + 1) [] m n there) memory other (omega arith) (omega arith) (omega
    (arith, room, small))) refl

passed_same : (m n : List ℕ) (a limit b : ℕ) (equal : Bool) → IsMemory m → IsMemory n → a < 65536 → Agree (scan_stretch a (signed limit) ∷ []) m n
    → passed_by n a limit b equal ≡ passed_by m a limit b equal
passed_same m n a limit b equal memory other small agree = elim (cases_Bool (scan_lies_in_memory a (signed limit))) [
  | inl e ↦ rw (e, scan_same m n a (signed limit) b equal memory other small e agree) refl
  | inr e ↦ rw e refl
]

scan_row_alike : (m n : List ℕ) (r : Registers) → IsMemory m → IsMemory n → Same m n r.sp 12
    → Agree (scan_stretch (place_on_stack m (r.sp + 2)) (signed (word_at m (r.sp + 10))) ∷ []) m n → RowsAlike m n (scan_row m r) (scan_row n r)
unfolding scan_row
scan_row_alike m n r memory other same agree =
    both (RowAlike m n) (pop m r.sp) (pop n r.sp) _ _ (pop_same m n r.sp 12 r.sp same (omega arith) (omega arith)) (λ mask h.
    let up = (popped m r.sp mask h).above in
    both (RowAlike m n) (pop_place m mask.above) (pop_place n mask.above) _ _
    (place_same m n r.sp 12 mask.above same (omega (arith, up)) (omega (arith, up))) (λ place k.
    let upper = place_up m mask.above place k in
    let sixth : place.above ≡ r.sp + 6 = omega (arith, up, upper) in
    both (RowAlike m n) (pop m place.above) (pop n place.above) _ _ (pop_same m n r.sp 12 place.above same (omega (arith, sixth)) (omega (arith, sixth)))
    (λ ch l.
    let ch_up = (popped m place.above ch l).above in
    let eighth : ch.above ≡ r.sp + 8 = omega (arith, sixth, ch_up) in
    both (RowAlike m n) (pop m ch.above) (pop n ch.above) _ _ (pop_same m n r.sp 12 ch.above same (omega (arith, eighth)) (omega (arith, eighth))) (λ kind g.
    let kind_up = (popped m ch.above kind g).above in
    let tenth : kind.above ≡ r.sp + 10 = omega (arith, eighth, kind_up) in
    both (RowAlike m n) (pop m kind.above) (pop n kind.above) _ _ (pop_same m n r.sp 12 kind.above same (omega (arith, tenth)) (omega (arith, tenth)))
    (λ limit q.
    let at : place_on_stack m (r.sp + 2) ≡ place.word = ap (λ a. place_on_stack m a) (sym up) ∙ sym (place_is m mask.above place k) in
    let bounded : word_at m (r.sp + 10) ≡ limit.word = ap (λ (i : ℕ). word_at m i) (sym tenth) ∙ sym (popped m kind.above limit q).word in
    let small : place.word < 65536 = subst (λ (i : ℕ). i < 65536) at (omega arith) in
    both (RowAlike m n) (passed_by m place.word limit.word (ch.word % 256) (kind.word % 2 == 0)) (passed_by n place.word limit.word (ch.word % 256)
    (kind.word % 2 == 0)) _ _
    (passed_same m n place.word limit.word (ch.word % 256) (kind.word % 2 == 0) memory other small
    (subst (λ w. Agree (scan_stretch place.word (signed w) ∷ []) m n) bounded
    (subst (λ a. Agree (scan_stretch a (signed (word_at m (r.sp + 10))) ∷ []) m n) at agree))) (λ c z.
    pushed_with m n limit.above r.np c r memory other))))))

-- Returns the number of words that a procedure on memory pops.
abbrev pub taken_by_memory : OnMemory → ℕ
taken_by_memory memory.CheckIo = 0
taken_by_memory memory.New = 2
taken_by_memory memory.MoveLeft = 5
taken_by_memory memory.MoveRight = 5
taken_by_memory memory.Fill = 4
taken_by_memory memory.Scan = 6
taken_by_memory memory.Mark = 1
taken_by_memory memory.Release = 1
taken_by_memory memory.IoResult = 0
taken_by_memory memory.Halt = 0
taken_by_memory memory.FreeMemory = 0

pub memory_alike : (o : OnMemory) (m n : List ℕ) (r : Registers) → IsMemory m → IsMemory n → Same m n r.sp (2 * taken_by_memory o)
    → Agree (memory_leads o m r.sp) m n → RowsAlike m n (memory_row o m r) (memory_row o n r)
unfolding memory_row check_io_row push_row
memory_alike memory.CheckIo m n r memory other same agree = demanded (RowAlike m n) (r.ioresult == 0) UserIo _ _ (λ g. done m n m n r (unchanged m n))
memory_alike memory.New m n r memory other same agree = new_alike m n r memory other same
memory_alike memory.MoveLeft m n r memory other same agree = move_row_alike moved_up m n r up_alike memory other same agree
memory_alike memory.MoveRight m n r memory other same agree = move_row_alike moved_down m n r down_alike memory other same agree
memory_alike memory.Fill m n r memory other same agree = fill_row_alike m n r memory other same
memory_alike memory.Scan m n r memory other same agree = scan_row_alike m n r memory other same agree
memory_alike memory.Mark m n r memory other same agree = mark_alike m n r memory other same
memory_alike memory.Release m n r memory other same agree = release_alike m n r same (first_same (word_at m r.sp) 2 [] m n agree)
memory_alike memory.IoResult m n r memory other same agree = pushed_with m n r.sp r.np r.ioresult r memory other
memory_alike memory.Halt m n r memory other same agree = tt
memory_alike memory.FreeMemory m n r memory other same agree = pushed_with m n r.sp r.np ((r.sp - r.np) / 2) r memory other
