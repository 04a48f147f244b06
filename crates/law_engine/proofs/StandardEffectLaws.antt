-- Lemmas for the SP after each standard procedure.
use Rattle.std.proofs.Common.{◌≡◌, ◌≤◌, inl, inr, ℕ, ◌+◌, ◌-◌, ◌*◌, ◌%◌, ◌==◌, ◌&&◌}
use Rattle.std.proofs.Common.{Bool, true, false, nat_lt, nat_le, List, Result, Ok, Err, refl, sym, ap, subst, arith}
use Rattle.std.specs.Prelude.{Option, if◌then◌else◌}
use Rattle.std.proofs.lemmas.Bool.{cases_Bool}
use Rattle.std.proofs.lemmas.Bool.Decides.{nat_tests}
use Rattle.pm_words.specs.declared.error.ExecError.{ExecError}
use Rattle.pm_words.specs.declared.error.ExecError.TheVariants.{InvalidMemory, StackOverflow, UserIo}
use Rattle.pm_words.specs.declared.stack.Popped.{Popped}
use Rattle.pm_words.specs.Stack.{◌>>=◌, demand, is_even, lies_in_memory, load, pop, push, store}
use Rattle.pm_calls.specs.declared.registers.Registers.{Registers}
use Rattle.pm_calls.proofs.ReturnLaws.{bound, ok_same}
use Rattle.pm_units.specs.Devices.{unit_of}
use Rattle.pm_units.specs.Transfers.{unit_read}
use Rattle.pm_units.specs.Traps.{Pause, or_fails}
use Rattle.pm_stdproc.specs.declared.procedures.OnMemory.{OnMemory}
use Rattle.pm_stdproc.specs.declared.procedures.OnMemory.TheVariants as memory
use Rattle.pm_stdproc.specs.declared.procedures.OnUnits.{OnUnits}
use Rattle.pm_stdproc.specs.declared.procedures.OnUnits.TheVariants as units
use Rattle.pm_stdproc.specs.declared.procedures.Procedure.{Procedure}
use Rattle.pm_stdproc.specs.declared.procedures.Procedure.TheVariants as procedure
use Rattle.pm_stdproc.specs.declared.rows.Order.{Order}
use Rattle.pm_stdproc.specs.MemoryRows.{check_io_row, fill_row, filled_with, moved, passed_by, mark_row}
use Rattle.pm_stdproc.specs.MemoryRows.{memory_row, move_bytes_row, new_row, pop_place, push_row, release_row, scan_row}
use Rattle.pm_stdproc.specs.Procedures.{procedure_numbered}
use Rattle.pm_stdproc.specs.UnitRows.{Served, busy_row, clear_row, ordered, read_row, time_row, units_row, wait_row, write_row}
use Rattle.law_engine.proofs.StoredWords.{popped}
use Rattle.pm_effects.specs.declared.effect.Effect.{Effect}
use Rattle.pm_effects.specs.Effects.{standard_effect, words}
use Rattle.law_engine.specs.Effects.{words_taken}
use Rattle.law_engine.specs.StandardEffects.{AllOk, EndsIn, StandardEffectsAreTheMachines, memory_effect, procedure_effect, units_effect}

-- ---- numbers

chosen : (b : Bool) (p q : Procedure) (e : Option Effect) → e ≡ procedure_effect q
    → (if b then procedure_effect p else e) ≡ procedure_effect (if b then p else q)
chosen true p q e h = refl
chosen false p q e h = h

numbers : (n : ℕ) → standard_effect n ≡ procedure_effect (procedure_numbered n)
unfolding procedure_numbered
numbers n =
    chosen (n == 0) (procedure.OnMemory memory.CheckIo) _ _ (
    chosen (n == 1) (procedure.OnMemory memory.New) _ _ (
    chosen (n == 2) (procedure.OnMemory memory.MoveLeft) _ _ (
    chosen (n == 3) (procedure.OnMemory memory.MoveRight) _ _ (
    chosen (n == 4) (procedure.Exit) _ _ (
    chosen (n == 5) (procedure.OnUnits units.Read) _ _ (
    chosen (n == 6) (procedure.OnUnits units.Write) _ _ (
    chosen (n == 9) (procedure.OnUnits units.Time) _ _ (
    chosen (n == 10) (procedure.OnMemory memory.Fill) _ _ (
    chosen (n == 11) (procedure.OnMemory memory.Scan) _ _ (
    chosen (n == 21) (procedure.Keep) _ _ (
    chosen (n == 22) (procedure.Unkeep) _ _ (
    chosen (n == 32) (procedure.OnMemory memory.Mark) _ _ (
    chosen (n == 33) (procedure.OnMemory memory.Release) _ _ (
    chosen (n == 34) (procedure.OnMemory memory.IoResult) _ _ (
    chosen (n == 35) (procedure.OnUnits units.Busy) _ _ (
    chosen (n == 37) (procedure.OnUnits units.Wait) _ _ (
    chosen (n == 38) (procedure.OnUnits units.Clear) _ _ (
    chosen (n == 39) (procedure.OnMemory memory.Halt) _ _ (
    chosen (n == 40) (procedure.OnMemory memory.FreeMemory) _ _ refl)))))))))))))))))))

-- ---- steps

step : {A B E : Type 0} (P : B → Type 0) (r : Result A E) (f : A → Result B E) → ((x : A) → r ≡ Ok x → AllOk P (f x)) → AllOk P (r >>= f)
step P (Ok x) f h = h x refl
step P (Err e) f h = tt

pops : {B : Type 0} (P : B → Type 0) (g : ℕ) (m : List ℕ) (sp k : ℕ) (f : Popped → Result B ExecError) → sp + 2 * (k + 1) ≡ g
    → ((a : Popped) → a.above + 2 * k ≡ g → AllOk P (f a)) → AllOk P (pop m sp >>= f)
pops P g m sp k f e h = step P (pop m sp) f (λ a p. let up = (popped m sp a p).above in h a (omega (arith, e, up)))

pub place_above : (m : List ℕ) (sp : ℕ) (p : Popped) → pop_place m sp ≡ Ok p → p.above ≡ sp + 4
place_above m sp p h =
    let i = bound (pop m sp) _ p h in
    let b = bound (pop m i.0.above) _ p i.2 in
    let same = ok_same _ p b.2 in
    let one_up = (popped m sp i.0 i.1).above in
    let two_up = (popped m i.0.above b.0 b.1).above in
    let at : p.above ≡ b.0.above = sym (ap (λ (q : Popped). q.above) same) in
    omega (arith, at, one_up, two_up)

pops_place : {B : Type 0} (P : B → Type 0) (g : ℕ) (m : List ℕ) (sp k : ℕ) (f : Popped → Result B ExecError) → sp + 2 * (k + 2) ≡ g
    → ((a : Popped) → a.above + 2 * k ≡ g → AllOk P (f a)) → AllOk P (pop_place m sp >>= f)
pops_place P g m sp k f e h = step P (pop_place m sp) f (λ a p. let up = place_above m sp a p in h a (omega (arith, e, up)))

-- The result of a push for which the stack has no space.
abbrev broken : Result (List ℕ × ℕ) ExecError
broken = Err StackOverflow

-- If a word is pushed, then the new SP is 2 less than the SP before the push.
pub pushed : (m : List ℕ) (sp np w : ℕ) (t : List ℕ × ℕ) → push m sp np w ≡ Ok t → t.1 + 2 ≡ sp
pushed m sp np w t h = elim (cases_Bool (nat_lt sp (np + 2))) [
  | inl l ↦ refused t (rw l at h)
  | inr l ↦
      let room : np + 2 ≤ sp = grind (arith, nat_tests, l) in
      let b = bound (store m (sp - 2) w) _ t (rw l at h) in
      let same = ok_same _ t b.2 in
      let at : t.1 ≡ sp - 2 = sym (ap (λ (q : List ℕ × ℕ). q.1) same) in
      omega (arith, room, at)
]
  where
    refused : (u : List ℕ × ℕ) → broken ≡ Ok u → t.1 + 2 ≡ sp
    refused u h = cc

abbrev Ends : ℕ → Effect → List ℕ × Registers → Type 0
Ends g e t = EndsIn g e t.0 t.1

push_moves : (w : ℕ) (m : List ℕ) (r : Registers) → AllOk (Ends (r.sp + 2 * 0) (words 0 1)) (push_row w m r)
unfolding push_row
push_moves w m r = step (Ends (r.sp + 2 * 0) (words 0 1)) (push m r.sp r.np w) _ (λ t h.
    let up = pushed m r.sp r.np w t h in omega (arith, up))

move_moves : (move : List ℕ → ℕ → ℕ → ℕ → List ℕ) (m : List ℕ) (r : Registers) → AllOk (Ends (r.sp + 2 * 5) (words 5 0)) (move_bytes_row move m r)
unfolding move_bytes_row
move_moves move m r = pops (Ends (r.sp + 2 * 5) (words 5 0)) (r.sp + 2 * 5) m r.sp 4 _ refl (λ count x.
    pops_place (Ends (r.sp + 2 * 5) (words 5 0)) (r.sp + 2 * 5) m count.above 2 _ x (λ to d.
    pops_place (Ends (r.sp + 2 * 5) (words 5 0)) (r.sp + 2 * 5) m to.above 0 _ d (λ from e.
    step (Ends (r.sp + 2 * 5) (words 5 0)) (moved move m from.word to.word count.word) _ (λ new h. e))))

memory_moves : (o : OnMemory) (m : List ℕ) (r : Registers)
    → AllOk (λ (t : List ℕ × Registers). EndsIn (r.sp + 2 * words_taken (memory_effect o) m r.sp) (memory_effect o) t.0 t.1) (memory_row o m r)
unfolding memory_row check_io_row new_row fill_row scan_row mark_row release_row
memory_moves memory.CheckIo m r = step (Ends (r.sp + 2 * 0) (words 0 0)) (demand (r.ioresult == 0) UserIo) _ (λ u h. refl)
memory_moves memory.New m r = pops (Ends (r.sp + 2 * 2) (words 2 0)) (r.sp + 2 * 2) m r.sp 1 _ refl (λ n d.
    pops (Ends (r.sp + 2 * 2) (words 2 0)) (r.sp + 2 * 2) m n.above 0 _ d (λ a e.
    step (Ends (r.sp + 2 * 2) (words 2 0)) (store m a.word r.np) _ (λ new h. step (Ends (r.sp + 2 * 2) (words 2 0)) (demand (nat_le
    (r.np + 2 * n.word) a.above) StackOverflow) _ (λ u k. e))))
memory_moves memory.MoveLeft m r = move_moves _ m r
memory_moves memory.MoveRight m r = move_moves _ m r
memory_moves memory.Fill m r = pops (Ends (r.sp + 2 * 4) (words 4 0)) (r.sp + 2 * 4) m r.sp 3 _ refl (λ ch x.
    pops (Ends (r.sp + 2 * 4) (words 4 0)) (r.sp + 2 * 4) m ch.above 2 _ x (λ count d.
    pops_place (Ends (r.sp + 2 * 4) (words 4 0)) (r.sp + 2 * 4) m count.above 0 _ d (λ place e.
    step (Ends (r.sp + 2 * 4) (words 4 0)) (filled_with m place.word count.word (ch.word % 256)) _ (λ new h. e))))
memory_moves memory.Scan m r = pops (Ends (r.sp + 2 * 6) (words 6 1)) (r.sp + 2 * 6) m r.sp 5 _ refl (λ mask z.
    pops_place (Ends (r.sp + 2 * 6) (words 6 1)) (r.sp + 2 * 6) m mask.above 3 _ z (λ place y.
    pops (Ends (r.sp + 2 * 6) (words 6 1)) (r.sp + 2 * 6) m place.above 2 _ y (λ ch x.
    pops (Ends (r.sp + 2 * 6) (words 6 1)) (r.sp + 2 * 6) m ch.above 1 _ x (λ kind d.
    pops (Ends (r.sp + 2 * 6) (words 6 1)) (r.sp + 2 * 6) m kind.above 0 _ d (λ limit e.
    step (Ends (r.sp + 2 * 6) (words 6 1)) (passed_by m place.word limit.word (ch.word % 256) (kind.word % 2 == 0)) _ (λ k h. step (Ends (r.sp + 2 * 6)
    (words 6 1)) (push m limit.above r.np k) _ (λ t q.
    let up = pushed m limit.above r.np k t q in omega (arith, up, e))))))))
memory_moves memory.Mark m r = pops (Ends (r.sp + 2 * 1) (words 1 0)) (r.sp + 2 * 1) m r.sp 0 _ refl (λ a e.
    step (Ends (r.sp + 2 * 1) (words 1 0)) (store m a.word r.np) _ (λ new h. e))
memory_moves memory.Release m r = pops (Ends (r.sp + 2 * 1) (words 1 0)) (r.sp + 2 * 1) m r.sp 0 _ refl (λ a e.
    step (Ends (r.sp + 2 * 1) (words 1 0)) (load m a.word) _ (λ v h. step (Ends (r.sp + 2 * 1) (words 1 0)) (demand (is_even v) InvalidMemory) _ (λ u k.
    step (Ends (r.sp + 2 * 1) (words 1 0)) (demand (nat_le v a.above) StackOverflow) _ (λ w l. e))))
memory_moves memory.IoResult m r = push_moves r.ioresult m r
memory_moves memory.Halt m r = tt
memory_moves memory.FreeMemory m r = push_moves _ m r

-- ---- the units

kept : {A : Type 0} → A → Result A Pause
kept x = Ok x

same_kept : {A : Type 0} (y x : A) → kept y ≡ kept x → y ≡ x
unfolding kept
same_kept y x e = cc

-- If `P` holds for each success of `r`, and `or_fails r` succeeds with `x`, then `P` holds for `x`.
of_ok : {A : Type 0} (P : A → Type 0) (r : Result A ExecError) (x : A) → AllOk P r → or_fails r ≡ Ok x → P x
unfolding kept
of_ok P (Ok y) x h e = subst P (same_kept y x e) h
of_ok P (Err f) x h e = cc

failing : {A : Type 0} (P : A → Type 0) (r : Result A ExecError) → AllOk P r → AllOk P (or_fails r)
failing P (Ok x) h = h
failing P (Err e) h = tt

abbrev OrderEnds : ℕ → Order → Type 0
OrderEnds sp o = o.sp + 2 * 0 ≡ sp + 2 * 6

above_order : (m : List ℕ) (sp : ℕ) → AllOk (OrderEnds sp) (ordered m sp)
unfolding ordered
above_order m sp = pops (OrderEnds sp) (sp + 2 * 6) m sp 5 _ refl (λ mode z. pops (OrderEnds sp) (sp + 2 * 6) m mode.above 4 _ z (λ block y.
    pops (OrderEnds sp) (sp + 2 * 6) m block.above 3 _ y (λ count x. pops_place (OrderEnds sp) (sp + 2 * 6) m count.above 1 _ x (λ place d.
    pops (OrderEnds sp) (sp + 2 * 6) m place.above 0 _ d (λ unit e. step (OrderEnds sp) (demand (lies_in_memory place.word count.word) InvalidMemory) _
    (λ u h. e))))))

abbrev Served_ends : ℕ → Effect → Served → Type 0
Served_ends g e t = EndsIn g e t.memory t.registers

units_move : (o : OnUnits) (s : Served)
    → AllOk (λ (t : Served). EndsIn (s.registers.sp + 2 * words_taken (units_effect o) s.memory s.registers.sp) (units_effect o) t.memory t.registers)
    (units_row o s)
unfolding units_row read_row write_row time_row busy_row wait_row clear_row
units_move units.Read s = step (Served_ends (s.registers.sp + 2 * 6) (words 6 0)) (or_fails (ordered s.memory s.registers.sp)) _ (λ o h.
    step (Served_ends (s.registers.sp + 2 * 6) (words 6 0)) (unit_read (unit_of o.unit) o.transfer s.memory s.devices) _ (λ t k. of_ok
    (OrderEnds s.registers.sp) (ordered s.memory s.registers.sp) o (above_order s.memory s.registers.sp) h))
units_move units.Write s = step (Served_ends (s.registers.sp + 2 * 6) (words 6 0)) (or_fails (ordered s.memory s.registers.sp)) _ (λ o h.
    of_ok (OrderEnds s.registers.sp) (ordered s.memory s.registers.sp) o (above_order s.memory s.registers.sp) h)
units_move units.Time s = failing (Served_ends (s.registers.sp + 2 * 2) (words 2 0)) _
    (pops (Served_ends (s.registers.sp + 2 * 2) (words 2 0)) (s.registers.sp + 2 * 2) s.memory s.registers.sp 1 _ refl (λ b d.
    pops (Served_ends (s.registers.sp + 2 * 2) (words 2 0)) (s.registers.sp + 2 * 2) s.memory b.above 0 _ d (λ a e.
    step (Served_ends (s.registers.sp + 2 * 2) (words 2 0)) (demand (is_even a.word && is_even b.word) InvalidMemory) _ (λ u h. e))))
units_move units.Busy s = failing (Served_ends (s.registers.sp + 2 * 1) (words 1 1)) _
    (pops (Served_ends (s.registers.sp + 2 * 1) (words 1 1)) (s.registers.sp + 2 * 1) s.memory s.registers.sp 0 _ refl (λ unit e.
    step (Served_ends (s.registers.sp + 2 * 1) (words 1 1)) (push s.memory unit.above s.registers.np 0) _ (λ t q.
    let up = pushed s.memory unit.above s.registers.np 0 t q in omega (arith, up, e))))
units_move units.Wait s = failing (Served_ends (s.registers.sp + 2 * 1) (words 1 0)) _
    (pops (Served_ends (s.registers.sp + 2 * 1) (words 1 0)) (s.registers.sp + 2 * 1) s.memory s.registers.sp 0 _ refl (λ unit e. e))
units_move units.Clear s = failing (Served_ends (s.registers.sp + 2 * 1) (words 1 0)) _
    (pops (Served_ends (s.registers.sp + 2 * 1) (words 1 0)) (s.registers.sp + 2 * 1) s.memory s.registers.sp 0 _ refl (λ unit e. e))

pub standard_effects_are_the_machines : StandardEffectsAreTheMachines
standard_effects_are_the_machines = record { numbers = numbers; on_memory = memory_moves; on_units = units_move }
