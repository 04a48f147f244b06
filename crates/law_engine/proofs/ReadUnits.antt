-- Lemmas for standard procedures on units in two memories that agree on the bytes that the procedures read, and for the
-- number of words that standard procedures pop.
use Rattle.std.proofs.Common.{◌≡◌, ◌<◌, ◌≤◌, inl, inr, ℕ, ◌+◌, ◌*◌, ◌/◌, ◌%◌, ◌==◌, ◌&&◌, Bool, true, false, nat_lt}
use Rattle.std.proofs.Common.{List, [], ◌∷◌, ◌++◌, length, drop, take, Option, Some, None, Result, Ok, Err, refl, sym, ap, subst, arith}
use Rattle.std.specs.Prelude.{if◌then◌else◌}
use Rattle.std.proofs.lemmas.Bool.{and_parts, cases_Bool}
use Rattle.std.proofs.lemmas.Bool.Decides.{nat_tests}
use Rattle.std.proofs.lemmas.List.{length-take-le}
use Rattle.std.proofs.lemmas.List.Elements.{All-take}
use Rattle.pm_words.specs.declared.error.ExecError.{ExecError}
use Rattle.pm_words.specs.declared.error.ExecError.TheVariants.{InvalidMemory}
use Rattle.pm_words.specs.Words.{IsMemory, with_bytes, with_word}
use Rattle.pm_words.specs.Stack.{◌>>=◌, is_even, pop, push}
use Rattle.pm_effects.specs.declared.effect.Effect.{Effect}
use Rattle.pm_effects.specs.Effects.{standard_effect, words}
use Rattle.pm_units.specs.Devices.{Devices, bytes_from_block, image_at, lies_on, unit_of}
use Rattle.pm_units.specs.declared.ports.Port.{Port}
use Rattle.pm_units.specs.declared.transfers.Transfer.{Transfer}
use Rattle.pm_units.specs.declared.ports.Port.TheVariants.{Absent, Console, Disk, Printer, Terminal, Unknown}
use Rattle.pm_units.specs.Traps.{Pause, or_fails}
use Rattle.pm_units.specs.Transfers.{Moved, can_move, from_disk, from_queue, named_bytes, to_disk, unit_read, unit_written}
use Rattle.pm_stdproc.specs.declared.procedures.OnMemory.TheVariants as memory
use Rattle.pm_stdproc.specs.declared.procedures.OnUnits.{OnUnits}
use Rattle.pm_stdproc.specs.declared.procedures.OnUnits.TheVariants as units
use Rattle.pm_stdproc.specs.declared.procedures.Procedure.{Procedure}
use Rattle.pm_stdproc.specs.declared.procedures.Procedure.TheVariants as procedure
use Rattle.pm_stdproc.specs.declared.rows.Order.{Order}
use Rattle.pm_stdproc.specs.MemoryRows.{pop_place}
use Rattle.pm_stdproc.specs.Procedures.{procedure_numbered}
use Rattle.pm_stdproc.specs.UnitRows.{Served, after_transfer, busy_row, clear_row, ordered, read_row, time_row, units_row, wait_row, write_row}
use Rattle.pm_machine.specs.Written.{Stretch, stretch, transfer_stretch}
use Rattle.pm_machine.specs.ReadStretches.{taken_if, units_lead}
use Rattle.law_engine.specs.ReadLaws.{ChangeAlike}
use Rattle.law_engine.proofs.Bytes.{AreBytes, range_fits}
use Rattle.law_engine.proofs.StoreRows.{word_below}
use Rattle.law_engine.proofs.StoredWords.{popped}
use Rattle.law_engine.proofs.WrittenUnits.{HoldsBytes, order_lies, order_names, range_length}
use Rattle.law_engine.proofs.ReadSteps.{Agree, Both, RowAlike, Same, andthen, bind_same, both, bytes_alike, bytes_same, demanded, first_same}
use Rattle.law_engine.proofs.ReadSteps.{length-with_word, pop_same, pushed_alike, then_alike, unchanged, word_alike_sized}
use Rattle.law_engine.proofs.ReadRows.{next_same}
use Rattle.law_engine.proofs.ReadMemory.{place_same, place_up, taken_by_memory}

pub failing : {A : Type 0} (Q : A → A → Type 0) (r u : Result A ExecError) → Both Q r u → Both Q (or_fails r) (or_fails u)
failing Q (Ok x) u h = rw h.made (record { other = h.other; made = refl; like = h.like })
failing Q (Err e) u h = tt

-- ---- the operands of a transfer

pub ordered_same : (m n : List ℕ) (sp : ℕ) → Same m n sp 12 → ordered n sp ≡ ordered m sp
unfolding ordered
ordered_same m n sp same =
    bind_same (pop m sp) (pop n sp) _ _ (pop_same m n sp 12 sp same (omega arith) (omega arith)) (λ mode h.
    bind_same (pop m mode.above) (pop n mode.above) _ _ (next_same m n sp 12 sp mode same h (omega arith) (omega arith)) (λ block k.
    let fourth = (word_below m sp mode block h k).1 in
    bind_same (pop m block.above) (pop n block.above) _ _ (pop_same m n sp 12 block.above same (omega (arith, fourth)) (omega (arith, fourth))) (λ count l.
    let up = (popped m block.above count l).above in
    let sixth : count.above ≡ sp + 6 = omega (arith, fourth, up) in
    bind_same (pop_place m count.above) (pop_place n count.above) _ _ (place_same m n sp 12 count.above same (omega (arith, sixth)) (omega
    (arith, sixth))) (λ place g.
    let upper = place_up m count.above place g in
    let tenth : place.above ≡ sp + 10 = omega (arith, sixth, upper) in
    bind_same (pop m place.above) (pop n place.above) _ _ (pop_same m n sp 12 place.above same (omega (arith, tenth)) (omega (arith, tenth)))
    (λ unit q. refl)))))

-- ---- transfers

-- The results `t` and `u` of a transfer are equal except for their memories, and both memories changed alike from `m`
-- and `n`.
abbrev pub MovedAlike : List ℕ → List ℕ → Moved → Moved → Type 0
MovedAlike m n t u = (u ≡ record t { memory = u.memory }) × ChangeAlike m t.memory n u.memory

idle_alike : (m n : List ℕ) (code : ℕ) (d : Devices)
    → MovedAlike m n (record { memory = m; devices = d; ioresult = code }) (record { memory = n; devices = d; ioresult = code })
idle_alike m n code d = (refl, unchanged m n)

queue_alike : (echo : Bool) (t : Transfer) (m n : List ℕ) (d : Devices) → IsMemory m → IsMemory n → AreBytes d.queue → t.address + t.count ≤ 65536
    → Both (MovedAlike m n) (from_queue echo t m d) (from_queue echo t n d)
queue_alike echo t m n d memory other fit room = elim (cases_Bool (nat_lt (length d.queue) t.count)) [
  | inl e ↦ rw e tt
  | inr e ↦
      let many : t.count ≤ length d.queue = grind (arith, nat_tests, e) in
      let size = length-take-le t.count d.queue many in
      rw e (record {
        other = record {
          memory = with_bytes n t.address (take t.count d.queue);
          devices = record d { queue = drop t.count d.queue; console = if echo then d.console ++ take t.count d.queue else d.console };
          ioresult = 0;
        };
        made = refl;
        like = (refl, bytes_alike m n (take t.count d.queue) t.address memory other (omega (arith, size, room)) (All-take (λ b. b < 256) t.count d.queue fit));
      })
]

disk_alike : (image : Option (List ℕ)) (t : Transfer) (m n : List ℕ) (d : Devices) → IsMemory m → IsMemory n
    → ((bs : List ℕ) → image ≡ Some bs → AreBytes bs) → t.address + t.count ≤ 65536 → MovedAlike m n (from_disk image t m d) (from_disk image t n d)
disk_alike None t m n d memory other fit room = idle_alike m n 9 d
disk_alike (Some bs) t m n d memory other fit room = elim (cases_Bool (can_move bs t)) [
  | inl e ↦
      let parts = and_parts (nat_lt t.block 32768) (lies_on bs t.block t.count) e in
      let lies : 512 * t.block + t.count ≤ length bs = grind (arith, nat_tests, parts.1) in
      let size = range_length bs (512 * t.block) t.count lies in
      rw e (
        refl,
        bytes_alike m n (bytes_from_block bs t.block t.count) t.address memory other (omega (arith, size, room))
            (range_fits bs (512 * t.block) (512 * t.block + t.count) (fit bs refl)),
      )
  | inr e ↦ rw e (idle_alike m n 1 d)
]

-- If two results are alike, then two transfers that return these results at once are alike.
given : (m n : List ℕ) (t u : Moved) → MovedAlike m n t u → Both {E = Pause} (MovedAlike m n) (Ok t) (Ok u)
given m n t u h = record { other = u; made = refl; like = h }

read_alike : (p : Port) (t : Transfer) (m n : List ℕ) (d : Devices) → IsMemory m → IsMemory n → HoldsBytes d → t.address + t.count ≤ 65536
    → Both (MovedAlike m n) (unit_read p t m d) (unit_read p t n d)
unfolding unit_read
read_alike Unknown t m n d memory other holds room = given m n _ _ (idle_alike m n 2 d)
read_alike Absent t m n d memory other holds room = given m n _ _ (idle_alike m n 9 d)
read_alike Printer t m n d memory other holds room = given m n _ _ (idle_alike m n 3 d)
read_alike Console t m n d memory other holds room = queue_alike true t m n d memory other holds.queue room
read_alike Terminal t m n d memory other holds room = queue_alike false t m n d memory other holds.queue room
read_alike (Disk k) t m n d memory other holds room =
    given m n _ _ (disk_alike (image_at d k) t m n d memory other (λ bs e. holds.disks k bs e) room)

to_disk_alike : (k : ℕ) (image : Option (List ℕ)) (t : Transfer) (m n : List ℕ) (d : Devices) → named_bytes n t ≡ named_bytes m t
    → MovedAlike m n (to_disk k image t m d) (to_disk k image t n d)
to_disk_alike k None t m n d same = idle_alike m n 9 d
to_disk_alike k (Some bs) t m n d same = elim (cases_Bool (can_move bs t)) [
  | inl e ↦ rw (e, same) (refl, unchanged m n)
  | inr e ↦ rw e (idle_alike m n 1 d)
]

write_alike : (p : Port) (t : Transfer) (m n : List ℕ) (d : Devices) → named_bytes n t ≡ named_bytes m t
    → MovedAlike m n (unit_written p t m d) (unit_written p t n d)
unfolding unit_written
write_alike Unknown t m n d same = idle_alike m n 2 d
write_alike Absent t m n d same = idle_alike m n 9 d
write_alike Printer t m n d same = rw same (idle_alike m n 0 _)
write_alike Console t m n d same = rw same (idle_alike m n 0 _)
write_alike Terminal t m n d same = rw same (idle_alike m n 0 _)
write_alike (Disk k) t m n d same = to_disk_alike k (image_at d k) t m n d same

-- ---- the rows

-- The results `t` and `u` of a procedure on units are equal except for their memories, and both memories changed alike
-- from `m` and `n`.
abbrev pub ServedAlike : List ℕ → List ℕ → Served → Served → Type 0
ServedAlike m n t u = (u ≡ record t { memory = u.memory }) × ChangeAlike m t.memory n u.memory

-- Returns the state `s` with the memory `n`.
abbrev pub served_in : Served → List ℕ → Served
served_in s n = record s { memory = n }

after_alike : (s : Served) (n : List ℕ) (sp : ℕ) (t u : Moved) → MovedAlike s.memory n t u
    → ServedAlike s.memory n (after_transfer s sp t) (after_transfer (served_in s n) sp u)
after_alike s n sp t u h = (ap (λ (v : Moved). after_transfer s sp v) h.0, h.1)

read_row_alike : (s : Served) (n : List ℕ) → IsMemory s.memory → IsMemory n → HoldsBytes s.devices → Same s.memory n s.registers.sp 12
    → Both (ServedAlike s.memory n) (read_row s) (read_row (served_in s n))
unfolding read_row
read_row_alike s n memory other holds same =
    let Q = ServedAlike s.memory n in
    of (ordered s.memory s.registers.sp) (ordered n s.registers.sp) (ordered_same s.memory n s.registers.sp same) (order_lies s.memory s.registers.sp)
  where
    of : (r u : Result Order ExecError) → u ≡ r → ((o : Order) → r ≡ Ok o → o.transfer.address + o.transfer.count ≤ 65536)
        → Both (ServedAlike s.memory n)
        (or_fails r >>= λ o. (unit_read (unit_of o.unit) o.transfer s.memory s.devices >>= λ t. Ok (after_transfer s o.sp t)))
        (or_fails u >>= λ o. (unit_read (unit_of o.unit) o.transfer n s.devices >>= λ t. Ok (after_transfer (served_in s n) o.sp t)))
    of (Ok o) u e lies = rw e (andthen (MovedAlike s.memory n) (ServedAlike s.memory n)
        (unit_read (unit_of o.unit) o.transfer s.memory s.devices) (unit_read (unit_of o.unit) o.transfer n s.devices) _ _
        (read_alike (unit_of o.unit) o.transfer s.memory n s.devices memory other holds (lies o refl)) (λ t v h like.
        record { other = after_transfer (served_in s n) o.sp v; made = refl; like = after_alike s n o.sp t v like }))
    of (Err x) u e lies = tt

write_row_alike : (s : Served) (n : List ℕ) → IsMemory s.memory → IsMemory n → Same s.memory n s.registers.sp 12
    → Agree (transfer_stretch s.memory s.registers.sp ∷ []) s.memory n → Both (ServedAlike s.memory n) (write_row s) (write_row (served_in s n))
unfolding write_row
write_row_alike s n memory other same agree =
    of (ordered s.memory s.registers.sp) (ordered n s.registers.sp) (ordered_same s.memory n s.registers.sp same) (order_lies s.memory s.registers.sp)
    (order_names s.memory s.registers.sp)
  where
    of : (r u : Result Order ExecError) → u ≡ r → ((o : Order) → r ≡ Ok o → o.transfer.address + o.transfer.count ≤ 65536)
        → ((o : Order) → r ≡ Ok o → stretch o.transfer.address o.transfer.count ≡ transfer_stretch s.memory s.registers.sp)
        → Both (ServedAlike s.memory n)
        (or_fails r >>= λ o. Ok (after_transfer s o.sp (unit_written (unit_of o.unit) o.transfer s.memory s.devices)))
        (or_fails u >>= λ o. Ok (after_transfer (served_in s n) o.sp (unit_written (unit_of o.unit) o.transfer n s.devices)))
    of (Ok o) u e lies names = rw e (record {
      other = after_transfer (served_in s n) o.sp (unit_written (unit_of o.unit) o.transfer n s.devices);
      made = refl;
      like = after_alike s n o.sp (unit_written (unit_of o.unit) o.transfer s.memory s.devices) (unit_written (unit_of o.unit) o.transfer n s.devices)
          (write_alike (unit_of o.unit) o.transfer s.memory n s.devices
          (bytes_same s.memory n o.transfer.address o.transfer.count o.transfer.address o.transfer.count
          (first_same o.transfer.address o.transfer.count [] s.memory n
          (subst (λ (z : Stretch). Agree (z ∷ []) s.memory n) (sym (names o refl)) agree)) memory other (omega arith) (omega arith) (lies o refl)));
    })
    of (Err x) u e lies names = tt

time_alike : (s : Served) (n : List ℕ) → IsMemory s.memory → IsMemory n → Same s.memory n s.registers.sp 4
    → Both (ServedAlike s.memory n) (time_row s) (time_row (served_in s n))
unfolding time_row
time_alike s n memory other same =
    let m = s.memory in
    let sp = s.registers.sp in
    let Q = ServedAlike s.memory n in
    both Q (pop m sp) (pop n sp) _ _ (pop_same m n sp 4 sp same (omega arith) (omega arith)) (λ b h.
    both Q (pop m b.above) (pop n b.above) _ _ (next_same m n sp 4 sp b same h (omega arith) (omega arith)) (λ a k.
    demanded Q (is_even a.word && is_even b.word) InvalidMemory _ _ (λ g.
    let p = with_word m a.word (s.devices.clock / 65536) in
    let q = with_word n a.word (s.devices.clock / 65536) in
    let low = s.devices.clock % 65536 in
    record {
      other = record s { memory = with_word q b.word low; registers = record s.registers { sp = a.above } };
      made = refl;
      like = (
        refl,
        then_alike m p (with_word p b.word low) n q (with_word q b.word low)
            (word_alike_sized m n a.word (s.devices.clock / 65536) memory.size other.size)
            (word_alike_sized p q b.word low (length-with_word m a.word (s.devices.clock / 65536) memory.size)
            (length-with_word n a.word (s.devices.clock / 65536) other.size)),
      );
    })))

busy_alike : (s : Served) (n : List ℕ) → IsMemory s.memory → IsMemory n → Same s.memory n s.registers.sp 2
    → Both (ServedAlike s.memory n) (busy_row s) (busy_row (served_in s n))
unfolding busy_row
busy_alike s n memory other same =
    let m = s.memory in
    let sp = s.registers.sp in
    let Q = ServedAlike s.memory n in
    both Q (pop m sp) (pop n sp) _ _ (pop_same m n sp 2 sp same (omega arith) (omega arith)) (λ unit h.
    andthen (RowAlike m n) Q (push m unit.above s.registers.np 0) (push n unit.above s.registers.np 0) _ _
    (pushed_alike m n unit.above s.registers.np 0 memory other) (λ t u k like.
    rw like.0 (record { other = _; made = refl; like = (refl, like.1) })))

-- Returns the number of words that a procedure on units pops.
abbrev pub taken_by_units : OnUnits → ℕ
taken_by_units units.Read = 6
taken_by_units units.Write = 6
taken_by_units units.Time = 2
taken_by_units units.Busy = 1
taken_by_units units.Wait = 1
taken_by_units units.Clear = 1

pub units_alike : (o : OnUnits) (s : Served) (n : List ℕ) → IsMemory s.memory → IsMemory n → HoldsBytes s.devices
    → Same s.memory n s.registers.sp (2 * taken_by_units o) → Agree (units_lead o s.memory s.registers.sp) s.memory n
    → Both (ServedAlike s.memory n) (units_row o s) (units_row o (served_in s n))
unfolding units_row wait_row clear_row
units_alike units.Read s n memory other holds same agree = read_row_alike s n memory other holds same
units_alike units.Write s n memory other holds same agree = write_row_alike s n memory other same agree
units_alike units.Time s n memory other holds same agree = failing (ServedAlike s.memory n) _ _ (time_alike s n memory other same)
units_alike units.Busy s n memory other holds same agree = failing (ServedAlike s.memory n) _ _ (busy_alike s n memory other same)
units_alike units.Wait s n memory other holds same agree = failing (ServedAlike s.memory n) _ _
    (both (ServedAlike s.memory n) (pop s.memory s.registers.sp) (pop n s.registers.sp) _ _
    (pop_same s.memory n s.registers.sp 2 s.registers.sp same (omega arith) (omega arith)) (λ unit h.
    record { other = _; made = refl; like = (refl, unchanged s.memory n) }))
units_alike units.Clear s n memory other holds same agree = failing (ServedAlike s.memory n) _ _
    (both (ServedAlike s.memory n) (pop s.memory s.registers.sp) (pop n s.registers.sp) _ _
    (pop_same s.memory n s.registers.sp 2 s.registers.sp same (omega arith) (omega arith)) (λ unit h.
    record { other = _; made = refl; like = (refl, unchanged s.memory n) }))

-- ---- the words that standard procedures pop

-- Returns the number of words that a standard procedure pops.
abbrev pub taken_by : Procedure → ℕ
taken_by (procedure.OnMemory o) = taken_by_memory o
taken_by (procedure.OnUnits o) = taken_by_units o
taken_by procedure.Exit = 2
taken_by procedure.Keep = 1
taken_by procedure.Unkeep = 1
taken_by procedure.Unimplemented = 0

abbrev Fits : Option Effect → Procedure → Type 0
Fits e p = (m n : List ℕ) (sp : ℕ) (ss : List Stretch) → Agree (taken_if e m sp ++ ss) m n → Same m n sp (2 * taken_by p)

some_fits : (p : Procedure) (j : ℕ) → Fits (Some (words (taken_by p) j)) p
some_fits p j = λ m n sp ss agree x low high. first_same sp (2 * (taken_by p + 0)) ss m n agree x low (omega (arith, high))

choose : (b : Bool) (e f : Option Effect) (p q : Procedure) → Fits e p → Fits f q → Fits (if b then e else f) (if b then p else q)
choose true e f p q h k = h
choose false e f p q h k = k

none_fits : Fits None procedure.Unimplemented
none_fits = λ m n sp ss agree x low high. absurd (omega (arith, low, high))

pub standard_fits : (k : ℕ) → Fits (standard_effect k) (procedure_numbered k)
unfolding procedure_numbered
standard_fits k =
    choose (k == 0) _ _ _ _ (some_fits (procedure.OnMemory memory.CheckIo) 0) (
    choose (k == 1) _ _ _ _ (some_fits (procedure.OnMemory memory.New) 0) (
    choose (k == 2) _ _ _ _ (some_fits (procedure.OnMemory memory.MoveLeft) 0) (
    choose (k == 3) _ _ _ _ (some_fits (procedure.OnMemory memory.MoveRight) 0) (
    choose (k == 4) _ _ _ _ (some_fits procedure.Exit 0) (
    choose (k == 5) _ _ _ _ (some_fits (procedure.OnUnits units.Read) 0) (
    choose (k == 6) _ _ _ _ (some_fits (procedure.OnUnits units.Write) 0) (
    choose (k == 9) _ _ _ _ (some_fits (procedure.OnUnits units.Time) 0) (
    choose (k == 10) _ _ _ _ (some_fits (procedure.OnMemory memory.Fill) 0) (
    choose (k == 11) _ _ _ _ (some_fits (procedure.OnMemory memory.Scan) 1) (
    choose (k == 21) _ _ _ _ (some_fits procedure.Keep 0) (
    choose (k == 22) _ _ _ _ (some_fits procedure.Unkeep 0) (
    choose (k == 32) _ _ _ _ (some_fits (procedure.OnMemory memory.Mark) 0) (
    choose (k == 33) _ _ _ _ (some_fits (procedure.OnMemory memory.Release) 0) (
    choose (k == 34) _ _ _ _ (some_fits (procedure.OnMemory memory.IoResult) 1) (
    choose (k == 35) _ _ _ _ (some_fits (procedure.OnUnits units.Busy) 1) (
    choose (k == 37) _ _ _ _ (some_fits (procedure.OnUnits units.Wait) 0) (
    choose (k == 38) _ _ _ _ (some_fits (procedure.OnUnits units.Clear) 0) (
    choose (k == 39) _ _ _ _ (some_fits (procedure.OnMemory memory.Halt) 0) (
    choose (k == 40) _ _ _ _ (some_fits (procedure.OnMemory memory.FreeMemory) 1) none_fits)))))))))))))))))))
