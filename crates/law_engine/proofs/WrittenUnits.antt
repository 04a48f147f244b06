-- Lemmas: standard procedures on units write only words that share a byte with the ranges that `pm_machine` defines for
-- them.
use Rattle.std.proofs.Common.{◌≡◌, ◌<◌, ◌≤◌, ◌⊎◌, inl, inr, ℕ, ◌+◌, ◌-◌, ◌*◌, ◌/◌, ◌%◌, ◌&&◌, Bool, true, false}
use Rattle.std.proofs.Common.{nat_lt, List, [], ◌∷◌, length, take, drop, slice_range, Option, Some, None, Result, Ok, Err, refl, sym, ap, ◌∙◌}
use Rattle.std.proofs.Common.{subst, arith}
use Rattle.std.proofs.lemmas.Bool.{and_parts, cases_Bool}
use Rattle.std.proofs.lemmas.Bool.Decides.{nat_tests}
use Rattle.std.proofs.lemmas.List.{length-drop, length-take-le}
use Rattle.std.proofs.lemmas.List.Elements.{All-take}
use Rattle.pm_words.specs.declared.error.ExecError.{ExecError}
use Rattle.pm_words.specs.declared.error.ExecError.TheVariants.{InvalidMemory}
use Rattle.pm_words.specs.Words.{IsMemory, with_bytes, with_word, word_at}
use Rattle.pm_words.specs.Stack.{◌>>=◌, demand, is_even, lies_in_memory, pop, push}
use Rattle.pm_words.proofs.Laws.{byte_at-with_bytes_other}
use Rattle.pm_calls.proofs.ReturnLaws.{bound, ok_same, passed}
use Rattle.pm_units.specs.Devices.{Devices, bytes_from_block, image_at, lies_on, unit_of}
use Rattle.pm_units.specs.declared.ports.Port.{Port}
use Rattle.pm_units.specs.declared.ports.Port.TheVariants.{Console, Terminal, Absent, Printer, Disk, Unknown}
use Rattle.pm_units.specs.declared.transfers.Transfer.{Transfer}
use Rattle.pm_units.specs.Traps.{Pause, or_fails}
use Rattle.pm_units.specs.Transfers.{Moved, can_move, from_disk, from_queue, to_disk, unit_read, unit_written}
use Rattle.pm_stdproc.specs.declared.procedures.OnUnits.{OnUnits}
use Rattle.pm_stdproc.specs.declared.procedures.OnUnits.TheVariants as units
use Rattle.pm_stdproc.specs.declared.rows.Order.{Order}
use Rattle.pm_stdproc.specs.MemoryRows.{pop_place}
use Rattle.pm_stdproc.specs.UnitRows.{Served, after_transfer, busy_row, clear_row, ordered, read_row, time_row, units_row, wait_row, write_row}
use Rattle.pm_machine.specs.Written.{Stretch, place_on_stack, stretch, stretch_to, transfer_stretch, units_written}
use Rattle.law_engine.proofs.Bytes.{AreBytes, range_fits}
use Rattle.law_engine.proofs.StoreRows.{word_below}
use Rattle.law_engine.proofs.StoredWords.{popped}
use Rattle.law_engine.proofs.Stretches.{IfMade, Kept, all_kept, both_kept, bytes_kept, made, stored_kept}
use Rattle.law_engine.proofs.WrittenMemory.{place_is, word_pushed}

-- ---- bytes that the units have

-- All images of the disks consist of bytes, and the input queue consists of bytes.
pub record HoldsBytes (d : Devices) : Type 0 where
  pub disks : (k : ℕ) (image : List ℕ) → image_at d k ≡ Some image → AreBytes image
  pub queue : AreBytes d.queue

pub range_length : (bs : List ℕ) (a n : ℕ) → a + n ≤ length bs → length (slice_range bs a (a + n)) ≡ n
range_length bs a n room =
    let count : a + n - a ≡ n = omega arith in
    length-take-le (a + n - a) (drop a bs) (omega (arith, length-drop a bs, room)) ∙ count

-- ---- the words that a transfer writes

pub written_bytes : (m bs : List ℕ) (a n : ℕ) → IsMemory m → a + n ≤ 65536 → length bs ≡ n → AreBytes bs → Kept (stretch a n ∷ []) m (with_bytes m a bs)
written_bytes m bs a n memory room count bytes = bytes_kept m (with_bytes m a bs) a n (λ y far.
    byte_at-with_bytes_other m bs a y memory (omega (arith, count, room)) bytes (subst (λ k. (y < a) ⊎ (a + k ≤ y)) (sym count) far))

abbrev MovedKeeps : Transfer → List ℕ → Result Moved Pause → Type 0
MovedKeeps t m moved = IfMade (λ (u : Moved). Kept (stretch t.address t.count ∷ []) m u.memory) moved

queue_keeps : (echo : Bool) (t : Transfer) (m : List ℕ) (d : Devices) → IsMemory m → HoldsBytes d → t.address + t.count ≤ 65536
    → MovedKeeps t m (from_queue echo t m d)
queue_keeps echo t m d memory holds room = elim (cases_Bool (nat_lt (length d.queue) t.count)) [
  | inl e ↦ rw e tt
  | inr e ↦
      let many : t.count ≤ length d.queue = grind (arith, nat_tests, e) in
      rw e (written_bytes m (take t.count d.queue) t.address t.count memory room (length-take-le t.count d.queue many)
      (All-take (λ b. b < 256) t.count d.queue holds.queue))
]

disk_keeps : (image : Option (List ℕ)) (t : Transfer) (m : List ℕ) (d : Devices) → IsMemory m → ((bs : List ℕ) → image ≡ Some bs → AreBytes bs)
    → t.address + t.count ≤ 65536 → Kept (stretch t.address t.count ∷ []) m (from_disk image t m d).memory
disk_keeps None t m d memory holds room = all_kept (stretch t.address t.count ∷ []) m
disk_keeps (Some bs) t m d memory holds room = elim (cases_Bool (can_move bs t)) [
  | inl e ↦
      let parts = and_parts (nat_lt t.block 32768) (lies_on bs t.block t.count) e in
      let lies : 512 * t.block + t.count ≤ length bs = grind (arith, nat_tests, parts.1) in
      rw e (written_bytes m (bytes_from_block bs t.block t.count) t.address t.count memory room (range_length bs (512 * t.block) t.count lies)
      (range_fits bs (512 * t.block) (512 * t.block + t.count) (holds bs refl)))
  | inr e ↦ rw e (all_kept (stretch t.address t.count ∷ []) m)
]

read_keeps : (p : Port) (t : Transfer) (m : List ℕ) (d : Devices) → IsMemory m → HoldsBytes d → t.address + t.count ≤ 65536 → MovedKeeps t m (unit_read p t m d)
unfolding unit_read
read_keeps Unknown t m d memory holds room = all_kept (stretch t.address t.count ∷ []) m
read_keeps Absent t m d memory holds room = all_kept (stretch t.address t.count ∷ []) m
read_keeps Printer t m d memory holds room = all_kept (stretch t.address t.count ∷ []) m
read_keeps Console t m d memory holds room = queue_keeps true t m d memory holds room
read_keeps Terminal t m d memory holds room = queue_keeps false t m d memory holds room
read_keeps (Disk k) t m d memory holds room = disk_keeps (image_at d k) t m d memory (λ bs e. holds.disks k bs e) room

-- If an order is popped, then the bytes of its transfer end within memory.
pub order_lies : (m : List ℕ) (sp : ℕ) (o : Order) → ordered m sp ≡ Ok o → o.transfer.address + o.transfer.count ≤ 65536
unfolding ordered
order_lies m sp o h =
    let mode = bound (pop m sp) _ o h in
    let block = bound (pop m mode.0.above) _ o mode.2 in
    let count = bound (pop m block.0.above) _ o block.2 in
    let place = bound (pop_place m count.0.above) _ o count.2 in
    let unit = bound (pop m place.0.above) _ o place.2 in
    let lies = passed (lies_in_memory place.0.word count.0.word) InvalidMemory _ o unit.2 in
    let room : place.0.word + count.0.word ≤ 65536 = grind (arith, nat_tests, lies.0) in
    let same = ok_same _ o lies.1 in
    subst (λ (q : Order). q.transfer.address + q.transfer.count ≤ 65536) same room

-- If an order is popped, then the bytes of its transfer are those that the words on the stack name.
pub order_names : (m : List ℕ) (sp : ℕ) (o : Order) → ordered m sp ≡ Ok o → stretch o.transfer.address o.transfer.count ≡ transfer_stretch m sp
unfolding ordered
order_names m sp o h =
    let mode = bound (pop m sp) _ o h in
    let block = bound (pop m mode.0.above) _ o mode.2 in
    let count = bound (pop m block.0.above) _ o block.2 in
    let place = bound (pop_place m count.0.above) _ o count.2 in
    let unit = bound (pop m place.0.above) _ o place.2 in
    let lies = passed (lies_in_memory place.0.word count.0.word) InvalidMemory _ o unit.2 in
    let same = ok_same _ o lies.1 in
    let first = (popped m sp mode.0 mode.1).above in
    let second = (popped m mode.0.above block.0 block.1).above in
    let third = (popped m block.0.above count.0 count.1).above in
    let fourth : block.0.above ≡ sp + 4 = omega (arith, first, second) in
    let sixth : count.0.above ≡ sp + 6 = omega (arith, third, fourth) in
    let many : count.0.word ≡ word_at m (sp + 4) = (popped m block.0.above count.0 count.1).word ∙ ap (λ (a : ℕ). word_at m a) fourth in
    let there : place.0.word ≡ place_on_stack m (sp + 6) = place_is m count.0.above place.0 place.1 ∙ ap (λ (a : ℕ). place_on_stack m a) sixth in
    sym (ap (λ (q : Order). stretch q.transfer.address q.transfer.count) same)
    ∙ ap (λ (a : ℕ). stretch a count.0.word) there
    ∙ ap (λ (n : ℕ). stretch (place_on_stack m (sp + 6)) n) many

abbrev ServedKeeps : {E : Type 0} → List Stretch → List ℕ → Result Served E → Type 0
ServedKeeps ss m row = IfMade (λ (t : Served). Kept ss m t.memory) row

transfer_keeps : (s : Served) (z : Stretch) (order : Result Order ExecError) → IsMemory s.memory → HoldsBytes s.devices
    → ((o : Order) → order ≡ Ok o → o.transfer.address + o.transfer.count ≤ 65536)
    → ((o : Order) → order ≡ Ok o → stretch o.transfer.address o.transfer.count ≡ z)
    → ServedKeeps (z ∷ []) s.memory (or_fails order >>= λ o. (unit_read (unit_of o.unit) o.transfer s.memory s.devices >>= λ t.
    Ok (after_transfer s o.sp t)))
transfer_keeps s z (Ok o) memory holds lies names =
    of (unit_read (unit_of o.unit) o.transfer s.memory s.devices) (read_keeps (unit_of o.unit) o.transfer s.memory s.devices memory holds (lies o refl))
  where
    of : (moved : Result Moved Pause) → MovedKeeps o.transfer s.memory moved
        → ServedKeeps (z ∷ []) s.memory (moved >>= λ t. Ok (after_transfer s o.sp t))
    of (Ok t) h = subst (λ (y : Stretch). Kept (y ∷ []) s.memory t.memory) (names o refl) h
    of (Err e) h = tt
transfer_keeps s z (Err e) memory holds lies names = tt

failing : (ss : List Stretch) (m : List ℕ) (row : Result Served ExecError) → ServedKeeps ss m row → ServedKeeps ss m (or_fails row)
failing ss m (Ok x) h = h
failing ss m (Err e) h = tt

time_keeps : (s : Served)
    → ServedKeeps (stretch (word_at s.memory (s.registers.sp + 2)) 2 ∷ stretch (word_at s.memory s.registers.sp) 2 ∷ []) s.memory (time_row s)
unfolding time_row
time_keeps s =
    let m = s.memory in
    let ss = stretch (word_at m (s.registers.sp + 2)) 2 ∷ stretch (word_at m s.registers.sp) 2 ∷ [] in
    let P = λ (t : Served). Kept ss m t.memory in
    made P (pop m s.registers.sp) _ (λ b h. made P (pop m b.above) _ (λ a k. made P (demand (is_even a.word && is_even b.word) InvalidMemory) _ (λ u l.
    let upper = (popped m s.registers.sp b h).word in
    let lower = (word_below m s.registers.sp b a h k).0 in
    let high = with_word m a.word (s.devices.clock / 65536) in
    let both = with_word high b.word (s.devices.clock % 65536) in
    both_kept (stretch (word_at m (s.registers.sp + 2)) 2) (stretch (word_at m s.registers.sp) 2 ∷ []) m high both
    (subst (λ i. Kept (stretch i 2 ∷ []) m high) lower (stored_kept m a.word (s.devices.clock / 65536)))
    (subst (λ i. Kept (stretch i 2 ∷ []) high both) upper (stored_kept high b.word (s.devices.clock % 65536))))))

-- Writing to a disk changes no word of memory.
to_disk_keeps : (k : ℕ) (image : Option (List ℕ)) (t : Transfer) (m : List ℕ) (d : Devices) → Kept [] m (to_disk k image t m d).memory
to_disk_keeps k None t m d = all_kept [] m
to_disk_keeps k (Some bs) t m d = elim (cases_Bool (can_move bs t)) [ inl e ↦ rw e (all_kept [] m) | inr e ↦ rw e (all_kept [] m) ]

write_keeps : (p : Port) (t : Transfer) (m : List ℕ) (d : Devices) → Kept [] m (unit_written p t m d).memory
unfolding unit_written
write_keeps Unknown t m d = all_kept [] m
write_keeps Absent t m d = all_kept [] m
write_keeps Printer t m d = all_kept [] m
write_keeps Console t m d = all_kept [] m
write_keeps Terminal t m d = all_kept [] m
write_keeps (Disk k) t m d = to_disk_keeps k (image_at d k) t m d

pub units_keep : (o : OnUnits) (s : Served) → IsMemory s.memory → HoldsBytes s.devices
    → ServedKeeps (units_written o s.memory s.registers.sp) s.memory (units_row o s)
unfolding units_row read_row write_row busy_row wait_row clear_row
units_keep units.Read s memory holds = transfer_keeps s (transfer_stretch s.memory s.registers.sp) (ordered s.memory s.registers.sp) memory holds
    (order_lies s.memory s.registers.sp) (order_names s.memory s.registers.sp)
units_keep units.Write s memory holds = made (λ (t : Served). Kept [] s.memory t.memory) (or_fails (ordered s.memory s.registers.sp)) _ (λ o h.
    write_keeps (unit_of o.unit) o.transfer s.memory s.devices)
units_keep units.Time s memory holds = failing
    (stretch (word_at s.memory (s.registers.sp + 2)) 2 ∷ stretch (word_at s.memory s.registers.sp) 2 ∷ []) s.memory (time_row s) (time_keeps s)
units_keep units.Busy s memory holds =
    let ss = stretch_to (s.registers.sp + 2 * 1) (2 * 1) ∷ [] in
    let P = λ (t : Served). Kept ss s.memory t.memory in
    failing ss s.memory _ (made P (pop s.memory s.registers.sp) _ (λ unit h. made P (push s.memory unit.above s.registers.np 0) _ (λ t q.
    let up = (popped s.memory s.registers.sp unit h).above in
    word_pushed s.memory unit.above s.registers.np 0 (s.registers.sp + 2 * 1) t (omega (arith, up)) q)))
units_keep units.Wait s memory holds = failing [] s.memory _ (made (λ (t : Served). Kept [] s.memory t.memory) (pop s.memory s.registers.sp) _ (λ unit h.
    all_kept [] s.memory))
units_keep units.Clear s memory holds = failing [] s.memory _ (made (λ (t : Served). Kept [] s.memory t.memory) (pop s.memory s.registers.sp) _ (λ unit h.
    all_kept [] s.memory))
