-- Lemmas: EXIT and procedure 21 write only words that share a byte with the ranges that `pm_machine` defines for them.
use Rattle.std.proofs.Common.{◌≡◌, ◌≢◌, ◌<◌, ◌≤◌, inl, inr, ℕ, zero, suc, ◌+◌, ◌-◌, ◌*◌, ◌==◌, ◌||◌, Bool, false}
use Rattle.std.proofs.Common.{nat_lt, is_none, List, [], ◌∷◌, length, Option, Some, None, Result, Ok, Err, refl, sym, ap, ◌∙◌}
use Rattle.std.proofs.Common.{subst, arith}
use Rattle.std.specs.Prelude.{slice_get}
use Rattle.std.specs.List.{list_any}
use Rattle.std.proofs.lemmas.Bool.{cases_Bool, cases_lt, or_parts}
use Rattle.pm_words.specs.declared.error.ExecError.{ExecError}
use Rattle.pm_words.specs.declared.error.ExecError.TheVariants.{StackOverflow}
use Rattle.pm_words.specs.declared.stack.Popped.{Popped}
use Rattle.pm_words.specs.Words.{IsMemory, word_at}
use Rattle.pm_words.specs.Stack.{◌>>=◌, demand, pop}
use Rattle.pm_calls.specs.declared.exits.Wanted.{Wanted}
use Rattle.pm_calls.specs.declared.frames.SegmentPlace.{SegmentPlace}
use Rattle.pm_calls.specs.Places.{Parts, placed}
use Rattle.pm_calls.specs.Calls.{code_fits}
use Rattle.pm_calls.specs.Exits.{exited}
use Rattle.pm_calls.specs.Keeps.{keep_loading, keep_slot, keep_standing, segment_kept, segment_unkept, unkeep_slot, unkeep_standing}
use Rattle.pm_calls.specs.Laws.{IsCode}
use Rattle.pm_calls.proofs.ReturnLaws.{has_room, ok_same}
use Rattle.pm_units.specs.Devices.{Devices, code_in, code_on, image_on, lies_on, unit_of}
use Rattle.pm_units.specs.declared.ports.Port.{Port}
use Rattle.pm_units.specs.declared.ports.Port.TheVariants.{Console, Terminal, Absent, Printer, Disk, Unknown}
use Rattle.pm_stdproc.specs.declared.loads.SlotRow.{SlotRow}
use Rattle.pm_stdproc.specs.Loads.{code_of_row, found_code, length_of, slot_code}
use Rattle.pm_stdproc.specs.Procedures.{Reach, exit_row, keep_row, reach_parts, unkeep_row}
use Rattle.pm_machine.specs.Written.{Stretch, frames_written, ip_kept, ips_written, kept_written, left_by_exit, stretch, stretch_to, touches}
use Rattle.pm_machine.specs.Written.{wanted_at}
use Rattle.law_engine.proofs.Bytes.{AreBytes, range_fits}
use Rattle.law_engine.proofs.ExitLaws.{exit_changes_saved_ips_alone}
use Rattle.law_engine.proofs.StoreRows.{word_below}
use Rattle.law_engine.proofs.StoredWords.{popped}
use Rattle.law_engine.proofs.Stretches.{IfMade, Kept, IsAway, all_kept, away, kept_to, made}
use Rattle.law_engine.proofs.WrittenUnits.{HoldsBytes, written_bytes}

-- ---- EXIT

-- If the word at `x` touches no word in which one of the `n` frames saves IPC, then `x` is not the address of such a
-- word.
ips_apart : (m : List ℕ) (a n x : ℕ) → list_any (touches x 2) (ips_written m a n) ≡ false → (i : ℕ) → i < n → x ≢ ip_kept m a i
unfolding ips_written
ips_apart m a zero x none i l = absurd (omega (arith, l))
ips_apart m a (suc n) x none i l =
    let parts = or_parts (touches x 2 (stretch (ip_kept m a n) 2)) (list_any (touches x 2) (ips_written m a n)) none in
    elim (cases_lt i n) [
      | inl less ↦ ips_apart m a n x parts.1 i less
      | inr more ↦ let same : i ≡ n = omega (arith, l, more) in
          rw same (differs (away x (ip_kept m a n) 2 (alone (touches x 2 (stretch (ip_kept m a n) 2)) parts.0)))
    ]
  where
    alone : (b : Bool) → b ≡ false → (b || false) ≡ false
    alone b h = rw h refl

    differs : IsAway x (ip_kept m a n) 2 → x ≢ ip_kept m a n
    differs (inl none) = λ e. omega (arith, none)
    differs (inr (inl low)) = λ e. omega (arith, low, e)
    differs (inr (inr high)) = λ e. omega (arith, high, e)

exited_keeps : (c : Parts) (p : Wanted) → IsMemory c.memory
    → IfMade (λ (d : Parts). Kept (frames_written c.memory c.registers.mp (left_by_exit c p)) c.memory d.memory) (exited c p)
exited_keeps c p memory = of (exited c p) refl
  where
    of : (d : Result Parts ExecError) → exited c p ≡ d
        → IfMade (λ (d : Parts). Kept (frames_written c.memory c.registers.mp (left_by_exit c p)) c.memory d.memory) d
    of (Ok d) h =
        let is = exit_changes_saved_ips_alone c d p memory h in
        subst (λ r. Kept (frames_written c.memory c.registers.mp r) c.memory d.memory) (sym is.frames) (λ x even none.
        is.rest x even (λ i l. ips_apart c.memory c.registers.mp is.count x none i l))
    of (Err e) h = tt

-- If `P` holds for each success of `r`, and `r` succeeds with `x`, then `P` holds for `x`.
of_ok : {A : Type 0} (P : A → Type 0) (r : Result A ExecError) (x : A) → IfMade P r → r ≡ Ok x → P x
of_ok P (Ok y) x h e = subst P (ok_same y x e) h
of_ok P (Err f) x h e = cc

-- Returns the range of the code that ends at the address `sp`, or no range if no code is given.
abbrev code_stretches : ℕ → Option (List ℕ) → List Stretch
code_stretches sp None = []
code_stretches sp (Some code) = stretch_to sp (length code) ∷ []

abbrev ReachKeeps : List Stretch → List ℕ → Result Reach ExecError → Type 0
ReachKeeps ss m row = IfMade (λ (t : Reach). Kept ss m t.memory) row

pub exit_keeps : (s : Reach) → IsMemory s.memory
    → ReachKeeps (frames_written s.memory s.registers.mp (left_by_exit (reach_parts s s.registers) (wanted_at s.memory s.registers.sp))) s.memory (exit_row s)
unfolding exit_row
exit_keeps s memory =
    let m = s.memory in
    let sp = s.registers.sp in
    let ss = frames_written m s.registers.mp (left_by_exit (reach_parts s s.registers) (wanted_at m sp)) in
    let P = λ (t : Reach). Kept ss m t.memory in
    made P (pop m sp) _ (λ p h. made P (pop m p.above) _ (λ n k.
    let c : Parts = reach_parts s (record s.registers { sp = n.above }) in
    let w : Wanted = record { segment = n.word; procedure = p.word } in
    let named : w ≡ wanted_at m sp =
    ap (λ (i : ℕ). record { segment = i; procedure = p.word }) (word_below m sp p n h k).0
    ∙ ap (λ (i : ℕ). record { segment = word_at m (sp + 2); procedure = i }) (popped m sp p h).word in
    made P (exited c w) _ (λ d l.
    subst (λ (q : Wanted). Kept (frames_written m s.registers.mp (left_by_exit c q)) m d.memory) named
    (of_ok (λ (d : Parts). Kept (frames_written m s.registers.mp (left_by_exit c w)) m d.memory) (exited c w) d (exited_keeps c w memory) l))))

-- ---- procedure 21

keeps_loading : (c : Parts) (n : ℕ) (code : List ℕ) → IsMemory c.memory → AreBytes code → c.registers.sp ≤ 65504
    → IfMade (λ (d : Parts). Kept (stretch_to c.registers.sp (length code) ∷ []) c.memory d.memory) (keep_loading c n code)
unfolding keep_loading
keeps_loading c n code memory bytes low =
    made (λ (d : Parts). Kept (stretch_to c.registers.sp (length code) ∷ []) c.memory d.memory) (code_fits c.registers code) _ (λ u h.
    let has = has_room c.registers code (Ok u) u (ap (λ r. r >>= λ v. Ok u) h) in
    let room = has.room in
    kept_to c.registers.sp (length code) c.memory _ (omega (arith, room))
    (written_bytes c.memory code (c.registers.sp - length code) (length code) memory (omega (arith, room, low)) refl bytes))

keeps_slot : (c : Parts) (n : ℕ) (code : Option (List ℕ)) (slot : Option (Option SegmentPlace)) → IsMemory c.memory → IsCode code → c.registers.sp ≤ 65504
    → IfMade (λ (d : Parts). Kept (code_stretches c.registers.sp code) c.memory d.memory) (keep_slot c n code slot)
unfolding keep_standing
keeps_slot c n code None memory bytes low = tt
keeps_slot c n code (Some (Some p)) memory bytes low =
    made (λ (d : Parts). Kept (code_stretches c.registers.sp code) c.memory d.memory) (demand (nat_lt p.keeps 65535) StackOverflow) _ (λ u h.
    all_kept (code_stretches c.registers.sp code) c.memory)
keeps_slot c n None (Some None) memory bytes low = tt
keeps_slot c n (Some code) (Some None) memory bytes low = keeps_loading c n code memory bytes low

-- If an image consists of bytes, then the code of a slot in this image consists of bytes.
on_image : (image : Option (List ℕ)) (block n : ℕ) → ((bs : List ℕ) → image ≡ Some bs → AreBytes bs) → IsCode (code_in image block n)
on_image None block n holds = tt
on_image (Some bs) block n holds = elim (cases_Bool (lies_on bs block n)) [
  | inl e ↦ rw e (range_fits bs (512 * block) (512 * block + n) (holds bs refl))
  | inr e ↦ rw e tt
]

on_port : (p : Port) (d : Devices) (bs : List ℕ) → HoldsBytes d → image_on p d ≡ Some bs → AreBytes bs
on_port (Disk k) d bs holds h = holds.disks k bs h
on_port Console d bs holds h = cc
on_port Terminal d bs holds h = cc
on_port Absent d bs holds h = cc
on_port Printer d bs holds h = cc
on_port Unknown d bs holds h = cc

on_unit : (d : Devices) (unit block n : ℕ) → HoldsBytes d → IsCode (code_on d unit block n)
unfolding code_on
on_unit d unit block n holds = on_image (image_on (unit_of unit) d) block n (λ bs h. on_port (unit_of unit) d bs holds h)

abbrev CodeMade : Result (Option (List ℕ)) ExecError → Type 0
CodeMade r = IfMade IsCode r

of_row : (row : Option SlotRow) (d : Devices) → HoldsBytes d → CodeMade (code_of_row row d)
of_row None d holds = tt
of_row (Some row) d holds = elim (cases_Bool (row.length == 0)) [
  | inl e ↦ rw e tt
  | inr e ↦ rw e (found (code_on d row.unit row.block row.length) (on_unit d row.unit row.block row.length holds))
]
  where
    found : (code : Option (List ℕ)) → IsCode code → CodeMade (found_code code)
    found None bytes = tt
    found (Some code) bytes = bytes

pub slot_code_fits : (n : ℕ) (places : List (Option SegmentPlace)) (rows : List SlotRow) (d : Devices) → HoldsBytes d → CodeMade (slot_code n places rows d)
slot_code_fits n places rows d holds = elim (cases_Bool (is_none (placed places n))) [
  | inl e ↦ rw e (of_row (slice_get rows n) d holds)
  | inr e ↦ rw e tt
]

pub keep_keeps : (s : Reach) → IsMemory s.memory → HoldsBytes s.devices
    → ReachKeeps (kept_written s.registers.sp (slot_code (word_at s.memory s.registers.sp) s.places s.rows s.devices)) s.memory (keep_row s)
unfolding keep_row segment_kept
keep_keeps s memory holds =
    let m = s.memory in
    let sp = s.registers.sp in
    let ss = kept_written sp (slot_code (word_at m sp) s.places s.rows s.devices) in
    let P = λ (t : Reach). Kept ss m t.memory in
    made P (pop m sp) _ (λ n h. made P (slot_code n.word s.places s.rows s.devices) _ (λ code k.
    let c : Parts = reach_parts s (record s.registers { sp = n.above }) in
    let up = (popped m sp n h).above in
    let room = (popped m sp n h).room in
    let is : slot_code (word_at m sp) s.places s.rows s.devices ≡ Ok code =
    sym (ap (λ i. slot_code i s.places s.rows s.devices) (popped m sp n h).word) ∙ k in
    let bytes = of_ok IsCode (slot_code n.word s.places s.rows s.devices) code (slot_code_fits n.word s.places s.rows s.devices holds) k in
    made P (keep_slot c n.word code (slice_get s.places n.word)) _ (λ d l.
    subst (λ r. Kept (kept_written sp r) m d.memory) (sym is)
    (named sp n.above code m d.memory up
    (of_ok (λ (d : Parts). Kept (code_stretches n.above code) m d.memory) (keep_slot c n.word code (slice_get s.places n.word)) d
    (keeps_slot c n.word code (slice_get s.places n.word) memory bytes (omega (arith, up, room))) l)))))
  where
    named : (sp above : ℕ) (code : Option (List ℕ)) (m n : List ℕ) → above ≡ sp + 2 → Kept (code_stretches above code) m n
        → Kept (kept_written sp (Ok code)) m n
    named sp above None m n up h = h
    named sp above (Some code) m n up h = subst (λ a. Kept (stretch_to a (length code) ∷ []) m n) up h

pub unkeep_keeps : (s : Reach) → ReachKeeps [] s.memory (unkeep_row s)
unfolding unkeep_row segment_unkept unkeep_standing
unkeep_keeps s =
    let P = λ (t : Reach). Kept [] s.memory t.memory in
    made P (pop s.memory s.registers.sp) _ (λ n h.
    of s n (length_of (slice_get s.rows n.word)) (slice_get s.places n.word))
  where
    of : (s : Reach) (n : Popped) (size : ℕ) (slot : Option (Option SegmentPlace))
        → ReachKeeps [] s.memory (unkeep_slot (reach_parts s (record s.registers { sp = n.above })) n.word size slot >>= λ p.
        Ok (record s { memory = p.memory; registers = p.registers; places = p.places }))
    of s n size None = tt
    of s n size (Some None) = tt
    of s n size (Some (Some p)) = elim (cases_Bool (nat_lt 0 p.keeps)) [ inl e ↦ rw e (all_kept [] s.memory) | inr e ↦ rw e tt ]
