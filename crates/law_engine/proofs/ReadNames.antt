-- Lemmas: if a call, a return or EXIT succeeds, then it writes the same ranges of bytes in two memories that agree on
-- the bytes that are read.
use Rattle.std.proofs.Common.{◌≡◌, ◌<◌, ◌≤◌, ℕ, zero, suc, ◌+◌, ◌*◌, ◌%◌, ◌&&◌, Bool, true, false, nat_le, add-one}
use Rattle.std.proofs.Common.{List, [], ◌∷◌, ◌++◌, Option, Some, None, Result, Ok, Err, refl, sym, ap, ◌∙◌, subst, arith}
use Rattle.std.specs.Prelude.{if◌then◌else◌}
use Rattle.std.proofs.lemmas.Bool.{and_parts}
use Rattle.std.proofs.lemmas.Bool.Decides.{nat_tests}
use Rattle.pm_words.specs.declared.error.ExecError.{ExecError}
use Rattle.pm_words.specs.declared.error.ExecError.TheVariants.{InvalidMemory}
use Rattle.pm_words.specs.Words.{IsMemory, word_at}
use Rattle.pm_words.specs.Stack.{◌>>=◌, is_even, minus, pop}
use Rattle.pm_families.specs.declared.families.Call.{Call}
use Rattle.pm_calls.specs.declared.exits.Wanted.{Wanted}
use Rattle.pm_calls.specs.declared.frames.SegmentPlace.{SegmentPlace}
use Rattle.pm_calls.specs.declared.frames.Table.{Table}
use Rattle.pm_calls.specs.Calls.{Reached, called_at, called_loading, called_slot, called_standing, entered, procedure_called, reach_loading, reach_standing}
use Rattle.pm_calls.specs.Exits.{exited, frame_up, is_wanted, last_frame, least_below, met, walked, walked_unless}
use Rattle.pm_calls.specs.Laws.{IsCode}
use Rattle.pm_calls.specs.Places.{Parts}
use Rattle.pm_calls.specs.Returns.{returned}
use Rattle.pm_calls.specs.Tables.{attributes}
use Rattle.pm_calls.proofs.ReturnLaws.{bound, passed}
use Rattle.pm_calls.proofs.WalkLaws.{least_is, stops, stops-not}
use Rattle.pm_stdproc.specs.Procedures.{Reach, exit_row, reach_parts}
use Rattle.pm_machine.specs.Written.{frame_written, frames_left, frames_written, ips_written, left_by_exit, reached_written, return_written}
use Rattle.pm_machine.specs.Written.{slot_reached, stretch, stretch_to, wanted_at}
use Rattle.pm_machine.specs.ReadStretches.{asked_read, entry_words, exit_read, frames_left_read, frames_read, reached_read, return_read, table_read}
use Rattle.law_engine.proofs.ExitLaws.{last_is_walk}
use Rattle.law_engine.proofs.StoreRows.{word_below}
use Rattle.law_engine.proofs.StoredWords.{popped}
use Rattle.law_engine.proofs.ReadSteps.{Agree, Both, Same, first_same, left_agree, rest_agree, word_same}
use Rattle.law_engine.proofs.ReadCalls.{ReachedAlike, TableSame, attributes_alike, loading_alike, parts_in, standing_alike, still_agree}
use Rattle.law_engine.proofs.ReadExits.{IsMet, asked_same, frame_same, met_same, walk_below, walk_met}
use Rattle.law_engine.proofs.ReadWritten.{above_top, at_top}

-- ---- returns

pub return_names : (c : Parts) (d : Parts) (n : List ℕ) (k : ℕ) (base : Bool) → returned c k base ≡ Ok d
    → Agree (return_read k base c.registers.mp) c.memory n → return_written k n c.registers.mp ≡ return_written k c.memory c.registers.mp
unfolding returned
return_names c d n k base h agree =
    let m = c.memory in
    let f = c.registers.mp in
    let old = if base then stretch (minus f 2) 2 ∷ [] else [] in
    let control = first_same (f + 2) 10 (stretch (f + 12) (2 * k) ∷ old) m n agree in
    let first = passed (is_even f && nat_le (f + 12 + 2 * k) 65536) InvalidMemory _ d h in
    let parts = and_parts (is_even f) (nat_le (f + 12 + 2 * k) 65536) first.0 in
    let even : f % 2 ≡ 0 = grind (arith, nat_tests, parts.0) in
    rw (word_same m n (f + 2) 10 (f + 10) control (omega (arith, even)) (omega arith) (omega arith)) refl

-- ---- calls

same_frame : (call : Call) (loaded sp : ℕ) (r u : Result Table ExecError) (t : Table) → r ≡ Ok t → Both TableSame r u
    → frame_written call loaded sp u ≡ frame_written call loaded sp r
same_frame call loaded sp (Ok v) u t e h = rw (h.made, h.like.same) refl
same_frame call loaded sp (Err x) u t e h = cc

pub reached_names : (c q : Parts) (n : List ℕ) (call : Call) (r u : Result Reached ExecError) → Both (ReachedAlike c.memory n) r u
    → Agree (reached_read call c.registers r) c.memory n → (r >>= called_at c call) ≡ Ok q
    → reached_written call c.registers.sp u ≡ reached_written call c.registers.sp r
unfolding called_at entered
reached_names c q n call (Err e) u h agree goes = cc
reached_names c q n call (Ok d) u h agree goes =
    let p = procedure_called call in
    let inner = bound (entered d.memory d.place d.loaded c.registers call) _ q goes in
    let found = bound (attributes d.memory d.place p) _ inner.0 inner.1 in
    let whole = still_agree (reached_read call c.registers (Ok d)) c.memory d.memory n h.like.memory h.like.alike agree in
    let tables = attributes_alike d.memory h.like.memory d.place p
    (left_agree (table_read d.memory d.place p) (entry_words call d.memory c.registers (attributes d.memory d.place p)) d.memory h.like.memory whole) in
    rw (h.made, h.like.same) (ap (λ ss. stretch_to c.registers.sp d.loaded ∷ ss)
    (same_frame call d.loaded c.registers.sp (attributes d.memory d.place p) (attributes h.like.memory d.place p) found.0 found.1 tables))

pub slot_names : (c q : Parts) (n : List ℕ) (call : Call) (k : ℕ) (code : Option (List ℕ)) (slot : Option (Option SegmentPlace)) → IsMemory c.memory
    → IsMemory n → c.registers.sp ≤ 65504 → IsCode code
    → Agree (reached_read call c.registers (slot_reached k c slot (Ok code))) c.memory n → called_slot c call k code slot ≡ Ok q
    → reached_written call c.registers.sp (slot_reached k (parts_in c n) slot (Ok code)) ≡ reached_written call c.registers.sp (slot_reached k c slot (Ok code))
unfolding called_standing called_loading
slot_names c q n call k code None memory other top bytes agree goes = refl
slot_names c q n call k code (Some (Some p)) memory other top bytes agree goes =
    reached_names c q n call (reach_standing c k p) (reach_standing (parts_in c n) k p) (standing_alike c n k p memory other) agree goes
slot_names c q n call k None (Some None) memory other top bytes agree goes = refl
slot_names c q n call k (Some code) (Some None) memory other top bytes agree goes =
    reached_names c q n call (reach_loading c k code) (reach_loading (parts_in c n) k code) (loading_alike c n k code memory other top bytes) agree goes

-- ---- EXIT

last_same : (m n : List ℕ) (p : Wanted) (a k : ℕ) → last_frame m p a ≡ Ok k → IsMet m n a (suc k) → last_frame n p a ≡ Ok k
unfolding last_frame
last_same m n p a k h is =
    let walk = last_is_walk m p a k h in
    let before : (i : ℕ) → i < k → met n p (frame_up n a i) ≡ Ok false = λ i l. there i (omega (arith, l)) false (walk.before i l) in
    let last = there k (omega arith) true walk.there in
    let stop : stops n p a k ≡ true = rw last refl in
    let found : least_below (stops n p a) 32768 ≡ Some k = least_is (stops n p a) k 32768 (walk_below m p a k h) (stops-not n p a k before) stop in
    rw (found, last) refl
  where
    there : (i : ℕ) → i < suc k → (b : Bool) → met m p (frame_up m a i) ≡ Ok b → met n p (frame_up n a i) ≡ Ok b
    there i l b e = rw (frame_same i m n a (suc k) (omega (arith, l)) is) (met_same m n p (frame_up m a i) (is.left i l) ∙ e)

ips_same : (i : ℕ) (m n : List ℕ) (a k : ℕ) → i ≤ k → IsMet m n a k → ips_written n a i ≡ ips_written m a i
unfolding ips_written
ips_same zero m n a k l is = refl
ips_same (suc i) m n a k l is = rw (frame_same i m n a k (omega (arith, l)) is, ips_same i m n a k (omega (arith, l)) is) refl

walk_names : (m n w : List ℕ) (p : Wanted) (a : ℕ) (here : Bool) → walked_unless here m p a ≡ Ok w
    → Agree (frames_left_read m a (frames_left here m p a)) m n → frames_written n a (frames_left here n p a) ≡ frames_written m a (frames_left here m p a)
unfolding walked ips_written
walk_names m n w p a true h agree = refl
walk_names m n w p a false h agree =
    let last = bound (last_frame m p a) _ w h in
    let k = last.0 in
    let more : Agree (frames_read m a (suc k)) m n = subst (λ i. Agree (frames_read m a i) m n) (add-one k)
    (subst (λ r. Agree (frames_left_read m a (r >>= λ i. Ok (i + 1))) m n) last.1 agree) in
    let is = walk_met m n p a k last.1 more in
    rw (last.1, last_same m n p a k last.1 is) (ips_same (k + 1) m n a (suc k) (omega arith) is)

pub exited_names : (c d : Parts) (n : List ℕ) (p : Wanted) → exited c p ≡ Ok d
    → Agree (exit_read c.registers.jtab ∷ (asked_read c.registers.seg c.registers.jtab
    ++ frames_left_read c.memory c.registers.mp (left_by_exit c p))) c.memory n
    → frames_written n c.registers.mp (left_by_exit (parts_in c n) p) ≡ frames_written c.memory c.registers.mp (left_by_exit c p)
unfolding exited
exited_names c d n p h agree =
    let m = c.memory in
    let s = c.registers.seg in
    let j = c.registers.jtab in
    let a = c.registers.mp in
    let frames = frames_left_read m a (left_by_exit c p) in
    let rest1 = rest_agree (stretch (minus j 4) 2) (stretch s 2 ∷ stretch j 2 ∷ frames) m n agree in
    let rest2 = rest_agree (stretch s 2) (stretch j 2 ∷ frames) m n rest1 in
    let rest3 = rest_agree (stretch j 2) frames m n rest2 in
    let here = bound (is_wanted m p s j) _ d h in
    let walk = bound (walked_unless here.0 m p a) _ d here.2 in
    let same = asked_same m n p s j (first_same s 2 (stretch j 2 ∷ frames) m n rest1) (first_same j 2 frames m n rest2) in
    rw (same, here.1) (walk_names m n walk.0 p a here.0 walk.1
    (subst (λ r. Agree (frames_left_read m a r) m n) (ap (λ r. r >>= λ b. frames_left b m p a) here.1) rest3))

pub exit_names : (c t : Reach) (n : List ℕ) → exit_row c ≡ Ok t → c.registers.sp % 2 ≡ 0 → Same c.memory n c.registers.sp 4
    → Agree (exit_read c.registers.jtab ∷ (asked_read c.registers.seg c.registers.jtab
    ++ frames_left_read c.memory c.registers.mp (left_by_exit (reach_parts c c.registers) (wanted_at c.memory c.registers.sp)))) c.memory n
    → frames_written n c.registers.mp (left_by_exit (parts_in (reach_parts c c.registers) n) (wanted_at n c.registers.sp))
    ≡ frames_written c.memory c.registers.mp (left_by_exit (reach_parts c c.registers) (wanted_at c.memory c.registers.sp))
unfolding exit_row
exit_names c t n h even same agree =
    let m = c.memory in
    let sp = c.registers.sp in
    let p = bound (pop m sp) _ t h in
    let g = bound (pop m p.0.above) _ t p.2 in
    let w : Wanted = record { segment = g.0.word; procedure = p.0.word } in
    let d = bound (exited (reach_parts c (record c.registers { sp = g.0.above })) w) _ t g.2 in
    let named : wanted_at m sp ≡ w =
    ap (λ (i : ℕ). record { segment = word_at m (sp + 2); procedure = i }) (sym (popped m sp p.0 p.1).word)
    ∙ ap (λ (i : ℕ). record { segment = i; procedure = p.0.word }) (sym (word_below m sp p.0 g.0 p.1 g.1).0) in
    let old : wanted_at n sp ≡ wanted_at m sp =
    ap (λ (i : ℕ). record { segment = word_at n (sp + 2); procedure = i }) (at_top m n sp 4 same even (omega arith))
    ∙ ap (λ (i : ℕ). record { segment = i; procedure = word_at m sp }) (above_top m n sp 4 2 same even refl (omega arith)) in
    let c0 : Parts = reach_parts c c.registers in
    let mp = c.registers.mp in
    let first = exited_names (reach_parts c (record c.registers { sp = g.0.above })) d.0 n w d.1
    (subst (λ (q : Wanted). Agree (exit_read c.registers.jtab ∷ (asked_read c.registers.seg c.registers.jtab
    ++ frames_left_read m c.registers.mp (left_by_exit (reach_parts c c.registers) q))) m n) named agree) in
    subst (λ (q : Wanted). frames_written n mp (left_by_exit (parts_in c0 n) q) ≡ frames_written m mp (left_by_exit c0 (wanted_at m sp))) (sym (old ∙ named))
    (subst (λ (q : Wanted). frames_written n mp (left_by_exit (parts_in c0 n) w) ≡ frames_written m mp (left_by_exit c0 q)) (sym named) first)
