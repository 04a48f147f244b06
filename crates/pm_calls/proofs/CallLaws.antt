-- Laws that compute the result of a call from the results of its steps.
use Rattle.std.proofs.Common.{◌≡◌, ◌<◌, ◌≤◌, ◌+◌, ◌-◌, ℕ, List, length, true, Ok, Err, Some, refl, arith}
use Rattle.std.specs.Prelude.{nat_lt, nat_le, slice_set}
use Rattle.std.proofs.lemmas.Bool.Decides.{nat_tests}
use Rattle.pm_words.specs.Words.{with_bytes}
use Rattle.pm_words.specs.Stack.{minus}
use Rattle.pm_calls.specs.Places.{Parts}
use Rattle.pm_calls.specs.Calls.{called_at, called_loading, reach_loading}
use Rattle.pm_words.specs.declared.error.ExecError.{ExecError}
use Rattle.pm_families.specs.declared.families.Call.{Call}
use Rattle.pm_calls.specs.declared.registers.Registers.{Registers}
use Rattle.pm_calls.specs.declared.frames.Table.{Table}
use Rattle.pm_calls.specs.Tables.{attributes}
use Rattle.pm_calls.specs.Links.{static_link}
use Rattle.pm_calls.specs.Calls.{entered, framed, is_base, procedure_called}

pub entered-no_table : (m : List ℕ) (s p loaded : ℕ) (r : Registers) (call : Call) (e : ExecError) → p ≡ procedure_called call → Err e ≡ attributes m s p
    → entered m s loaded r call ≡ Err e
unfolding entered
entered-no_table m s p loaded r call e is h = rw (← is, ← h) refl

pub entered-no_link : (m : List ℕ) (s p loaded : ℕ) (r : Registers) (call : Call) (t : Table) (e : ExecError) → p ≡ procedure_called call
    → Ok t ≡ attributes m s p → Err e ≡ static_link call m r t.level → entered m s loaded r call ≡ Err e
unfolding entered
entered-no_link m s p loaded r call t e is h l = rw (← is, ← h, ← l) refl

pub entered-framed : (m : List ℕ) (s p loaded : ℕ) (r : Registers) (call : Call) (t : Table) (link : ℕ) → p ≡ procedure_called call → Ok t ≡ attributes m s p
    → Ok link ≡ static_link call m r t.level → entered m s loaded r call ≡ framed m s loaded r (is_base call t.level) t link
unfolding entered
entered-framed m s p loaded r call t link is h l = rw (← is, ← h, ← l) refl

-- If the code fits, and entering the procedure in the memory with this code succeeds, then the call that loads the code
-- succeeds.
pub called_loading-entered : (c : Parts) (call : Call) (n : ℕ) (code m : List ℕ) (r : Registers) → 0 < length code
    → c.registers.np + length code ≤ c.registers.sp → entered (with_bytes c.memory (c.registers.sp - length code) code) (minus c.registers.sp 2)
    (length code) c.registers call ≡ Ok (m, r) → called_loading c call n code
    ≡ Ok (record { memory = m; registers = r; places = slice_set c.places n (Some (record { place = minus c.registers.sp 2; count = 1; keeps = 0 })) })
unfolding called_loading reach_loading called_at
called_loading-entered c call n code m r some room h =
    let first : nat_lt 0 (length code) ≡ true = grind (arith, nat_tests) in
    let second : nat_le (c.registers.np + length code) c.registers.sp ≡ true = grind (arith, nat_tests) in
    rw (first, second, h) refl

pub called_loading-refused : (c : Parts) (call : Call) (n : ℕ) (code : List ℕ) (e : ExecError) → 0 < length code
    → c.registers.np + length code ≤ c.registers.sp → entered (with_bytes c.memory (c.registers.sp - length code) code) (minus c.registers.sp 2)
    (length code) c.registers call ≡ Err e → called_loading c call n code ≡ Err e
unfolding called_loading reach_loading called_at
called_loading-refused c call n code e some room h =
    let first : nat_lt 0 (length code) ≡ true = grind (arith, nat_tests) in
    let second : nat_le (c.registers.np + length code) c.registers.sp ≡ true = grind (arith, nat_tests) in
    rw (first, second, h) refl
