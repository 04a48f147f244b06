use Rattle.std.proofs.Common.{◌≡◌, ◌<◌, ◌≤◌, ◌+◌, ◌-◌, ◌∙◌, ℕ, List, arith, drop, length, refl, rules}
use Rattle.std.specs.Prelude.{take}
use Rattle.std.specs.List.{All}
use Rattle.std.proofs.lemmas.List.{length-set}
use Rattle.std.proofs.lemmas.List.Elements.{All-from_get_or, All-set}
use Rattle.pm_words.specs.Words.{bytes_at, with_bytes}
use Rattle.pm_calls.specs.Places.{IsLow}
use Rattle.pm_calls.proofs.LoadLaws.{below_put_back}
use Rattle.pm_calls.proofs.CallLaws.{called_loading-entered, called_loading-refused}
use Rattle.pm_calls.proofs.TableLaws.{Agrees-keeps}
use Rattle.pm_calls.proofs.frames.Frames.call_loading.Goals as goal

pub invariant_of-self : goal.invariant_of-self
invariant_of-self c =
    let some : 0 < length c.args.code.now = search rules in
    let room : c.args.registers.now.np + length c.args.code.now ≤ c.args.registers.now.sp = search rules in
    record {
      slots = length-set c.self.inside.places c.args.slot _ ∙ c.self.invariant.slots;
      low = All-set IsLow c.self.inside.places c.args.slot _ (rw c.registers-old.ensures.registers
          (omega (arith, c.registers-old.ensures.stack.even_sp, c.registers-old.ensures.stack.below, some, room)))
          c.self.invariant.low;
      even = c.self.invariant.even;
      apart = c.self.invariant.apart;
    }

pub returns-clause-done : goal.returns-clause-done
returns-clause-done c = λ h.
    let entered = c.in_default.ensures.entered (Agrees-keeps _ _ _ _ c.put_code-2.ensures.watch h) in
    let some : 0 < length c.args.code.now = search rules in
    let room : c.args.registers.now.np + length c.args.code.now ≤ c.args.registers.now.sp = search rules in
    let places : c.self.inside.places ≡ c.args.self.now.places = search rules in
    rw (places, c.registers-old.ensures.registers) (called_loading-entered _ _ _ _ _ _ some room
    (rw (c.put_code-2.ensures.written, c.registers-old.ensures.registers) at entered))

pub returns-clause-agrees : goal.returns-clause-agrees
returns-clause-agrees c = λ h.
    let inside = c.in_default.ensures.agrees (Agrees-keeps _ _ _ _ c.put_code-2.ensures.watch h) in
    record {
      matches = λ quiet.
          let m = rw (← c.self.view_is) at (inside.matches quiet) in
          record { bases = m.bases; kept = m.kept; watched = m.watched };
    }

pub returns-in-Err-clause-unchanged : goal.returns-in-Err-clause-unchanged
unfolding bytes_at
returns-in-Err-clause-unchanged c =
    let m = c.args.memory.now.words in
    let code = c.args.code.now in
    let sp = c.registers-old.result.sp in
    let end = c.from-end.result in
    let fits : length code ≤ sp = search rules in
    let below : sp ≤ 65504 = rw c.registers-old.ensures.registers c.registers-old.ensures.stack.below in
    let count : sp - (sp - length code) ≡ length code = omega (arith, fits) in
    let bytes : All (λ b. b < 256) code = All-from_get_or (λ b. b < 256) code 0 (λ i l. omega (arith, c.type_inv.code i)) in
    let kept : List ℕ = take (end - (end - length code)) (drop (end - length code) c.bytes.result.now) in
    let back : List ℕ = take (end - (end - length code)) (drop (end - length code) c.bytes-in-Err.result.now) in
    let kept_is : kept ≡ bytes_at m (sp - length code) (length code) = rw (c.bytes.ensures.contents, c.from-end.ensures, count) refl in
    let back_is : back ≡ bytes_at (with_bytes c.args.scratch.now.words (sp - length kept) kept) (sp - length code) (length code)
    = rw (c.bytes-in-Err.ensures.contents, c.put_code.ensures.written, c.from-end.ensures, count) refl in
    let stays = below_put_back m c.args.scratch.now.words code kept back sp c.bytes.ensures.memory c.put_code.ensures.memory bytes fits
    (omega (arith, below)) kept_is back_is in (
      rw (c.put_code-in-Err.ensures.written, c.in-Err.ensures.unchanged.0, c.put_code-2.ensures.written) stays,
      c.in-Err.ensures.unchanged.1,
      c.enter.ensures.places,
    )

pub returns-in-Err-clause-done : goal.returns-in-Err-clause-done
returns-in-Err-clause-done c = λ h.
    let entered = c.in-Err.ensures.entered (Agrees-keeps _ _ _ _ c.put_code-2.ensures.watch h) in
    let some : 0 < length c.args.code.now = search rules in
    let room : c.args.registers.now.np + length c.args.code.now ≤ c.args.registers.now.sp = search rules in
    let back = returns-in-Err-clause-unchanged c in (
      called_loading-refused _ _ _ _ _ some room
          (rw (c.put_code-2.ensures.written, c.registers-old.ensures.registers) at entered),
      rw (back.0, back.1, back.2) refl,
    )
