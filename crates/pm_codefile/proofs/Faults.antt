-- Laws of the search for the first fault of a code file.
use Rattle.std.proofs.Common.{◌≡◌, ◌⊎◌, inl, inr, ℕ, suc, ◌+◌, ◌-◌, ◌<◌, ◌≤◌, Bool, true, false, cond, List, length, None, Some, refl, arith}
use Rattle.pm_codefile.specs.declared.fault.CodeFault.{CodeFault}
use Rattle.pm_codefile.specs.declared.fault.CodeFault.TheVariants.{SlotPastEnd, OddLength}
use Rattle.pm_codefile.specs.Dictionary.{IsFirstCodeFault, first_slot_fault, slot_fault}

pub first_fault-more : (file : List ℕ) (n left : ℕ) → n < left → slot_fault file n ≡ None →
    first_slot_fault file n (left - n) ≡ first_slot_fault file (n + 1) (left - (n + 1))
unfolding first_slot_fault
first_fault-more file n left l e =
    let step : left - n ≡ suc (left - (n + 1)) = omega arith in
    rw (step, e) refl

pub first_fault-here : (file : List ℕ) (n left : ℕ) (fault : CodeFault) → n < left → slot_fault file n ≡ Some fault
    → first_slot_fault file n (left - n) ≡ Some fault
unfolding first_slot_fault
first_fault-here file n left fault l e =
    let step : left - n ≡ suc (left - (n + 1)) = omega arith in
    rw (step, e) refl

-- If a choice between two faults by two tests returns the fault `z`, then `z` is one of these two faults.
one_of : (a b : Bool) (x y z : CodeFault) → cond a (Some x) (cond b (Some y) None) ≡ Some z → (z ≡ x) ⊎ (z ≡ y)
one_of true b x y z h = inl cc
one_of false true x y z h = inr cc
one_of false false x y z h = cc

-- If slot `n` has a fault, then the fault is `OddLength n` or `SlotPastEnd n`.
names_slot : (file : List ℕ) (n : ℕ) (fault : CodeFault) → slot_fault file n ≡ Some fault → (fault ≡ OddLength n) ⊎ (fault ≡ SlotPastEnd n)
unfolding slot_fault
names_slot file n fault h = one_of _ _ _ _ _ h

-- If slot `n` has a fault and no slot before it has one, then this fault is the first fault of the file.
pub first-from_slot : (file : List ℕ) (n : ℕ) (fault : CodeFault) → 512 ≤ length file → n < 16 → ((k : ℕ) → k < n → slot_fault file k ≡ None)
    → slot_fault file n ≡ Some fault → IsFirstCodeFault file fault
first-from_slot file n fault d l before h = elim (names_slot file n fault h) [
  | inl e ↦ let there : slot_fault file n ≡ Some (OddLength n) = rw e at h in
      rw e (record { dictionary = d; slot = l; before = before; there = there })
  | inr e ↦ let there : slot_fault file n ≡ Some (SlotPastEnd n) = rw e at h in
      rw e (record { dictionary = d; slot = l; before = before; there = there })
]
