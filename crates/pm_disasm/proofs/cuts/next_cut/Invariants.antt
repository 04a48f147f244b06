use Rattle.std.proofs.Common.{◌≡◌, ◌<◌, ◌^◌, ℕ, drop}
use Rattle.std.specs.Prelude.{◌&&◌, ◌||◌, nat_lt}
use Rattle.std.specs.List.{list_any}
use Rattle.pm_disasm.proofs.cuts.next_cut.Given as goal

-- `next` or a remaining offset is before `end` if and only if one of all offsets after `at` is before `end`.
abbrev pub invariant-loop-place : goal.invariant-loop-place
invariant-loop-place l =
    (end : ℕ) → end < 2 ^ 64 → (nat_lt l.next end || list_any (λ place. nat_lt l.at place && nat_lt place end) (drop l.place-index l.forced))
    ≡ list_any (λ place. nat_lt l.at place && nat_lt place end) l.forced
