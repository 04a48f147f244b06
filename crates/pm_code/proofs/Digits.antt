-- Numbers with leading zeros.
use Rattle.std.proofs.Common.{◌≡◌, ℕ, ◌-◌, ◌^◌, false, [], ◌++◌, replicate, ap, arith, append-nil}
use Rattle.std.specs.Fmt.{decimal, padded_integral, format_spec, char_count}
use Rattle.pm_code.specs.Shown.{padded}

-- The text that `{n:05}` writes for `n` is `padded 5 n`. The same holds for each other `width`.
pub padded_written : (width n : ℕ) → padded_integral (format_spec 32 0 4 width (2 ^ 64 - 1)) false [] (decimal n) ≡ padded width n
unfolding padded_integral padded char_count
padded_written width n = simp append-nil (ap (λ k. replicate k 48 ++ decimal n) (omega arith))
