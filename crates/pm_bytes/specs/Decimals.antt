-- Numbers written in decimal digits.
use Rattle.std.specs.Prelude.{ℕ, ◌-◌, List, ◌++◌, length, replicate}
use Rattle.std.specs.Fmt.{decimal}

-- The decimal digits of `n`, after as many zeros as are needed for `width` digits in all. If `n` has more than `width`
-- digits, there are no zeros.
unfoldable pub padded : ℕ → ℕ → List ℕ
padded width n = replicate (width - length (decimal n)) 48 ++ decimal n
