-- If all bytes of an input are ASCII, then the text of the input has the same numbers as the bytes.
use Rattle.std.proofs.Common.{◌≡◌, ◌<◌, ℕ, suc, true, List, [], ◌∷◌, refl, ap, arith}
use Rattle.std.specs.Prelude.{nat_le}
use Rattle.std.specs.Str.{IsAscii}
use Rattle.std.proofs.lemmas.Bool.{le-leb}
use Rattle.pm_batch.specs.Assembly.{text_of_input}

pub ascii_stays : (bytes : List ℕ) → IsAscii bytes → text_of_input bytes ≡ bytes
unfolding text_of_input
ascii_stays [] h = refl
ascii_stays (b ∷ bs) h =
    let below : b < 128 = h 0 in
    let low : nat_le b 127 ≡ true = le-leb _ _ (omega (arith, below)) in
    rw low (ap (λ u. b ∷ u) (ascii_stays bs (λ i. h (suc i))))
