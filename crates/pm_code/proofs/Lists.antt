-- Lemmas about the elements of a list in a loop, and about results that are `Ok`.
use Rattle.std.proofs.Common.{◌≡◌, ◌+◌, ◌-◌, ◌<◌, ℕ, List, [], ◌∷◌, ◌∙◌, drop, length, get_or, ap, sym, arith, reverse, take}
use Rattle.std.specs.Prelude.{Result, Ok, Err, IfOk, OnOk}
use Rattle.std.proofs.lemmas.List.{drop_more, reverse-append, take_more}

-- The elements from index `k` are element `k`, followed by the elements from index `k + 1`.
pub there : {X : Type 0} (xs : List X) (k : ℕ) (x : X) → k < length xs → x ≡ get_or xs k x → drop k xs ≡ x ∷ drop (k + 1) xs
there xs k x h e = drop_more xs k x h ∙ ap (λ y. y ∷ drop (k + 1) xs) (sym e)

-- The first `count - done` elements in reverse order are their last element, followed by the others in reverse order.
pub last_first : (xs : List ℕ) (count done : ℕ) → done < count → count ≡ length xs
    → reverse (take (count - done) xs) ≡ get_or xs (count - 1 - done) 0 ∷ reverse (take (count - (done + 1)) xs)
last_first xs count done h e =
    let m : ℕ = count - (done + 1) in
    let more : count - done ≡ m + 1 = omega (arith, h) in
    let same : m ≡ count - 1 - done = omega (arith, h) in
    let less : m < length xs = omega (arith, h, e) in
    ap (λ n. reverse (take n xs)) more
    ∙ ap reverse (take_more xs m 0 less)
    ∙ reverse-append (take m xs) (get_or xs m 0 ∷ [])
    ∙ ap (λ n. get_or xs n 0 ∷ reverse (take m xs)) same

-- If `P` implies `Q`, and `P` holds for a result that is `Ok`, then `Q` holds for it.
pub on_ok_map : {T E : Type 0} (r : Result T E) (P Q : Type 0) → (P → Q) → OnOk r P → OnOk r Q
on_ok_map (Ok x) P Q f h = f h
on_ok_map (Err e) P Q f h = h

pub if_ok_map : {T E : Type 0} (r : Result T E) (P Q : T → Type 0) → ((x : T) → P x → Q x) → IfOk r P → IfOk r Q
if_ok_map (Ok x) P Q f h = f x h
if_ok_map (Err e) P Q f h = h
