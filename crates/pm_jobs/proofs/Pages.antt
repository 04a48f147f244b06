-- A page is a buffer of output bytes that are not yet written. `AppendsBut old new page shown` states that `shown` was
-- written except for its last bytes `page`.
use Rattle.std.proofs.Common.{◌≡◌, ℕ, List, [], ◌++◌, Option, refl, sym, ap, ◌∙◌, append_assoc, append-nil}
use Rattle.std.specs.Io.KnownBytes.{Appends}
use Rattle.std.proofs.KnownBytes.{Appends-trans, Appends-nil}
use Rattle.pm_jobs.specs.Streams.{IsFront, AppendsFront, AppendsBut}
use Rattle.pm_jobs.proofs.Transfers.{front_trans, front_after}

pub but_none : (old : Option (List ℕ)) → AppendsBut old old [] []
but_none old = ([], Appends-nil old, refl)

-- If `more` is appended to the page, then `more` is also the next output, and nothing is written.
pub but_grown : (old new : Option (List ℕ)) (page shown more page' : List ℕ) → AppendsBut old new page shown → page' ≡ page ++ more →
    AppendsBut old new page' (shown ++ more)
but_grown old new page shown more page' b e = (b.0, b.1, ap (λ t. t ++ more) b.2 ∙ append_assoc b.0 page more ∙ ap (λ t. b.0 ++ t) (sym e))

-- If the page is written except for its last bytes `rest`, then `rest` is the new page.
pub but_turned : (old mid new : Option (List ℕ)) (page rest shown : List ℕ) → AppendsBut old mid page shown → AppendsBut mid new rest page →
    AppendsBut old new rest shown
but_turned old mid new page rest shown b t =
    (b.0 ++ t.0, Appends-trans old mid new b.0 t.0 b.1 t.1, b.2 ∙ ap (λ p. b.0 ++ p) t.2 ∙ sym (append_assoc b.0 t.0 rest))

-- If only a prefix of the page is written, then a prefix of the output `shown` was written.
pub but_front : (old mid new : Option (List ℕ)) (page shown : List ℕ) → AppendsBut old mid page shown → AppendsFront mid new page → AppendsFront old new shown
but_front old mid new page shown b a =
    (b.0 ++ a.0, Appends-trans old mid new b.0 a.0 b.1 a.1, rw b.2 (front_after b.0 a.0 page a.2))

-- If the page is never written, then a prefix of the output `shown` was written.
pub but_lost : (old new : Option (List ℕ)) (page shown : List ℕ) → AppendsBut old new page shown → AppendsFront old new shown
but_lost old new page shown b = (b.0, b.1, (page, b.2))

-- If the whole page is written, then the whole output `shown` was written.
pub but_all : (old mid new : Option (List ℕ)) (page shown : List ℕ) → AppendsBut old mid page shown → Appends mid new page → Appends old new shown
but_all old mid new page shown b a = rw b.2 (Appends-trans old mid new b.0 page b.1 a)

-- If the whole page is written and the new page is empty, then `shown` was written except for the empty page.
pub but_cleared : (old mid new : Option (List ℕ)) (page page' shown : List ℕ) → AppendsBut old mid page shown → Appends mid new page → page' ≡ [] →
    AppendsBut old new page' shown
but_cleared old mid new page page' shown b a e = rw e (shown, but_all old mid new page shown b a, sym (append-nil shown))

pub front_longer : (old new : Option (List ℕ)) (text longer : List ℕ) → AppendsFront old new text → IsFront text longer → AppendsFront old new longer
front_longer old new text longer a f = (a.0, a.1, front_trans a.0 text longer a.2 f)
