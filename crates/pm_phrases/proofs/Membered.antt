-- Lemmas about the text of the members of a set, to which the next number is added.
use Rattle.std.proofs.Common.{◌≡◌, ◌<◌, ◌∙◌, ℕ, suc, ◌+◌, ◌-◌, ◌++◌, Bool, List, ap, append_assoc, arith, sym}
use Rattle.pm_phrases.specs.declared.sets.Behind.{Behind}
use Rattle.pm_phrases.specs.Sets.{behind_next, is_member, member_text, members_from}

next_members : (bytes : List ℕ) (b : Behind) (e n : ℕ) → e < n → members_from bytes b e (n - e)
    ≡ member_text b (is_member bytes e) (is_member bytes (e + 1)) e ++ members_from bytes (behind_next b (is_member bytes e)) (e + 1) (n - (e + 1))
next_members bytes b e n h =
    let one_less : n - e ≡ suc (n - (e + 1)) = omega (arith, h) in
    ap (members_from bytes b e) one_less

known_members : (bytes done whole : List ℕ) (b : Behind) (e n : ℕ) → e < n → done ++ members_from bytes b e (n - e) ≡ whole
    → (done ++ member_text b (is_member bytes e) (is_member bytes (e + 1)) e) ++ members_from bytes (behind_next b (is_member bytes e)) (e + 1) (n - (e + 1))
    ≡ whole
known_members bytes done whole b e n less so =
    append_assoc done (member_text b (is_member bytes e) (is_member bytes (e + 1)) e)
    (members_from bytes (behind_next b (is_member bytes e)) (e + 1) (n - (e + 1)))
    ∙ ap (λ t. done ++ t) (sym (next_members bytes b e n less)) ∙ so

-- If the text of number `e` is appended, then the written text followed by the text of the remaining numbers is
-- unchanged.
pub one_more : (bytes done whole : List ℕ) (b after : Behind) (this next : Bool) (e n : ℕ) → e < n → this ≡ is_member bytes e
    → next ≡ is_member bytes (e + 1) → after ≡ behind_next b this → done ++ members_from bytes b e (n - e) ≡ whole
    → (done ++ member_text b this next e) ++ members_from bytes after (e + 1) (n - (e + 1)) ≡ whole
one_more bytes done whole b after this next e n less t x a so =
    ap (λ c. (done ++ member_text b this next e) ++ members_from bytes c (e + 1) (n - (e + 1))) a
    ∙ ap (λ c. (done ++ member_text b c next e) ++ members_from bytes (behind_next b c) (e + 1) (n - (e + 1))) t
    ∙ ap (λ c. (done ++ member_text b (is_member bytes e) c e)
    ++ members_from bytes (behind_next b (is_member bytes e)) (e + 1) (n - (e + 1))) x
    ∙ known_members bytes done whole b e n less so
