-- Texts from which a prefix or a suffix is removed.
use Rattle.std.proofs.Common.{◌≡◌, ℕ, Bool, true, false, List, None, length, take, drop, sym, ap, subst, arith, ◌∙◌}
use Rattle.std.specs.Prelude.{◌-◌, if◌then◌else◌}
use Rattle.std.specs.Str.{IsCharBoundary}
use Rattle.std.specs.Str.Pattern.{FindsTextPrefix, FindsTextSuffix, StripsPrefix, StripsSuffix}
use Rattle.std.proofs.lemmas.Str.Pattern.{ends_text, starts_text}
use Rattle.pm_statements.specs.BlockLines.{without_front, without_tail}

pub front_stripped : (n s x : List ℕ) → StripsPrefix (FindsTextPrefix n) s x → x ≡ without_front n s
front_stripped n s x h =
    let same = h.1.0 in
    h.2 ∙ ap (λ (k : ℕ). drop k s) same
    ∙ ap (λ (b : Bool). if b then drop (length n) s else s)
    (starts_text true n s (h.0, h.1, subst (λ (k : ℕ). IsCharBoundary s k) (sym same) h.1.2))

pub front_kept : (n s : List ℕ) → FindsTextPrefix n s None → s ≡ without_front n s
front_kept n s h = ap (λ (b : Bool). if b then drop (length n) s else s) (starts_text false n s h)

pub tail_stripped : (n s x : List ℕ) → StripsSuffix (FindsTextSuffix n) s x → x ≡ without_tail n s
tail_stripped n s x h =
    let same = h.1.0 in
    h.2 ∙ ap (λ (k : ℕ). take (length s - k) s) same
    ∙ ap (λ (b : Bool). if b then take (length s - length n) s else s)
    (ends_text true n s (h.0, h.1, omega (arith, h.3), subst (λ (k : ℕ). IsCharBoundary s (length s - k)) (sym same) h.1.2))

pub tail_kept : (n s : List ℕ) → FindsTextSuffix n s None → s ≡ without_tail n s
tail_kept n s h = ap (λ (b : Bool). if b then take (length s - length n) s else s) (ends_text false n s h)
