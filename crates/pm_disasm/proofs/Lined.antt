-- Lemmas about the lines of code, item by item.
use Rattle.std.proofs.Common.{◌≡◌, ℕ, ◌+◌, Bool, true, false, List, [], ◌∷◌, ◌++◌, refl, sym}
use Rattle.std.proofs.Common.{ap, ◌∙◌, append_assoc, append-nil, subst, IfSome, Option, Some, None}
use Rattle.std.specs.Prelude.{codes, ◌==◌}
use Rattle.std.specs.Fmt.{decimal}
use Rattle.pm_code.specs.Item.{Item, size}
use Rattle.pm_code.specs.Item.Item.{OneByte}
use Rattle.pm_code.specs.Shown.{joined, label_text, put_if, shown_item}
use Rattle.pm_disasm.specs.Follow.{code_lines_by, item_led, leading, lines_at_by}

joined_put : (b : Bool) (x : List ℕ) (xs : List (List ℕ)) → joined (put_if b x xs) ≡ joined (put_if b x []) ++ joined xs
joined_put true x xs = sym (append_assoc x (10 ∷ []) (joined xs))
joined_put false x xs = refl

-- The text of the lines at offset `at` and of `rest` is the text of these lines, followed by the text of `rest`.
pub joined_at : (test : ℕ → Bool) (exit at : ℕ) (rest : List (List ℕ))
    → joined (lines_at_by test exit at rest) ≡ joined (lines_at_by test exit at []) ++ joined rest
joined_at test exit at rest =
    let label : List ℕ = label_text at ++ 58 ∷ [] in
    let out = joined_put (exit == at) (codes ".EXIT") rest in
    let mark : List (List ℕ) = put_if (exit == at) (codes ".EXIT") [] in
    joined_put (test at) label (put_if (exit == at) (codes ".EXIT") rest)
    ∙ ap (λ u. joined (put_if (test at) label []) ++ u) out
    ∙ sym (append_assoc (joined (put_if (test at) label [])) (joined mark) (joined rest))
    ∙ ap (λ u. u ++ joined rest) (sym (joined_put (test at) label mark))

-- If the lines of `item` are appended, then the written text followed by the lines of the remaining items is unchanged.
pub item_joined : (test : ℕ → Bool) (exit at : ℕ) (before after : List ℕ) (item : Item ℕ) (rest : List (Item ℕ))
    → after ≡ (before ++ joined (lines_at_by test exit at [])) ++ (codes "  " ++ (shown_item item ++ 10 ∷ []))
    → after ++ joined (code_lines_by test exit (at + size at item) rest) ≡ before ++ joined (code_lines_by test exit at (item ∷ rest))
item_joined test exit at before after item rest e =
    let here : List ℕ = joined (lines_at_by test exit at []) in
    let line : List ℕ = codes "  " ++ (shown_item item ++ 10 ∷ []) in
    let more : List ℕ = joined (code_lines_by test exit (at + size at item) rest) in
    let split : joined ((32 ∷ 32 ∷ shown_item item) ∷ code_lines_by test exit (at + size at item) rest) ≡ line ++ more =
    ap (λ u. 32 ∷ 32 ∷ u) (sym (append_assoc (shown_item item) (10 ∷ []) more)) in
    ap (λ u. u ++ more) e
    ∙ append_assoc (before ++ here) line more
    ∙ append_assoc before here (line ++ more)
    ∙ ap (λ u. before ++ (here ++ u)) (sym split)
    ∙ ap (λ u. before ++ u) (sym (joined_at test exit at ((32 ∷ 32 ∷ shown_item item) ∷ code_lines_by test exit (at + size at item) rest)))

-- If an item is shown for a part, then it is the item of the part.
pub led_same : (test : ℕ → Bool) (allowed : Bool) (o : Option (Item ℕ)) (i : Item ℕ) → Some i ≡ item_led test allowed o → o ≡ Some i
led_same test allowed None i e = absurd (cc)
led_same test allowed (Some j) i e = go (leading test allowed j) refl
  where
    go : (b : Bool) → leading test allowed j ≡ b → Some j ≡ Some i
    go true h = sym (e ∙ rw h refl)
    go false h = let f : Some i ≡ None = e ∙ rw h refl in absurd (cc)

pub sized_led : (P : Item ℕ → Type 0) (o : Option (Item ℕ)) (i : Item ℕ) → o ≡ Some i → IfSome o P → P i
sized_led P o i e h = let g : IfSome (Some i) P = subst (λ k. IfSome k P) e h in g

byte_line : (b : ℕ) → codes "  .BYTE " ++ (decimal b ++ 10 ∷ []) ≡ codes "  " ++ (shown_item (OneByte b) ++ 10 ∷ [])
unfolding shown_item
byte_line b = ap (λ u. codes "  .BYTE " ++ (u ++ 10 ∷ [])) (sym (append-nil (decimal b)))

-- If the line of the byte `b` is appended, then the written text followed by the lines of the remaining items is
-- unchanged.
pub byte_joined : (test : ℕ → Bool) (exit at : ℕ) (before after : List ℕ) (b : ℕ) (rest : List (Item ℕ))
    → after ≡ (before ++ joined (lines_at_by test exit at [])) ++ (codes "  .BYTE " ++ (decimal b ++ 10 ∷ []))
    → after ++ joined (code_lines_by test exit (at + 1) rest) ≡ before ++ joined (code_lines_by test exit at (OneByte b ∷ rest))
byte_joined test exit at before after b rest e =
    item_joined test exit at before after (OneByte b) rest (e ∙ ap (λ u. (before ++ joined (lines_at_by test exit at [])) ++ u) (byte_line b))
