-- Lemmas about the sizes of items in bytes.
use Rattle.std.proofs.Common.{◌≡◌, ◌<◌, ℕ, ◌+◌, ◌*◌, List, [], ◌∷◌, ◌++◌, length, refl, sym, ap, ◌∙◌, arith, length-append, append_assoc}
use Rattle.pm_opcode.specs.Spelling.{spelled_word, pad_byte, flip, is_odd}
use Rattle.pm_code.specs.Item.{Item, item_bytes, size, table_words, table_place, jump_byte, jump_opcode}
use Rattle.pm_code.specs.Item.Item.{Plain, Jump, Case, OneByte}
use Rattle.pm_code.specs.Program.{code_bytes, end_of, entries_for, entries_needed, entries_used}
use Rattle.pm_code.specs.declared.item.Item as code
use Rattle.pm_code.specs.declared.item.Item.TheVariants as items
use Rattle.pm_code.specs.declared.item.Target.{Target as CodeTarget}
use Rattle.pm_code.specs.declared.item.Target.TheVariants as targets
use Rattle.pm_code.specs.Views.{item_seen, target_seen}
use Rattle.std.specs.Prelude.{map, max}
use Rattle.std.proofs.lemmas.List.{length-map}

pub length-table_words : (at : ℕ) (places : List ℕ) → length (table_words at places) ≡ 2 * length places
length-table_words at [] = refl
length-table_words at (place ∷ places) = omega (arith, length-table_words (at + 2) places)

pub length-item : (at : ℕ) (item : Item ℕ) → length (item_bytes at item) ≡ size at item
length-item at (Plain i named) = refl
length-item at (Jump op target) = refl
length-item at (Case low high otherwise places) =
    let pad : List ℕ = pad_byte (flip (is_odd at)) 0 in
    let rest : List ℕ = spelled_word low ++ (spelled_word high ++ (jump_opcode ∷ jump_byte (table_place at) otherwise ∷ table_words (table_place at) places)) in
    omega (arith, length-append pad rest, length-table_words (table_place at) places)
length-item at (OneByte b) = refl

pub size-some : (at : ℕ) (item : Item ℕ) → 0 < size at item
size-some at (Plain i named) = omega arith
size-some at (Jump op target) = omega arith
size-some at (Case low high otherwise places) = omega arith
size-some at (OneByte b) = omega arith

pub length-code : (at : ℕ) (items : List (Item ℕ)) → at + length (code_bytes at items) ≡ end_of at items
length-code at [] = omega arith
length-code at (item ∷ items) =
    omega (arith, length-append (item_bytes at item) (code_bytes (at + size at item) items), length-item at item, length-code (at + size at item) items)

pub end-append : (at : ℕ) (xs ys : List (Item ℕ)) → end_of at (xs ++ ys) ≡ end_of (end_of at xs) ys
end-append at [] ys = refl
end-append at (x ∷ xs) ys = end-append (at + size at x) xs ys

pub code-append : (at : ℕ) (xs ys : List (Item ℕ)) → code_bytes at (xs ++ ys) ≡ code_bytes at xs ++ code_bytes (end_of at xs) ys
code-append at [] ys = refl
code-append at (x ∷ xs) ys =
    ap (λ cs. item_bytes at x ++ cs) (code-append (at + size at x) xs ys)
    ∙ sym (append_assoc (item_bytes at x) (code_bytes (at + size at x) xs) (code_bytes (end_of (at + size at x) xs) ys))

-- The size of an item does not depend on its positions or on their type.
pub size-seen : {A B : Type 0} (f : A → B) (at : ℕ) (item : code.Item A) → size at (item_seen f item) ≡ size at (item_seen (λ p. p) item)
size-seen f at (items.Plain instr named) = refl
size-seen f at (items.Jump op target) = refl
size-seen f at (items.Case low high otherwise places) =
    ap (λ n. 7 + length (pad_byte (flip (is_odd at)) 0) + 2 * n) (length-map places.items f ∙ sym (length-map places.items (λ p. p)))
size-seen f at (items.OneByte b) = refl

pub end-seen : {A B : Type 0} (f : A → B) (at : ℕ) (list : List (code.Item A))
    → end_of at (map (item_seen f) list) ≡ end_of at (map (item_seen (λ p. p)) list)
end-seen f at [] = refl
end-seen f at (item ∷ list) =
    ap (λ n. end_of (at + n) (map (item_seen f) list)) (size-seen f at item) ∙ end-seen f (at + size at (item_seen (λ p. p) item)) list

-- The number of jump table entries that an item needs does not depend on its positions or on their type.
entries_for-seen : {A B : Type 0} (f : A → B) (target : CodeTarget A) → entries_for (target_seen f target) ≡ entries_for (target_seen (λ p. p) target)
entries_for-seen f (targets.To place) = refl
entries_for-seen f (targets.Through k) = refl

entries_used-seen : {A B : Type 0} (f : A → B) (item : code.Item A) → entries_used (item_seen f item) ≡ entries_used (item_seen (λ p. p) item)
entries_used-seen f (items.Plain instr named) = refl
entries_used-seen f (items.Jump op target) = entries_for-seen f target
entries_used-seen f (items.Case low high otherwise places) = entries_for-seen f otherwise
entries_used-seen f (items.OneByte b) = refl

pub entries_needed-seen : {A B : Type 0} (f : A → B) (list : List (code.Item A))
    → entries_needed (map (item_seen f) list) ≡ entries_needed (map (item_seen (λ p. p)) list)
entries_needed-seen f [] = refl
entries_needed-seen f (item ∷ list) =
    ap (λ n. max n (entries_needed (map (item_seen f) list))) (entries_used-seen f item)
    ∙ ap (λ n. max (entries_used (item_seen (λ p. p) item)) n) (entries_needed-seen f list)
