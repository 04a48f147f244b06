-- The items that are shown for code have the bytes of the code.
use Rattle.std.proofs.Common.{◌≡◌, ℕ, zero, suc, ◌+◌, ◌-◌, Bool, true, false, cond, List, [], ◌∷◌, ◌++◌, length, map}
use Rattle.std.proofs.Common.{take, drop, refl, sym, ap, ◌∙◌, subst, arith, append-nil, IfSome, Option, Some, None}
use Rattle.std.specs.Prelude.{◌&&◌, nat_lt}
use Rattle.std.specs.List.{list_any, AllByRecursion}
use Rattle.std.proofs.lemmas.List.{take-append-drop}
use Rattle.std.proofs.lemmas.Grind.{common_steps}
use Rattle.pm_code.specs.Item.{Item, item_bytes, size, IsByte}
use Rattle.pm_code.specs.Item.Item.{OneByte}
use Rattle.pm_code.specs.Program.{code_bytes, end_of, AreItems}
use Rattle.pm_disasm.specs.Split.{Front, front, uncut, taken, part_of, bytes_after_first, parts, leads, written_as, written, ends_of, items_in}
use Rattle.pm_code.proofs.Sizes.{code-append, end-append}
use Rattle.pm_disasm.proofs.Fronts.{Fronts, Spells, fronts, take-bytes}

-- States that `items` have the bytes `bytes`, which begin at offset `at`.
pub record Joins (at : ℕ) (bytes : List ℕ) (items : List (Item ℕ)) : Type 0 where
  pub sound : AreItems at items
  pub joined : code_bytes at items ≡ bytes
  pub ends : end_of at items ≡ at + length bytes

pub still : (forced : List ℕ) (at : ℕ) (o : Option Front) (P : Front → Type 0) → IfSome o P → IfSome (uncut forced at o) P
still forced at None P h = tt
still forced at (Some f) P h = kept (list_any (λ place. nat_lt at place && nat_lt place (at + f.size)) forced)
  where
    kept : (b : Bool) → IfSome (cond b None (Some f)) P
    kept true = tt
    kept false = h

pub are-append : (at : ℕ) (xs ys : List (Item ℕ)) → AreItems at xs → AreItems (end_of at xs) ys → AreItems at (xs ++ ys)
are-append at [] ys h k = k
are-append at (x ∷ xs) ys h k = (h.0, are-append (at + size at x) xs ys h.1 k)

join : (at next : ℕ) (bs cs : List ℕ) (xs ys : List (Item ℕ)) → next ≡ at + length bs → Joins at bs xs → Joins next cs ys → Joins at (bs ++ cs) (xs ++ ys)
join at next bs cs xs ys e x y =
    let here : next ≡ end_of at xs = e ∙ sym x.ends in
    record {
      sound = are-append at xs ys x.sound (subst (λ n. AreItems n ys) here y.sound);
      joined = code-append at xs ys ∙ ap (λ zs. zs ++ code_bytes (end_of at xs) ys) x.joined ∙ ap (λ n. bs ++ code_bytes n ys) (sym here)
          ∙ ap (λ zs. bs ++ zs) y.joined;
      ends = end-append at xs ys ∙ ap (λ n. end_of n ys) (sym here) ∙ grind (arith, common_steps, y.ends);
    }

singles_join : (at : ℕ) (bs : List ℕ) → AllByRecursion IsByte bs → Joins at bs (map OneByte bs)
singles_join at [] h = record { sound = tt; joined = refl; ends = omega arith }
singles_join at (b ∷ bs) h =
    let more = singles_join (at + 1) bs h.1 in
    record { sound = (h.0, more.sound); joined = ap (λ cs. b ∷ cs) more.joined; ends = omega (arith, more.ends) }

pub part_joins : (boundaries : List ℕ) (allowed : Bool) (at : ℕ) (bytes : List ℕ) (n : ℕ) (item : Option (Item ℕ)) → AllByRecursion IsByte bytes
    → n ≡ length (take n bytes) → IfSome item (Spells at bytes n) → Joins at (take n bytes) (written_as boundaries allowed (take n bytes) item)
part_joins boundaries allowed at bytes n None b e h = singles_join at (take n bytes) (take-bytes n bytes b)
part_joins boundaries allowed at bytes n (Some item) b e h = chosen (leads boundaries allowed item)
  where
    chosen : (c : Bool) → Joins at (take n bytes) (cond c (item ∷ []) (map OneByte (take n bytes)))
    chosen true = record { sound = (h.sound, tt); joined = append-nil (item_bytes at item) ∙ h.spelled; ends = omega (arith, h.sized, e) }
    chosen false = singles_join at (take n bytes) (take-bytes n bytes b)

-- The items for the parts of `bytes`, without the first `skip` bytes, have these bytes.
pub joined : (forced boundaries : List ℕ) (allowed : Bool) (skip at : ℕ) (bytes : List ℕ) → AllByRecursion IsByte bytes
    → Joins (at + skip) (drop skip bytes) (written boundaries allowed (parts forced skip at bytes))
joined forced boundaries allowed zero at [] h = record { sound = tt; joined = refl; ends = omega arith }
joined forced boundaries allowed (suc skip) at [] h = record { sound = tt; joined = refl; ends = omega arith }
joined forced boundaries allowed (suc skip) at (b ∷ bytes) h =
    subst (λ n. Joins n (drop skip bytes) (written boundaries allowed (parts forced skip (at + 1) bytes))) (omega arith)
    (joined forced boundaries allowed skip (at + 1) bytes h.1)
joined forced boundaries allowed zero at (b ∷ bytes) h =
    piece (λ n. joined forced boundaries allowed n (at + 1) bytes h.1) (taken forced at (b ∷ bytes))
    (still forced at (front at (b ∷ bytes)) (Fronts at (b ∷ bytes)) (fronts at (b ∷ bytes) h))
  where
    piece : ((n : ℕ) → Joins (at + 1 + n) (drop n bytes) (written boundaries allowed (parts forced n (at + 1) bytes))) → (o : Option Front)
        → IfSome o (Fronts at (b ∷ bytes)) → Joins (at + 0) (b ∷ bytes)
        (written boundaries allowed (part_of at (b ∷ bytes) o ∷ parts forced (bytes_after_first o) (at + 1) bytes))
    piece rest None f =
        let all : Joins at (b ∷ bytes) (OneByte b ∷ written boundaries allowed (parts forced 0 (at + 1) bytes)) =
        join at (at + 1 + 0) (b ∷ []) bytes (OneByte b ∷ []) (written boundaries allowed (parts forced 0 (at + 1) bytes)) (omega arith)
        (singles_join at (b ∷ []) (h.0, tt)) (rest 0) in
        subst (λ n. Joins n (b ∷ bytes) (OneByte b ∷ written boundaries allowed (parts forced 0 (at + 1) bytes))) (omega arith) all
    piece rest (Some f) g =
        let long : f.size ≡ length (take f.size (b ∷ bytes)) = grind (arith, common_steps, g.within) in
        let w : List (Item ℕ) = written_as boundaries allowed (take f.size (b ∷ bytes)) f.item in
        let one : Joins at (take f.size (b ∷ bytes)) w = part_joins boundaries allowed at (b ∷ bytes) f.size f.item h long g.item in
        let more : List (Item ℕ) = written boundaries allowed (parts forced (f.size - 1) (at + 1) bytes) in
        let back : suc (f.size - 1) ≡ f.size = omega (arith, g.some) in
        let tail : drop (f.size - 1) bytes ≡ drop f.size (b ∷ bytes) = ap (λ n. drop n (b ∷ bytes)) back in
        let all : Joins at (take f.size (b ∷ bytes) ++ drop (f.size - 1) bytes) (w ++ more) =
        join at (at + 1 + (f.size - 1)) (take f.size (b ∷ bytes)) (drop (f.size - 1) bytes) w more (omega (arith, long, g.some)) one (rest (f.size - 1)) in
        let whole : take f.size (b ∷ bytes) ++ drop (f.size - 1) bytes ≡ b ∷ bytes =
        ap (λ xs. take f.size (b ∷ bytes) ++ xs) tail ∙ take-append-drop f.size (b ∷ bytes) in
        let zero_more : at ≡ at + 0 = omega arith in
        subst (λ n. Joins n (b ∷ bytes) (w ++ more)) zero_more (subst (λ bs. Joins at bs (w ++ more)) whole all)

-- The items that are shown for `code` have the bytes of `code`.
pub code_joined : (forced : List ℕ) (allowed : Bool) (at : ℕ) (code : List ℕ) → AllByRecursion IsByte code → Joins at code (items_in forced allowed at code)
code_joined forced allowed at code h =
    let whole : List ℕ = ends_of (at + length code) (parts forced 0 at code) in
    subst (λ n. Joins n code (written whole allowed (parts forced 0 at code))) (omega arith) (joined forced whole allowed 0 at code h)
