-- If the instruction at the beginning of bytes ends inside the first `n` bytes, then the bytes after them do not
-- matter.
use Rattle.std.proofs.Common.{◌≡◌, ◌<◌, ◌≤◌, ℕ, zero, suc, ◌+◌, ◌-◌, Bool, true, false, List, [], ◌∷◌, ◌++◌, length, map, take}
use Rattle.std.proofs.Common.{drop, get_or, refl, sym, ap, ◌∙◌, arith, append_assoc, length-take-le, Option, Some, None, option_map}
use Rattle.std.specs.Prelude.{nat_le}
use Rattle.std.specs.List.{AllByRecursion}
use Rattle.std.proofs.Math.Seq.{drop-cons, take-append-add}
use Rattle.std.proofs.Math.ListN.{get_or-map}
use Rattle.std.proofs.lemmas.List.{drop-take, length-map, map-append, take-append-drop}
use Rattle.std.proofs.lemmas.Bool.{le-leb, leb-true}
use Rattle.pm_opcode.specs.Spelling.{is_odd, spelling}
use Rattle.pm_code.specs.Item.{IsByte}
use Rattle.pm_disasm.specs.declared.front.Front as code
use Rattle.pm_disasm.specs.Split.{Front, front}
use Rattle.pm_disasm.specs.Offsets.{AreFronts, TellFronts, fronts_of, up_to}
use Rattle.pm_disasm.specs.Views.{front_seen}
use Rattle.pm_disasm.proofs.Read.{clear_read}
use Rattle.pm_disasm.proofs.Readings.{given}
use Rattle.pm_disasm.proofs.Fronts.{Fronts, IsRead, drop-bytes, fronts, reads, take-bytes}

abbrev size_or : ℕ → Option Front → ℕ
size_or n None = n
size_or n (Some f) = f.size

-- If `more` follows the bytes of an instruction, then the same instruction is read.
again : (at : ℕ) (bytes more : List ℕ) (o : Option Front) → IsRead at bytes → front at bytes ≡ o → front at (bytes ++ more) ≡ o
again at bytes more o r e =
    let s : List ℕ = spelling (is_odd at) 0 r.instr r.named in
    ap (λ bs. front at (bs ++ more)) r.whole
    ∙ ap (front at) (append_assoc s r.rest more)
    ∙ clear_read at r.instr r.named (r.rest ++ more) r.clear
    ∙ sym (clear_read at r.instr r.named r.rest r.clear)
    ∙ ap (front at) (sym r.whole)
    ∙ e

-- If the instruction has at most `m` bytes, then it is also read from the first `m` bytes.
cut_again : (at m : ℕ) (bytes : List ℕ) (f : Front) → IsRead at bytes → front at bytes ≡ Some f → f.size ≤ m → front at (take m bytes) ≡ Some f
cut_again at m bytes f r e small =
    let s : List ℕ = spelling (is_odd at) 0 r.instr r.named in
    let here = clear_read at r.instr r.named r.rest r.clear in
    let size : f.size ≡ length s = ap (size_or 0) (sym e ∙ ap (front at) r.whole ∙ here) in
    let long : m ≡ length s + (m - length s) = omega (arith, size, small) in
    let cut : take m bytes ≡ s ++ take (m - length s) r.rest = ap (take m) r.whole ∙ ap (λ n. take n (s ++ r.rest)) long
    ∙ take-append-add s r.rest (m - length s) in
    ap (front at) cut
    ∙ clear_read at r.instr r.named (take (m - length s) r.rest) r.clear
    ∙ sym here
    ∙ ap (front at) (sym r.whole)
    ∙ e

-- The instruction in the first `m` bytes is the one in all bytes if it has at most `m` bytes, else it is `None`.
pub front_cut : (at m : ℕ) (bytes : List ℕ) → AllByRecursion IsByte bytes → front at (take m bytes) ≡ up_to m (front at bytes)
front_cut at m bytes h = both (front at (take m bytes)) (front at bytes) refl refl
  where
    longer : (f : Front) (b : Bool) → nat_le f.size m ≡ b → front at bytes ≡ Some f → front at (take m bytes) ≡ None → None ≡ up_to m (Some f)
    longer f true t e n = absurd (let same : Some f ≡ None = sym (cut_again at m bytes f
        (given (λ (g : Front). IsRead at bytes) (front at bytes) f e (reads at bytes h)) e (leb-true _ _ t)) ∙ n in cc)
    longer f false t e n = rw t refl

    both : (o p : Option Front) → front at (take m bytes) ≡ o → front at bytes ≡ p → o ≡ up_to m p
    both None None e k = refl
    both None (Some f) e k = longer f (nat_le f.size m) refl k e
    both (Some f) p e k =
        let cut : AllByRecursion IsByte (take m bytes) = take-bytes m bytes h in
        let read : IsRead at (take m bytes) = given (λ (g : Front). IsRead at (take m bytes)) (front at (take m bytes)) f e (reads at (take m bytes) cut) in
        let within : Fronts at (take m bytes) f = given (Fronts at (take m bytes)) (front at (take m bytes)) f e (fronts at (take m bytes) cut) in
        let small : f.size ≤ m = short_of m bytes f.size within.within in
        let whole : p ≡ Some f = sym k ∙ ap (front at) (sym (take-append-drop m bytes)) ∙ again at (take m bytes) (drop m bytes) (Some f) read e in
        let t : nat_le f.size m ≡ true = le-leb _ _ small in
        let same : Some f ≡ up_to m (Some f) = rw t refl in
        same ∙ ap (up_to m) (sym whole)
      where
        short_of : (n : ℕ) (bs : List ℕ) (k : ℕ) → k ≤ length (take n bs) → k ≤ n
        short_of zero bs k l = l
        short_of (suc n) [] k l = omega (arith, l)
        short_of (suc n) (b ∷ bs) zero l = omega arith
        short_of (suc n) (b ∷ bs) (suc k) l = omega (arith, short_of n bs k (omega (arith, l)))

pub length-fronts_of : (at : ℕ) (bytes : List ℕ) → length (fronts_of at bytes) ≡ length bytes
length-fronts_of at [] = refl
length-fronts_of at (b ∷ bytes) = ap suc (length-fronts_of (at + 1) bytes)

-- Element `k` of `fronts_of at bytes` is the instruction at byte `k`, whose offset is `at + k`.
pub fronts_at : (at k : ℕ) (bytes : List ℕ) → k < length bytes → get_or (fronts_of at bytes) k None ≡ front (at + k) (drop k bytes)
fronts_at at k [] h = absurd (omega (arith, h))
fronts_at at zero (b ∷ bytes) h = ap (λ n. front n (b ∷ bytes)) (let e : at ≡ at + 0 = omega arith in e)
fronts_at at (suc k) (b ∷ bytes) h =
    fronts_at (at + 1) k bytes (omega (arith, h)) ∙ ap (λ n. front n (drop k bytes)) (let e : at + 1 + k ≡ at + suc k = omega arith in e)

-- If `fs` has the instruction at each offset of `segment`, then `fs` determines those in the first `end` bytes.
pub fronts_tell : (fs : List (Option code.Front)) (segment bytes : List ℕ) (end : ℕ) → AreFronts fs segment → AllByRecursion IsByte segment
    → end ≤ length segment → bytes ≡ take end segment → TellFronts fs bytes
fronts_tell fs segment bytes end a h l e =
    let size : length bytes ≡ end = ap length e ∙ length-take-le end segment l in
    let all : length fs ≡ length segment = sym (length-map fs (option_map front_seen)) ∙ ap length a ∙ length-fronts_of 0 segment in
    record {
      long = omega (arith, size, all, l);
      each = λ at i.
          let one : option_map front_seen (get_or fs at None) ≡ front at (drop at segment) =
          sym (get_or-map (option_map front_seen) fs at None) ∙ ap (λ gs. get_or gs at None) a ∙ fronts_at 0 at segment (omega (arith, i, size, l))
          ∙ ap (λ n. front n (drop at segment)) (let e : 0 + at ≡ at = omega arith in e) in
          let m : at + (end - at) ≡ end = omega (arith, i, size) in
          let there : drop at bytes ≡ take (end - at) (drop at segment) =
          ap (drop at) e ∙ ap (λ n. drop at (take n segment)) (sym m) ∙ drop-take at (end - at) segment in
          ap (λ n. up_to (n - at) (option_map front_seen (get_or fs at None))) size
          ∙ ap (up_to (end - at)) one
          ∙ sym (ap (front at) there ∙ front_cut at (end - at) (drop at segment) (drop-bytes at segment h));
    }

-- If the instruction at offset `at` is appended, then the list followed by the remaining instructions is unchanged.
pub next_front : (segment : List ℕ) (at : ℕ) (fs : List (Option code.Front)) (f : Option code.Front) (more : List (Option code.Front)) → at < length segment
    → more ≡ fs ++ f ∷ [] → option_map front_seen f ≡ front at (drop at segment)
    → map (option_map front_seen) more ++ fronts_of (at + 1) (drop (at + 1) segment) ≡ map (option_map front_seen) fs ++ fronts_of at (drop at segment)
next_front segment at fs f more h e r =
    let seen = option_map front_seen in
    let rest : List (Option Front) = fronts_of (at + 1) (drop (at + 1) segment) in
    let here : drop at segment ≡ get_or segment at 0 ∷ drop (suc at) segment = drop-cons segment at 0 h in
    let split : fronts_of at (drop at segment) ≡ front at (drop at segment) ∷ rest =
    ap (fronts_of at) here
    ∙ ap (λ bs. front at bs ∷ fronts_of (at + 1) (drop (suc at) segment)) (sym here)
    ∙ ap (λ n. front at (drop at segment) ∷ fronts_of (at + 1) (drop n segment)) (let e : suc at ≡ at + 1 = omega arith in e) in
    ap (λ gs. map seen gs ++ rest) e
    ∙ ap (λ gs. gs ++ rest) (map-append seen fs (f ∷ []))
    ∙ append_assoc (map seen fs) (seen f ∷ []) rest
    ∙ ap (λ g. map seen fs ++ g ∷ rest) r
    ∙ ap (λ gs. map seen fs ++ gs) (sym split)

-- The instruction at an offset has at least one byte.
pub some_size : (bytes : List ℕ) (at : ℕ) (f : code.Front) → AllByRecursion IsByte bytes → Some (front_seen f) ≡ front at (drop at bytes) → 0 < f.size
some_size bytes at f h e =
    (given (Fronts at (drop at bytes)) (front at (drop at bytes)) (front_seen f) (sym e) (fronts at (drop at bytes) (drop-bytes at bytes h))).some
