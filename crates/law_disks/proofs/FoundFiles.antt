-- Lemmas for what `find` returns on changed lists of files.
use Rattle.std.proofs.Common.{◌≡◌, ◌<◌, ◌≤◌, ℕ, zero, suc, ◌+◌, ◌-◌, Bool, true, false, List, [], ◌∷◌, refl, inl, inr, length, Some, None, arith}
use Rattle.std.proofs.lemmas.Bool.{cases_Bool}
use Rattle.std.proofs.lemmas.List.Elements.{All-head, All-tail}
use Rattle.std.specs.List.{All, AllZip, find, insert, position_from, remove}
use Rattle.pm_volume.specs.Files.{files_of, is_named}
use Rattle.pm_volume.specs.Stays.{FileStays, FilesStay}
use Rattle.pm_volume.specs.Packing.{MovesFile, new_place, packed}
use Rattle.pm_volume.specs.declared.entry.Entry.{Entry}
use Rattle.pm_filer.specs.Filed.{bytes_of_file}
use Rattle.pm_filer.specs.Laws.{file_given}

-- If each file has the same bytes in `old` and `new`, then the file that `find` returns has the same bytes in both.
pub found_stays : (p : Entry → Bool) (old new : List ℕ) (es : List Entry) → All (FileStays old new) es
    → bytes_of_file new (find p es) ≡ bytes_of_file old (find p es)
found_stays p old new [] stay = refl
found_stays p old new (e ∷ es) stay = elim (cases_Bool (p e)) [
  | inl here ↦ rw here (All-head (FileStays old new) e es stay).bytes
  | inr on ↦ rw on (found_stays p old new es (All-tail (FileStays old new) e es stay))
]

pub given_stays : (old new : List ℕ) → files_of new ≡ files_of old → FilesStay old new → (name : List ℕ) → file_given new name ≡ file_given old name
given_stays old new files stay name = rw files (found_stays (is_named name) old new (files_of old) stay)

-- If each file has moved together with its bytes, then the file that `find` returns has the same bytes in `old` and
-- `new`.
pub found_moved : (name old new : List ℕ) (from : ℕ) (es : List Entry) → AllZip (MovesFile old new) es (packed from es)
    → bytes_of_file new (find (is_named name) (packed from es)) ≡ bytes_of_file old (find (is_named name) es)
unfolding packed
found_moved name old new from [] zip = refl
found_moved name old new from (e ∷ es) zip = elim (cases_Bool (is_named name e)) [
  | inl here ↦ rw here zip.0.bytes
  | inr on ↦ rw on (found_moved name old new (new_place from e + (e.end - e.first)) es zip.1)
]

-- If no file satisfies `p`, and `e` satisfies `p` and is inserted into the list, then `find` returns `e`.
pub found_new : (p : Entry → Bool) (es : List Entry) (k : ℕ) (e : Entry) → p e ≡ true → find p es ≡ None → find p (insert es k e) ≡ Some e
found_new p es zero e here none = rw here refl
found_new p [] (suc k) e here none = rw here refl
found_new p (x ∷ es) (suc k) e here none = elim (cases_Bool (p x)) [
  | inl found ↦ let some : Some x ≡ None = rw found at none in cc
  | inr on ↦ let rest : find p es ≡ None = rw on at none in rw on (found_new p es k e here rest)
]

pub found_beside : (p : Entry → Bool) (es : List Entry) (k : ℕ) (e : Entry) → p e ≡ false → find p (insert es k e) ≡ find p es
found_beside p es zero e on = rw on refl
found_beside p [] (suc k) e on = rw on refl
found_beside p (x ∷ es) (suc k) e on = elim (cases_Bool (p x)) [
  | inl found ↦ rw found refl
  | inr next ↦ rw next (found_beside p es k e on)
]

-- If no file satisfies both `p` and `q`, then removing the first file that satisfies `q` does not change what `find p`
-- returns.
pub found_left : (p q : Entry → Bool) (es : List Entry) (n slot : ℕ) → position_from q n es ≡ Some slot → ((e : Entry) → q e ≡ true → p e ≡ false)
    → find p (remove es (slot - n)) ≡ find p es
found_left p q [] n slot found unlike = cc
found_left p q (e ∷ es) n slot found unlike = elim (cases_Bool (q e)) [
  | inl here ↦
      let same : n ≡ slot = some_same n slot (rw here at found) in
      let none : slot - n ≡ 0 = omega arith in
      let on = unlike e here in
      rw (none, on) refl
  | inr on ↦
      let rest : position_from q (n + 1) es ≡ Some slot = rw on at found in
      let after = position-after q (n + 1) es slot rest in
      let step : slot - n ≡ suc (slot - (n + 1)) = omega arith in
      elim (cases_Bool (p e)) [
        | inl found ↦ rw (step, found) refl
        | inr next ↦ rw (step, next) (found_left p q es (n + 1) slot rest unlike)
      ]
]
  where
    some_same : (a b : ℕ) → Some a ≡ Some b → a ≡ b
    some_same a b h = cc

    position-after : (q : Entry → Bool) (n : ℕ) (es : List Entry) (slot : ℕ) → position_from q n es ≡ Some slot → n ≤ slot
    position-after q n [] slot found = cc
    position-after q n (e ∷ es) slot found = elim (cases_Bool (q e)) [
      | inl here ↦ let same : n ≡ slot = some_same n slot (rw here at found) in omega arith
      | inr on ↦ let rest : position_from q (n + 1) es ≡ Some slot = rw on at found in omega (arith, position-after q (n + 1) es slot rest)
    ]

-- The position of the first file that satisfies `q` is a position of the list.
pub position-within : (q : Entry → Bool) (n : ℕ) (es : List Entry) (slot : ℕ) → position_from q n es ≡ Some slot → (n ≤ slot) × (slot < n + length es)
position-within q n [] slot found = cc
position-within q n (e ∷ es) slot found = elim (cases_Bool (q e)) [
  | inl here ↦ let same : Some n ≡ Some slot = rw here at found in let at : n ≡ slot = cc in (omega arith, omega arith)
  | inr on ↦
      let rest : position_from q (n + 1) es ≡ Some slot = rw on at found in
      let later = position-within q (n + 1) es slot rest in
      (omega (arith, later.0), omega (arith, later.1))
]
