-- Lemmas: the format that `form_seen` finds in an image is the first format that is noted.
use Rattle.std.proofs.Common.{◌≡◌, inl, inr, ℕ, Bool, true, false, List, [], ◌∷◌, ◌++◌, Option, Some, None, refl, length}
use Rattle.std.specs.Prelude.{if◌then◌else◌}
use Rattle.pm_check.specs.Forms.{form_notes, form_seen, front_begin, front_form, front_notes, front_size, has_front, is_in_blocks}
use Rattle.pm_check.specs.Forms.{is_in_sectors, is_swapped, note_if}
use Rattle.pm_check.specs.declared.note.Form.{Form}
use Rattle.pm_check.specs.declared.note.Form.TheVariants.{Dos, Swapped, FrontBlocks, FrontDos, FrontSwapped}
use Rattle.pm_check.specs.declared.note.Note.{Note}
use Rattle.pm_check.specs.declared.note.Note.TheVariants as notes
use Rattle.law_disks.specs.CheckLaws.{FormIsNoted}

IsFirstNoted : Option Form → List Note → Type 0
IsFirstNoted seen noted = ((form : Form) → seen ≡ Some form → (rest : List Note) × (noted ≡ notes.Form form ∷ rest)) × (seen ≡ None → noted ≡ [])

first : (form : Form) (rest : List Note) → IsFirstNoted (Some form) (notes.Form form ∷ rest)
unfolding IsFirstNoted
first form rest = (λ other same. let e : form ≡ other = cc in (rest, rw e refl), λ none. absurd_some none)
  where
    absurd_some : Some form ≡ None → notes.Form form ∷ rest ≡ []
    absurd_some none = cc

nothing : IsFirstNoted None []
unfolding IsFirstNoted
nothing = (λ form same. gone form same, λ none. refl)
  where
    gone : (form : Form) → None ≡ Some form → (rest : List Note) × ([] ≡ notes.Form form ∷ rest)
    gone form same = cc

-- The first of three possible formats that is seen is the first that is noted.
of_three : (a b c : Bool) (x y z : Form) → IsFirstNoted (if a then Some x else (if b then Some y else (if c then Some z else None)))
    (note_if a (notes.Form x) ++ (note_if b (notes.Form y) ++ note_if c (notes.Form z)))
of_three true b c x y z = first x (note_if b (notes.Form y) ++ note_if c (notes.Form z))
of_three false true c x y z = first y (note_if c (notes.Form z))
of_three false false true x y z = first z []
of_three false false false x y z = nothing

-- The same fact for the formats `Dos` and `Swapped` before the formats that depend on a header.
of_all : (a b c : Bool) (seen : Option Form) (noted : List Note) → IsFirstNoted seen noted
    → IsFirstNoted (if a then Some Dos else (if b then Some Swapped else (if c then seen else None)))
    (note_if a (notes.Form Dos) ++ (note_if b (notes.Form Swapped) ++ (if c then noted else [])))
of_all true b c seen noted front = first Dos (note_if b (notes.Form Swapped) ++ (if c then noted else []))
of_all false true c seen noted front = first Swapped (if c then noted else [])
of_all false false true seen noted front = front
of_all false false false seen noted front = nothing

behind_front : (image : List ℕ) → IsFirstNoted (front_form image) (front_notes image)
unfolding front_form front_notes
behind_front image =
    of_three (is_in_blocks image (front_begin image) (front_size image)) (is_in_sectors image (front_begin image) (front_size image))
    (is_swapped image (front_begin image) (front_size image)) FrontBlocks FrontDos FrontSwapped

pub form_is_noted : FormIsNoted
unfolding form_seen form_notes IsFirstNoted
form_is_noted image =
    of_all (is_in_sectors image 0 (length image)) (is_swapped image 0 (length image)) (has_front image) (front_form image) (front_notes image)
    (behind_front image)
