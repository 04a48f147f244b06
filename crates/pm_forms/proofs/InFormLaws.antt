-- Lemmas about files that are converted from another form.
use Rattle.std.proofs.Common.{◌≡◌, ◌∙◌, ℕ, List, [], Option, None, Some, Result, Ok, Err, IfOk, OnOk, Vec, ap, refl, sym, subst}
use Rattle.std.proofs.Common.{option_map}
use Rattle.std.specs.Option.{unwrap_or}
use Rattle.std.specs.declared.alloc.Global.{Global}
use Rattle.pm_files.specs.Held.{Files, HoldsFile, HoldsNone, Puts}
use Rattle.pm_files.specs.declared.fault.DiskFault.{DiskFault}
use Rattle.pm_forms.specs.Forms.{file_of, volume_of}
use Rattle.pm_check.specs.Headed.{filed, volume_in}
use Rattle.pm_check.specs.Orders.{turned}
use Rattle.pm_check.proofs.OrderLaws.{turned_back, turned_blocks}
use Rattle.pm_forms.specs.declared.form.Form.{Form}
use Rattle.pm_forms.specs.declared.form.Form.TheVariants as forms
use Rattle.pm_check.specs.declared.order.Order.{Order}
use Rattle.pm_check.specs.declared.order.Order.TheVariants as orders
use Rattle.pm_forms.specs.declared.in_form.PathForm.{PathForm}
use Rattle.pm_forms.specs.InForm.{IsFound, PutsFormed, PutsVolume, form_at, in_form}

-- If the file at `path` contains `bytes`, then the converted file at `path` contains the volume in `bytes`.
pub holds_volume : (form : Form) (own : List PathForm) (files : Files) (path bytes : List ℕ)
    → HoldsFile files path bytes
    → HoldsFile (in_form form own files) path (volume_of (form_at form own path) bytes)
holds_volume form own None path bytes holds = tt
holds_volume form own (Some files) path bytes holds =
    ap (option_map (volume_of (form_at form own path))) holds

-- If no file exists at `path`, then no converted file exists at `path`.
pub holds_none : (form : Form) (own : List PathForm) (files : Files) (path : List ℕ)
    → HoldsNone files path → HoldsNone (in_form form own files) path
holds_none form own None path none = tt
holds_none form own (Some files) path none =
    ap (option_map (volume_of (form_at form own path))) none

-- If the file at `path` contains `bytes`, then `bytes` are found. If no file exists at `path`, then the empty list is
-- found.
pub found_held : (files : Files) (path bytes : List ℕ) → HoldsFile files path bytes → IsFound files path bytes
found_held None path bytes holds = tt
found_held (Some files) path bytes holds = sym (ap (λ held. unwrap_or held []) holds)

pub found_none : (files : Files) (path : List ℕ) → HoldsNone files path → IsFound files path []
found_none None path none = tt
found_none (Some files) path none = sym (ap (λ held. unwrap_or held []) none)

-- If `file` is written to `path` and `bytes` is the volume in `file`, then the converted file at `path` contains
-- `bytes`.
pub puts_formed : (form : Form) (own : List PathForm) (old new : Files) (path file bytes : List ℕ)
    → Puts old new path file → volume_of (form_at form own path) file ≡ bytes
    → Puts (in_form form own old) (in_form form own new) path bytes
puts_formed form own None new path file bytes puts is = tt
puts_formed form own (Some old) None path file bytes puts is = absurd puts
puts_formed form own (Some old) (Some new) path file bytes puts is = (
  ap (option_map (volume_of (form_at form own path))) puts.0 ∙ ap Some is,
  λ other apart. ap (option_map (volume_of (form_at form own other))) (puts.1 other apart),
)

-- If the result `r` is the volume in the bytes of the file at `path`, then `r` is the contents of the converted file.
pub read_volume : (r : Result (Vec ℕ Global) DiskFault) (form at : Form) (own : List PathForm) (files : Files)
    (path bytes : List ℕ) → at ≡ form_at form own path → HoldsFile files path bytes
    → IfOk r (λ made. made.items ≡ volume_of at bytes)
    → IfOk r (λ made. HoldsFile (in_form form own files) path made.items)
read_volume (Ok made) form at own files path bytes is holds turns =
    subst (HoldsFile (in_form form own files) path) (sym (turns ∙ ap (λ form. volume_of form bytes) is))
    (holds_volume form own files path bytes holds)
read_volume (Err fault) form at own files path bytes is holds turns = tt

pub put_turned : {A : Type 0} (r : Result A DiskFault) (form : Form) (order : Order) (own : List PathForm)
    (old new : Files) (path bytes made : List ℕ) → forms.In order ≡ form_at form own path
    → made ≡ turned order bytes → OnOk r (Puts old new path made)
    → OnOk r (Puts (in_form form own old) (in_form form own new) path bytes)
put_turned (Ok done) form order own old new path bytes made is turns puts =
    puts_formed form own old new path made bytes puts
    (ap (λ form. volume_of form made) (sym is) ∙ ap (turned order) turns ∙ turned_back order bytes)
put_turned (Err fault) form order own old new path bytes made is turns puts = tt

pub put_blocks : {A : Type 0} (r : Result A DiskFault) (form : Form) (own : List PathForm)
    (old new : Files) (path bytes : List ℕ) → forms.In orders.Blocks ≡ form_at form own path
    → OnOk r (Puts old new path bytes)
    → OnOk r (Puts (in_form form own old) (in_form form own new) path bytes)
put_blocks (Ok done) form own old new path bytes is puts =
    puts_formed form own old new path bytes bytes puts
    (ap (λ form. volume_of form bytes) (sym is) ∙ turned_blocks bytes)
put_blocks (Err fault) form own old new path bytes is puts = tt

-- ---- .2mg files

pub puts_volume : {A : Type 0} (r : Result A DiskFault) (files between new : Files) (path before made volume : List ℕ)
    → between ≡ files → IsFound files path before → made ≡ filed before volume
    → volume_in (filed before volume) ≡ volume → OnOk r (Puts between new path made)
    → OnOk r (PutsVolume files new path volume)
puts_volume (Ok done) files between new path before made volume same is filed_is back puts = record {
  before = before;
  found = is;
  puts = subst (λ file. Puts files new path file) filed_is (subst (λ files. Puts files new path made) same puts);
  back = back;
}
puts_volume (Err fault) files between new path before made volume same is filed_is back puts = tt

pub put_volume : {A : Type 0} (r : Result A DiskFault) (form : Form) (own : List PathForm)
    (old new : Files) (path bytes : List ℕ) → forms.Headed ≡ form_at form own path
    → OnOk r (PutsVolume old new path bytes)
    → OnOk r (Puts (in_form form own old) (in_form form own new) path bytes)
put_volume (Ok done) form own old new path bytes is puts =
    puts_formed form own old new path (filed puts.before bytes) bytes puts.puts
    (ap (λ form. volume_of form (filed puts.before bytes)) (sym is) ∙ puts.back)
put_volume (Err fault) form own old new path bytes is puts = tt

-- ---- the file that is written

formed : (form : Form) (old new : Files) (path file volume : List ℕ)
    → ((files : List ℕ → Option (List ℕ)) → old ≡ Some files → file ≡ file_of form (unwrap_or (files path) []) volume)
    → Puts old new path file → PutsFormed form old new path volume
formed form None new path file volume is puts = tt
formed form (Some files) new path file volume is puts = subst (Puts (Some files) new path) (is files refl) puts

pub formed_turned : {A : Type 0} (r : Result A DiskFault) (form : Form) (order : Order) (old new : Files)
    (path volume made : List ℕ) → forms.In order ≡ form → made ≡ turned order volume
    → OnOk r (Puts old new path made) → OnOk r (PutsFormed form old new path volume)
formed_turned (Ok done) form order old new path volume made is turns puts =
    subst (λ form. PutsFormed form old new path volume) is
    (formed (forms.In order) old new path made volume (λ files known. turns) puts)
formed_turned (Err fault) form order old new path volume made is turns puts = tt

pub formed_blocks : {A : Type 0} (r : Result A DiskFault) (form : Form) (old new : Files) (path volume : List ℕ)
    → forms.In orders.Blocks ≡ form → OnOk r (Puts old new path volume) → OnOk r (PutsFormed form old new path volume)
formed_blocks r form old new path volume is puts =
    formed_turned r form orders.Blocks old new path volume volume is (sym (turned_blocks volume)) puts

pub formed_headed : {A : Type 0} (r : Result A DiskFault) (form : Form) (old new : Files) (path volume : List ℕ)
    → forms.Headed ≡ form → OnOk r (PutsVolume old new path volume) → OnOk r (PutsFormed form old new path volume)
formed_headed (Ok done) form old new path volume is puts =
    subst (λ form. PutsFormed form old new path volume) is
    (formed forms.Headed old new path (filed puts.before volume) volume
    (λ files known. ap (λ before. filed before volume)
    (subst (λ files. IsFound files path puts.before) known puts.found)) puts.puts)
formed_headed (Err fault) form old new path volume is puts = tt
