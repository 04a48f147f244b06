-- The jobs on volumes.
use Rattle.std.specs.Prelude.{ℕ, Bool, true, false, List, Option, Some, None, Result, Ok, Err}
use Rattle.pm_volume.specs.Directory.{image_fault}
use Rattle.pm_volume.specs.Headers.{blank_image}
use Rattle.pm_volume.specs.declared.fault.VolumeFault.{VolumeFault}
use Rattle.pm_filer.specs.Filed.{Answer, Lines, Bytes, Done, Order, ListFiles, Get, Put, Remove, Change}
use Rattle.pm_filer.specs.Filed.{GetText, PutText, Krunch, Date, Zero, Duplicate, Single, Filed, filed}
use Rattle.pm_filer.specs.Filed.{GetSlot, GetTextSlot, RemoveSlot, ChangeSlot, Kind, KindSlot, Copy, CopySlot}
use Rattle.pm_filer.specs.Filed.{ListAll, ListFitting, RemoveFitting}
use Rattle.pm_filer.specs.declared.fault.FilerFault.{FilerFault}
use Rattle.pm_check.specs.Checked.{check_text}
use Rattle.pm_check.specs.Saving as saving
use Rattle.pm_batch.specs.declared.refusal.Refusal.{Refusal}
use Rattle.pm_batch.specs.declared.refusal.Refusal.TheVariants as refusals
use Rattle.pm_batch.specs.Products.{Product, Written, Image, Refused, Judged, Saved}

-- Returns the image, or the given fault for which the image is no volume.
abbrev pub opened_unless : Option VolumeFault → List ℕ → Result (List ℕ) VolumeFault
opened_unless None image = Ok image
opened_unless (Some fault) image = Err fault

abbrev pub opened_image : List ℕ → Result (List ℕ) VolumeFault
opened_image image = opened_unless (image_fault image) image

-- Returns the product of a command from its answer. For `Done`, the product is `image`, the image after the change.
abbrev pub answered : Answer → List ℕ → Product
answered (Lines text) image = Written text
answered (Bytes bytes) image = Written bytes
answered Done image = Image image

-- Returns the product of a command that was executed, or its refusal.
abbrev pub made_filed : Result Filed FilerFault → Product
made_filed (Ok f) = answered f.answer f.image
made_filed (Err fault) = Refused (refusals.Filer fault)

-- Is true if a command reads bytes from the input of the job.
abbrev pub takes_input : Order → Bool
takes_input ListFiles = false
takes_input (Get name) = false
takes_input (Put name kind bytes) = true
takes_input (Remove name) = false
takes_input (Change old new) = false
takes_input (GetText name) = false
takes_input (PutText name text) = true
takes_input Krunch = false
takes_input (Date year month day) = false
takes_input (Zero name) = false
takes_input Duplicate = false
takes_input Single = false
takes_input (GetSlot slot) = false
takes_input (GetTextSlot slot) = false
takes_input (RemoveSlot slot) = false
takes_input (ChangeSlot slot new) = false
takes_input (Kind name kind) = false
takes_input (KindSlot slot kind) = false
takes_input (Copy name from) = true
takes_input (CopySlot slot name from) = true
takes_input ListAll = false
takes_input (ListFitting pattern) = false
takes_input (RemoveFitting pattern) = false

-- Returns the command with its bytes replaced by `input`, if it is a command that has bytes.
abbrev pub with_input : Order → List ℕ → Order
with_input ListFiles input = ListFiles
with_input (Get name) input = Get name
with_input (Put name kind bytes) input = Put name kind input
with_input (Remove name) input = Remove name
with_input (Change old new) input = Change old new
with_input (GetText name) input = GetText name
with_input (PutText name text) input = PutText name input
with_input Krunch input = Krunch
with_input (Date year month day) input = Date year month day
with_input (Zero name) input = Zero name
with_input Duplicate input = Duplicate
with_input Single input = Single
with_input (GetSlot slot) input = GetSlot slot
with_input (GetTextSlot slot) input = GetTextSlot slot
with_input (RemoveSlot slot) input = RemoveSlot slot
with_input (ChangeSlot slot new) input = ChangeSlot slot new
with_input (Kind name kind) input = Kind name kind
with_input (KindSlot slot kind) input = KindSlot slot kind
with_input (Copy name from) input = Copy name input
with_input (CopySlot slot name from) input = CopySlot slot name input
with_input ListAll input = ListAll
with_input (ListFitting pattern) input = ListFitting pattern
with_input (RemoveFitting pattern) input = RemoveFitting pattern

-- Returns the product of the command `order` on a volume. If the command reads bytes from the input, `input` has these
-- bytes. If the image is no volume, its fault is the refusal.
abbrev pub made_file : Result (List ℕ) VolumeFault → Order → List ℕ → Product
made_file (Ok volume) order input = made_filed (filed volume (with_input order input))
made_file (Err fault) order input = Refused (refusals.Volume fault)

-- Returns the image of a new volume, or the refusal with the given fault.
abbrev pub made_new : Option VolumeFault → List ℕ → ℕ → Product
made_new None name blocks = Image (blank_image name blocks)
made_new (Some fault) name blocks = Refused (refusals.Volume fault)

-- Returns the product that saves a volume, or the refusal with its fault.
abbrev pub made_volume : Result (List ℕ) VolumeFault → Product
made_volume (Ok image) = Image image
made_volume (Err fault) = Refused (refusals.Volume fault)

-- Returns the refusal of an image that is no volume. Returns None if the image is a volume.
abbrev pub refusal_of : Result (List ℕ) VolumeFault → Option Refusal
refusal_of (Ok volume) = None
refusal_of (Err fault) = Some (refusals.Volume fault)

-- Returns the product of the check of `image`: a report on its faults, and its refusal if it is no volume.
abbrev pub made_check : List ℕ → Product
made_check image = Judged (check_text image) (refusal_of (opened_image image))

-- Returns the product of a salvage: the new volume with the files of an image and the report about them, or the
-- refusal.
abbrev pub made_salvage : Result saving.Saved VolumeFault → Product
made_salvage (Ok s) = Saved s.text s.volume
made_salvage (Err fault) = Refused (refusals.Volume fault)
