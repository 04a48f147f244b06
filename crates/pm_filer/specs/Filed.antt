-- The image of a volume after a command, and the reply.
use Rattle.std.specs.Prelude.{◌≡◌, ℕ, List, Option, Some, None, Result, Ok, Err, IsOk, ⊤, string_bytes, nat_lt, length}
use Rattle.std.specs.Prelude.{if◌then◌else◌, zero, suc, slice_get}
use Rattle.pm_volume.specs.Dates.{date_word, is_date}
use Rattle.pm_volume.specs.declared.kinds.TheConstants.{TEXT}
use Rattle.pm_volume.specs.Files.{file_bytes, file_named, files_of}
use Rattle.pm_volume.specs.Directory.{directory_of, image_fault}
use Rattle.pm_volume.specs.Headers.{dated_image, last_date_of}
use Rattle.pm_volume.specs.Made.{added, doubled, file_removed, kind_set, renamed, singled, slot_kind_set, slot_removed}
use Rattle.pm_volume.specs.Made.{slot_renamed, zeroed}
use Rattle.pm_volume.specs.Packing.{krunched_image}
use Rattle.pm_textfile.specs.Reading.{text_of_file}
use Rattle.pm_textfile.specs.Writing.{text_fault}
use Rattle.pm_textfile.specs.Laying.{text_file}
use Rattle.pm_textfile.specs.declared.fault.TextFault.{TextFault}
use Rattle.pm_textfile.specs.declared.fault.TextFault.TheVariants as text
use Rattle.pm_textfile.specs.declared.fault.TextFault.TheVariants.{NoHeader}
use Rattle.pm_volume.specs.declared.entry.Entry.{Entry}
use Rattle.pm_volume.specs.declared.fault.VolumeFault.{VolumeFault}
use Rattle.pm_volume.specs.declared.fault.VolumeFault.TheVariants.{NoFile}
use Rattle.pm_filer.specs.declared.command.FileCommand.{FileCommand}
use Rattle.pm_filer.specs.declared.command.FileCommand.TheVariants as commands
use Rattle.pm_filer.specs.declared.command.Reply.{Reply}
use Rattle.pm_filer.specs.declared.command.Reply.TheVariants as replies
use Rattle.pm_filer.specs.declared.fault.FilerFault.{FilerFault}
use Rattle.pm_filer.specs.declared.fault.FilerFault.TheVariants as faults
use Rattle.pm_filer.specs.Fitting.{fitting_removed}
use Rattle.pm_filer.specs.Listing.{fitting_list_text, full_list_text, list_text}

abbrev pub filer_number : FilerFault → ℕ
filer_number (faults.Volume fault) = 1
filer_number (faults.Text fault) = 2
filer_number faults.BadDate = 3
filer_number faults.NoMemory = 4

-- The fault of a command for the fault of a text. `NoMemory` of a text becomes `NoMemory` of the command.
abbrev pub of_text : TextFault → FilerFault
of_text NoHeader = faults.Text NoHeader
of_text text.NoMemory = faults.NoMemory
of_text (text.LineTooLong line) = faults.Text (text.LineTooLong line)
of_text (text.BadByte place) = faults.Text (text.BadByte place)

-- A command as contracts describe it, with numbers and lists of bytes.
pub data Order : Type 0 where
  ListFiles : Order
  Get : List ℕ → Order
  Put : List ℕ → ℕ → List ℕ → Order
  Remove : List ℕ → Order
  Change : List ℕ → List ℕ → Order
  GetText : List ℕ → Order
  PutText : List ℕ → List ℕ → Order
  Krunch : Order
  Date : ℕ → ℕ → ℕ → Order
  Zero : List ℕ → Order
  Duplicate : Order
  Single : Order
  GetSlot : ℕ → Order
  GetTextSlot : ℕ → Order
  RemoveSlot : ℕ → Order
  ChangeSlot : ℕ → List ℕ → Order
  Kind : List ℕ → ℕ → Order
  KindSlot : ℕ → ℕ → Order
  Copy : List ℕ → List ℕ → Order
  CopySlot : ℕ → List ℕ → List ℕ → Order
  ListAll : Order
  ListFitting : List ℕ → Order
  RemoveFitting : List ℕ → Order

abbrev pub order_of : FileCommand → Order
order_of commands.List = ListFiles
order_of (commands.Get name) = Get (string_bytes name)
order_of (commands.Put name kind bytes) = Put (string_bytes name) kind bytes.items
order_of (commands.Remove name) = Remove (string_bytes name)
order_of (commands.Change old new) = Change (string_bytes old) (string_bytes new)
order_of (commands.GetText name) = GetText (string_bytes name)
order_of (commands.PutText name bytes) = PutText (string_bytes name) bytes.items
order_of commands.Krunch = Krunch
order_of (commands.Date year month day) = Date year month day
order_of (commands.Zero name) = Zero (string_bytes name)
order_of commands.Duplicate = Duplicate
order_of commands.Single = Single
order_of (commands.GetSlot slot) = GetSlot slot
order_of (commands.GetTextSlot slot) = GetTextSlot slot
order_of (commands.RemoveSlot slot) = RemoveSlot slot
order_of (commands.ChangeSlot slot new) = ChangeSlot slot (string_bytes new)
order_of (commands.Kind name kind) = Kind (string_bytes name) kind
order_of (commands.KindSlot slot kind) = KindSlot slot kind
order_of (commands.Copy name image) = Copy (string_bytes name) image.items
order_of (commands.CopySlot slot name image) = CopySlot slot (string_bytes name) image.items
order_of commands.ListAll = ListAll
order_of (commands.ListFitting pattern) = ListFitting (string_bytes pattern)
order_of (commands.RemoveFitting pattern) = RemoveFitting (string_bytes pattern)

-- The reply to a command as contracts describe it, with lists of bytes.
pub data Answer : Type 0 where
  Lines : List ℕ → Answer
  Bytes : List ℕ → Answer
  Done : Answer

abbrev pub answer_of : Reply → Answer
answer_of (replies.Lines text) = Lines (string_bytes text)
answer_of (replies.Bytes bytes) = Bytes bytes.items
answer_of replies.Done = Done

-- The image after a command, and the reply.
pub record Filed : Type 0 where
  pub image : List ℕ
  pub answer : Answer

-- The result of a call that does not change the volume `image` is the defined result `read`. If the call returns
-- `NoMemory`, then `read` is not a fault.
abbrev pub Looks : List ℕ → Result Reply FilerFault → Result Filed FilerFault → Type 0
Looks image (Ok reply) read = read ≡ Ok (record { image = image; answer = answer_of reply })
Looks image (Err faults.NoMemory) read = IsOk read
Looks image (Err (faults.Volume fault)) read = read ≡ Err (faults.Volume fault)
Looks image (Err (faults.Text fault)) read = read ≡ Err (faults.Text fault)
Looks image (Err faults.BadDate) read = read ≡ Err faults.BadDate

-- The result of a command that changes the volume: the new image, or the fault of the volume.
abbrev pub changed : Result (List ℕ) VolumeFault → Result Filed FilerFault
changed (Ok image) = Ok (record { image = image; answer = Done })
changed (Err fault) = Err (faults.Volume fault)

-- The result of a command that reads the bytes of a file: these bytes, or `NoFile` if they do not exist.
abbrev pub lent : List ℕ → Option (List ℕ) → Result Filed FilerFault
lent image (Some bytes) = Ok (record { image = image; answer = Bytes bytes })
lent image None = Err (faults.Volume NoFile)

abbrev pub bytes_of_file : List ℕ → Option Entry → Option (List ℕ)
bytes_of_file image None = None
bytes_of_file image (Some entry) = file_bytes image entry

-- The entry of the file in a directory slot. Slots are numbered from 1; slot 0 has no file.
abbrev pub file_in_slot : List ℕ → ℕ → Option Entry
file_in_slot image zero = None
file_in_slot image (suc before) = slice_get (files_of image) before

-- The result of a command that reads a text file with the given bytes: its text, or a fault if it has no header or does
-- not exist.
abbrev pub text_read : List ℕ → Option (List ℕ) → Result Filed FilerFault
text_read image (Some bytes) =
    if nat_lt (length bytes) 1024 then Err (faults.Text NoHeader)
    else Ok (record { image = image; answer = Bytes (text_of_file bytes) })
text_read image None = Err (faults.Volume NoFile)

-- The result of a command that adds `text` as a text file: the new image, or a fault. A fault of the text comes before
-- a fault of the volume.
abbrev pub text_written : List ℕ → List ℕ → List ℕ → Option TextFault → Result Filed FilerFault
text_written image name text None = changed (added image name TEXT (text_file text) (last_date_of (directory_of image)))
text_written image name text (Some fault) = Err (faults.Text fault)

-- The image with a copy of the file of the entry `e` under the name `name`, with its kind and date. The last argument
-- has the bytes of this file. Without them, the fault is `NoFile`.
abbrev pub copied_bytes : List ℕ → List ℕ → Entry → Option (List ℕ) → Result (List ℕ) VolumeFault
copied_bytes image name e (Some bytes) = added image name e.kind bytes e.date
copied_bytes image name e None = Err NoFile

-- The image with a copy of the given file of the image `from`, under the name `name`. If the file does not exist, the
-- fault is `NoFile`.
abbrev pub copied : List ℕ → List ℕ → List ℕ → Option Entry → Result (List ℕ) VolumeFault
copied image name from (Some e) = copied_bytes image name e (file_bytes from e)
copied image name from None = Err NoFile

-- The result of `copied`, unless the image `from` has a fault. A fault of `from` comes before any other fault.
abbrev pub copied_from : List ℕ → List ℕ → List ℕ → Option Entry → Option VolumeFault → Result (List ℕ) VolumeFault
copied_from image name from entry None = copied image name from entry
copied_from image name from entry (Some fault) = Err fault

-- The result of a command on the volume `image`. If a command is refused, the volume is unchanged.
unfoldable pub filed : List ℕ → Order → Result Filed FilerFault
filed image ListFiles = Ok (record { image = image; answer = Lines (list_text image) })
filed image (Get name) = lent image (bytes_of_file image (file_named image name))
filed image (Put name kind bytes) = changed (added image name kind bytes (last_date_of (directory_of image)))
filed image (Remove name) = changed (file_removed image name)
filed image (Change old new) = changed (renamed image old new)
filed image (GetText name) = text_read image (bytes_of_file image (file_named image name))
filed image (PutText name text) = text_written image name text (text_fault text)
filed image Krunch = Ok (record { image = krunched_image image; answer = Done })
filed image (Date year month day) =
    if is_date year month day then Ok (record { image = dated_image image (date_word year month day); answer = Done })
    else Err faults.BadDate
filed image (Zero name) = changed (zeroed image name)
filed image Duplicate = changed (doubled image)
filed image Single = Ok (record { image = singled image; answer = Done })
filed image (GetSlot slot) = lent image (bytes_of_file image (file_in_slot image slot))
filed image (GetTextSlot slot) = text_read image (bytes_of_file image (file_in_slot image slot))
filed image (RemoveSlot slot) = changed (slot_removed image slot)
filed image (ChangeSlot slot new) = changed (slot_renamed image slot new)
filed image (Kind name kind) = changed (kind_set image name kind)
filed image (KindSlot slot kind) = changed (slot_kind_set image slot kind)
filed image (Copy name from) = changed (copied_from image name from (file_named from name) (image_fault from))
filed image (CopySlot slot name from) =
    changed (copied_from image name from (file_in_slot from slot) (image_fault from))
filed image ListAll = Ok (record { image = image; answer = Lines (full_list_text image) })
filed image (ListFitting pattern) = Ok (record { image = image; answer = Lines (fitting_list_text image pattern) })
filed image (RemoveFitting pattern) = changed (fitting_removed image pattern)

-- States when a command can return `NoMemory`, given its defined result `outcome`. A command that returns bytes or text
-- can do so only if `outcome` is not a fault. A command that adds a text always can, because it creates its file before
-- it checks anything. Other commands cannot.
abbrev pub MayWantMemory : Order → Result Filed FilerFault → Type 0
MayWantMemory ListFiles outcome = IsOk outcome
MayWantMemory (Get name) outcome = IsOk outcome
MayWantMemory (GetText name) outcome = IsOk outcome
MayWantMemory (PutText name text) outcome = ⊤
MayWantMemory (Put name kind bytes) outcome = ⊥
MayWantMemory (Remove name) outcome = ⊥
MayWantMemory (Change old new) outcome = ⊥
MayWantMemory Krunch outcome = ⊥
MayWantMemory (Date year month day) outcome = ⊥
MayWantMemory (Zero name) outcome = ⊥
MayWantMemory Duplicate outcome = ⊥
MayWantMemory Single outcome = ⊥
MayWantMemory (GetSlot slot) outcome = IsOk outcome
MayWantMemory (GetTextSlot slot) outcome = IsOk outcome
MayWantMemory (RemoveSlot slot) outcome = ⊥
MayWantMemory (ChangeSlot slot new) outcome = ⊥
MayWantMemory (Kind name kind) outcome = ⊥
MayWantMemory (KindSlot slot kind) outcome = ⊥
MayWantMemory (Copy name from) outcome = ⊥
MayWantMemory (CopySlot slot name from) outcome = ⊥
MayWantMemory ListAll outcome = IsOk outcome
MayWantMemory (ListFitting pattern) outcome = IsOk outcome
MayWantMemory (RemoveFitting pattern) outcome = ⊥
