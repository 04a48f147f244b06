-- The rules that decide whether two files are the same file, and how a file is written.
use Rattle.std.specs.Prelude.{ℕ, Bool, true, false, ◌==◌, ◌&&◌, Option, None, Some, if◌then◌else◌}
use Rattle.pm_files.specs.declared.host.Kind.{Kind}
use Rattle.pm_files.specs.declared.host.Kind.TheVariants as kinds
use Rattle.pm_files.specs.declared.host.Node.{Node}
use Rattle.pm_files.specs.declared.replacing.Claimed.{Claimed}
use Rattle.pm_files.specs.declared.replacing.Claimed.TheVariants as claims

-- Is true if `one` and `other` are the same file: their device and their number are equal.
abbrev pub is_one_file : Node → Node → Bool
is_one_file one other = (one.device == other.device) && (one.number == other.number)

-- Is true if a name that named a file still names that file, or a name that named no file still names no file. The
-- first argument is the old file, and the second argument is the file that the name now names.
abbrev pub is_still : Option Node → Option Node → Bool
is_still None None = true
is_still None (Some now) = false
is_still (Some old) None = false
is_still (Some old) (Some now) = is_one_file old now

abbrev pub is_file : Kind → Bool
is_file kinds.File = true
is_file kinds.Link = false
is_file kinds.Other = false

-- Is true if the file is replaced by a new file when it is written. This is so for a regular file with one name. Any
-- other file is written in place.
abbrev pub is_replaced : Node → Bool
is_replaced node = is_file node.kind && (node.names == 1)

-- Returns how the file `opened` is related to the prepared file `was`. `holds` is true if the program has locked the
-- prepared file. A regular file that is not locked yet is `Free`: it must be locked before it is written.
abbrev pub claim_of : Node → Bool → Node → Claimed
claim_of was holds opened = if is_one_file was opened
    then (if holds then claims.Held else (if is_file opened.kind then claims.Free else claims.Shared))
    else claims.Other

-- Returns the mode with which a new file is created. A file that replaces an old file is created with mode 0600 and
-- gets the mode of the old file later. Any other file is created with mode 0666, from which the system removes the bits
-- of the umask.
abbrev pub first_mode : Option Node → ℕ
first_mode (Some old) = 384
first_mode None = 438
