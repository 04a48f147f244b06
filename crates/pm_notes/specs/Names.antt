-- The names of the procedures that instructions call by number.
use Rattle.std.specs.Prelude.{ℕ, ◌+◌, ◌-◌, ◌*◌, Bool, List, [], ◌∷◌, length, take, drop, nat_le, ◌==◌, ◌&&◌}
use Rattle.std.specs.Prelude.{if◌then◌else◌, codes, Option, Some, None}
use Rattle.std.specs.Map.{lookup}
use Rattle.std.specs.Option.{option_and_then, option_or}
use Rattle.std.specs.Str.{bytes_eq}

-- The names of the standard procedures that the machine has, by their number.
unfoldable pub standard_names : List (ℕ × List ℕ)
standard_names =
    (0, codes "IOCHECK") ∷
    (1, codes "NEW") ∷
    (2, codes "MOVELEFT") ∷
    (3, codes "MOVERIGHT") ∷
    (4, codes "EXIT") ∷
    (5, codes "UNITREAD") ∷
    (6, codes "UNITWRITE") ∷
    (9, codes "TIME") ∷
    (10, codes "FILLCHAR") ∷
    (11, codes "SCAN") ∷
    (21, codes "load a segment") ∷
    (22, codes "unload a segment") ∷
    (32, codes "MARK") ∷
    (33, codes "RELEASE") ∷
    (34, codes "IORESULT") ∷
    (35, codes "UNITBUSY") ∷
    (37, codes "UNITWAIT") ∷
    (38, codes "UNITCLEAR") ∷
    (39, codes "HALT") ∷
    (40, codes "MEMAVAIL") ∷
    []

-- The names of the procedures of the operating system, by their number in segment 0.
unfoldable pub system_names : List (ℕ × List ℕ)
system_names =
    (2, codes "EXECERROR") ∷
    (3, codes "FINIT") ∷
    (4, codes "FRESET") ∷
    (5, codes "FOPEN") ∷
    (6, codes "FCLOSE") ∷
    (7, codes "FGET") ∷
    (8, codes "FPUT") ∷
    (9, codes "FSEEK") ∷
    (10, codes "FEOF") ∷
    (11, codes "FEOLN") ∷
    (12, codes "FREADINT") ∷
    (13, codes "FWRITEINT") ∷
    (14, codes "FREADREAL") ∷
    (15, codes "FWRITEREAL") ∷
    (16, codes "FREADCHAR") ∷
    (17, codes "FWRITECHAR") ∷
    (18, codes "FREADSTRING") ∷
    (19, codes "FWRITESTRING") ∷
    (20, codes "FWRITEBYTES") ∷
    (21, codes "FREADLN") ∷
    (22, codes "FWRITELN") ∷
    (23, codes "SCONCAT") ∷
    (24, codes "SINSERT") ∷
    (25, codes "SCOPY") ∷
    (26, codes "SDELETE") ∷
    (27, codes "SPOS") ∷
    (28, codes "FBLOCKIO") ∷
    (29, codes "FGOTOXY") ∷
    []

unfoldable pub standard_name : ℕ → Option (List ℕ)
standard_name n = lookup (λ m. m == n) standard_names

unfoldable pub system_name : ℕ → Option (List ℕ)
system_name n = lookup (λ m. m == n) system_names

abbrev pub is_digit : ℕ → Bool
is_digit c = nat_le 48 c && nat_le c 57

-- The number that one or two decimal digits write, or `None`. No procedure with a greater number has a name.
abbrev pub number_in : List ℕ → Option ℕ
number_in (d ∷ []) = if is_digit d then Some (d - 48) else None
number_in (c ∷ d ∷ []) = if is_digit c && is_digit d then Some (10 * (c - 48) + (d - 48)) else None
number_in _ = None

-- The rest of `line` after the prefix `front`, or `None` if `line` does not begin with `front`.
abbrev pub behind : List ℕ → List ℕ → Option (List ℕ)
behind front line = if bytes_eq (take (length front) line) front then Some (drop (length front) line) else None

-- The name of the standard procedure that `line` calls. The line must consist of only `CSP` and its number.
unfoldable pub standard_called : List ℕ → Option (List ℕ)
standard_called line = option_and_then standard_name (option_and_then number_in (behind (codes "  CSP ") line))

-- The name of the procedure of the operating system that `line` calls. The line must consist of only `CXP 0` and its
-- number.
unfoldable pub system_called : List ℕ → Option (List ℕ)
system_called line = option_and_then system_name (option_and_then number_in (behind (codes "  CXP 0, ") line))

unfoldable pub name_called : List ℕ → Option (List ℕ)
name_called line = option_or (standard_called line) (system_called line)
