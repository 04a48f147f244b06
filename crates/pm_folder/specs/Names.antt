-- The names of the files of a volume in a folder and in the file LIST of this folder.
use Rattle.std.specs.Prelude.{ℕ, ◌+◌, ◌==◌, List, [], ◌∷◌, ◌++◌, codes}
use Rattle.std.specs.Prelude.{if◌then◌else◌}
use Rattle.std.specs.Fmt.{decimal}
use Rattle.std.specs.Str.{bytes_eq}
use Rattle.percent_encoding.specs.Percent.{percent_encode}
use Rattle.pm_folder.specs.declared.names.TheConstants.{HOSTED, LISTED}

-- The form of `name` in LIST: `%` and two hexadecimal digits replace each `%`, each byte from 0 to 32 and each byte
-- from 127 on.
abbrev pub listed_name : List ℕ → List ℕ
listed_name name = percent_encode LISTED name

-- The form of a name in the folder: as in LIST, but each slash, and a full stop at the start, are replaced too.
abbrev pub dotless : List ℕ → List ℕ
dotless [] = []
dotless (c ∷ rest) =
    if c == 46 then codes "%2E" ++ percent_encode HOSTED rest else percent_encode HOSTED (c ∷ rest)

-- The name in the folder of the first file with the name `name`. If `name` is LIST, its L is replaced, because the
-- folder has another file with this name.
abbrev pub plain_host : List ℕ → List ℕ
plain_host name = if bytes_eq name (codes "LIST") then codes "%4CIST" else dotless name

-- The name in the folder of a file that follows `before` files with the same name. For the second such file, `%%2` is
-- appended, and for the third one `%%3`.
abbrev pub host_name : ℕ → List ℕ → List ℕ
host_name before name =
    if before == 0 then plain_host name else plain_host name ++ (codes "%%" ++ decimal (before + 1))
