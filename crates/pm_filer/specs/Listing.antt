-- The text of the list of the files of a volume.
use Rattle.std.specs.Prelude.{ℕ, ◌+◌, ◌-◌, ◌==◌, ◌&&◌, nat_le, nat_lt, List, [], ◌∷◌, ◌++◌, length, replicate}
use Rattle.std.specs.Prelude.{map, codes, Option}
use Rattle.std.specs.Prelude.{Some, None, if◌then◌else◌}
use Rattle.std.specs.Fmt.{decimal}
use Rattle.std.specs.List.{flat_map}
unfoldable pub use Rattle.pm_bytes.specs.Decimals.{padded}
use Rattle.pm_volume.specs.Dates.{date_of}
use Rattle.pm_volume.specs.Directory.{block_count, directory_of, files_begin}
use Rattle.pm_volume.specs.Files.{files_of}
use Rattle.pm_volume.specs.Names.{characters_of}
use Rattle.pm_volume.specs.Space.{free_blocks, largest_gap, volume_name}
use Rattle.pm_volume.specs.declared.entry.Entry.{Entry}
use Rattle.pm_volume.specs.declared.kinds.TheConstants.{BAD_BLOCKS, CODE, DATA, FOTO, GRAF, INFO, SECURE, TEXT, UNTYPED}
use Rattle.pm_volume.specs.declared.fields.TheConstants.{LONGEST_NAME}
use Rattle.pm_filer.specs.Fitting.{fitting_files}

-- The byte that is printed for the byte `c` of a name: a question mark if `c` is not printable.
abbrev pub shown_byte : ℕ → ℕ
shown_byte c = if nat_le 32 c && nat_le c 126 then c else 63

unfoldable pub printable_name : List ℕ → List ℕ
printable_name name = map shown_byte name

-- A list of `n` spaces.
unfoldable pub spaces : ℕ → List ℕ
spaces n = replicate n 32

-- The text `text`, left-aligned in a column of `width` characters. If the text is longer, it moves the rest of the line
-- to the right.
abbrev pub at_left : ℕ → List ℕ → List ℕ
at_left width text = text ++ spaces (width - length text)

unfoldable pub at_right : ℕ → ℕ → List ℕ
at_right width n = spaces (width - length (decimal n)) ++ decimal n

-- The word for the kind `kind`. Kinds from 9 on have no word.
unfoldable pub kind_word : ℕ → Option (List ℕ)
kind_word kind =
    if kind == UNTYPED then Some (codes "none")
    else (if kind == BAD_BLOCKS then Some (codes "badb")
    else (if kind == CODE then Some (codes "code")
    else (if kind == TEXT then Some (codes "text")
    else (if kind == INFO then Some (codes "info")
    else (if kind == DATA then Some (codes "data")
    else (if kind == GRAF then Some (codes "graf")
    else (if kind == FOTO then Some (codes "foto")
    else (if kind == SECURE then Some (codes "secd") else None))))))))

abbrev pub word_or_number : Option (List ℕ) → ℕ → List ℕ
word_or_number (Some word) kind = word
word_or_number None kind = at_right 4 kind

-- The kind `kind` as it is printed: its word, or its number right-aligned in four characters.
unfoldable pub kind_text : ℕ → List ℕ
kind_text kind = word_or_number (kind_word kind) kind

-- The date word `word` as it is printed: year, month and day.
unfoldable pub date_text : ℕ → List ℕ
date_text word =
    let date = date_of word in
    padded 3 date.year ++ (45 ∷ (padded 2 date.month ++ (45 ∷ padded 2 date.day)))

-- The part of a file's line after the name: kind, first block, number of blocks, bytes in the last block, date.
unfoldable pub entry_details : Entry → List ℕ
entry_details e =
    kind_text e.kind ++ (32 ∷ (at_right 5 e.first ++ (32 ∷ (at_right 5 (e.end - e.first)
    ++ (32 ∷ (at_right 3 e.last_bytes ++ (32 ∷ date_text e.date)))))))

-- The line of the file of the entry `e`.
unfoldable pub file_line : Entry → List ℕ
file_line e = at_left LONGEST_NAME (printable_name (characters_of e.name)) ++ (32 ∷ (entry_details e ++ 10 ∷ []))

-- The last line of a list: the number of files, of free blocks, and of blocks of the largest gap.
unfoldable pub space_line : List ℕ → List ℕ
space_line image =
    codes "files " ++ (decimal (length (files_of image)) ++ (codes " free " ++ (decimal (free_blocks image)
    ++ (codes " largest " ++ (decimal (largest_gap image) ++ 10 ∷ [])))))

-- The whole list: the volume's name and a colon, a line for each file, and the last line.
unfoldable pub list_text : List ℕ → List ℕ
list_text image =
    printable_name (volume_name image) ++ (58 ∷ 10 ∷ (flat_map file_line (files_of image) ++ space_line image))

-- ---- the full list

-- The part of a file's line after the name, in the full list. It is `entry_details`, the number of the kind, and the
-- slot.
unfoldable pub full_details : ℕ → Entry → List ℕ
full_details slot e = entry_details e ++ (32 ∷ (at_right 2 e.kind ++ (32 ∷ at_right 2 slot)))

unfoldable pub full_line : ℕ → Entry → List ℕ
full_line slot e =
    at_left LONGEST_NAME (printable_name (characters_of e.name)) ++ (32 ∷ (full_details slot e ++ 10 ∷ []))

-- The line of the free blocks from `begin` up to, but not including, `end`, with the first block and the number of
-- blocks. If these are no blocks, no line.
unfoldable pub gap_line : ℕ → ℕ → List ℕ
gap_line begin end =
    if nat_lt begin end
    then codes "< UNUSED >           " ++ (at_right 5 begin ++ (32 ∷ (at_right 5 (end - begin) ++ 10 ∷ []))) else []

-- The lines of the files, of which the first is in slot `slot`. Each file's line follows the line of the free blocks
-- before it. The blocks from `begin` up to, but not including, `end` are listed.
abbrev pub full_lines : ℕ → ℕ → List Entry → ℕ → List ℕ
full_lines slot begin [] end = gap_line begin end
full_lines slot begin (e ∷ files) end =
    gap_line begin e.first ++ (full_line slot e ++ full_lines (slot + 1) e.end files end)

-- The full list: the volume's name and a colon, the lines of files and gaps, and the last line.
unfoldable pub full_list_text : List ℕ → List ℕ
full_list_text image =
    let directory = directory_of image in
    printable_name (volume_name image) ++ (58 ∷ 10 ∷ (full_lines 1 (files_begin directory) (files_of image)
    (block_count directory) ++ space_line image))

-- ---- the list of some files

-- The last line of a list of only `files` files. The free blocks are those of the whole volume.
unfoldable pub some_space_line : List ℕ → ℕ → List ℕ
some_space_line image files =
    codes "files " ++ (decimal files ++ (codes " free " ++ (decimal (free_blocks image)
    ++ (codes " largest " ++ (decimal (largest_gap image) ++ 10 ∷ [])))))

-- The list of only those files of `image` whose names match `pattern`. The last line has the free blocks of the whole
-- volume.
unfoldable pub fitting_list_text : List ℕ → List ℕ → List ℕ
fitting_list_text image pattern =
    let files = fitting_files image pattern in
    printable_name (volume_name image) ++ (58 ∷ 10 ∷ (flat_map file_line files
    ++ some_space_line image (length files)))
