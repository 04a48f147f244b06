-- The requirements for the arguments of each command. A command line is valid if each argument meets its requirement.
use Rattle.std.specs.Prelude.{◌≡◌, ◌≢◌, ◌≤◌, ⊤, ℕ, Bool, true, false, List, [], ◌∷◌, ◌++◌, Option, None, Some}
use Rattle.std.specs.Prelude.{◌||◌, codes, is_some, if◌then◌else◌}
use Rattle.std.specs.Bool.{MatchBool}
use Rattle.std.specs.Option.{option_or}
use Rattle.std.specs.Str.{bytes_eq}
use Rattle.clap.specs.Words.{Row, subcommand_rows_of}
use Rattle.clap.specs.declared.parser.matches.ArgMatches.{ArgMatches}
use Rattle.pm_plan.specs.Asked.{IsCommand, IsKind, IsLimitWord, IsNumberUpTo, IsNumberWord, IsRunLimitWord, is_set}
use Rattle.pm_plan.specs.Asked.{is_table}
use Rattle.pm_plan.specs.Asked.{word_below, word_found, words_of}
use Rattle.pm_plan.specs.ConvertWords.{HasNew, IsGoodFormat, IsGoodTarget}
use Rattle.pm_plan.specs.FolderWords.{AreGoodEnds, IsGoodText}
use Rattle.pm_plan.specs.SearchWords.{IsGoodSearch}
use Rattle.pm_plan.specs.FormWords.{IsFormWord}
use Rattle.pm_plan.specs.declared.words.WordsError.{WordsError}
use Rattle.pm_plan.specs.declared.words.WordsError.TheVariants as errors

-- Is true if the argument exists. It may be empty.
abbrev pub IsThere : Option (List ℕ) → Type 0
IsThere None = ⊥
IsThere (Some word) = ⊤

-- Is true if the argument exists and is not empty.
abbrev pub IsGiven : Option (List ℕ) → Type 0
IsGiven None = ⊥
IsGiven (Some word) = word ≢ []

-- Is true if the argument is missing, or is not empty.
abbrev pub IsOptional : Option (List ℕ) → Type 0
IsOptional None = ⊤
IsOptional (Some word) = word ≢ []

-- Is true if the argument exists, and is the name of a kind of file or a decimal number up to 15.
abbrev pub IsKindWord : Option (List ℕ) → Type 0
IsKindWord word = (kind : ℕ) × (kind ≤ 15) × IsKind word kind

-- Is true if the argument is missing, or if the option that the first argument refers to is not given.
abbrev pub IsAlone : Bool → Option (List ℕ) → Type 0
IsAlone true None = ⊤
IsAlone true (Some word) = ⊥
IsAlone false word = ⊤

-- Is true if the argument is missing, or if the argument `other` exists too.
abbrev pub IsBeside : Option (List ℕ) → Option (List ℕ) → Type 0
IsBeside None other = ⊤
IsBeside (Some word) None = ⊥
IsBeside (Some word) (Some other) = ⊤

-- Is true if at most one of two options without a value is given.
abbrev pub IsNotBoth : Bool → Bool → Type 0
IsNotBoth true other = other ≡ false
IsNotBoth false other = ⊤

-- Is true if either a name or the number of a slot is given, and not both. The number is at most 65,535.
abbrev pub IsNameOrSlot : Option (List ℕ) → Option (List ℕ) → Type 0
IsNameOrSlot (Some name) None = ⊤
IsNameOrSlot None (Some slot) = IsNumberWord 65535 (Some slot)
IsNameOrSlot (Some name) (Some slot) = ⊥
IsNameOrSlot None None = ⊥

-- Is true if exactly one of a name, the number of a slot and a pattern is given.
abbrev pub IsNameSlotOrPattern : Option (List ℕ) → Option (List ℕ) → Option (List ℕ) → Type 0
IsNameSlotOrPattern name slot None = IsNameOrSlot name slot
IsNameSlotOrPattern None None (Some pattern) = ⊤
IsNameSlotOrPattern None (Some slot) (Some pattern) = ⊥
IsNameSlotOrPattern (Some name) slot (Some pattern) = ⊥

-- Is true if the option without a value is not given, or if the argument `other` exists.
abbrev pub IsWith : Bool → Option (List ℕ) → Type 0
IsWith true other = IsThere other
IsWith false other = ⊤

-- Is true if the value of `--slot` is missing, or is a decimal number up to 65,535.
abbrev pub IsSlotWord : Option (List ℕ) → Type 0
IsSlotWord None = ⊤
IsSlotWord (Some word) = IsNumberUpTo 65535 word

-- Is true if the values of `--segment` and `--procedure` are missing or decimal numbers up to 255, and a procedure is
-- given only together with a segment.
abbrev pub IsCodeWords : Option (List ℕ) → Option (List ℕ) → Type 0
IsCodeWords None None = ⊤
IsCodeWords None (Some procedure) = ⊥
IsCodeWords (Some segment) None = IsNumberUpTo 255 segment
IsCodeWords (Some segment) (Some procedure) = IsNumberUpTo 255 segment × IsNumberUpTo 255 procedure

-- A requirement for an argument.
pub data Need : Type 0 where
  -- The argument exists. It may be empty.
  Word : Need
  -- The option is given and its value is not empty.
  Given : Need
  -- The option is missing, or its value is not empty.
  Optional : Need
  -- The argument is a kind of file.
  Kind : Need
  -- The argument is a kind of file. If it is missing, the argument under this id is a kind of file.
  KindOr : List ℕ → Need
  -- The argument is a decimal number up to this number.
  Number : ℕ → Need
  -- The value of `--limit` of `raw` is missing or is a decimal number below 2 ^ 32.
  Limit : Need
  -- The value of `--limit` of a run or a trace is valid. With `--unlimited`, it must be missing.
  RunLimit : Need
  -- The option must be missing if `--save` is given.
  NotSaved : Need
  -- The option takes no value, and must be missing if the option under this id is given.
  NotBeside : List ℕ → Need
  -- The option must be missing if the argument under this id is missing.
  Beside : List ℕ → Need
  -- The argument is a name. It must be missing if and only if `--slot` has a decimal number up to 65,535.
  NameOrSlot : Need
  -- Exactly one of these is given: the name, the number of a slot after `--slot`, or a pattern after `--matching`.
  NameSlotOrPattern : Need
  -- The option must be missing if the option under this id, which takes no value, is given.
  Without : List ℕ → Need
  -- The option takes no value. If it is given, the argument under this id must exist.
  With : List ℕ → Need
  -- The number of a slot is missing, or is at most 65,535.
  Slot : Need
  -- The number of a segment is valid together with that of a procedure. A procedure requires a segment.
  Segment : Need

abbrev pub Meets : List Row → Need → Option (List ℕ) → Type 0
Meets rows Word word = IsThere word
Meets rows Given word = IsGiven word
Meets rows Optional word = IsOptional word
Meets rows Kind word = IsKindWord word
Meets rows (KindOr other) word = IsKindWord (option_or word (word_found rows other))
Meets rows (Number most) word = IsNumberWord most word
Meets rows Limit word = IsLimitWord word
Meets rows RunLimit word = IsRunLimitWord (is_set (word_found rows (codes "unlimited"))) word
Meets rows NotSaved word = IsAlone (is_set (word_found rows (codes "save"))) word
Meets rows (NotBeside other) word = IsNotBoth (is_set word) (is_set (word_found rows other))
Meets rows (Beside other) word = IsBeside word (word_found rows other)
Meets rows NameOrSlot word = IsNameOrSlot word (word_found rows (codes "slot"))
Meets rows NameSlotOrPattern word =
    IsNameSlotOrPattern word (word_found rows (codes "slot")) (word_found rows (codes "matching"))
Meets rows (Without other) word = IsAlone (is_set (word_found rows other)) word
Meets rows (With other) word = IsWith (is_set word) (word_found rows other)
Meets rows Slot word = IsSlotWord word
Meets rows Segment word = IsCodeWords word (word_found rows (codes "procedure"))

-- Is true if each argument in `rows` meets its requirement. A requirement is a pair of an id and a `Need`.
abbrev pub MeetEach : List Row → List (List ℕ × Need) → Type 0
MeetEach rows [] = ⊤
MeetEach rows (need ∷ needs) = Meets rows need.1 (word_found rows need.0) × MeetEach rows needs

-- Is true if the requirements are not `None`, and each argument in `rows` meets its requirement.
abbrev pub MeetAll : List Row → Option (List (List ℕ × Need)) → Type 0
MeetAll rows None = ⊥
MeetAll rows (Some needs) = MeetEach rows needs

-- The requirements for the disks on the units other than 4.
abbrev pub others_needs : List (List ℕ × Need)
others_needs = (codes "d5", Optional) ∷ (codes "d9", Optional) ∷ (codes "d10", Optional) ∷ (codes "d11", Optional)
    ∷ (codes "d12", Optional) ∷ []

-- The requirements of `run`, `trace` and `debug` for the program.
abbrev pub program_needs : List (List ℕ × Need)
program_needs = (codes "d4", Given) ∷ (codes "d5", Optional) ∷ (codes "d9", Optional) ∷ (codes "d10", Optional)
    ∷ (codes "d11", Optional) ∷ (codes "d12", Optional) ∷ (codes "NAME", Word) ∷ (codes "limit", RunLimit)
    ∷ (codes "system", Optional) ∷ []

-- The requirements of `run` for its other options.
abbrev pub choices_needs : List (List ℕ × Need)
choices_needs = (codes "system", NotSaved) ∷ (codes "save-all", NotBeside (codes "save"))
    ∷ (codes "printer", Optional) ∷ []

-- The requirements of `debug`.
abbrev pub debug_needs : List (List ℕ × Need)
debug_needs = (codes "input", Optional) ∷ program_needs

-- The requirements of `raw` and `trace` for the options that select lines.
abbrev pub selection_needs : List (List ℕ × Need)
selection_needs = (codes "from", Limit) ∷ (codes "segment", Segment) ∷ []

-- The requirements of `trace`.
abbrev pub trace_needs : List (List ℕ × Need)
trace_needs = (codes "output", Optional) ∷ (selection_needs ++ program_needs)

-- The requirements of `asm` for the options that select its output.
abbrev pub asm_needs : List (List ℕ × Need)
asm_needs = (codes "all", NotBeside (codes "list")) ∷ (codes "symbols", NotBeside (codes "list"))
    ∷ (codes "symbols", NotBeside (codes "all")) ∷ []

-- The requirements of `dis` for the options that select its output.
abbrev pub dis_needs : List (List ℕ × Need)
dis_needs = (codes "list", NotBeside (codes "names")) ∷ (codes "statements", NotBeside (codes "names"))
    ∷ (codes "statements", NotBeside (codes "list")) ∷ (codes "indent", NotBeside (codes "names"))
    ∷ (codes "indent", NotBeside (codes "list")) ∷ (codes "blocks", NotBeside (codes "names"))
    ∷ (codes "blocks", NotBeside (codes "list")) ∷ (codes "blocks", NotBeside (codes "indent")) ∷ []

-- The requirements of `asm` and `dis` for their input.
abbrev pub input_needs : List (List ℕ × Need)
input_needs = (codes "image", Optional) ∷ (codes "FILE", Optional) ∷ (codes "image", Beside (codes "FILE")) ∷ []

-- The requirements of `asm` and `dis` for their input and output files.
abbrev pub text_files_needs : List (List ℕ × Need)
text_files_needs = input_needs ++ ((codes "output", Optional) ∷ [])

-- Returns the requirements of `command`. Returns `None` if it is `files` or no command.
abbrev pub command_needs : List ℕ → Option (List (List ℕ × Need))
command_needs command =
    if bytes_eq command (codes "raw") then Some ((codes "limit", Limit) ∷ selection_needs)
    else (if bytes_eq command (codes "run") then Some (choices_needs ++ program_needs)
    else (if bytes_eq command (codes "trace") then Some trace_needs
    else (if bytes_eq command (codes "debug") then Some debug_needs
    else (if bytes_eq command (codes "asm") then Some (asm_needs ++ text_files_needs)
    else (if bytes_eq command (codes "dis") then Some (dis_needs ++ text_files_needs) else None)))))

-- Returns the requirements of `verb` of `files`. Returns `None` if its arguments are not listed here.
abbrev pub verb_needs : List ℕ → Option (List (List ℕ × Need))
verb_needs verb =
    if bytes_eq verb (codes "list") then Some ((codes "matching", Without (codes "all")) ∷ [])
    else (if bytes_eq verb (codes "get") then Some ((codes "NAME", NameOrSlot) ∷ [])
    else (if bytes_eq verb (codes "remove") then Some ((codes "NAME", NameSlotOrPattern)
    ∷ (codes "dry-run", With (codes "matching")) ∷ [])
    else (if bytes_eq verb (codes "change") then Some ((codes "OLD", Word) ∷ (codes "NEW", NameOrSlot) ∷ [])
    else (if bytes_eq verb (codes "gettext") then Some ((codes "NAME", NameOrSlot) ∷ [])
    else (if bytes_eq verb (codes "puttext") then Some ((codes "NAME", Word) ∷ [])
    else (if bytes_eq verb (codes "krunch") then Some []
    else (if bytes_eq verb (codes "zero") then Some ((codes "NAME", Word) ∷ [])
    else (if bytes_eq verb (codes "date") then Some ((codes "Y", Number 255) ∷ (codes "M", Number 255)
    ∷ (codes "D", Number 255) ∷ [])
    else (if bytes_eq verb (codes "duplicate") then Some []
    else (if bytes_eq verb (codes "single") then Some []
    else (if bytes_eq verb (codes "repair") then Some []
    else (if bytes_eq verb (codes "put") then Some ((codes "NAME", Word) ∷ (codes "KIND", Kind) ∷ [])
    else (if bytes_eq verb (codes "new") then Some ((codes "NAME", Word) ∷ (codes "BLOCKS", Number 65535) ∷ [])
    else (if bytes_eq verb (codes "check") then Some []
    else (if bytes_eq verb (codes "kind") then Some ((codes "NAME", Word) ∷ (codes "KIND", NameOrSlot)
    ∷ (codes "KIND", KindOr (codes "NAME")) ∷ [])
    else (if bytes_eq verb (codes "copy") then Some ((codes "NAME", Word) ∷ (codes "slot", Slot) ∷ [])
    else None))))))))))))))))

-- Is true if the path of the image is given either before or after the verb, not at both positions, and is not empty.
abbrev pub IsOnePath : Option (List ℕ) → Option (List ℕ) → Type 0
IsOnePath (Some before) None = before ≢ []
IsOnePath None (Some behind) = behind ≢ []
IsOnePath None None = ⊥
IsOnePath (Some before) (Some behind) = ⊥

-- Is true if the arguments `rows` before a verb, the verb and the arguments after the verb are valid.
abbrev pub AreGoodBefore : List Row → Option (List ℕ × List Row) → Type 0
AreGoodBefore rows None = ⊥
AreGoodBefore rows (Some behind) =
    IsOnePath (word_found rows (codes "image")) (word_found behind.1 (codes "image"))
    × IsOptional (word_found behind.1 (codes "output")) × AreGoodEnds (word_found behind.1 (codes "ends"))
    × MeetAll behind.1 (verb_needs behind.0)

-- Returns whether the verb is `name`.
abbrev pub is_verb : List ℕ → Option (List ℕ × List Row) → Bool
is_verb name None = false
is_verb name (Some after) = bytes_eq after.0 name

-- Is true if the verb is `salvage`, and the arguments before and after it are valid.
abbrev pub IsGoodSalvage : List Row → Option (List ℕ × List Row) → Type 0
IsGoodSalvage rows None = ⊥
IsGoodSalvage rows (Some behind) = (behind.0 ≡ codes "salvage")
    × IsOnePath (word_found rows (codes "image")) (word_found behind.1 (codes "image"))
    × IsThere (word_found behind.1 (codes "NEWPATH"))

-- Is true if `--only` and `--slot` are not both given, and the value of `--slot` is missing or a decimal number up to
-- 65,535.
abbrev pub IsGoodWanted : Option (List ℕ) → Option (List ℕ) → Type 0
IsGoodWanted None slot = IsSlotWord slot
IsGoodWanted (Some pattern) None = ⊤
IsGoodWanted (Some pattern) (Some slot) = ⊥

-- Is true if the verb is `export`, and the arguments before and after it are valid.
abbrev pub IsGoodExport : List Row → Option (List ℕ × List Row) → Type 0
IsGoodExport rows None = ⊥
IsGoodExport rows (Some after) = (after.0 ≡ codes "export")
    × IsOnePath (word_found rows (codes "image")) (word_found after.1 (codes "image"))
    × IsThere (word_found after.1 (codes "FOLDER"))
    × IsGoodText (is_set (word_found after.1 (codes "text"))) (word_found after.1 (codes "ends"))
    × IsGoodWanted (word_found after.1 (codes "only")) (word_found after.1 (codes "slot"))

-- The arguments before `import`, the verb and the arguments after it are valid.
abbrev pub IsGoodImport : List Row → Option (List ℕ × List Row) → Type 0
IsGoodImport rows None = ⊥
IsGoodImport rows (Some after) = (after.0 ≡ codes "import")
    × IsOnePath (word_found rows (codes "image")) (word_found after.1 (codes "image"))
    × IsThere (word_found after.1 (codes "FOLDER")) × AreGoodEnds (word_found after.1 (codes "ends"))

-- The arguments before `diff`, the verb and the arguments after it are valid.
abbrev pub IsGoodCompare : List Row → Option (List ℕ × List Row) → Type 0
IsGoodCompare rows None = ⊥
IsGoodCompare rows (Some after) = (after.0 ≡ codes "diff")
    × IsOnePath (word_found rows (codes "image")) (word_found after.1 (codes "image"))
    × IsThere (word_found after.1 (codes "OTHER"))

-- Is true if `--block` and `--blocks` are both missing, or are both decimal numbers up to 65,535.
abbrev pub AreGoodBlocks : Option (List ℕ) → Option (List ℕ) → Type 0
AreGoodBlocks None None = ⊤
AreGoodBlocks None (Some count) = ⊥
AreGoodBlocks (Some first) None = ⊥
AreGoodBlocks (Some first) (Some count) = IsNumberUpTo 65535 first × IsNumberUpTo 65535 count

-- Is true if the last argument, the path of an output, is missing. If `--block` is given, the path may also be given,
-- and is then not empty.
abbrev pub IsOutputBeside : Option (List ℕ) → Option (List ℕ) → Type 0
IsOutputBeside first None = ⊤
IsOutputBeside None (Some output) = ⊥
IsOutputBeside (Some first) (Some output) = output ≢ []

-- Is true if the verb is `undelete`, and the arguments before and after it are valid.
abbrev pub IsGoodUndelete : List Row → Option (List ℕ × List Row) → Type 0
IsGoodUndelete rows None = ⊥
IsGoodUndelete rows (Some after) = (after.0 ≡ codes "undelete")
    × IsOnePath (word_found rows (codes "image")) (word_found after.1 (codes "image"))
    × AreGoodBlocks (word_found after.1 (codes "block")) (word_found after.1 (codes "blocks"))
    × IsOutputBeside (word_found after.1 (codes "block")) (word_found after.1 (codes "output"))

-- Is true if the verb is `list`, and the arguments before and after it are valid for a list with `--json` or `--tabs`.
abbrev pub IsGoodTable : List Row → Option (List ℕ × List Row) → Type 0
IsGoodTable rows None = ⊥
IsGoodTable rows (Some after) = (after.0 ≡ codes "list")
    × IsOnePath (word_found rows (codes "image")) (word_found after.1 (codes "image"))
    × IsNotBoth (is_set (word_found after.1 (codes "json"))) (is_set (word_found after.1 (codes "tabs")))
    × (is_set (word_found after.1 (codes "all")) ≡ false)

-- Is true if the arguments of `files` are valid for its verb.
abbrev pub AreGoodFiles : List Row → Option (List ℕ × List Row) → Type 0
AreGoodFiles rows after = MatchBool (is_verb (codes "salvage") after) (IsGoodSalvage rows after)
    (MatchBool (is_verb (codes "export") after) (IsGoodExport rows after)
    (MatchBool (is_verb (codes "import") after) (IsGoodImport rows after)
    (MatchBool (is_verb (codes "diff") after) (IsGoodCompare rows after)
    (MatchBool (is_verb (codes "undelete") after) (IsGoodUndelete rows after)
    (MatchBool (is_table after) (IsGoodTable rows after) (AreGoodBefore rows after))))))

-- Is true if `--form`, `--as` or `--back` is given. The option `--form` has the id `format`.
abbrev pub has_options : List Row → Bool
has_options rows = is_some (word_found rows (codes "format"))
    || (is_some (word_found rows (codes "as")) || is_some (word_found rows (codes "back")))

-- Is true if the arguments of `convert` are valid.
abbrev pub IsGoodConvert : List Row → Type 0
IsGoodConvert rows = IsThere (word_found rows (codes "OLD")) × IsOptional (word_found rows (codes "NEW"))
    × IsGoodFormat (word_found rows (codes "format"))
    × IsGoodTarget (word_found rows (codes "as")) (word_found rows (codes "back"))
    × HasNew (word_found rows (codes "NEW")) (has_options rows)

-- Returns whether the command searches in images.
abbrev pub is_search : List ℕ → Bool
is_search command = bytes_eq command (codes "find")
    || (bytes_eq command (codes "grep") || bytes_eq command (codes "info"))

-- Is true if the arguments `m` are valid for the command `command`.
abbrev pub AreGood : List ℕ → ArgMatches → Type 0
AreGood command m = MatchBool (bytes_eq command (codes "files"))
    (AreGoodFiles (words_of m) (subcommand_rows_of m))
    (MatchBool (bytes_eq command (codes "convert")) (IsGoodConvert (words_of m))
    (MatchBool (is_search command) (IsGoodSearch command (words_of m))
    (MeetAll (words_of m) (command_needs command))))

-- Is true if `--form` in the arguments `m` of a command is valid.
unfoldable pub IsGoodForm : ArgMatches → Type 0
IsGoodForm m = IsFormWord (word_found (words_of m) (codes "form")) (word_below (subcommand_rows_of m))

-- Is true if a command is given, and its arguments and its form are valid.
abbrev pub AreAllGood : ArgMatches → Type 0
AreAllGood m = (is_some (subcommand_rows_of m) ≡ true)
    × ((command : List ℕ) (below : ArgMatches) → IsCommand m command below → AreGood command below)
    × ((command : List ℕ) (below : ArgMatches) → IsCommand m command below → IsGoodForm below)

-- Is true if the error is `Wrong`. The text of `Wrong` states the valid arguments.
abbrev pub IsWrong : WordsError → Type 0
IsWrong (errors.Wrong text) = ⊤
IsWrong error = ⊥
