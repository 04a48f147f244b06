-- The jobs that command lines specify. clap stores each argument of a command as a row: an id and the argument's bytes.
-- clap stores a command or verb that follows separately, with its name and its own rows.
use Rattle.std.specs.Prelude.{◌≡◌, ◌≤◌, ◌⊎◌, ◌&&◌, ◌||◌, ⊤, ℕ, Bool, true, false, List, [], ◌∷◌, Option, String}
use Rattle.std.specs.Prelude.{None, Some, map, option_map, string_bytes, codes}
use Rattle.std.specs.declared.alloc.Global.{Global}
use Rattle.std.specs.Str.{bytes_eq}
use Rattle.std.specs.Str.Parse.{IsNumeral, digits_value}
use Rattle.clap.specs.Words.{Row, first_of, found_of, one_of, rows_of, subcommand_rows_of}
use Rattle.clap.specs.declared.parser.matches.ArgMatches.{ArgMatches}
use Rattle.pm_filer.specs.Filed.{Order, ListFiles, Get, Put, Remove, Change, GetText}
use Rattle.pm_filer.specs.Filed.{PutText, Krunch, Date, Zero, Duplicate, Single, GetSlot, GetTextSlot}
use Rattle.pm_filer.specs.Filed.{RemoveSlot, ChangeSlot, Kind, KindSlot, Copy, CopySlot, order_of}
use Rattle.pm_filer.specs.Filed.{ListAll, ListFitting, RemoveFitting}
use Rattle.pm_filer.specs.Listing.{kind_word}
use Rattle.pm_jobs.specs.declared.output.AsmOutput.{AsmOutput}
use Rattle.pm_jobs.specs.declared.output.AsmOutput.TheVariants as asm
use Rattle.pm_jobs.specs.declared.output.DisOutput.{DisOutput}
use Rattle.pm_jobs.specs.declared.output.DisOutput.TheVariants as dis
use Rattle.pm_jobs.specs.declared.saving.Saving.{Saving}
use Rattle.pm_jobs.specs.declared.saving.Saving.TheVariants as savings
use Rattle.pm_jobs.specs.declared.selection.Code.{Code}
use Rattle.pm_jobs.specs.declared.selection.Code.TheVariants as code
use Rattle.pm_jobs.specs.declared.selection.Selection.{Selection}
use Rattle.pm_folder.specs.declared.folder.Wanted.{Wanted}
use Rattle.pm_folder.specs.declared.folder.Wanted.TheVariants as wanted
use Rattle.pm_plan.specs.ConvertWords.{IsFormat, IsTarget}
use Rattle.pm_plan.specs.FolderWords.{AreEnds, AreEndsGiven, IsText}
use Rattle.pm_plan.specs.declared.compare_words.ComparePlan.{ComparePlan}
use Rattle.pm_plan.specs.declared.convert_words.ConvertPlan.{ConvertPlan}
use Rattle.pm_plan.specs.declared.folder_words.ExportPlan.{ExportPlan}
use Rattle.pm_plan.specs.declared.folder_words.ImportPlan.{ImportPlan}
use Rattle.pm_plan.specs.declared.file_words.FilesPlan.{FilesPlan}
use Rattle.pm_plan.specs.declared.file_words.SalvagePlan.{SalvagePlan}
use Rattle.pm_plan.specs.declared.file_words.Verb.{Verb}
use Rattle.pm_plan.specs.declared.file_words.Verb.TheVariants as verbs
use Rattle.pm_plan.specs.declared.file_words.Chosen.{Chosen}
use Rattle.pm_plan.specs.declared.file_words.Chosen.TheVariants as chosen
use Rattle.pm_plan.specs.declared.run_words.RunChoices.{RunChoices}
use Rattle.pm_plan.specs.declared.run_words.Program.{Program}
use Rattle.pm_plan.specs.declared.table_words.TableForm.{TableForm}
use Rattle.pm_plan.specs.declared.table_words.TableForm.TheVariants as tables
use Rattle.pm_plan.specs.declared.table_words.TablePlan.{TablePlan}
use Rattle.pm_plan.specs.declared.text_words.TextFiles.{TextFiles}
use Rattle.pm_plan.specs.declared.text_words.TextInput.{TextInput}
use Rattle.pm_plan.specs.declared.text_words.TextInput.TheVariants as inputs
use Rattle.pm_plan.specs.declared.undelete_words.BlockRange.{BlockRange}
use Rattle.pm_plan.specs.declared.undelete_words.UndeletePlan.{UndeletePlan}
use Rattle.pm_plan.specs.SearchWords.{AsksSearch}
use Rattle.pm_plan.specs.FormWords.{AsksForm}
use Rattle.pm_forms.specs.declared.form.FormChoice.{FormChoice}
use Rattle.pm_plan.specs.declared.words.Asked.{Asked}
use Rattle.pm_plan.specs.declared.words.Plan.{Plan}
use Rattle.pm_plan.specs.declared.words.Plan.TheVariants as plans

-- Returns the rows of the arguments in `m`, without those of a command or verb that follows.
abbrev pub words_of : ArgMatches → List Row
words_of m = rows_of (found_of m)

-- Returns the argument under `id` in `rows`, or `None` if it is missing.
abbrev pub word_found : List Row → List ℕ → Option (List ℕ)
word_found rows id = first_of id rows

-- Is true if `word` is a decimal number up to `most`: one or more decimal digits, with or without leading zeros, whose
-- value is at most `most`. A sign is not a digit.
abbrev pub IsNumberUpTo : ℕ → List ℕ → Type 0
IsNumberUpTo most word = IsNumeral 10 word × (digits_value 10 word ≤ most)

-- Is true if `word` spells `number` in decimal digits.
abbrev pub IsNumber : List ℕ → ℕ → Type 0
IsNumber word number = IsNumeral 10 word × (number ≡ digits_value 10 word)

abbrev pub IsSpelled : Option (List ℕ) → ℕ → Type 0
IsSpelled None number = ⊥
IsSpelled (Some word) number = IsNumber word number

-- Is true if the argument exists and is a decimal number up to `most`.
abbrev pub IsNumberWord : ℕ → Option (List ℕ) → Type 0
IsNumberWord most None = ⊥
IsNumberWord most (Some word) = IsNumberUpTo most word

-- Is true if `limit` is the maximum number of steps that the value of `--limit` gives. The default is 10,000,000.
abbrev pub IsLimit : Option (List ℕ) → ℕ → Type 0
IsLimit None limit = limit ≡ 10000000
IsLimit (Some word) limit = IsNumber word limit

-- Returns whether the argument of an option without a value is the text `true`, which means that the option is given.
abbrev pub is_set : Option (List ℕ) → Bool
is_set None = false
is_set (Some word) = bytes_eq word (codes "true")

-- Is true if `limit` is the maximum number of steps of a run or a trace. The first argument states whether
-- `--unlimited` is given. With `--unlimited`, `limit` is 2 ^ 64 - 1.
abbrev pub IsRunLimit : Bool → Option (List ℕ) → ℕ → Type 0
IsRunLimit true word limit = limit ≡ 18446744073709551615
IsRunLimit false word limit = IsLimit word limit

-- Is true if the argument is missing, or is a decimal number below 2 ^ 32.
abbrev pub IsLimitWord : Option (List ℕ) → Type 0
IsLimitWord None = ⊤
IsLimitWord (Some word) = IsNumberUpTo 4294967295 word

-- Is true if the value of `--limit` is valid. The first argument states whether `--unlimited` is given. With
-- `--unlimited`, the value of `--limit` must be missing.
abbrev pub IsRunLimitWord : Bool → Option (List ℕ) → Type 0
IsRunLimitWord true None = ⊤
IsRunLimitWord true (Some word) = ⊥
IsRunLimitWord false word = IsLimitWord word

-- Is true if `slot` is the number that the value of `--slot` spells, or `None` if `--slot` is not given.
abbrev pub IsSlot : Option (List ℕ) → Option ℕ → Type 0
IsSlot None slot = slot ≡ None
IsSlot (Some word) None = ⊥
IsSlot (Some word) (Some slot) = IsNumber word slot

-- Is true if `kind` is the kind of file that the argument gives by its name or by its number.
abbrev pub IsKind : Option (List ℕ) → ℕ → Type 0
IsKind None kind = ⊥
IsKind (Some word) kind = (kind_word kind ≡ Some word) ⊎ IsNumber word kind

-- `flag` states whether an option without a value is given. `found` is the argument of this option.
pub record IsFlag (found : Option (List ℕ)) (flag : Bool) : Type 0 where
  pub absent : found ≡ None → flag ≡ false
  pub given : found ≡ Some (codes "true") → flag ≡ true
  pub denied : found ≡ Some (codes "false") → flag ≡ false

-- Returns each path in `paths` as a list of bytes.
abbrev pub paths_in : List (Option (String Global)) → List (Option (List ℕ))
paths_in paths = map (option_map string_bytes) paths

-- Returns the paths of the disks for the units 5, 9, 10, 11 and 12, which are the values of `--d5` to `--d12`.
abbrev pub other_words : List Row → List (Option (List ℕ))
other_words rows = word_found rows (codes "d5") ∷ word_found rows (codes "d9") ∷ word_found rows (codes "d10")
    ∷ word_found rows (codes "d11") ∷ word_found rows (codes "d12") ∷ []

-- The arguments `rows` of `run`, `trace` or `debug` specify `program`.
pub record AsksProgram (rows : List Row) (program : Program) : Type 0 where
  pub disk : word_found rows (codes "d4") ≡ Some (string_bytes program.disk)
  pub others : paths_in program.others ≡ other_words rows
  pub name : word_found rows (codes "NAME") ≡ Some (string_bytes program.name)
  pub limit : IsRunLimit (is_set (word_found rows (codes "unlimited"))) (word_found rows (codes "limit")) program.limit
  pub system : word_found rows (codes "system") ≡ option_map string_bytes program.system
  pub text : is_set (word_found rows (codes "text")) ≡ program.is_text

-- Returns which images `--save-all` saves. The argument is the value of `--system`. With `--system`, the image of unit
-- 4 is not saved, because it contains the system's segment.
abbrev pub all_own : Option (List ℕ) → Saving
all_own None = savings.All
all_own (Some system) = savings.Others

-- Is true if `saving` states which images are saved. The first two arguments state whether `--save` and `--save-all`
-- are given, which must not both be given. `system` is the value of `--system`.
abbrev pub IsSaving : Bool → Bool → Option (List ℕ) → Saving → Type 0
IsSaving false false system saving = saving ≡ savings.Nothing
IsSaving true false system saving = saving ≡ savings.First
IsSaving false true system saving = saving ≡ all_own system
IsSaving true true system saving = ⊥

-- The arguments `rows` of `run` specify the options `choices`.
pub record AsksChoices (rows : List Row) (choices : RunChoices) : Type 0 where
  pub saving : IsSaving (is_set (word_found rows (codes "save"))) (is_set (word_found rows (codes "save-all")))
      (word_found rows (codes "system")) choices.saving
  pub printer : word_found rows (codes "printer") ≡ option_map string_bytes choices.printer
  pub escape : IsFlag (one_of (codes "escape") rows) choices.escape

-- `AsksName` is true if `name` is given under `id`, and `--slot` is not given. `AsksSlot` is true if no name is given
-- under `id`, and the value of `--slot` spells `slot`.
abbrev pub AsksName : List ℕ → List Row → List ℕ → Type 0
AsksName id rows name = (word_found rows id ≡ Some name) × (word_found rows (codes "slot") ≡ None)

abbrev pub AsksSlot : List ℕ → List Row → ℕ → Type 0
AsksSlot id rows slot = (word_found rows id ≡ None) × IsSpelled (word_found rows (codes "slot")) slot

abbrev pub AsksEither : List ℕ → List Row → Chosen → Type 0
AsksEither id rows (chosen.Named name) = AsksName id rows (string_bytes name)
AsksEither id rows (chosen.InSlot slot) = AsksSlot id rows slot

-- Is true if `--matching` is not given.
abbrev pub AsksNoPattern : List Row → Type 0
AsksNoPattern rows = word_found rows (codes "matching") ≡ None

-- Is true if the value of `--matching` is `pattern`, and `given` states whether the option `option`, which takes no
-- value, is given.
abbrev pub AsksPattern : List Row → List ℕ → List ℕ → Bool → Type 0
AsksPattern rows pattern option given =
    (word_found rows (codes "matching") ≡ Some pattern) × (is_set (word_found rows option) ≡ given)

-- Is true if `verb` lists the files whose names match `pattern`. Such a verb is `list` without `--all`, or `remove`
-- with `--dry-run`.
abbrev pub ListsFitting : List ℕ → List Row → List ℕ → Type 0
ListsFitting verb rows pattern =
    ((verb ≡ codes "list") × AsksPattern rows pattern (codes "all") false)
    ⊎ ((verb ≡ codes "remove") × AsksPattern rows pattern (codes "dry-run") true)

-- Is true if `verb` with its arguments `rows` specifies the command on a volume. The bytes to put or copy are read
-- later, so they are empty here. With `--slot`, the argument `OLD` of `change` is the new name, and `NAME` of `kind` is
-- the kind.
abbrev pub AsksOrder : List ℕ → List Row → Order → Type 0
AsksOrder verb rows ListFiles =
    (verb ≡ codes "list") × (is_set (word_found rows (codes "all")) ≡ false) × AsksNoPattern rows
AsksOrder verb rows (Get name) = (verb ≡ codes "get") × AsksName (codes "NAME") rows name
AsksOrder verb rows (Put name kind bytes) =
    (verb ≡ codes "put") × (word_found rows (codes "NAME") ≡ Some name) × IsKind (word_found rows (codes "KIND")) kind
    × (bytes ≡ [])
AsksOrder verb rows (Remove name) =
    (verb ≡ codes "remove") × AsksName (codes "NAME") rows name × AsksNoPattern rows
AsksOrder verb rows (Change old new) =
    (verb ≡ codes "change") × (word_found rows (codes "OLD") ≡ Some old) × AsksName (codes "NEW") rows new
AsksOrder verb rows (GetText name) = (verb ≡ codes "gettext") × AsksName (codes "NAME") rows name
AsksOrder verb rows (PutText name text) =
    (verb ≡ codes "puttext") × (word_found rows (codes "NAME") ≡ Some name) × (text ≡ [])
AsksOrder verb rows Krunch = verb ≡ codes "krunch"
AsksOrder verb rows (Date year month day) = (verb ≡ codes "date") × IsSpelled (word_found rows (codes "Y")) year
    × IsSpelled (word_found rows (codes "M")) month × IsSpelled (word_found rows (codes "D")) day
AsksOrder verb rows (Zero name) = (verb ≡ codes "zero") × (word_found rows (codes "NAME") ≡ Some name)
AsksOrder verb rows Duplicate = verb ≡ codes "duplicate"
AsksOrder verb rows Single = verb ≡ codes "single"
AsksOrder verb rows (GetSlot slot) = (verb ≡ codes "get") × AsksSlot (codes "NAME") rows slot
AsksOrder verb rows (GetTextSlot slot) = (verb ≡ codes "gettext") × AsksSlot (codes "NAME") rows slot
AsksOrder verb rows (RemoveSlot slot) =
    (verb ≡ codes "remove") × AsksSlot (codes "NAME") rows slot × AsksNoPattern rows
AsksOrder verb rows (ChangeSlot slot new) =
    (verb ≡ codes "change") × (word_found rows (codes "OLD") ≡ Some new) × AsksSlot (codes "NEW") rows slot
AsksOrder verb rows (Kind name kind) =
    (verb ≡ codes "kind") × (word_found rows (codes "NAME") ≡ Some name) × IsKind (word_found rows (codes "KIND")) kind
    × (word_found rows (codes "slot") ≡ None)
AsksOrder verb rows (KindSlot slot kind) =
    (verb ≡ codes "kind") × IsKind (word_found rows (codes "NAME")) kind × AsksSlot (codes "KIND") rows slot
AsksOrder verb rows (Copy name from) = (verb ≡ codes "copy") × AsksName (codes "NAME") rows name × (from ≡ [])
AsksOrder verb rows (CopySlot slot name from) =
    (verb ≡ codes "copy") × (word_found rows (codes "NAME") ≡ Some name)
    × IsSpelled (word_found rows (codes "slot")) slot × (from ≡ [])
AsksOrder verb rows ListAll =
    (verb ≡ codes "list") × (is_set (word_found rows (codes "all")) ≡ true) × AsksNoPattern rows
AsksOrder verb rows (ListFitting pattern) = ListsFitting verb rows pattern
AsksOrder verb rows (RemoveFitting pattern) =
    (verb ≡ codes "remove") × AsksPattern rows pattern (codes "dry-run") false

abbrev pub AsksVerb : List ℕ → List Row → Verb → Type 0
AsksVerb verb rows (verbs.Command command) = AsksOrder verb rows (order_of command)
AsksVerb verb rows (verbs.New name blocks) =
    (verb ≡ codes "new") × (word_found rows (codes "NAME") ≡ Some (string_bytes name))
    × IsSpelled (word_found rows (codes "BLOCKS")) blocks
AsksVerb verb rows verbs.Repair = verb ≡ codes "repair"
AsksVerb verb rows verbs.Check = verb ≡ codes "check"

-- Is true if `path` is the path of the image, which is given either before or after the verb, and not at both
-- positions.
abbrev pub IsPath : Option (List ℕ) → Option (List ℕ) → List ℕ → Type 0
IsPath (Some before) None path = path ≡ before
IsPath None (Some behind) path = path ≡ behind
IsPath None None path = ⊥
IsPath (Some before) (Some behind) path = ⊥

-- Is true if the arguments `m` of `files` specify `plan`: its verb, the path of its image, the path of its output, the
-- line ends of its text, and whether a file is replaced.
abbrev pub AsksFiles : ArgMatches → FilesPlan → Type 0
AsksFiles m plan = (verb : List ℕ) × (rows : List Row) × (subcommand_rows_of m ≡ Some (verb, rows))
    × IsPath (word_found (words_of m) (codes "image")) (word_found rows (codes "image")) (string_bytes plan.path)
    × AsksVerb verb rows plan.verb × (word_found rows (codes "output") ≡ option_map string_bytes plan.output)
    × AreEndsGiven (word_found rows (codes "ends")) plan.ends
    × (is_set (word_found rows (codes "replace")) ≡ plan.replaces)

-- Is true if the arguments `m` of `files salvage` specify `plan`.
abbrev pub AsksSalvage : ArgMatches → SalvagePlan → Type 0
AsksSalvage m plan = (rows : List Row) × (subcommand_rows_of m ≡ Some (codes "salvage", rows))
    × IsPath (word_found (words_of m) (codes "image")) (word_found rows (codes "image")) (string_bytes plan.path)
    × (word_found rows (codes "NEWPATH") ≡ Some (string_bytes plan.target))
    × IsFlag (one_of (codes "second") rows) plan.second

-- Is true if `rows` select the files that are exported: all files, the files whose names match the value of `--only`,
-- or the file that `--slot` selects.
abbrev pub AsksWanted : List Row → Wanted → Type 0
AsksWanted rows wanted.All = (word_found rows (codes "only") ≡ None) × (word_found rows (codes "slot") ≡ None)
AsksWanted rows (wanted.Matching pattern) =
    (word_found rows (codes "only") ≡ Some (string_bytes pattern)) × (word_found rows (codes "slot") ≡ None)
AsksWanted rows (wanted.Slot slot) =
    (word_found rows (codes "only") ≡ None) × IsSpelled (word_found rows (codes "slot")) slot

-- Is true if the arguments `m` of `files export` specify `plan`.
abbrev pub AsksExport : ArgMatches → ExportPlan → Type 0
AsksExport m plan = (rows : List Row) × (subcommand_rows_of m ≡ Some (codes "export", rows))
    × IsPath (word_found (words_of m) (codes "image")) (word_found rows (codes "image")) (string_bytes plan.path)
    × (word_found rows (codes "FOLDER") ≡ Some (string_bytes plan.folder))
    × IsText (is_set (word_found rows (codes "text"))) (word_found rows (codes "ends")) plan.text
    × AsksWanted rows plan.wanted

-- The arguments of `files import`, which also specify a folder.
abbrev pub AsksImport : ArgMatches → ImportPlan → Type 0
AsksImport m plan = (rows : List Row) × (subcommand_rows_of m ≡ Some (codes "import", rows))
    × IsPath (word_found (words_of m) (codes "image")) (word_found rows (codes "image")) (string_bytes plan.path)
    × (word_found rows (codes "FOLDER") ≡ Some (string_bytes plan.folder))
    × AreEnds (word_found rows (codes "ends")) plan.ends
    × IsFlag (one_of (codes "dry-run") rows) plan.is_trial

-- Is true if the arguments `m` of `files diff` specify `plan`.
abbrev pub AsksCompare : ArgMatches → ComparePlan → Type 0
AsksCompare m plan = (rows : List Row) × (subcommand_rows_of m ≡ Some (codes "diff", rows))
    × IsPath (word_found (words_of m) (codes "image")) (word_found rows (codes "image")) (string_bytes plan.path)
    × (word_found rows (codes "OTHER") ≡ Some (string_bytes plan.other))

-- Returns whether `--json` or `--tabs` is given after the verb `list`.
abbrev pub is_table : Option (List ℕ × List Row) → Bool
is_table None = false
is_table (Some after) = bytes_eq after.0 (codes "list")
    && (is_set (word_found after.1 (codes "json")) || is_set (word_found after.1 (codes "tabs")))

-- Is true if `form` is the form of a list with `--json` or `--tabs`. The first two arguments state whether `--json` and
-- `--tabs` are given. They cannot both be given.
abbrev pub IsTableForm : Bool → Bool → TableForm → Type 0
IsTableForm false tabs form = form ≡ tables.Tabs
IsTableForm true false form = form ≡ tables.Json
IsTableForm true true form = ⊥

-- Is true if the arguments `m` of `files list` with `--json` or `--tabs` specify `plan`. The option `--all` cannot be
-- given.
abbrev pub AsksTable : ArgMatches → TablePlan → Type 0
AsksTable m plan = (rows : List Row) × (subcommand_rows_of m ≡ Some (codes "list", rows))
    × IsPath (word_found (words_of m) (codes "image")) (word_found rows (codes "image")) (string_bytes plan.path)
    × IsTableForm (is_set (word_found rows (codes "json"))) (is_set (word_found rows (codes "tabs"))) plan.form
    × (word_found rows (codes "matching") ≡ option_map string_bytes plan.pattern)
    × (is_set (word_found rows (codes "all")) ≡ false)

-- Is true if `blocks` are the blocks that the values of `--block` and `--blocks` specify: the first block and the number
-- of blocks. Both are given, or none of them.
abbrev pub AreBlocks : Option (List ℕ) → Option (List ℕ) → Option BlockRange → Type 0
AreBlocks None None blocks = blocks ≡ None
AreBlocks None (Some count) blocks = ⊥
AreBlocks (Some first) None blocks = ⊥
AreBlocks (Some first) (Some count) blocks = (n : ℕ) × (k : ℕ) × IsNumber first n × IsNumber count k
    × (blocks ≡ Some (record { first = n; count = k }))

-- Is true if the arguments `m` of `files undelete` specify `plan`.
abbrev pub AsksUndelete : ArgMatches → UndeletePlan → Type 0
AsksUndelete m plan = (rows : List Row) × (subcommand_rows_of m ≡ Some (codes "undelete", rows))
    × IsPath (word_found (words_of m) (codes "image")) (word_found rows (codes "image")) (string_bytes plan.path)
    × AreBlocks (word_found rows (codes "block")) (word_found rows (codes "blocks")) plan.blocks
    × (word_found rows (codes "output") ≡ option_map string_bytes plan.output)

-- ---- lines of a trace

-- Is true if `first` is the number of the first step whose line is shown, given by `--from`. The default is 0.
abbrev pub IsFirst : Option (List ℕ) → ℕ → Type 0
IsFirst None first = first ≡ 0
IsFirst (Some word) first = IsNumber word first

-- Is true if `wanted` is the code whose steps are shown. The first two arguments are the values of `--segment` and
-- `--procedure`. A procedure requires a segment.
abbrev pub IsCode : Option (List ℕ) → Option (List ℕ) → Code → Type 0
IsCode None None wanted = wanted ≡ code.Anywhere
IsCode None (Some procedure) wanted = ⊥
IsCode (Some segment) None wanted = (s : ℕ) × IsNumber segment s × (wanted ≡ code.Segment s)
IsCode (Some segment) (Some procedure) wanted =
    (s : ℕ) × (p : ℕ) × IsNumber segment s × IsNumber procedure p × (wanted ≡ code.Procedure s p)

-- The arguments `rows` of `raw` or `trace` select the lines `selection` of a trace.
pub record AsksSelection (rows : List Row) (selection : Selection) : Type 0 where
  pub from : IsFirst (word_found rows (codes "from")) selection.from
  pub code : IsCode (word_found rows (codes "segment")) (word_found rows (codes "procedure")) selection.code
  pub calls : IsFlag (one_of (codes "calls") rows) selection.calls
  pub places : IsFlag (one_of (codes "places") rows) selection.places

-- ---- output of asm and dis

-- Is true if `what` is the output that `asm` writes. The first three arguments state whether `--all`, `--list` and
-- `--symbols` are given. At most one of them can be given.
abbrev pub IsAsm : Bool → Bool → Bool → AsmOutput → Type 0
IsAsm false false false what = what ≡ asm.File
IsAsm false true false what = what ≡ asm.Listing
IsAsm true false false what = what ≡ asm.Faults
IsAsm false false true what = what ≡ asm.Symbols
IsAsm true true symbols what = ⊥
IsAsm true false true what = ⊥
IsAsm false true true what = ⊥

-- Is true if `what` is the output that `dis` writes without `--indent` and `--blocks`. The first three arguments state
-- whether `--names`, `--list` and `--statements` are given. At most one of them can be given.
abbrev pub IsUnindented : Bool → Bool → Bool → DisOutput → Type 0
IsUnindented false false false what = what ≡ dis.Text
IsUnindented true false false what = what ≡ dis.Names
IsUnindented false true false what = what ≡ dis.Listing
IsUnindented false false true what = what ≡ dis.Statements
IsUnindented true true statements what = ⊥
IsUnindented true false true what = ⊥
IsUnindented false true true what = ⊥

-- Is true if `what` is the output that `dis` writes without `--blocks`. The fourth argument states whether `--indent`
-- is given. With `--indent`, the options `--names` and `--list` cannot be given.
abbrev pub IsUnblocked : Bool → Bool → Bool → Bool → DisOutput → Type 0
IsUnblocked names list statements false what = IsUnindented names list statements what
IsUnblocked names list statements true what = (names ≡ false) × (list ≡ false) × (what ≡ dis.Indented)

-- Is true if `what` is the output that `dis` writes. The fifth argument states whether `--blocks` is given. With
-- `--blocks`, the options `--names`, `--list` and `--indent` cannot be given.
abbrev pub IsDis : Bool → Bool → Bool → Bool → Bool → DisOutput → Type 0
IsDis names list statements indent false what = IsUnblocked names list statements indent what
IsDis names list statements indent true what =
    (names ≡ false) × (list ≡ false) × (indent ≡ false) × (what ≡ dis.Blocks)

-- Is true if the last argument is the input of `asm` or `dis`: standard input, the file at a path, or a file on an
-- image. `image` is the value of `--image`, and `file` is the argument `FILE`.
abbrev pub IsTextInput : Option (List ℕ) → Option (List ℕ) → TextInput → Type 0
IsTextInput image file inputs.Standard = (image ≡ None) × (file ≡ None)
IsTextInput image file (inputs.File path) = (image ≡ None) × (file ≡ Some (string_bytes path))
IsTextInput image file (inputs.OnImage path name) =
    (image ≡ Some (string_bytes path)) × (file ≡ Some (string_bytes name))

abbrev pub AsksTextInput : List Row → TextInput → Type 0
AsksTextInput rows input = IsTextInput (word_found rows (codes "image")) (word_found rows (codes "FILE")) input

-- The arguments `rows` of `asm` or `dis` specify `files`: the input, and the path of the file that gets the output.
pub record AsksTextFiles (rows : List Row) (files : TextFiles) : Type 0 where
  pub input : AsksTextInput rows files.input
  pub output : word_found rows (codes "output") ≡ option_map string_bytes files.output

-- ---- conversions

-- The arguments of `convert`: the image, the new image, the format of the image, and that of the new image.
abbrev pub AsksConvert : ArgMatches → ConvertPlan → Type 0
AsksConvert m plan = (word_found (words_of m) (codes "OLD") ≡ Some (string_bytes plan.old))
    × (word_found (words_of m) (codes "NEW") ≡ option_map string_bytes plan.new)
    × IsFormat (word_found (words_of m) (codes "format")) plan.format
    × IsTarget (word_found (words_of m) (codes "as")) (word_found (words_of m) (codes "back")) plan.target

-- ---- all arguments

-- Is true if the arguments `m` of the command `command` specify the job.
abbrev pub Asks : List ℕ → ArgMatches → Plan → Type 0
Asks command m (plans.Raw limit selection) =
    (command ≡ codes "raw") × IsLimit (word_found (words_of m) (codes "limit")) limit
    × AsksSelection (words_of m) selection
Asks command m (plans.Asm what files) = (command ≡ codes "asm")
    × IsAsm (is_set (word_found (words_of m) (codes "all"))) (is_set (word_found (words_of m) (codes "list")))
    (is_set (word_found (words_of m) (codes "symbols"))) what
    × AsksTextFiles (words_of m) files
Asks command m (plans.Dis what files) = (command ≡ codes "dis")
    × IsDis (is_set (word_found (words_of m) (codes "names"))) (is_set (word_found (words_of m) (codes "list")))
    (is_set (word_found (words_of m) (codes "statements"))) (is_set (word_found (words_of m) (codes "indent")))
    (is_set (word_found (words_of m) (codes "blocks"))) what
    × AsksTextFiles (words_of m) files
Asks command m (plans.Files plan) =
    (command ≡ codes "files") × AsksFiles m plan × (is_table (subcommand_rows_of m) ≡ false)
Asks command m (plans.Run program choices) =
    (command ≡ codes "run") × AsksProgram (words_of m) program × AsksChoices (words_of m) choices
Asks command m (plans.Trace program selection output) =
    (command ≡ codes "trace") × AsksProgram (words_of m) program × AsksSelection (words_of m) selection
    × (word_found (words_of m) (codes "output") ≡ option_map string_bytes output)
Asks command m (plans.Debug program typed) = (command ≡ codes "debug") × AsksProgram (words_of m) program
    × (word_found (words_of m) (codes "input") ≡ option_map string_bytes typed)
Asks command m (plans.Salvage plan) = (command ≡ codes "files") × AsksSalvage m plan
Asks command m (plans.Export plan) = (command ≡ codes "files") × AsksExport m plan
Asks command m (plans.Import plan) = (command ≡ codes "files") × AsksImport m plan
Asks command m (plans.Compare plan) = (command ≡ codes "files") × AsksCompare m plan
Asks command m (plans.Table plan) =
    (command ≡ codes "files") × AsksTable m plan × (is_table (subcommand_rows_of m) ≡ true)
Asks command m (plans.Undelete plan) = (command ≡ codes "files") × AsksUndelete m plan
Asks command m (plans.Convert plan) = (command ≡ codes "convert") × AsksConvert m plan
Asks command m (plans.Search plan) = AsksSearch command m plan

-- Is true if the arguments `m` contain the command `command`, and the arguments after it have the rows of `below`.
abbrev pub IsCommand : ArgMatches → List ℕ → ArgMatches → Type 0
IsCommand m command below = subcommand_rows_of m ≡ Some (command, words_of below)

-- Returns the value of `--form` after a verb. Returns `None` if it is missing or no verb is given.
abbrev pub word_below : Option (List ℕ × List Row) → Option (List ℕ)
word_below None = None
word_below (Some behind) = word_found behind.1 (codes "form")

-- Is true if `choice` is what `--form` specifies before or after the verb: the forms of the images.
unfoldable pub IsForm : ArgMatches → FormChoice → Type 0
IsForm m choice = AsksForm (word_found (words_of m) (codes "form")) (word_below (subcommand_rows_of m)) choice

-- Returns whether `--quiet` is given after a verb.
abbrev pub is_quiet_below : Option (List ℕ × List Row) → Bool
is_quiet_below None = false
is_quiet_below (Some behind) = is_set (word_found behind.1 (codes "quiet"))

-- Returns whether `--quiet` is given after a command or after its verb.
unfoldable pub is_quiet : ArgMatches → Bool
is_quiet m = is_set (word_found (words_of m) (codes "quiet")) || is_quiet_below (subcommand_rows_of m)

-- Is true if the arguments `m` specify a command, and the arguments of this command specify `asked`.
abbrev pub IsAsked : ArgMatches → Asked → Type 0
IsAsked m asked = (command : List ℕ) × (below : ArgMatches) × IsCommand m command below
    × Asks command below asked.plan × IsForm below asked.form × (asked.is_quiet ≡ is_quiet below)
