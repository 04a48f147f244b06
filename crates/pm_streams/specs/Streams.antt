-- What each command does with its standard streams if they are terminals.
use Rattle.std.specs.Prelude.{ℕ, ◌&&◌, Bool, true, false, not, List, [], codes, is_none, is_some, if◌then◌else◌}
use Rattle.pm_filer.specs.declared.command.FileCommand.{FileCommand}
use Rattle.pm_filer.specs.declared.command.FileCommand.TheVariants as commands
use Rattle.pm_jobs.specs.declared.output.AsmOutput.{AsmOutput}
use Rattle.pm_jobs.specs.declared.output.AsmOutput.TheVariants as asm
use Rattle.pm_plan.specs.Verbs.{gets, reads}
use Rattle.pm_plan.specs.declared.file_words.Verb.{Verb}
use Rattle.pm_plan.specs.declared.file_words.Verb.TheVariants as verbs
use Rattle.pm_plan.specs.declared.text_words.TextInput.{TextInput}
use Rattle.pm_plan.specs.declared.text_words.TextInput.TheVariants as inputs
use Rattle.pm_plan.specs.declared.words.Plan.{Plan}
use Rattle.pm_plan.specs.declared.words.Plan.TheVariants as plans
use Rattle.pm_terminal.specs.declared.console.Lines.{Lines}
use Rattle.pm_terminal.specs.declared.console.Lines.TheVariants as lines
use Rattle.pm_streams.specs.declared.streams.Prompt.{Prompt}
use Rattle.pm_streams.specs.declared.streams.Prompt.TheVariants as prompts
use Rattle.pm_streams.specs.declared.streams.Surprise.{Surprise}
use Rattle.pm_streams.specs.declared.streams.Surprise.TheVariants as surprises

-- ---- verbs of `files`

-- Is true for a command that writes the text of a text file: `gettext`, by a name or by a slot.
abbrev pub is_get_text : FileCommand → Bool
is_get_text (commands.GetText name) = true
is_get_text (commands.GetTextSlot slot) = true
is_get_text other = false

-- Is true for a command that copies a file to another volume, by a name or by a slot.
abbrev pub is_copy : FileCommand → Bool
is_copy (commands.Copy name bytes) = true
is_copy (commands.CopySlot slot name bytes) = true
is_copy other = false

-- Is true if the verb writes the text of a text file.
abbrev pub gets_text : Verb → Bool
gets_text (verbs.Command command) = is_get_text command
gets_text (verbs.New name blocks) = false
gets_text verbs.Repair = false
gets_text verbs.Check = false

-- Is true if the verb copies a file to another volume.
abbrev pub copies : Verb → Bool
copies (verbs.Command command) = is_copy command
copies (verbs.New name blocks) = false
copies verbs.Repair = false
copies verbs.Check = false

-- ---- output

-- Is true if `asm` writes a code file.
abbrev pub is_code : AsmOutput → Bool
is_code asm.File = true
is_code asm.Listing = false
is_code asm.Faults = false
is_code asm.Symbols = false

-- The way `how` if standard output is a terminal, and unchanged bytes otherwise.
abbrev pub shown_if : Bool → Lines → Lines
shown_if true how = how
shown_if false how = lines.Plain

-- How the output of a verb of `files` is written on a terminal. The bytes of a file are refused unless they are text.
-- Control characters of a text file are replaced.
abbrev pub shown_verb : Verb → Lines
shown_verb verb = if gets verb then lines.TextAlone else if gets_text verb then lines.Shown else lines.Plain

-- How the output of a command is written. `is_terminal` states whether standard output is a terminal:
--
-- - `run` on a terminal: each carriage return is followed by a line feed.
-- - `run --text` without a terminal: each carriage return is replaced by a line feed.
-- - a code file of `asm`, `files get`, and `files undelete` of blocks, on a terminal: only bytes of a text are written.
-- - `files gettext`, `find` and `grep` on a terminal: control characters are replaced.
-- - `dis` without a terminal: the output is collected before it is written.
-- - all other output: unchanged.
abbrev pub lines_of : Bool → Plan → Lines
lines_of is_terminal (plans.Raw limit selection) = lines.Plain
lines_of is_terminal (plans.Asm output files) =
    if is_code output then shown_if is_terminal lines.TextAlone else lines.Plain
lines_of is_terminal (plans.Dis output files) = if is_terminal then lines.Plain else lines.Paged
lines_of is_terminal (plans.Files plan) = shown_if is_terminal (shown_verb plan.verb)
lines_of is_terminal (plans.Run program choices) =
    if is_terminal then lines.Added else if program.is_text then lines.Feeds else lines.Plain
lines_of is_terminal (plans.Trace program selection output) = lines.Plain
lines_of is_terminal (plans.Debug program typed) = lines.Plain
lines_of is_terminal (plans.Salvage plan) = lines.Plain
lines_of is_terminal (plans.Export plan) = lines.Plain
lines_of is_terminal (plans.Import plan) = lines.Plain
lines_of is_terminal (plans.Compare plan) = lines.Plain
lines_of is_terminal (plans.Table plan) = lines.Plain
lines_of is_terminal (plans.Undelete plan) =
    if is_some plan.blocks then shown_if is_terminal lines.TextAlone else lines.Plain
lines_of is_terminal (plans.Convert plan) = lines.Plain
lines_of is_terminal (plans.Search plan) = shown_if is_terminal lines.Shown

-- ---- input

-- The prompt for the input of `asm` or `dis`: `text` if it is standard input, and otherwise none.
abbrev pub if_standard : TextInput → List ℕ → List ℕ
if_standard inputs.Standard text = text
if_standard (inputs.File path) text = []
if_standard (inputs.OnImage image name) text = []

-- The prompt for the input of a verb of `files`.
abbrev pub verb_prompt : Verb → List ℕ
verb_prompt verb =
    if copies verb then codes "pmach: reading the other volume's image from the terminal; end with Ctrl-D\n"
    else if reads verb then codes "pmach: reading the file's contents from the terminal; end with Ctrl-D\n"
    else []

-- The prompt for the input of a command. A command that does not read its whole standard input has no prompt, except
-- `debug`, whose prompt is `> `.
abbrev pub prompt_text : Plan → List ℕ
prompt_text (plans.Raw limit selection) =
    codes "pmach: reading hexadecimal digits from the terminal; end with Ctrl-D\n"
prompt_text (plans.Asm output files) =
    if_standard files.input (codes "pmach: reading assembler text from the terminal; end with Ctrl-D\n")
prompt_text (plans.Dis output files) =
    if_standard files.input (codes "pmach: reading a code file from the terminal; end with Ctrl-D\n")
prompt_text (plans.Files plan) = verb_prompt plan.verb
prompt_text (plans.Debug program typed) = codes "> "
prompt_text other = []

-- Is true for `debug`, whose prompt is printed before each line.
abbrev pub is_debug : Plan → Bool
is_debug (plans.Debug program typed) = true
is_debug other = false

-- The text of a prompt.
abbrev pub text_of : Prompt → List ℕ
text_of (prompts.Once text) = text.now
text_of (prompts.EachLine text) = text.now

-- Is true if the prompt is printed before each line.
abbrev pub is_for_each_line : Prompt → Bool
is_for_each_line (prompts.Once text) = false
is_for_each_line (prompts.EachLine text) = true

-- The byte that ends the input of a command on a terminal: Ctrl-D (4), or Ctrl-] (29) for `run --escape`.
abbrev pub end_key : Plan → ℕ
end_key (plans.Run program choices) = if choices.escape then 29 else 4
end_key other = 4

-- Is true for `run --text` and `trace --text`, which convert line feeds of the input to the key Return.
abbrev pub is_text : Plan → Bool
is_text (plans.Run program choices) = program.is_text
is_text (plans.Trace program selection output) = program.is_text
is_text other = false

-- ---- notes

-- The surprise `surprise` if the condition is true, and none otherwise.
abbrev pub surprise_if : Bool → Surprise → Surprise
surprise_if true surprise = surprise
surprise_if false surprise = surprises.None

-- How the output of a command can surprise a user:
--
-- - `dis` without -o, of a file that is no code file.
-- - `files gettext` without -o, of a file that is no text file.
-- - `run` without --text, whose input has no key Return.
-- - `files salvage --second`, of a volume without a second copy.
-- - `files undelete` without --block, of a volume on which no removed file is found.
abbrev pub surprise_of : Plan → Surprise
surprise_of (plans.Dis output files) = surprise_if (is_none files.output) surprises.NoCode
surprise_of (plans.Files plan) = surprise_if (is_none plan.output && gets_text plan.verb) surprises.NoText
surprise_of (plans.Run program choices) = surprise_if (not program.is_text) surprises.NoReturn
surprise_of (plans.Salvage plan) = surprise_if plan.second surprises.NoSecond
surprise_of (plans.Undelete plan) = surprise_if (is_none plan.blocks) surprises.NoRemoved
surprise_of other = surprises.None
