-- Which verbs of `files` write the bytes of a file to their output, or read standard input.
use Rattle.std.specs.Prelude.{Bool, true, false}
use Rattle.pm_filer.specs.declared.command.FileCommand.{FileCommand}
use Rattle.pm_filer.specs.declared.command.FileCommand.TheVariants as commands
use Rattle.pm_plan.specs.declared.file_words.Verb.{Verb}
use Rattle.pm_plan.specs.declared.file_words.Verb.TheVariants as verbs

-- Is true for a command that writes the bytes of a file: `get`, by a name or by a slot.
abbrev pub is_get : FileCommand → Bool
is_get (commands.Get name) = true
is_get (commands.GetSlot slot) = true
is_get other = false

-- Is true for a command that reads standard input: `put`, `puttext`, and `copy` by a name or by a slot.
abbrev pub is_put : FileCommand → Bool
is_put (commands.Put name kind bytes) = true
is_put (commands.PutText name bytes) = true
is_put (commands.Copy name bytes) = true
is_put (commands.CopySlot slot name bytes) = true
is_put other = false

-- Is true if the verb writes the bytes of a file to its output.
abbrev pub gets : Verb → Bool
gets (verbs.Command command) = is_get command
gets (verbs.New name blocks) = false
gets verbs.Repair = false
gets verbs.Check = false

-- Is true if the verb reads standard input.
abbrev pub reads : Verb → Bool
reads (verbs.Command command) = is_put command
reads (verbs.New name blocks) = false
reads verbs.Repair = false
reads verbs.Check = false
