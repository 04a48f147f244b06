-- The commands of the debugger. A word of a line is a sequence of bytes without spaces.
use Rattle.std.specs.Prelude.{ℕ, zero, suc, ◌+◌, ◌-◌, ◌*◌, ◌^◌, ◌==◌, ◌&&◌, ◌||◌, List, [], ◌∷◌, Option, Some, None}
use Rattle.std.specs.Prelude.{option_map, if◌then◌else◌, length, nat_le, nat_lt, codes, true, false}
use Rattle.std.specs.Char.{is_ascii_hexdigit}
use Rattle.std.specs.List.{list_all}
use Rattle.std.specs.Str.{bytes_eq}
use Rattle.std.specs.Str.Parse.{digits_value}
use Rattle.pm_notes.specs.Names.{is_digit}
use Rattle.pm_debug.specs.Breaks.{word_is}
use Rattle.pm_debug.specs.declared.breaks.Condition.{Condition}
use Rattle.pm_debug.specs.declared.breaks.Spot.{Spot}
use Rattle.pm_debug.specs.declared.breaks.Spot.TheVariants.{Reads, Writes}
use Rattle.pm_session.specs.declared.commands.Command.{Command}
use Rattle.pm_session.specs.declared.commands.Command.TheVariants as commands
use Rattle.pm_session.specs.declared.commands.View.TheVariants as views
use Rattle.pm_session.specs.Words.{without_return, words_of_line}

-- ---- numbers

-- The number that the digits of `n` and then those of the word write, if it is below 2 ^ 32. `None` if the word has
-- another byte.
unfoldable pub number_behind : ℕ → List ℕ → Option ℕ
number_behind n [] = if nat_lt n (2 ^ 32) then Some n else None
number_behind n (c ∷ word) = if is_digit c then number_behind (10 * n + (c - 48)) word else None

-- The number that `word` writes in decimal digits, or `None`.
abbrev pub decimal_number : List ℕ → Option ℕ
decimal_number word = number_behind 0 word

-- The number that one to four hexadecimal digits write, in upper or lower case. `None` for other bytes.
abbrev pub hexadecimal_number : List ℕ → Option ℕ
hexadecimal_number digits =
    if nat_le 1 (length digits) && (nat_le (length digits) 4 && list_all is_ascii_hexdigit digits)
    then Some (digits_value 16 digits)
    else None

-- The number that `word` writes: decimal digits, or `$` and hexadecimal digits. `None` for other words.
abbrev pub word_number : List ℕ → Option ℕ
word_number [] = decimal_number []
word_number (c ∷ word) = if c == 36 then hexadecimal_number word else decimal_number (c ∷ word)

abbrev pub number_and_numbers : Option ℕ → Option (List ℕ) → Option (List ℕ)
number_and_numbers (Some n) (Some ns) = Some (n ∷ ns)
number_and_numbers (Some n) None = None
number_and_numbers None ns = None

-- The numbers that the words write. `None` if a word is not a number, or if the line has more than `most` words.
unfoldable pub numbers : ℕ → List (List ℕ) → Option (List ℕ)
numbers most [] = Some []
numbers zero (word ∷ words) = None
numbers (suc most) (word ∷ words) = number_and_numbers (word_number word) (numbers most words)

-- The number `n` if it is at most `most`.
abbrev pub number_up_to : ℕ → ℕ → Option ℕ
number_up_to most n = if nat_le n most then Some n else None

-- ---- commands

-- A function from the numbers after a command's name to the command, or to `None` if these numbers are not allowed.
abbrev pub Reading : Type 0
Reading = List ℕ → Option Command

-- The given command, if no number follows its name.
abbrev pub alone : Command → Reading
alone command [] = Some command
alone command (n ∷ more) = None

-- The command of one number, which is at most `most`.
abbrev pub one : ℕ → (ℕ → Command) → Reading
one most command [] = None
one most command (n ∷ []) = option_map command (number_up_to most n)
one most command (n ∷ m ∷ more) = None

-- The command of one number, which is at most `most`. If no number follows the name, the number is `most`.
abbrev pub most_or : ℕ → (ℕ → Command) → Reading
most_or most command [] = Some (command most)
most_or most command (n ∷ []) = option_map command (number_up_to most n)
most_or most command (n ∷ m ∷ more) = None

-- The command of two numbers, each at most 65,535.
abbrev pub two : (ℕ → ℕ → Command) → Reading
two command [] = None
two command (a ∷ []) = None
two command (a ∷ b ∷ []) = if nat_le a 65535 && nat_le b 65535 then Some (command a b) else None
two command (a ∷ b ∷ n ∷ more) = None

-- The command of a segment, a procedure and an offset.
abbrev pub point : (ℕ → ℕ → ℕ → Command) → Reading
point command [] = None
point command (s ∷ []) = None
point command (s ∷ p ∷ []) = None
point command (s ∷ p ∷ o ∷ []) =
    if nat_le s 255 && (nat_le p 255 && nat_le o 65535) then Some (command s p o) else None
point command (s ∷ p ∷ o ∷ n ∷ more) = None

-- The command of a segment, a procedure, an offset, and a number, which is at most `most`. Without this number, it is
-- `most`.
abbrev pub point_or : ℕ → (ℕ → ℕ → ℕ → ℕ → Command) → Reading
point_or most command [] = None
point_or most command (s ∷ []) = None
point_or most command (s ∷ p ∷ []) = None
point_or most command (s ∷ p ∷ o ∷ []) =
    if nat_le s 255 && (nat_le p 255 && nat_le o 65535) then Some (command s p o most) else None
point_or most command (s ∷ p ∷ o ∷ n ∷ []) =
    if nat_le s 255 && (nat_le p 255 && (nat_le o 65535 && nat_le n most)) then Some (command s p o n) else None
point_or most command (s ∷ p ∷ o ∷ n ∷ m ∷ more) = None

-- The table of the commands: the name, the letters that represent its numbers, and the function from numbers to the
-- command.
unfoldable pub command_rows : List (List ℕ × List ℕ × Reading)
command_rows =
    (codes "break", codes " S P O", point (λ s p o. commands.Break s p o None))
    ∷ (codes "clear", codes " S P O", point commands.Clear)
    ∷ (codes "poke", codes " A W", two commands.Poke)
    ∷ (codes "key", codes " B", one 255 commands.Key)
    ∷ (codes "go", codes " N", one 4294967295 commands.Go)
    ∷ (codes "stack", codes " N", one 65535 commands.Stack)
    ∷ (codes "static", codes " N", one 65535 commands.Static)
    ∷ (codes "dynamic", codes " N", one 65535 commands.Dynamic)
    ∷ (codes "local", codes " D B", two commands.Local)
    ∷ (codes "regs", [], alone commands.Registers)
    ∷ (codes "place", codes " N", one 15 commands.Place)
    ∷ (codes "trace", [], alone commands.Trace)
    ∷ (codes "peek", codes " A N", two (λ a n. commands.Show (views.Peek a n)))
    ∷ (codes "bytes", codes " A N", two (λ a n. commands.Show (views.Bytes a n)))
    ∷ (codes "where", [], alone (commands.Show views.Where))
    ∷ (codes "breaks", [], alone (commands.Show views.Breaks))
    ∷ (codes "frames", codes " N", one 65535 (λ n. commands.Show (views.Frames n)))
    ∷ (codes "list", codes " N", one 65535 (λ n. commands.Show (views.Ahead n)))
    ∷ (codes "console", codes " N", one 65535 (λ n. commands.Show (views.Console n)))
    ∷ (codes "step", codes " [N]", most_or 4294967295 commands.Step)
    ∷ (codes "finish", codes " [N]", most_or 4294967295 commands.Finish)
    ∷ (codes "until", codes " S P O [N]", point_or 4294967295 commands.Until)
    ∷ (codes "on", codes " N", one 4294967295 commands.On)
    ∷ (codes "ignore", codes " K", one 4294967295 commands.Ignore)
    ∷ (codes "watch", codes " A", one 65535 commands.Watch)
    ∷ (codes "unwatch", codes " A", one 65535 commands.Unwatch)
    ∷ (codes "watches", [], alone (commands.Show views.Watches))
    ∷ (codes "reads", codes " A N", two (λ a n. commands.BreakOn (Reads a n) None))
    ∷ (codes "writes", codes " A N", two (λ a n. commands.BreakOn (Writes a n) None))
    ∷ (codes "help", [], alone (commands.Show views.Help))
    ∷ (codes "quit", [], alone commands.Quit)
    ∷ []

-- The command with the name `word` and the numbers `ns`, by the first table row with this name; else `None`.
abbrev pub command_in : List (List ℕ × List ℕ × Reading) → List ℕ → List ℕ → Option Command
command_in [] word ns = None
command_in (row ∷ rows) word ns = if bytes_eq word row.0 then row.2 ns else command_in rows word ns

-- The table of the commands that have a word instead of numbers: the name, this word, and the command.
unfoldable pub setting_rows : List (List ℕ × List ℕ × Command)
setting_rows =
    (codes "console", codes "on", commands.ShowConsole true)
    ∷ (codes "console", codes "off", commands.ShowConsole false)
    ∷ []

-- The command with the name `word` and the word `value`, by the table row with both; else `None`.
abbrev pub setting_in : List (List ℕ × List ℕ × Command) → List ℕ → List ℕ → Option Command
setting_in [] word value = None
setting_in (row ∷ rows) word value =
    if bytes_eq word row.0 && bytes_eq value row.1 then Some row.2 else setting_in rows word value

-- The command with the name `word` and one word after it; `None` if not exactly one word follows.
abbrev pub setting_with : List ℕ → List (List ℕ) → Option Command
setting_with word [] = None
setting_with word (value ∷ []) = setting_in setting_rows word value
setting_with word (value ∷ next ∷ more) = None

-- The command that sets a breakpoint with a condition. The numbers are segment, procedure, offset, the address of the
-- condition, and its word. `None` if a number does not exist or is out of range.
abbrev pub conditional_break : Option ℕ → Option ℕ → Option ℕ → Option ℕ → Option ℕ → Option Command
conditional_break (Some s) (Some p) (Some o) (Some a) (Some w) =
    if nat_le s 255 && (nat_le p 255 && (nat_le o 65535 && (nat_le a 65535 && nat_le w 65535)))
    then Some (commands.Break s p o (Some (word_is a w))) else None
conditional_break s p o a w = None

-- The command of the words after `break`: three numbers, `if`, a number, `=`, and a number. `None` for other words.
abbrev pub conditional : List (List ℕ) → Option Command
conditional (s ∷ p ∷ o ∷ mark ∷ a ∷ sign ∷ w ∷ []) =
    if bytes_eq mark (codes "if") && bytes_eq sign (codes "=")
    then conditional_break (word_number s) (word_number p) (word_number o) (word_number a) (word_number w) else None
conditional other = None

-- The spot of `reads` or `writes`: `n` words from the address `a` on. `None` for another `word`.
abbrev pub words_named : List ℕ → ℕ → ℕ → Option Spot
words_named word a n =
    if bytes_eq word (codes "reads") then Some (Reads a n)
    else if bytes_eq word (codes "writes") then Some (Writes a n)
    else None

-- The command that sets a breakpoint at a spot, with this condition; `None` if no spot is given.
abbrev pub break_if : Option Condition → Option Spot → Option Command
break_if condition None = None
break_if condition (Some spot) = Some (commands.BreakOn spot condition)

-- The command that sets a breakpoint on words with a condition. The numbers are the address of the first word, the
-- number of words, the address of the condition, and its word. `None` if a number does not exist or is out of range.
abbrev pub conditional_words_of : List ℕ → Option ℕ → Option ℕ → Option ℕ → Option ℕ → Option Command
conditional_words_of word (Some a) (Some n) (Some b) (Some w) =
    if nat_le a 65535 && (nat_le n 65535 && (nat_le b 65535 && nat_le w 65535))
    then break_if (Some (word_is b w)) (words_named word a n) else None
conditional_words_of word a n b w = None

-- The command of `reads` or `writes` and the words after it: two numbers, `if`, a number, `=`, and a number. `None` for
-- other words.
abbrev pub conditional_words : List ℕ → List (List ℕ) → Option Command
conditional_words word (a ∷ n ∷ mark ∷ b ∷ sign ∷ w ∷ []) =
    if bytes_eq mark (codes "if") && bytes_eq sign (codes "=")
    then conditional_words_of word (word_number a) (word_number n) (word_number b) (word_number w) else None
conditional_words word other = None

-- The command that removes a breakpoint on words. The numbers are the address of the first word and the number of
-- words. `None` if a number does not exist or is out of range.
abbrev pub clear_words_of : List ℕ → Option ℕ → Option ℕ → Option Command
clear_words_of word (Some a) (Some n) =
    if nat_le a 65535 && nat_le n 65535 then option_map commands.ClearOn (words_named word a n) else None
clear_words_of word a n = None

-- The command of the words after `clear`: `reads` or `writes`, and two numbers. `None` for other words.
abbrev pub clear_words : List (List ℕ) → Option Command
clear_words (word ∷ a ∷ n ∷ []) = clear_words_of word (word_number a) (word_number n)
clear_words other = None

-- The command with the name `word` and other words after it, not all of which are numbers.
abbrev pub with_words : List ℕ → List (List ℕ) → Option Command
with_words word words =
    if bytes_eq word (codes "break") then conditional words
    else if bytes_eq word (codes "reads") || bytes_eq word (codes "writes") then conditional_words word words
    else if bytes_eq word (codes "clear") then clear_words words
    else setting_with word words

abbrev pub command_with : List ℕ → List (List ℕ) → Option (List ℕ) → Option Command
command_with word words None = with_words word words
command_with word words (Some ns) = command_in command_rows word ns

-- The command of the words of a line. The first word is the name. At most four numbers follow, or words that are not
-- all numbers.
abbrev pub in_words : List (List ℕ) → Option Command
in_words [] = None
in_words (word ∷ words) = command_with word words (numbers 4 words)

-- The command in `line`, which is given without its line feed. A carriage return at its end does not count.
unfoldable pub command_of : List ℕ → Option Command
command_of line = in_words (words_of_line (without_return line))
