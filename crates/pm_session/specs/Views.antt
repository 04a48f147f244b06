-- The answers of the commands that show the memory, the code, the breakpoints, the watched words, the frames, the
-- console and the commands.
use Rattle.std.specs.Prelude.{ℕ, zero, suc, ◌+◌, ◌/◌, ◌%◌, ◌&&◌, nat_le, List, [], ◌∷◌, ◌++◌, map, Option, Some, None}
use Rattle.std.specs.Prelude.{if◌then◌else◌, codes}
use Rattle.std.specs.Fmt.{decimal}
use Rattle.pm_words.specs.Stack.{minus}
use Rattle.pm_machine.specs.State.{State}
use Rattle.pm_code.specs.Image.{upper_digit}
use Rattle.pm_code.specs.Text.{quoted}
use Rattle.pm_disasm.specs.Text.{line_text}
use Rattle.pm_debug.specs.Ahead.{addresses_ahead}
use Rattle.pm_machine.specs.CodePlaces.{place_in_code}
use Rattle.pm_debug.specs.Frames.{frames}
use Rattle.pm_debug.specs.Session.{Session}
use Rattle.pm_debug.specs.Views.{bytes_from, console_end, words_from}
use Rattle.pm_machine.specs.declared.code_place.CodePlace.{CodePlace}
use Rattle.pm_debug.specs.declared.breaks.Breakpoint.{Breakpoint}
use Rattle.pm_debug.specs.declared.breaks.Condition.{Condition}
use Rattle.pm_debug.specs.declared.breaks.Spot.{Spot}
use Rattle.pm_debug.specs.declared.breaks.Spot.TheVariants as spots
use Rattle.pm_debug.specs.declared.frames.Frame.{Frame}
use Rattle.pm_debug.specs.declared.refusal.DebugRefusal.TheVariants.{OddAddress}
use Rattle.pm_session.specs.declared.commands.Command.{Command}
use Rattle.pm_session.specs.declared.commands.View.{View}
use Rattle.pm_session.specs.declared.commands.View.TheVariants as views
use Rattle.pm_session.specs.Commands.{Reading, command_rows, setting_rows}
use Rattle.pm_session.specs.Texts.{chain_text, more_parts, numbers_text, parts_text, refused_text}

-- ---- positions in the code

-- The text of a position: a segment, a procedure and an offset, as in the command `break`.
abbrev pub point_text : CodePlace → List ℕ
point_text b = decimal b.segment ++ (32 ∷ decimal b.procedure ++ (32 ∷ decimal b.offset))

abbrev pub condition_text : Option Condition → List ℕ
condition_text None = []
condition_text (Some c) = codes " if " ++ (decimal c.address ++ (codes " = " ++ decimal c.word))

-- The text of a spot: a position as in the command `break`, or words as in the commands `reads` and `writes`.
abbrev pub spot_text : Spot → List ℕ
spot_text (spots.Code place) = point_text place
spot_text (spots.Reads a n) = codes "reads " ++ (decimal a ++ (32 ∷ decimal n))
spot_text (spots.Writes a n) = codes "writes " ++ (decimal a ++ (32 ∷ decimal n))

-- The text of a breakpoint: its spot, followed by its condition.
abbrev pub break_text : Breakpoint → List ℕ
break_text b = spot_text b.spot ++ condition_text b.condition

abbrev pub breaks_text : List Breakpoint → List ℕ
breaks_text breaks = parts_text (codes ", ") break_text breaks

-- The text after the breakpoints: the number of breakpoints that runs may pass over, in the form of `ignore`. It is
-- empty for 0.
abbrev pub passes_text : List Breakpoint → ℕ → List ℕ
passes_text breaks zero = []
passes_text [] (suc passes) = codes "ignore " ++ decimal (suc passes)
passes_text (b ∷ breaks) (suc passes) = codes ", ignore " ++ decimal (suc passes)

-- The text of the position of the machine, followed by the next instruction.
abbrev pub where_text : Option CodePlace → State → List ℕ
where_text None s = refused_text OddAddress
where_text (Some place) s = point_text place ++ (32 ∷ line_text s.memory s.registers.ipc)

-- The offset of `address` from the entry of the running procedure, modulo 65,536. `place` is the position at IPC.
abbrev pub offset_at : CodePlace → State → ℕ → ℕ
offset_at place s address = (place.offset + minus address s.registers.ipc) % 65536

-- The text of the instruction at `address`, after its offset.
abbrev pub ahead_text : CodePlace → State → ℕ → List ℕ
ahead_text place s address = decimal (offset_at place s address) ++ (32 ∷ line_text s.memory address)

abbrev pub list_text : Option CodePlace → State → List ℕ → List ℕ
list_text None s addresses = refused_text OddAddress
list_text (Some place) s addresses = parts_text (codes "; ") (ahead_text place s) addresses

-- ---- frames

abbrev pub return_text : Option CodePlace → List ℕ
return_text None = []
return_text (Some place) = 32 ∷ point_text place

-- The text of a frame: its address and the position to which it returns.
abbrev pub frame_text : Frame → List ℕ
frame_text frame = decimal frame.address ++ return_text frame.returns_to

abbrev pub frames_text : Option (List Frame) → List ℕ
frames_text None = refused_text OddAddress
frames_text (Some frames) = parts_text (codes ", ") frame_text frames

-- ---- bytes

-- The text of `byte`: two hexadecimal digits.
abbrev pub pair_text : ℕ → List ℕ
pair_text byte = upper_digit (byte / 16) ∷ upper_digit (byte % 16) ∷ []

-- The character that shows `byte`: the character itself for 32 to 126, else a full stop.
abbrev pub shown_character : ℕ → ℕ
shown_character byte = if nat_le 32 byte && nat_le byte 126 then byte else 46

-- The text of bytes as pairs of hexadecimal digits, followed by two spaces and the characters.
abbrev pub bytes_text : List ℕ → List ℕ
bytes_text [] = []
bytes_text (b ∷ bs) = parts_text (codes " ") pair_text (b ∷ bs) ++ (32 ∷ 32 ∷ map shown_character (b ∷ bs))

-- ---- commands

-- The name of the command of a table row, followed by the letters that represent its numbers.
abbrev pub usage_text : List ℕ × List ℕ × Reading → List ℕ
usage_text row = row.0 ++ row.1

-- Both words of a setting, such as `console on`.
abbrev pub setting_text : List ℕ × List ℕ × Command → List ℕ
setting_text row = row.0 ++ (32 ∷ row.1)

unfoldable pub help_text : List ℕ
help_text = parts_text (codes ", ") usage_text command_rows
    ++ (more_parts (codes ", ") setting_text setting_rows ++ codes ", type \"TEXT\", break S P O if A = W"
    ++ codes ", reads A N if B = W, writes A N if B = W, clear reads A N, clear writes A N")

-- The answer to a command that shows a view of the session `d`.
unfoldable pub view_text : View → Session → List ℕ
view_text (views.Peek a n) d = chain_text (words_from d.machine a n)
view_text (views.Bytes a n) d = bytes_text (bytes_from d.machine a n)
view_text views.Where d = where_text (place_in_code d.machine) d.machine
view_text views.Breaks d = breaks_text d.breaks ++ passes_text d.breaks d.passes
view_text views.Watches d = numbers_text d.watches
view_text (views.Frames n) d = frames_text (frames d.machine n)
view_text (views.Ahead n) d = list_text (place_in_code d.machine) d.machine (addresses_ahead d.machine n)
view_text (views.Console n) d = quoted (console_end d.machine n)
view_text views.Help d = help_text
