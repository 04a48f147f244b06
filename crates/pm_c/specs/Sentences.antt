-- The sentences for the numbers that calls return, and for the numbers in the messages of jobs.
use Rattle.std.specs.Prelude.{ℕ, List, [], ◌∷◌, ◌==◌, codes, Option, Some, None}
use Rattle.std.specs.Map.{lookup}
use Rattle.std.specs.Option.{option_or}

-- The numbers and sentences for calls, machines, starts and units.
unfoldable pub call_sentences : List (ℕ × List ℕ)
call_sentences =
    (0, codes "success; of a step and a run: the machine can continue") ∷
    (1, codes "the machine waits for console bytes") ∷
    (2, codes "the program has ended, or the job is refused") ∷
    (3, codes "an execution error stopped the program") ∷
    (4, codes "the input is too long") ∷
    (5, codes "out of memory") ∷
    (6, codes "the step limit was reached, or the program waits for console bytes") ∷
    (7, codes "the buffer is too short") ∷
    (8, codes "the handle has no machine") ∷
    (9, codes "the handle has a machine already") ∷
    (10, codes "odd address") ∷
    (11, codes "the unit has no disk") ∷
    (12, codes "the name is not UTF-8") ∷
    (13, codes "SEG or JTAB is odd, so the position in the code is unknown") ∷
    (14, codes "the kind is above 15") ∷
    (15, codes "the run has reached a breakpoint") ∷
    (16, codes "a watched word has changed") ∷
    (101, codes "invalid index") ∷
    (102, codes "no segment or bad code file") ∷
    (103, codes "procedure not present at exit time") ∷
    (104, codes "stack overflow") ∷
    (106, codes "divide by zero") ∷
    (107, codes "invalid memory reference") ∷
    (109, codes "system I/O error") ∷
    (110, codes "user I/O error") ∷
    (111, codes "unimplemented instruction") ∷
    (113, codes "string too long") ∷
    (114, codes "halt or breakpoint") ∷
    (201, codes "no such file") ∷
    (202, codes "not a code file") ∷
    (203, codes "bad code file") ∷
    (301, codes "not a disk unit") ∷
    (302, codes "the unit has a disk already") ∷
    []

-- The numbers and sentences for volumes, for the breakpoints of the debugger, and for assembler source texts, code
-- files and text files.
unfoldable pub file_sentences : List (ℕ × List ℕ)
file_sentences =
    (401, codes "the length of the image is not a multiple of 512 bytes") ∷
    (402, codes "the image is too short for a directory") ∷
    (403, codes "the header of the directory is damaged") ∷
    (404, codes "an entry of the directory is damaged") ∷
    (405, codes "the header of the directory states more than 77 files") ∷
    (406, codes "the volume extends past the end of the image, or a file past the end of the volume") ∷
    (407, codes "no free area is large enough") ∷
    (408, codes "the directory is full") ∷
    (409, codes "a file of that name exists") ∷
    (410, codes "invalid name") ∷
    (411, codes "no file of that name") ∷
    (413, codes "the first copy of the directory is damaged, the second is good") ∷
    (414, codes "a file is in the blocks of the second copy of the directory") ∷
    (501, codes "too many breakpoints or watched words") ∷
    (502, codes "not set") ∷
    (503, codes "odd address") ∷
    (505, codes "too many static links") ∷
    (506, codes "there is no run to continue") ∷
    (601, codes "the line is ill-formed or in the wrong place") ∷
    (602, codes "the line has an unknown mnemonic, directive or type keyword") ∷ (
      603,
      codes "the line has a number out of range, or ends a procedure with odd length or a wrong number of .JUMP lines",
    ) ∷
    (604, codes "the line names a label that its procedure does not have") ∷
    (605, codes "the line defines a segment, a label or .EXIT again") ∷
    (606, codes "the line jumps backward, or more than 127 bytes forward") ∷
    (607, codes "the segment has more than 60,000 bytes") ∷
    (701, codes "the file has no dictionary") ∷
    (702, codes "the segment of the slot extends past the end of the file") ∷
    (703, codes "the length of the slot is odd") ∷
    (801, codes "the file has no header") ∷
    (803, codes "the line does not fit in a page") ∷
    (804, codes "the byte is not allowed in a text file") ∷
    []

-- The numbers and sentences for formats of images, searches, comparisons and the system segment.
unfoldable pub image_sentences : List (ℕ × List ℕ)
image_sentences =
    (17, codes "no format has this name") ∷
    (18, codes "nothing was found") ∷
    (19, codes "a file differs, or is on one volume only") ∷
    (901, codes "the image is no volume in any supported format") ∷
    (902, codes "more than one format fits") ∷
    (903, codes "the image has no volume in this format") ∷
    (904, codes "the volume does not have the length that the new format or the original image requires") ∷
    (1001, codes "the system file is not a code file") ∷
    (1002, codes "the system file has no segment in slot 0") ∷
    (1003, codes "the program is not a code file") ∷
    (1004, codes "the program already has a segment in slot 0") ∷
    (1005, codes "cannot add the system segment to the program") ∷
    (1101, codes "the image opens in several formats") ∷
    (1201, codes "not all of the blocks are free") ∷
    []

unfoldable pub image_sentence : ℕ → Option (List ℕ)
image_sentence n = lookup (λ m. m == n) image_sentences

unfoldable pub file_sentence : ℕ → Option (List ℕ)
file_sentence n = option_or (lookup (λ m. m == n) file_sentences) (image_sentence n)

unfoldable pub sentence : ℕ → Option (List ℕ)
sentence n = option_or (lookup (λ m. m == n) call_sentences) (file_sentence n)

-- Returns the sentence if it exists, and an empty text otherwise.
abbrev pub or_nothing : Option (List ℕ) → List ℕ
or_nothing None = []
or_nothing (Some text) = text
