-- The items that are read from a segment's bytes. Code is divided into parts: a part is an instruction, or one byte
-- that is not part of an instruction. No part extends over a forced offset: that of the exit code, or the target of an
-- entry.
use Rattle.std.specs.Prelude.{ℕ, zero, suc, ◌+◌, ◌-◌, ◌*◌, ◌/◌, ◌%◌, Bool, true, false, List, []}
use Rattle.std.specs.Prelude.{◌∷◌, ◌++◌, length, map, take, drop, replicate, nat_lt, nat_le, ◌==◌}
use Rattle.std.specs.Prelude.{◌&&◌, if◌then◌else◌, Option, Some, None, Result, Ok, Err, slice_index}
use Rattle.std.specs.Int.{w8, cast_unsigned}
use Rattle.std.specs.List.{list_any, list_all}
use Rattle.pm_opcode.specs.declared.operand_form.Form.{Form}
use Rattle.pm_opcode.specs.declared.operand_form.Form.TheVariants as forms
use Rattle.pm_opcode.specs.declared.instr.Instr.{Instr}
use Rattle.pm_opcode.specs.declared.instr.Decode.{Decode}
use Rattle.pm_opcode.specs.Table.{form_of}
use Rattle.pm_opcode.specs.Spelling.{is_odd, named_by}
use Rattle.pm_opcode.specs.Reading.{reading}
use Rattle.pm_words.specs.Words.{words_of}
use Rattle.pm_codefile.specs.declared.table.Attributes.{Attributes}
use Rattle.pm_codefile.specs.Dictionary.{word_in}
use Rattle.pm_code.specs.Item.{Item, Target, jump_opcode}
use Rattle.pm_code.specs.Item.Item.{Plain, Jump, Case, OneByte}
use Rattle.pm_code.specs.Item.Target.{To, Through}
use Rattle.pm_code.specs.Program.{Procedure, entries_needed, is_among, item_places}

-- An instruction at the beginning of bytes: its size in bytes, and its item. It has no item in two cases:
--
-- - A jump of the instruction leads neither forward nor through an entry.
-- - The instruction is an XJP whose third word is not a UJP.
pub record Front : Type 0 where
  pub size : ℕ
  pub item : Option (Item ℕ)

-- The target of a short jump from its byte `b`, or `None`. A byte below 128 is a distance forward from `next`. An even
-- byte from 128 to 246 is a jump through an entry. Entry 0 is 246, and each further entry is 2 less.
abbrev pub target_of : ℕ → ℕ → Option (Target ℕ)
target_of next b = if nat_lt b 128 then Some (To (next + b))
    else if (b % 2 == 0) && nat_le b 246 then Some (Through ((246 - b) / 2))
    else None

-- The targets of the words of a table that begins at offset `at`.
abbrev pub table_places : ℕ → List ℕ → List ℕ
table_places at [] = []
table_places at (w ∷ ws) = ((at + 65536 - w) % 65536) ∷ table_places (at + 2) ws

-- The instruction `i` with only its operands: its position and its length are 0.
abbrev pub by_operands : Instr → Instr
by_operands i = record i { start = 0; len = 0 }

abbrev pub jump_item : ℕ → Option (Target ℕ) → Option (Item ℕ)
jump_item op None = None
jump_item op (Some target) = Some (Jump op target)

abbrev pub case_item : ℕ → ℕ → Option (Target ℕ) → List ℕ → Option (Item ℕ)
case_item low high None places = None
case_item low high (Some otherwise) places = Some (Case low high otherwise places)

-- The item of instruction `i`, to which the bytes `named` belong. `end` is the offset after the instruction. The third
-- word of XJP is a UJP, whose distance counts from the table.
abbrev pub item_of : Form → Instr → List ℕ → ℕ → Option (Item ℕ)
item_of forms.Sb i named end = jump_item i.op (target_of end (i.a % 256))
item_of forms.Jumps i named end =
    let table = end - i.count in
    if i.c % 256 == jump_opcode then case_item i.a i.b (target_of table (i.c / 256))
    (table_places table (words_of named)) else None
item_of _ i named end = Some (Plain (by_operands i) named)

-- Is true if the padding byte of the instruction is zero, or if it has none. It is the third byte of LDC at an odd
-- offset, and the second byte of XJP at an even offset.
abbrev pub has_zero_padding : Form → Bool → List ℕ → Bool
has_zero_padding forms.Words odd bytes = if odd then slice_index bytes 2 == 0 else true
has_zero_padding forms.Jumps odd bytes = if odd then true else slice_index bytes 1 == 0
has_zero_padding _ odd bytes = true

-- The bytes `bytes` at offset `at`, preceded by zeros.
abbrev pub standing_at : ℕ → List ℕ → List ℕ
standing_at at bytes = replicate at 0 ++ bytes

abbrev pub front_by : ℕ → List ℕ → Result Instr Decode → Option Front
front_by at bytes (Err fault) = None
front_by at bytes (Ok i) = if has_zero_padding (form_of i.op) (is_odd at) bytes
    then Some (record {
      size = i.len;
      item = item_of (form_of i.op) i (named_by i (standing_at at bytes))
          (at + i.len);
    })
    else None

-- The instruction at the beginning of `bytes`, which are at offset `at`. The result is `None` unless the instruction
-- decodes, ends inside the bytes, and has zero padding.
unfoldable pub front : ℕ → List ℕ → Option Front
front at bytes = front_by at bytes (reading (standing_at at bytes) at)

-- The given instruction at offset `at`, or `None` if one of the offsets `forced` is strictly inside it.
abbrev pub uncut : List ℕ → ℕ → Option Front → Option Front
uncut forced at None = None
uncut forced at (Some f) =
    if list_any (λ place. nat_lt at place && nat_lt place (at + f.size)) forced then None else Some f

abbrev pub taken : List ℕ → ℕ → List ℕ → Option Front
taken forced at bytes = uncut forced at (front at bytes)

-- A part of code: its offset, its bytes, and its item. The item is shown if all its jumps lead to boundaries.
-- Otherwise, and if the part has no item, its bytes are shown.
pub record Part : Type 0 where
  pub at : ℕ
  pub bytes : List ℕ
  pub item : Option (Item ℕ)

abbrev pub part_of : ℕ → List ℕ → Option Front → Part
part_of at bytes None = record { at = at; bytes = take 1 bytes; item = None }
part_of at bytes (Some f) = record { at = at; bytes = take f.size bytes; item = f.item }

abbrev pub bytes_after_first : Option Front → ℕ
bytes_after_first None = 0
bytes_after_first (Some f) = f.size - 1

-- The parts of code at offset `at`. The first `skip` bytes belong to the part before. Each part is the instruction at
-- its offset, or one byte if no instruction is at this offset.
abbrev pub parts : List ℕ → ℕ → ℕ → List ℕ → List Part
parts forced skip at [] = []
parts forced (suc skip) at (b ∷ bytes) = parts forced skip (at + 1) bytes
parts forced zero at (b ∷ bytes) =
    let found = taken forced at (b ∷ bytes) in
    part_of at (b ∷ bytes) found ∷ parts forced (bytes_after_first found) (at + 1) bytes

-- Is true if a jump with this target can be shown: any offset, or an entry if `allowed` is true.
abbrev pub is_allowed : Bool → Target ℕ → Bool
is_allowed allowed (To place) = true
is_allowed allowed (Through k) = allowed

abbrev pub is_allowed_item : Bool → Item ℕ → Bool
is_allowed_item allowed (Jump op target) = is_allowed allowed target
is_allowed_item allowed (Case low high otherwise places) = is_allowed allowed otherwise
is_allowed_item allowed _ = true

abbrev pub leads : List ℕ → Bool → Item ℕ → Bool
leads boundaries allowed item = is_allowed_item allowed item && list_all (is_among boundaries) (item_places item)

abbrev pub written_as : List ℕ → Bool → List ℕ → Option (Item ℕ) → List (Item ℕ)
written_as boundaries allowed bytes None = map OneByte bytes
written_as boundaries allowed bytes (Some item) = if leads boundaries allowed item then item ∷ [] else map OneByte bytes

abbrev pub written : List ℕ → Bool → List Part → List (Item ℕ)
written boundaries allowed [] = []
written boundaries allowed (p ∷ ps) = written_as boundaries allowed p.bytes p.item ++ written boundaries allowed ps

-- The offsets at which the parts begin, and the end of the code.
abbrev pub ends_of : ℕ → List Part → List ℕ
ends_of end [] = end ∷ []
ends_of end (p ∷ ps) = p.at ∷ ends_of end ps

-- The items that are shown for `code`, which begins at offset `at`. No item extends over one of the offsets `forced`.
abbrev pub items_in : List ℕ → Bool → ℕ → List ℕ → List (Item ℕ)
items_in forced allowed at code =
    let ps = parts forced 0 at code in
    written (ends_of (at + length code) ps) allowed ps

-- The targets of `count` jump table entries of a procedure, from entry `k` on.
abbrev pub entry_places : List ℕ → ℕ → ℕ → ℕ → List ℕ
entry_places segment jtab k zero = []
entry_places segment jtab k (suc count) =
    let at = jtab - 10 - 2 * k in (at - word_in segment at) ∷ entry_places segment jtab (k + 1) count

-- Is true if no target of the `count` entries from entry `k` on is before the code, which begins at `enter`.
abbrev pub are_after : List ℕ → ℕ → ℕ → ℕ → ℕ → Bool
are_after segment enter jtab k zero = true
are_after segment enter jtab k (suc count) =
    let at = jtab - 10 - 2 * k in nat_le (enter + word_in segment at) at && are_after segment enter jtab (k + 1) count

-- The offset at which the code of the procedure `a` ends if its jump table has `t` entries.
abbrev pub end_with : Attributes → ℕ → ℕ
end_with a t = a.jtab - 8 - 2 * t

abbrev pub code_with : List ℕ → Attributes → ℕ → List ℕ
code_with segment a t = take (end_with a t - a.enter) (drop a.enter segment)

-- The procedure `a`, decoded with `t` jump table entries. Its exit code and the targets of its entries are forced
-- offsets.
abbrev pub procedure_with : List ℕ → Attributes → Bool → ℕ → Procedure
procedure_with segment a allowed t =
    let entries = entry_places segment a.jtab 0 t in
    record {
      level = cast_unsigned w8 a.level;
      parameters = a.parameters;
      locals = a.locals;
      start = a.enter;
      exit = a.exit;
      entries = entries;
      items = items_in (a.exit ∷ entries) allowed a.enter (code_with segment a t);
    }

-- Is true if the number `t` of jump table entries fits the procedure `a`. The conditions are:
--
-- - The code does not end before it begins.
-- - The exit code and all targets are inside the code.
-- - The items use exactly `t` entries.
abbrev pub fits : List ℕ → Attributes → ℕ → Bool
fits segment a t =
    let p = procedure_with segment a true t in
    nat_le (a.enter + 8 + 2 * t) a.jtab
    && (nat_le a.enter a.exit
    && (are_after segment a.enter a.jtab 0 t
    && (list_all (λ place. nat_le place (end_with a t)) (a.exit ∷ p.entries)
    && (t == entries_needed p.items))))

-- The lowest number that fits the procedure `a`, among the `count` numbers from `t` on; `None` if none of them fits.
abbrev pub least_from : List ℕ → Attributes → ℕ → ℕ → Option ℕ
least_from segment a t zero = None
least_from segment a t (suc count) = if fits segment a t then Some t else least_from segment a (t + 1) count

abbrev pub with_count : List ℕ → Attributes → Option ℕ → Procedure
with_count segment a None = procedure_with segment a false 0
with_count segment a (Some t) = procedure_with segment a true t

-- The procedure that is shown for `a`. It is decoded with the lowest number of entries from 0 to 60 that fits. If no
-- number fits, it is decoded without entries, and jumps through an entry are shown as bytes.
unfoldable pub procedure_of : List ℕ → Attributes → Procedure
procedure_of segment a = with_count segment a (least_from segment a 0 61)
