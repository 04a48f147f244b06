-- Worked examples: what the texts of some statements state that the statements do.
use Rattle.std.specs.Prelude.{◌≡◌, ℕ, [], ◌∷◌}
use Rattle.pm_words.specs.declared.error.ExecError.TheVariants.{DivideByZero, InvalidMemory}
use Rattle.pm_machine.specs.declared.state.Status.TheVariants as status
use Rattle.pm_machine.specs.State.{State}
use Rattle.pm_code.specs.Item.{Item}
use Rattle.pm_code.specs.Item.Item.{Plain, Jump}
use Rattle.pm_code.specs.Item.Target.{To, Through}
use Rattle.pm_phrases.specs.declared.around.Missing.{Missing}
use Rattle.pm_effects.specs.declared.effect.Share.TheVariants as share
use Rattle.pm_opcode.specs.Standing.{bare}
use Rattle.pm_trees.specs.Parts.{Part, part_of, place_at}
use Rattle.pm_trees.specs.declared.items.Layout.TheVariants as layout
use Rattle.pm_trees.specs.Trees.{Forest}
use Rattle.pm_trees.specs.Trees.Forest.{Bare, Tree}
use Rattle.law_text.specs.Meaning.{Done, Said, statement_said}
use Rattle.law_text.specs.Meaning.Done.{GoesOn, Jumps, Writes}
use Rattle.law_text.specs.Meaning.Said.{Fails, Gives, Unsaid}

-- The state of the examples. BASE is 10 and MP is 30. Globals 1 to 4 are the words at 22, 24, 26 and 28, with the
-- values 7, 3, 0 and 43. Locals 1 and 2 are the words at 42 and 44, with the values -1 and 6. The address 6 is on the
-- free stack, which is from 4 up to 8. The first entry of the jump table is at 46, which is JTAB - 10.
abbrev pub worked_state : State
worked_state = record {
  memory =
      0 ∷ 0 ∷ 0 ∷ 0 ∷ 0 ∷ 0 ∷ 0 ∷ 0 ∷ 0 ∷ 0 ∷ 0 ∷ 7 ∷ 3 ∷ 0 ∷ 43 ∷ 0 ∷ 0 ∷ 0 ∷ 0 ∷ 0 ∷ 0 ∷ 65535 ∷ 6 ∷ 16 ∷ 0 ∷ [];
  registers = record { sp = 8; ipc = 0; seg = 0; jtab = 56; mp = 30; base = 10; np = 4; ioresult = 0 };
  steps = 0;
  status = status.Running;
  places = [];
  rows = [];
  devices = record { disks = []; queue = []; console = []; printer = []; clock = 0 };
}

abbrev pub the_part : Item ℕ → Part
the_part item = part_of (record { segment = 1; callees = []; layout = layout.Flat }) item (place_at [] 0 10)

abbrev pub nothing_missing : Missing
nothing_missing = record { top = share.Words 0; below = share.Words 0 }

-- Returns the tree of an operation that has no operand in the code, with the given operands.
abbrev pub on : ℕ → Forest → Forest
on op operands = Tree (the_part (Plain (bare op) [])) nothing_missing operands Bare

-- Returns the tree of such an operation, after the tree `before`.
abbrev pub then_on : ℕ → Forest → Forest → Forest
then_on op operands before = Tree (the_part (Plain (bare op) [])) nothing_missing operands before

-- SLDO 1, 2, 3 and 4 have the opcodes 232 to 235. SLDL 1 and 2 have the opcodes 216 and 217.
abbrev pub global1 : Forest
global1 = on 232 Bare

abbrev pub global2 : Forest
global2 = on 233 Bare

-- SRO has the opcode 171, STO 154, FJP 161 and UJP 185.
abbrev pub store_global : ℕ → Part
store_global b = the_part (Plain (record (bare 171) { a = b }) [])

-- Returns what a statement states in a segment that begins at 1000, in the state of the examples.
abbrev pub said : Part → Forest → Said Done
said p operands = statement_said worked_state 1000 p operands

pub record WorkedMeanings : Type 0 where
  -- `global1 := global2 - global1`. SBI has the opcode 149. The difference is 3 - 7.
  pub difference : said (store_global 1) (on 149 (then_on 232 Bare global2)) ≡ Gives (Writes 22 65532)
  -- `global1 := global1 DIV global3 - global4^`, where the value 43 of `global4` is not a valid address. The left
  -- operand is executed first. DVI has the opcode 134, and SIND 0 has the opcode 248.
  pub first_error : said (store_global 1)
      (on 149 (then_on 248 (on 235 Bare) (on 134 (then_on 234 Bare global1)))) ≡ Fails DivideByZero
  pub other_error : said (store_global 1)
      (on 149 (then_on 134 (then_on 234 Bare global1) (on 248 (on 235 Bare)))) ≡ Fails InvalidMemory
  -- `IF NOT (local1 < global2) GOTO L00047`. LESI has the opcode 201. The comparison is -1 < 3.
  pub not_taken : said (the_part (Jump 161 (To 47))) (on 201 (then_on 233 Bare (on 216 Bare)))
      ≡ Gives GoesOn
  -- `IF NOT (global2 < local1) GOTO L00047`.
  pub taken : said (the_part (Jump 161 (To 47))) (on 201 (then_on 216 Bare global2))
      ≡ Gives (Jumps 1047)
  -- `GOTO ^0`: the entry at 46 contains 16, so the jump leads to the address 16 bytes below the entry.
  pub by_entry : said (the_part (Jump 185 (Through 0))) Bare ≡ Gives (Jumps 30)
  -- `local2^ := 5`: the word at 6 is written, even if it is on the free stack. SLDC 5 has the opcode 5.
  pub through : said (the_part (Plain (bare 154) [])) (then_on 5 Bare (on 217 Bare))
      ≡ Gives (Writes 6 5)
  -- `global1 := local2^`: the word that the statement reads is on the free stack, so nothing is stated.
  pub free : said (store_global 1) (on 248 (on 217 Bare)) ≡ Unsaid
