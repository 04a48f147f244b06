-- Worked examples: the hints for a few lines.
use Rattle.std.specs.Prelude.{◌≡◌, codes, Some}
use Rattle.pm_asm.specs.HintTexts.{hint_text}
use Rattle.pm_asm.specs.Hints.{ended_hint, hint_of}
use Rattle.pm_asm.specs.Hints.Hint.{Labels, BeforeLabelled, Takes, Stands, Meant, Words, Ended, Named, Once, Reached}
use Rattle.pm_asm.specs.Hints.Hint.{Odd, Counted}
use Rattle.pm_source.specs.declared.fault.AsmFault.TheVariants.{Syntax, Unknown, Range, NoLabel, Twice, Far}
use Rattle.pm_source.specs.Line.Keyword.{OfSegment, Mnemonic}

-- States hints that were worked out by hand, with the numbers of the opcodes.
pub record WorkedHints : Type 0 where
  -- A comma is missing.
  pub ill_formed : hint_of (Syntax 3) (codes "CXP 2 1") ≡ Some (Takes (Mnemonic 205))
  pub out_of_place : hint_of (Syntax 3) (codes " NOP ; x") ≡ Some (Stands (Mnemonic 215))
  -- An empty word is also the mnemonic of opcode 210, which is unassigned. The text of the hint is the same for every
  -- item.
  pub label_alone : hint_of (Syntax 3) (codes "L:") ≡ Some (Stands (Mnemonic 210))
  pub label : hint_of (Syntax 3) (codes "1L: NOP") ≡ Some Labels
  pub labelled : hint_of (Syntax 3) (codes "L: .EXIT") ≡ Some BeforeLabelled
  pub behind_label : hint_of (Syntax 3) (codes "L: ADI 5") ≡ Some (Takes (Mnemonic 130))
  pub other_case : hint_of (Unknown 3) (codes "nop") ≡ Some (Meant (Mnemonic 215))
  -- The first of ADI, ADJ and ADR.
  pub other_letter : hint_of (Unknown 3) (codes "ADD") ≡ Some (Meant (Mnemonic 130))
  pub like_none : hint_of (Unknown 3) (codes "LOOP NOP") ≡ Some Words
  pub type_word : hint_of (Unknown 3) (codes "EQU INT") ≡ Some (Takes (Mnemonic 175))
  pub number : hint_of (Range 3) (codes "SLDC 128") ≡ Some (Takes (Mnemonic 0))
  pub end : hint_of (Range 3) (codes ".END") ≡ Some Ended
  pub label_named : hint_of (NoLabel 3) (codes "UJP L") ≡ Some Named
  pub segment : hint_of (Twice 3) (codes ".SEG 1 A") ≡ Some (Once OfSegment)
  pub jump : hint_of (Far 3) (codes "FJP L") ≡ Some (Reached (Mnemonic 161))
  pub bytes_told : hint_text (Takes (Mnemonic 205))
      ≡ codes "CXP takes two numbers from 0 to 255, separated by a comma, for example CXP 2, 1"
  pub range_told : hint_text (Takes (Mnemonic 216)) ≡ codes "SLDL takes a number from 1 to 16; LDL takes larger ones"
  pub nothing_told : hint_text (Takes (Mnemonic 130)) ≡ codes "ADI takes no operand"
  pub name_told : hint_text (Meant (Mnemonic 130)) ≡ codes "did you mean ADI?"
  -- An odd number of bytes has priority over the entries.
  pub odd : ended_hint (record { procedure = 2; bytes = 5; entries = 0; taken = 3 }) ≡ Odd 2 5
  pub counted : ended_hint (record { procedure = 1; bytes = 4; entries = 1; taken = 3 }) ≡ Counted 1 1 3
