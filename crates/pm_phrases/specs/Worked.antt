-- Worked examples: the texts that the definitions compute for code, and the expected texts.
use Rattle.std.specs.Prelude.{◌≡◌, ℕ, ◌+◌, false, true, Bool, List, [], ◌∷◌, codes}
use Rattle.pm_effects.specs.declared.effect.Share.TheVariants as share
use Rattle.pm_code.specs.Item.{Item}
use Rattle.pm_code.specs.Item.Item.{Plain, Jump, Case, OneByte}
use Rattle.pm_code.specs.Item.Target.{To, Through}
use Rattle.pm_phrases.specs.declared.around.Around.{Around}
use Rattle.pm_phrases.specs.declared.around.Missing.{Missing}
use Rattle.pm_phrases.specs.Phrases.{phrase_of}
use Rattle.pm_phrases.specs.Shown.{Shown}

-- An instruction with the opcode `op` and the operands `a` and `b`. `long` states whether its number is in two bytes
-- although one suffices.
abbrev pub spelled : Bool → ℕ → ℕ → ℕ → Item ℕ
spelled long op a b = Plain record { op = op; a = a; b = b; c = 0; long = long; start = 0; count = 0; len = 0 } []

abbrev pub coded : ℕ → ℕ → ℕ → Item ℕ
coded op a b = spelled false op a b

-- A procedure with three words of parameters.
abbrev pub three_parameters : Around
three_parameters = record { parameters = 3 }

abbrev pub words_missing : ℕ → Missing
words_missing n = record { below = share.Words 0; top = share.Words n }

-- The text of `item` with all of its operands, in a procedure with three words of parameters.
abbrev pub on : Item ℕ → List Shown → Shown
on item operands = phrase_of three_parameters item true (words_missing 0) operands

-- The text of `item` if `n` words of its input are missing.
abbrev pub lacking : ℕ → Item ℕ → List Shown → Shown
lacking n item operands = phrase_of three_parameters item true (words_missing n) operands

-- The text of `item` if its input is not known.
abbrev pub unknown : Item ℕ → Shown
unknown item = phrase_of three_parameters item false (words_missing 0) []

-- The texts of SLDC, SLDL and SLDO.
abbrev pub constant : ℕ → Shown
constant n = on (coded n 0 0) []

abbrev pub local : ℕ → Shown
local n = on (coded (215 + n) 0 0) []

abbrev pub global : ℕ → Shown
global n = on (coded (231 + n) 0 0) []

-- The texts of ADI, SBI, MPI and LAND.
abbrev pub add : Shown → Shown → Shown
add a b = on (coded 130 0 0) (a ∷ b ∷ [])

abbrev pub subtract : Shown → Shown → Shown
subtract a b = on (coded 149 0 0) (a ∷ b ∷ [])

abbrev pub multiply : Shown → Shown → Shown
multiply a b = on (coded 143 0 0) (a ∷ b ∷ [])

abbrev pub both : Shown → Shown → Shown
both a b = on (coded 132 0 0) (a ∷ b ∷ [])

-- The texts of LESI and GEQI.
abbrev pub less : Shown → Shown → Shown
less a b = on (coded 201 0 0) (a ∷ b ∷ [])

abbrev pub at_least : Shown → Shown → Shown
at_least a b = on (coded 196 0 0) (a ∷ b ∷ [])

-- States the texts of variables and their encodings. The instructions are SLDL, LLA, LDA, LOD and STL; LDO 5 instead of
-- SLDO 5; LDO with a number in two bytes instead of one.
pub record WorkedVariables : Type 0 where
  pub parameter : (local 3).text ≡ codes "param3"
  pub beyond : (local 4).text ≡ codes "local4"
  pub global : (global 7).text ≡ codes "global7"
  pub address : (on (coded 198 2 0) (constant 1 ∷ [])).text ≡ codes "{LLA 2}(1)"
  pub outer : (on (coded 182 1 3) []).text ≡ codes "up1_3"
  pub stored : (on (coded 204 5 0) (add (local 5) (constant 1) ∷ [])).text ≡ codes "local5 := local5 + 1"
  pub stored_global : (on (coded 171 5 0) (constant 0 ∷ [])).text ≡ codes "global5 := 0"
  pub stored_outer : (on (coded 184 1 3) (constant 0 ∷ [])).text ≡ codes "up1_3 := 0"
  pub local_address : (on (coded 206 2 0) (on (coded 198 2 0) [] ∷ [])).text ≡ codes "CLP_2(@param2)"
  pub outer_address : (on (coded 206 2 0) (on (coded 178 1 3) [] ∷ [])).text ≡ codes "CLP_2(@up1_3)"
  pub not_shortest : (on (coded 169 5 0) []).text ≡ codes "global5!"
  pub number_0 : (on (coded 202 0 0) []).text ≡ codes "local0"
  pub number_16 : (on (coded 202 16 0) []).text ≡ codes "local16!"
  pub number_17 : (on (coded 202 17 0) []).text ≡ codes "local17"
  pub in_two_bytes : (on (spelled true 169 20 0) []).text ≡ codes "global20!"
  pub both : (on (spelled true 169 5 0) []).text ≡ codes "global5!!"

-- States the texts of operators, and where parentheses are needed.
pub record WorkedOperators : Type 0 where
  pub from_left : (subtract (subtract (constant 6) (local 2)) (local 1)).text ≡ codes "6 - param2 - param1"
  pub from_right : (subtract (constant 6) (subtract (local 2) (local 1))).text ≡ codes "6 - (param2 - param1)"
  pub stronger : (add (local 1) (multiply (local 2) (local 3))).text ≡ codes "param1 + param2 * param3"
  pub weaker : (multiply (add (local 1) (local 2)) (local 3)).text ≡ codes "(param1 + param2) * param3"
  pub compared : (both (at_least (global 3) (constant 97)) (less (global 3) (constant 122))).text
      ≡ codes "(global3 >= 97) AND (global3 < 122)"
  pub divided : (on (coded 134 0 0) (add (local 1) (local 2) ∷ local 3 ∷ [])).text
      ≡ codes "(param1 + param2) DIV param3"
  pub remainder : (on (coded 142 0 0) (subtract (local 1) (local 2) ∷ local 3 ∷ [])).text
      ≡ codes "(param1 - param2) MOD param3"
  pub either : (on (coded 141 0 0) (local 1 ∷ both (local 2) (local 3) ∷ [])).text
      ≡ codes "param1 OR param2 AND param3"
  pub both_of_either : (both (on (coded 141 0 0) (local 1 ∷ local 2 ∷ [])) (local 3)).text
      ≡ codes "(param1 OR param2) AND param3"
  pub equal : (on (coded 195 0 0) (local 1 ∷ local 2 ∷ [])).text ≡ codes "param1 = param2"
  pub different : (on (coded 203 0 0) (local 1 ∷ local 2 ∷ [])).text ≡ codes "param1 <> param2"
  pub at_most : (on (coded 200 0 0) (local 1 ∷ local 2 ∷ [])).text ≡ codes "param1 <= param2"
  pub absolute : (on (coded 128 0 0) (local 4 ∷ [])).text ≡ codes "ABS(local4)"
  pub squared : (on (coded 152 0 0) (local 4 ∷ [])).text ≡ codes "SQR(local4)"
  pub nil : (on (coded 159 0 0) []).text ≡ codes "NIL"
  pub complement : (on (coded 147 0 0) (less (local 4) (local 5) ∷ [])).text ≡ codes "NOT (local4 < local5)"
  pub negated : (on (coded 145 0 0) (local 4 ∷ [])).text ≡ codes "-(local4)"
  pub negative : (add (local 1) (on (coded 199 65535 0) [])).text ≡ codes "param1 + -1"
  pub long_constant : (on (coded 199 5 0) []).text ≡ codes "5!"
  pub constant_127 : (on (coded 199 127 0) []).text ≡ codes "127!"
  pub constant_128 : (on (coded 199 128 0) []).text ≡ codes "128"
  pub not_member : (on (coded 147 0 0)
      (on (coded 139 0 0) (local 1 ∷ on (coded 151 0 0) (local 2 ∷ []) ∷ []) ∷ [])).text
      ≡ codes "NOT (param1 IN [param2])"
  pub checked : (on (coded 136 0 0) (global 4 ∷ constant 2 ∷ on (coded 199 200 0) [] ∷ [])).text
      ≡ codes "CHECK(global4, 2..200)"

-- The text of LAO.
abbrev pub address : ℕ → Shown
address n = on (coded 165 n 0) []

-- The texts of INC, IND, SIND, IXA, STO, MOV and LDM.
abbrev pub further : ℕ → Shown → Shown
further k a = on (coded 162 k 0) (a ∷ [])

abbrev pub word : ℕ → Shown → Shown
word k a = on (coded (248 + k) 0 0) (a ∷ [])

abbrev pub item : ℕ → Shown → Shown → Shown
item size a i = on (coded 164 size 0) (a ∷ i ∷ [])

abbrev pub store : Shown → Shown → Shown
store a v = on (coded 154 0 0) (a ∷ v ∷ [])

pub record WorkedAddresses : Type 0 where
  pub element : (store (item 1 (address 6) (subtract (global 4) (constant 2))) (constant 1)).text
      ≡ codes "global6[global4 - 2] := 1"
  pub larger : (word 0 (item 4 (address 6) (local 4))).text ≡ codes "global6[local4:4]"
  pub value_of_element : (word 0 (item 1 (address 6) (local 4))).text ≡ codes "global6[local4]"
  pub address_of_element : (on (coded 206 2 0) (item 1 (address 6) (local 4) ∷ [])).text
      ≡ codes "CLP_2(@global6[local4])"
  pub word_of_variable : (word 2 (address 6)).text ≡ codes "global6.2"
  pub first_of_variable : (word 0 (address 6)).text ≡ codes "global6.0"
  pub word_of_value : (word 0 (global 6)).text ≡ codes "global6^"
  pub further_of_value : (word 1 (global 6)).text ≡ codes "global6^.1"
  pub long_word : (on (coded 163 2 0) (global 6 ∷ [])).text ≡ codes "global6^.2!"
  pub word_7 : (on (coded 163 7 0) (global 6 ∷ [])).text ≡ codes "global6^.7!"
  pub first_of_field : (word 0 (further 2 (address 6))).text ≡ codes "global6.2.0"
  pub further_of_element : (word 1 (item 1 (address 6) (local 4))).text ≡ codes "global6[local4].1"
  pub address_of_field : (on (coded 206 2 0) (further 2 (address 6) ∷ [])).text ≡ codes "CLP_2(@global6.2)"
  pub by_field : (store (further 2 (address 6)) (constant 0)).text ≡ codes "global6.2 := 0"
  pub larger_by_mark : (on (spelled true 164 1 0) (address 6 ∷ local 4 ∷ [])).text ≡ codes "global6[local4:1!]"
  pub at_negative : (word 0 (on (coded 199 65535 0) [])).text ≡ codes "(-1)^"
  pub at_complement : (word 0 (on (coded 147 0 0) (local 4 ∷ []))).text ≡ codes "(NOT local4)^"
  pub at_negated : (word 0 (on (coded 145 0 0) (local 4 ∷ []))).text ≡ codes "(-(local4))^"
  pub at_words : (word 0 (on (coded 188 4 0) (address 9 ∷ []))).text ≡ codes "(load[4] global9)^"
  pub through : (store (on (coded 163 8 0) (word 0 (address 3) ∷ [])) (global 1)).text
      ≡ codes "global3.0^.8^ := global1"
  pub field : (store (further 8 (word 0 (address 3))) (on (coded 169 321 0) [])).text
      ≡ codes "global3.0^.8 := global321"
  pub by_address : (store (address 3) (constant 0)).text ≡ codes "(@global3)^ := 0"
  pub moved : (on (coded 168 4 0) (address 3 ∷ global 5 ∷ [])).text ≡ codes "global3 := move[4] global5^"
  pub words : (on (coded 189 4 0) (address 3 ∷ on (coded 188 4 0) (address 9 ∷ []) ∷ [])).text
      ≡ codes "global3 :=[4] load[4] global9"

-- States texts with stand-ins such as `POP`. They represent missing operands, and precede the other operands.
pub record WorkedMissing : Type 0 where
  pub one : (lacking 1 (coded 130 0 0) (local 1 ∷ [])).text ≡ codes "POP + param1"
  pub two : (lacking 2 (coded 154 0 0) []).text ≡ codes "{STO}(POP*2)"
  pub called : (lacking 1 (coded 205 0 19) (address 85 ∷ constant 0 ∷ [])).text
      ≡ codes "FWRITESTRING(POP, @global85, 0)"
  pub not_known : (unknown (coded 205 3 1)).text ≡ codes "CXP_3_1(?)"
  pub named_not_known : (unknown (coded 205 0 22)).text ≡ codes "FWRITELN(?)"
  pub standard_not_known : (unknown (coded 158 99 0)).text ≡ codes "{CSP 99}(?)"
  pub by_a_jump : (lacking 1 (Jump 161 (To 47)) []).text ≡ codes "IF NOT (POP) GOTO L00047"

-- The texts of CGP, CLP, CXP and CSP.
abbrev pub call : ℕ → ℕ → List Shown → Shown
call op n operands = on (coded op n 0) operands

pub record WorkedCalls : Type 0 where
  pub towers : (call 207 2 (subtract (local 3) (constant 1) ∷ local 2
      ∷ subtract (subtract (constant 6) (local 2)) (local 1) ∷ [])).text
      ≡ codes "CGP_2(param3 - 1, param2, 6 - param2 - param1)"
  pub alone : (call 206 3 []).text ≡ codes "CLP_3"
  pub base : (call 194 3 []).text ≡ codes "CBP_3"
  pub intermediate : (call 174 3 []).text ≡ codes "CIP_3"
  pub external : (on (coded 205 7 1) (local 4 ∷ [])).text ≡ codes "CXP_7_1(local4)"
  pub system : (on (coded 205 0 22) (on (coded 182 1 3) [] ∷ [])).text ≡ codes "FWRITELN(up1_3)"
  pub nameless : (on (coded 205 0 1) []).text ≡ codes "CXP_0_1"
  pub standard : (call 158 0 []).text ≡ codes "IOCHECK"
  pub unknown : (call 158 99 (local 1 ∷ [])).text ≡ codes "{CSP 99}(param1)"
  pub returns : (on (coded 173 0 0) []).text ≡ codes "RETURN"
  pub returns_words : (on (coded 173 2 0) []).text ≡ codes "RETURN 2"
  pub returns_from_base : (on (coded 193 0 0) []).text ≡ codes "RETURN FROM BASE"
  pub returns_words_from_base : (on (coded 193 1 0) []).text ≡ codes "RETURN FROM BASE 1"

pub record WorkedJumps : Type 0 where
  pub if_not : (on (Jump 161 (To 47)) (on (coded 197 0 0) (local 3 ∷ constant 0 ∷ []) ∷ [])).text
      ≡ codes "IF NOT (param3 > 0) GOTO L00047"
  pub always : (on (Jump 185 (To 165)) []).text ≡ codes "GOTO L00165"
  pub by_entry : (on (Jump 185 (Through 3)) []).text ≡ codes "GOTO ^3"
  pub if_different : (on (Jump 211 (To 9)) (local 1 ∷ add (local 2) (constant 1) ∷ [])).text
      ≡ codes "IF param1 <> param2 + 1 GOTO L00009"
  pub if_equal : (on (Jump 212 (To 9)) (less (local 1) (local 2) ∷ local 3 ∷ [])).text
      ≡ codes "IF (param1 < param2) = param3 GOTO L00009"
  pub by_value : (on (Case 65535 1 (To 90) (10 ∷ 20 ∷ 10 ∷ [])) (local 1 ∷ [])).text
      ≡ codes "CASE param1 OF -1: L00010; 0: L00020; 1: L00010 ELSE L00090"
  pub by_no_value : (on (Case 5 2 (Through 0) []) (local 1 ∷ [])).text ≡ codes "CASE param1 OF {5, 2} ELSE ^0"

-- States the texts of items that have no special text.
pub record WorkedOthers : Type 0 where
  pub byte : (on (OneByte 210) []).text ≡ codes "{.BYTE 210}"
  pub other_segment : (on (coded 157 1 2) []).text ≡ codes "{LDE 1, 2}"
  pub real : (on (coded 131 0 0) (local 1 ∷ local 2 ∷ [])).text ≡ codes "{ADR}(param1, param2)"

-- The text of the instruction `op` to which `bytes` belong.
abbrev pub naming : ℕ → List ℕ → Shown
naming op bytes =
    on (Plain record { op = op; a = 0; b = 0; c = 0; long = false; start = 0; count = 0; len = 0 } bytes) []

-- The texts of LSA and LPA.
abbrev pub string : List ℕ → Shown
string bytes = naming 166 bytes

abbrev pub characters : List ℕ → Shown
characters bytes = naming 208 bytes

pub record WorkedLiterals : Type 0 where
  pub prompt : (string (codes "YOUR GUESS? ")).text ≡ codes "'YOUR GUESS? '"
  pub apostrophe : (string (codes "IT'S")).text ≡ codes "'IT''S'"
  pub last_and_next : (string (31 ∷ 32 ∷ 126 ∷ 127 ∷ [])).text ≡ codes "'\\1f ~\\7f'"
  pub first_of_string : (word 0 (string (codes "AB"))).text ≡ codes "'AB'.0"
  pub others : (string (34 ∷ 92 ∷ 7 ∷ [])).text ≡ codes "'\"\\5c\\07'"
  pub array : (characters (codes "AB")).text ≡ codes "\"AB\""
  pub argument : (on (coded 205 0 19) (on (coded 182 2 3) [] ∷ string (codes "HIGHER") ∷ constant 0 ∷ [])).text
      ≡ codes "FWRITESTRING(up2_3, 'HIGHER', 0)"
  pub words : (naming 179 (1 ∷ 0 ∷ 2 ∷ 1 ∷ [])).text ≡ codes "{LDC 1, 258}"

-- The text of SGS.
abbrev pub single : Shown → Shown
single a = on (coded 151 0 0) (a ∷ [])

-- States the texts of comparisons: SAS; EQU STR, NEQ BOOL, LEQ SET, EQU BYTES, GRT WORDS.
pub record WorkedComparisons : Type 0 where
  pub assigned : (on (coded 170 80 0) (address 3 ∷ string (codes "A") ∷ [])).text
      ≡ codes "global3 := string[80] 'A'"
  pub strings : (on (coded 175 4 0) (address 44 ∷ string (codes "NO") ∷ [])).text ≡ codes "str global44 = 'NO'"
  pub truths : (on (coded 183 6 0) (less (local 1) (local 2) ∷ local 3 ∷ [])).text
      ≡ codes "bool (param1 < param2) <> param3"
  pub reals : (on (coded 181 2 0) (local 1 ∷ local 2 ∷ [])).text ≡ codes "real param1 < param2"
  pub sets : (on (coded 180 8 0) (single (local 1) ∷ single (local 2) ∷ [])).text
      ≡ codes "sets [param1] <= [param2]"
  pub not_equal : (on (coded 147 0 0) (on (coded 175 4 0) (address 3 ∷ address 4 ∷ []) ∷ [])).text
      ≡ codes "NOT (str global3 = global4)"
  pub bytes : (on (coded 175 10 8) (address 3 ∷ local 1 ∷ [])).text ≡ codes "bytes[8] global3 = param1^"
  pub words : (on (spelled true 177 12 4) (address 3 ∷ address 9 ∷ [])).text ≡ codes "words[4!] global3 > global9"

-- The texts of LDB, IXS, IXP and LDP.
abbrev pub byte : Shown → Shown → Shown
byte a i = on (coded 190 0 0) (a ∷ i ∷ [])

abbrev pub character : Shown → Shown → Shown
character a i = on (coded 155 0 0) (a ∷ i ∷ [])

abbrev pub packed : Shown → Shown → Shown
packed a i = on (coded 192 8 2) (a ∷ i ∷ [])

pub record WorkedParts : Type 0 where
  pub byte_loaded : (byte (further 8 (word 0 (address 3))) (constant 0)).text ≡ codes "global3.0^.8.byte[0]"
  pub byte_stored : (on (coded 191 0 0) (global 5 ∷ local 4 ∷ constant 65 ∷ [])).text
      ≡ codes "global5^.byte[local4] := CHR'A'"
  pub character_loaded : (on (coded 190 0 0) (character (address 44) (local 4) ∷ [])).text
      ≡ codes "global44.char[local4]"
  pub character_stored : (on (coded 191 0 0) (character (address 44) (local 4) ∷ local 5 ∷ [])).text
      ≡ codes "global44.char[local4] := local5"
  pub its_address : (on (coded 206 2 0) (character (address 44) (local 4) ∷ [])).text
      ≡ codes "CLP_2(@global44.char[local4])"
  pub packed_loaded : (on (coded 186 0 0) (packed (address 6) (local 4) ∷ [])).text
      ≡ codes "global6.packed[local4: 8 of 2 bits]"
  pub packed_address : (on (coded 206 2 0) (packed (address 6) (local 4) ∷ [])).text
      ≡ codes "CLP_2(@global6.packed[local4: 8 of 2 bits])"
  pub at_character : (word 1 (character (address 44) (local 4))).text ≡ codes "(@global44.char[local4])^.1"
  pub at_packed : (word 1 (packed (address 6) (local 4))).text ≡ codes "(@global6.packed[local4: 8 of 2 bits])^.1"
  pub packed_stored : (on (coded 187 0 0) (packed (address 6) (local 4) ∷ constant 3 ∷ [])).text
      ≡ codes "global6.packed[local4: 8 of 2 bits] := 3"
  pub bits : (on (coded 186 0 0) (address 6 ∷ constant 4 ∷ constant 8 ∷ [])).text ≡ codes "global6.bits[4: 8]"
  pub bits_stored : (on (coded 187 0 0) (address 6 ∷ constant 4 ∷ constant 8 ∷ local 1 ∷ [])).text
      ≡ codes "global6.bits[4: 8] := param1"

-- The texts of SRS and of LDM 4.
abbrev pub range : Shown → Shown → Shown
range a b = on (coded 148 0 0) (a ∷ b ∷ [])

abbrev pub four_words : ℕ → Shown
four_words n = on (coded 188 4 0) (address n ∷ [])

-- States the texts of the set operations INN, UNI, INT, DIF and ADJ.
pub record WorkedSets : Type 0 where
  pub member : (on (coded 139 0 0) (local 1 ∷ range (constant 1) (constant 9) ∷ [])).text
      ≡ codes "param1 IN [1..9]!"
  pub member_of_words : (on (coded 139 0 0) (local 1 ∷ four_words 7 ∷ constant 4 ∷ [])).text
      ≡ codes "param1 IN SET(load[4] global7, 4)"
  pub both : (on (coded 140 0 0) (single (local 1) ∷ single (local 2) ∷ [])).text ≡ codes "[param1] * [param2]"
  pub union : (on (coded 156 0 0) (single (local 1) ∷ range (local 2) (local 3) ∷ [])).text
      ≡ codes "[param1] + [param2..param3]"
  pub stronger : (on (coded 140 0 0)
      (on (coded 133 0 0) (single (local 1) ∷ single (local 2) ∷ []) ∷ single (local 3) ∷ [])).text
      ≡ codes "([param1] - [param2]) * [param3]"
  pub no_sum : (add (single (local 1)) (single (local 2))).text ≡ codes "{ADI}([param1], [param2])"
  pub with_words : (on (coded 156 0 0) (four_words 7 ∷ constant 4 ∷ single (local 1) ∷ [])).text
      ≡ codes "SET(load[4] global7, 4) + [param1]"
  pub of_words : (on (coded 133 0 0) (four_words 7 ∷ constant 4 ∷ four_words 9 ∷ constant 4 ∷ [])).text
      ≡ codes "SET(load[4] global7, 4) - SET(load[4] global9, 4)"
  pub beside_two_words : (on (coded 156 0 0) (single (local 1) ∷ local 1 ∷ local 2 ∷ constant 2 ∷ [])).text
      ≡ codes "{UNI}([param1], param1, param2, 2)"
  pub two_words_beside : (on (coded 156 0 0) (local 1 ∷ local 2 ∷ constant 2 ∷ single (local 1) ∷ [])).text
      ≡ codes "{UNI}(param1, param2, 2, [param1])"
  pub not_adjusted : (word 0 (on (coded 160 1 0) (single (local 1) ∷ []))).text ≡ codes "(adj[1] [param1])^"
  pub before_words : (on (coded 156 0 0) (single (local 1) ∷ four_words 7 ∷ constant 4 ∷ [])).text
      ≡ codes "[param1] + SET(load[4] global7, 4)"
  pub adjusted_words : (on (coded 160 2 0) (four_words 7 ∷ constant 4 ∷ [])).text
      ≡ codes "adj[2] SET(load[4] global7, 4)"
  pub adjusted : (on (coded 189 4 0) (address 7 ∷ on (coded 160 4 0) (single (local 1) ∷ []) ∷ [])).text
      ≡ codes "global7 :=[4] adj[4] [param1]"
  pub set_missing :
      (phrase_of three_parameters (coded 139 0 0) true record { below = share.Words 1; top = share.Set } []).text
      ≡ codes "POP IN POP SET"

-- The text of the character that IXS and LDB load.
abbrev pub letter : Shown
letter = on (coded 190 0 0) (character (address 44) (local 4) ∷ [])

-- The text of EQUI.
abbrev pub equal : Shown → Shown → Shown
equal a b = on (coded 195 0 0) (a ∷ b ∷ [])

-- States the texts of numbers next to a byte, which are shown as characters if they are printable.
pub record WorkedCharacters : Type 0 where
  pub compared : (equal letter (constant 65)).text ≡ codes "global44.char[local4] = CHR'A'"
  pub in_front : (equal (constant 65) letter).text ≡ codes "CHR'A' = global44.char[local4]"
  pub of_bytes : (equal (byte (global 5) (local 4)) (constant 126)).text ≡ codes "global5^.byte[local4] = CHR'~'"
  pub stored : (on (coded 191 0 0) (character (address 44) (local 4) ∷ constant 32 ∷ [])).text
      ≡ codes "global44.char[local4] := CHR' '"
  pub apostrophe : (equal letter (constant 39)).text ≡ codes "global44.char[local4] = 39"
  pub backslash : (equal letter (constant 92)).text ≡ codes "global44.char[local4] = 92"
  pub below : (equal letter (constant 31)).text ≡ codes "global44.char[local4] = 31"
  pub above : (equal letter (constant 127)).text ≡ codes "global44.char[local4] = 127"
  pub far_above : (equal letter (on (coded 199 321 0) [])).text ≡ codes "global44.char[local4] = 321"
  pub not_shortest : (equal letter (on (coded 199 65 0) [])).text ≡ codes "global44.char[local4] = 65!"
  pub added : (add letter (constant 65)).text ≡ codes "global44.char[local4] + 65"
  pub of_words : (equal (local 4) (constant 65)).text ≡ codes "local4 = 65"
  pub bits : (on (coded 187 0 0) (packed (address 6) (local 4) ∷ constant 65 ∷ [])).text
      ≡ codes "global6.packed[local4: 8 of 2 bits] := 65"

-- The texts of INN and UNI with a set that is given by its words and their count.
abbrev pub member : Shown → Shown → Shown
member words n = on (coded 139 0 0) (local 1 ∷ words ∷ n ∷ [])

abbrev pub with_one : Shown → Shown → Shown
with_one words n = on (coded 156 0 0) (words ∷ n ∷ single (local 1) ∷ [])

-- The text of LDC.
abbrev pub in_code : List ℕ → Shown
in_code bytes = naming 179 bytes

-- States the texts of constant sets, for example bits 1 and 8 of the word 258. Bit 0 of the word before that word is
-- number 16.
pub record WorkedConstants : Type 0 where
  pub two_words : (member (in_code (1 ∷ 0 ∷ 2 ∷ 1 ∷ [])) (constant 2)).text ≡ codes "param1 IN [1, 8, 16]"
  pub over_words : (member (in_code (1 ∷ 0 ∷ 1 ∷ 128 ∷ [])) (constant 2)).text ≡ codes "param1 IN [0, 15..16]"
  pub one_word : (member (constant 46) (constant 1)).text ≡ codes "param1 IN [1..3, 5]"
  pub highest : (member (on (coded 199 49152 0) []) (constant 1)).text ≡ codes "param1 IN [14..15]"
  pub with_another : (with_one (in_code (1 ∷ 0 ∷ 2 ∷ 1 ∷ [])) (constant 2)).text ≡ codes "[1, 8, 16] + [param1]"
  pub no_word : (on (coded 139 0 0) (local 1 ∷ constant 0 ∷ [])).text ≡ codes "param1 IN []"
  pub adjusted : (on (coded 160 4 0) (constant 0 ∷ [])).text ≡ codes "adj[4] []"
  pub joined : (on (coded 156 0 0) (constant 0 ∷ single (local 1) ∷ [])).text ≡ codes "[] + [param1]"
  pub no_member : (member (constant 0) (constant 1)).text ≡ codes "param1 IN []#1"
  pub a_word_more : (member (in_code (0 ∷ 0 ∷ 2 ∷ 0 ∷ [])) (constant 2)).text ≡ codes "param1 IN [1]#2"
  pub by_its_high_byte : (member (in_code (0 ∷ 1 ∷ 0 ∷ 0 ∷ [])) (constant 2)).text ≡ codes "param1 IN [24]"
  pub word_not_shortest : (member (on (coded 199 14 0) []) (constant 1)).text ≡ codes "param1 IN SET(14!, 1)"
  pub count_not_shortest : (member (constant 14) (on (coded 199 1 0) [])).text ≡ codes "param1 IN SET(14, 1!)"
  pub one_word_in_code : (member (in_code (14 ∷ 0 ∷ [])) (constant 1)).text ≡ codes "param1 IN SET({LDC 14}, 1)"
  pub other_count : (member (in_code (1 ∷ 0 ∷ 2 ∷ 1 ∷ [])) (constant 3)).text
      ≡ codes "param1 IN SET({LDC 1, 258}, 3)"
  pub made_of_one : (single (constant 5)).text ≡ codes "[5]!"
  pub made_of_range : (range (constant 1) (constant 9)).text ≡ codes "[1..9]!"
  pub made_of_longer : (single (on (coded 199 5 0) [])).text ≡ codes "[5!]"
  pub made_of_one_constant : (range (constant 1) (local 2)).text ≡ codes "[1..param2]"
