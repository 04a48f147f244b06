-- A line ends a procedure if and only if its first word is `.END`.
use Rattle.std.proofs.Common.{◌≡◌, ℕ, Bool, true, false, List, [], ◌∷◌, refl, sym, ap, ◌∙◌, subst, Option, Some, None}
use Rattle.std.specs.Prelude.{codes, if◌then◌else◌}
use Rattle.std.specs.List.{list_all}
use Rattle.std.specs.Str.{bytes_eq}
use Rattle.std.proofs.lemmas.Slice.Eq.{bytes_eq-Decides}
use Rattle.pm_codefile.specs.Segments.{◌>>=◌}
use Rattle.pm_code.specs.Item.{Item}
use Rattle.pm_code.specs.Program.{is_segment_name}
use Rattle.pm_source.specs.Faults.{ends, is_end}
use Rattle.pm_source.specs.Words.{Cut, cut, is_name, words}
use Rattle.pm_source.specs.Source.{Name, Statement}
use Rattle.pm_source.specs.Source.Row.{Exit}
use Rattle.pm_source.specs.Source.Statement.{Code, End}
use Rattle.pm_source.specs.Line.{Keyword, Line, Operand, Said, checked, code_said, directives, ends_procedure, entry_operands, items_said}
use Rattle.pm_source.specs.Line.{is_character, keyword_of, keyword_or, label_of, label_operand, labelled, labelled_by, line_by, line_of, line_of_words}
use Rattle.pm_source.specs.Line.{mnemonic_keyword, named_from, no_operands, numeral_operand, procedure_operands, said, saying, segment_operands}
use Rattle.pm_source.specs.Line.{size_operand, slot_operand, spoken, uncommented}
use Rattle.pm_source.specs.Line.Keyword.{OfSegment, OfProcedure, OfExit, OfJump, OfEnd, OfBytes, Mnemonic}
use Rattle.pm_source.specs.Line.Line.{Wrong}

-- States that the parsed statement, if any, is the end of a procedure if and only if `b` is true.
abbrev OperandEnds : Bool → Operand Statement → Type 0
OperandEnds b None = Unit {0}
OperandEnds b (Some x) = is_end x.0 ≡ b

abbrev SaidEnds : Bool → Said Statement → Type 0
SaidEnds b None = Unit {0}
SaidEnds b (Some x) = is_end x.0 ≡ b

bind_ends : {A : Type 0} (b : Bool) (o : Option A) (f : A → Operand Statement) → ((a : A) → OperandEnds b (f a)) → OperandEnds b (o >>= f)
bind_ends b None f h = tt
bind_ends b (Some a) f h = h a

if_ends : (b c : Bool) (o : Operand Statement) → OperandEnds b o → OperandEnds b (if c then o else None)
if_ends b true o h = h
if_ends b false o h = tt

checked_ends : (b : Bool) (o : Operand Statement) → OperandEnds b o → SaidEnds b (checked o)
checked_ends b None h = tt
checked_ends b (Some x) h = h

segment_ends : (ws : List (List ℕ)) → OperandEnds false (segment_operands ws)
segment_ends [] = tt
segment_ends (a ∷ []) = tt
segment_ends (a ∷ name ∷ []) = if_ends false (is_segment_name name) _ (bind_ends false (slot_operand a) _ (λ x. refl))
segment_ends (a ∷ name ∷ c ∷ ws) = tt

procedure_ends : (ws : List (List ℕ)) → OperandEnds false (procedure_operands ws)
procedure_ends [] = tt
procedure_ends (a ∷ []) = tt
procedure_ends (a ∷ b ∷ []) = tt
procedure_ends (a ∷ b ∷ c ∷ []) = tt
procedure_ends (a ∷ b ∷ c ∷ d ∷ []) =
    bind_ends false (numeral_operand 0 255 256 a) _ (λ p. bind_ends false (numeral_operand 128 127 256 b) _ (λ level.
    bind_ends false (size_operand c) _ (λ parameters. bind_ends false (size_operand d) _ (λ locals. refl))))
procedure_ends (a ∷ b ∷ c ∷ d ∷ e ∷ ws) = tt

entry_ends : (n : ℕ) (ws : List (List ℕ)) → OperandEnds false (entry_operands n ws)
entry_ends n [] = tt
entry_ends n (name ∷ []) = bind_ends false (label_operand name) _ (λ label. refl)
entry_ends n (name ∷ b ∷ ws) = tt

nothing_ends : (s : Statement) (ws : List (List ℕ)) → OperandEnds (is_end s) (no_operands s ws)
nothing_ends s [] = refl
nothing_ends s (w ∷ ws) = tt

code_ends : (n : ℕ) (label : Option Name) (items : Said (List (Item Name))) → SaidEnds false (code_said n label items)
code_ends n label None = tt
code_ends n label (Some x) = refl

said_ends : (n : ℕ) (keyword : Keyword) (rest : List ℕ) → SaidEnds (ends_procedure keyword) (said n keyword rest)
said_ends n OfSegment rest = checked_ends false (segment_operands (words rest)) (segment_ends (words rest))
said_ends n OfProcedure rest = checked_ends false (procedure_operands (words rest)) (procedure_ends (words rest))
said_ends n OfExit rest = checked_ends false (no_operands (Code Exit) (words rest)) (nothing_ends (Code Exit) (words rest))
said_ends n OfJump rest = checked_ends false (entry_operands n (words rest)) (entry_ends n (words rest))
said_ends n OfEnd rest = checked_ends true (no_operands End (words rest)) (nothing_ends End (words rest))
said_ends n OfBytes rest = code_ends n None (items_said OfBytes rest)
said_ends n (Mnemonic op) rest = code_ends n None (items_said (Mnemonic op) rest)

saying_ends : (b : Bool) (s : Said Statement) → SaidEnds b s → ends (saying b s) ≡ b
saying_ends b None h = refl
saying_ends b (Some x) h = h

abbrev keyword_is_end : Option Keyword → Bool
keyword_is_end None = false
keyword_is_end (Some keyword) = ends_procedure keyword

spoken_ends : (n : ℕ) (rest : List ℕ) (keyword : Option Keyword) → ends (spoken n rest keyword) ≡ keyword_is_end keyword
spoken_ends n rest None = refl
spoken_ends n rest (Some keyword) = saying_ends (ends_procedure keyword) (said n keyword rest) (said_ends n keyword rest)

named_ends : (c : Bool) (line : Line) → ends line ≡ false → ends (if c then line else Wrong false) ≡ false
named_ends true line h = h
named_ends false line h = refl

labelled_ends : (n : ℕ) (label rest word : List ℕ) → ends (labelled n label rest word) ≡ false
labelled_ends n label rest [] = named_ends (is_name label) _ refl
labelled_ends n label rest (c ∷ cs) = by (keyword_of (c ∷ cs))
  where
    by : (keyword : Option Keyword) → ends (labelled_by n label rest keyword) ≡ false
    by None = refl
    by (Some keyword) = named_ends (is_name label) _ (saying_ends false _ (code_ends n (Some label) (items_said keyword rest)))

-- A keyword that is a mnemonic does not end a procedure.
mnemonic_ends : (op : Option ℕ) → keyword_is_end (mnemonic_keyword op) ≡ false
mnemonic_ends None = refl
mnemonic_ends (Some op) = refl

abbrev by_tests : (a b c d e f : Bool) → Option Keyword
by_tests a b c d e f =
    if a then Some OfSegment else if b then Some OfProcedure else if c then Some OfExit
    else if d then Some OfJump else if e then Some OfEnd else if f then Some OfBytes else None

others_end : (word : List ℕ) (a b c d f : Bool) → keyword_is_end (keyword_or word (by_tests a b c d false f)) ≡ false
others_end word true b c d f = refl
others_end word false true c d f = refl
others_end word false false true d f = refl
others_end word false false false true f = refl
others_end word false false false false true = refl
others_end word false false false false false = mnemonic_ends (named_from word 0 256)

keyword_ends : (word : List ℕ) → keyword_is_end (keyword_of word) ≡ bytes_eq word (codes ".END")
unfolding keyword_of directives
keyword_ends word = by (bytes_eq word (codes ".END")) refl
  where
    by : (b : Bool) → bytes_eq word (codes ".END") ≡ b → keyword_is_end (keyword_of word) ≡ b
    by true e = ap (λ w. keyword_is_end (keyword_of w)) ((bytes_eq-Decides word (codes ".END")).0 e)
    by false e =
        let test : List ℕ → Bool = bytes_eq word in
        subst (λ b. keyword_is_end (keyword_or word (by_tests (test (codes ".SEG")) (test (codes ".PROC"))
        (test (codes ".EXIT")) (test (codes ".JUMP")) b (test (codes ".BYTE")))) ≡ false) (sym e)
        (others_end word (test (codes ".SEG")) (test (codes ".PROC")) (test (codes ".EXIT")) (test (codes ".JUMP")) (test (codes ".BYTE")))

label_is_no_end : (word label : List ℕ) → label_of word ≡ Some label → bytes_eq word (codes ".END") ≡ false
label_is_no_end word label e = by (bytes_eq word (codes ".END")) refl
  where
    by : (b : Bool) → bytes_eq word (codes ".END") ≡ b → b ≡ false
    by false h = refl
    by true h =
        let none : None ≡ Some label = ap label_of (sym ((bytes_eq-Decides word (codes ".END")).0 h)) ∙ e in
        absurd (cc none)

words_end : (n : ℕ) (k : Cut) (label : Option Name) → label_of k.word ≡ label
    → ends (line_of_words n k label) ≡ bytes_eq k.word (codes ".END")
words_end n k None e = spoken_ends n k.rest (keyword_of k.word) ∙ keyword_ends k.word
words_end n k (Some label) e =
    labelled_ends n label (cut k.rest).rest (cut k.rest).word ∙ sym (label_is_no_end k.word label e)

by_ends : (n : ℕ) (characters : Bool) (word rest : List ℕ)
    → ends (line_by n characters (record { word = word; rest = rest })) ≡ bytes_eq word (codes ".END")
by_ends n false word rest = refl
by_ends n true [] rest = refl
by_ends n true (c ∷ cs) rest = words_end n (record { word = c ∷ cs; rest = rest }) (label_of (c ∷ cs)) refl

-- A line ends a procedure if and only if its first word is `.END`.
pub ends_by_word : (n : ℕ) (text : List ℕ) → ends (line_of n text) ≡ bytes_eq (cut (uncommented false text)).word (codes ".END")
unfolding line_of
ends_by_word n text =
    let k = cut (uncommented false text) in by_ends n (list_all is_character text) k.word k.rest
