-- Worked examples: values of the definitions for some lines and texts, worked out by hand.
use Rattle.std.specs.Prelude.{◌≡◌, [], ◌∷◌, ◌++◌, replicate, Some, None}
use Rattle.pm_textfile.specs.declared.fault.TextFault.TheVariants.{LineTooLong}
use Rattle.pm_textfile.specs.Writing.{coded, text_fault}

pub record WorkedTexts : Type 0 where
  -- 230 spaces are encoded as an indentation of 223, the greatest possible, followed by seven spaces.
  pub spaces : coded (replicate 230 32) ≡ 16 ∷ 255 ∷ 32 ∷ 32 ∷ 32 ∷ 32 ∷ 32 ∷ 32 ∷ 32 ∷ 13 ∷ []
  -- One leading space is also encoded as an indentation.
  pub one_space : coded (32 ∷ 97 ∷ []) ≡ 16 ∷ 33 ∷ 97 ∷ 13 ∷ []
  -- An encoded line has at most 1,024 bytes, including the byte 13 at its end.
  pub longest : text_fault (replicate 1023 97 ++ 10 ∷ []) ≡ None
  pub too_long : text_fault (replicate 1024 97 ++ 10 ∷ []) ≡ Some (LineTooLong 1)
