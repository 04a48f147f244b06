-- Worked examples of fields and sets: results of the definitions for a few words, worked out by hand.
use Rattle.std.specs.Prelude.{◌≡◌, ◌++◌, [], ◌∷◌, replicate, true, false}
use Rattle.pm_values.specs.Fields.{field_of, with_field}
use Rattle.pm_values.specs.Sets.{with_length, interval, is_member}

pub record WorkedValues : Type 0 where
  -- 43,981 is 1010 1011 1100 1101 in binary. Its four bits from bit 4 on are 12. If 3 replaces these bits, the word is
  -- 43,837.
  pub field : field_of 43981 4 4 ≡ 12
  pub replaced : with_field 43981 4 4 3 ≡ 43837
  -- Only the low bits of the value 2 are written to a field of one bit.
  pub low_bits : with_field 0 15 1 2 ≡ 0
  -- The set that contains only 4,079, the greatest member, has 255 words. Only bit 15 of the last word is 1.
  pub greatest : with_length (interval 4079 4079) ≡ 255 ∷ replicate 254 0 ++ 32768 ∷ []
  -- The bits of the numbers 14 to 17 are in two words.
  pub over_two_words : interval 14 17 ≡ 49152 ∷ 3 ∷ []
  pub inside : is_member (49152 ∷ 3 ∷ []) 17 ≡ true
  pub outside : is_member (49152 ∷ 3 ∷ []) 18 ≡ false
