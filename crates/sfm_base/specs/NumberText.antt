-- The text of a whole number: `0`, or an optional `-`, a digit 1 to 9 and further digits, of its value in base ten.
use Rattle.std.specs.Prelude.{◌≡◌, ℕ, ◌≤◌, List, ◌++◌, slice_index, ℤ, pos, neg_ℤ, codes}
use Rattle.std.specs.Str.Parse.{AllDigits, digits_value}

-- a digit 1 to 9, whose code is 49 or more, and further digits, together of the value n
pub record IsCount (bytes : List ℕ) (n : ℕ) : Type 0 where
  pub first : 49 ≤ slice_index bytes 0
  pub digits : AllDigits 10 bytes
  pub value : digits_value 10 bytes ≡ n

-- the bytes are the text of the number: `0`, or a digit 1 to 9 and further digits, behind a `-` where it is negative
pub data IsNumber (bytes : List ℕ) (a : ℤ) : Type 0 where
  is_zero : bytes ≡ codes "0" → a ≡ pos 0 → IsNumber bytes a
  is_positive : (n : ℕ) → IsCount bytes n → a ≡ pos n → IsNumber bytes a
  is_negative : (n : ℕ) (digits : List ℕ) → bytes ≡ codes "-" ++ digits → IsCount digits n → a ≡ neg_ℤ (pos n) → IsNumber bytes a
