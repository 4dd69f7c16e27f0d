-- The number that `u64` reads from a text, as a test.
use Rattle.std.proofs.Common.{◌≡◌, ◌^◌, ◌&&◌, ℕ, Bool, [], ◌∷◌, Result, Ok, Err, Option, Some, None, refl, sym, ap, true, false, cond, lt-ltb, length}
use Rattle.std.specs.Prelude.{nat_lt, option_and_then}
use Rattle.std.specs.List.{list_all}
use Rattle.std.specs.Char.{digit_value}
use Rattle.std.specs.Str.Parse.{AllDigits, IsNumeral, ParsesUnsigned, digits_value, without_leading_plus}
use Rattle.std.proofs.lemmas.Bool.{ltb-true}
use Rattle.clap.specs.Matches.{ReadsOne}
use Rattle.clap.specs.ValueTests.{is_numeral}
use Rattle.clap.specs.Words.{Text}
use Rattle.clap.proofs.WalkLemmas.{both}
use Rattle.sfm_words.specs.Command.{parsed_number}

digits_told : (ds : Text) → AllDigits 10 ds → list_all (λ d. nat_lt (digit_value d) 10) ds ≡ true
digits_told [] h = refl
digits_told (d ∷ ds) h = rw (lt-ltb (digit_value d) 10 h.0) (digits_told ds h.1)

told_digits : (ds : Text) → list_all (λ d. nat_lt (digit_value d) 10) ds ≡ true → AllDigits 10 ds
told_digits [] e = tt
told_digits (d ∷ ds) e =
    let parts = both _ _ e in
    (ltb-true _ _ parts.0, told_digits ds parts.1)

pub numeral_told : (ds : Text) → IsNumeral 10 ds → is_numeral ds ≡ true
numeral_told ds h = rw (lt-ltb 0 (length ds) h.0) (digits_told ds h.1)

told_numeral : (ds : Text) → is_numeral ds ≡ true → IsNumeral 10 ds
told_numeral ds e =
    let parts = both _ _ e in
    (ltb-true _ _ parts.0, told_digits ds parts.1)

module _ {E : Type 0} (gives : Text → Result ℕ E → Type 0)
    (tells : (text : Text) (r : Result ℕ E) → gives text r → ParsesUnsigned 64 10 text r) where
  read_is : (text : Text) (r : Option ℕ) → ReadsOne gives text r → r ≡ parsed_number text
  read_is text (Some n) h =
      let (is, value) = tells text (Ok n) h in
      rw (numeral_told _ is.0, lt-ltb _ _ is.1) (ap (λ k. Some k) value)
  read_is text None h = go (is_numeral digits && nat_lt (digits_value 10 digits) (2 ^ 64)) refl
    where
      digits : Text
      digits = without_leading_plus text

      go : (b : Bool) → (is_numeral digits && nat_lt (digits_value 10 digits) (2 ^ 64)) ≡ b
          → None ≡ parsed_number text
      go true e =
          let parts = both _ _ e in
          absurd (tells text (Err h.0) h.1 (told_numeral digits parts.0, ltb-true _ _ parts.1))
      go false e = sym (ap (λ b. cond b (Some (digits_value 10 digits)) None) e)

  -- what `get_one` gives is the number that `u64` reads from the text
  pub number_is : (text : Option Text) (r : Option ℕ) → (text ≡ None → r ≡ None)
      → ((t : Text) → text ≡ Some t → ReadsOne gives t r) → r ≡ option_and_then parsed_number text
  number_is None r none some = none refl
  number_is (Some t) r none some = read_is t r (some t refl)
