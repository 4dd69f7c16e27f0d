-- Digits at the front of bytes, without a leading zero, are the text of their value.
use Rattle.std.proofs.Common.{◌≡◌, ◌≢◌, ◌⊎◌, ℕ, ◌-◌, ◌<◌, ◌≤◌, ◌^◌, List, ◌++◌, length, take, drop, get_or, inl, inr, sym, ap, ◌∙◌, arith}
use Rattle.std.specs.Fmt.{decimal}
use Rattle.std.specs.Str.Parse.{AllDigits, digits_value}
use Rattle.std.proofs.lemmas.Bool.{cases_lt}
use Rattle.std.proofs.lemmas.Fmt.{decimal-digits_value}
use Rattle.std.proofs.lemmas.List.{length-take-le, get_or-take, take-append-drop, take_rest}
use Rattle.std.proofs.lemmas.Str.Parse.{numerals_by_value, tells_digits}

pub count_cut : (bytes : List ℕ) (n len : ℕ) → 0 < len → len ≤ length bytes
    → AllDigits 10 (take len bytes) → n ≡ digits_value 10 (take len bytes) → n < 10 ^ 18
    → (1 < len → get_or bytes 0 0 ≢ 48)
    → bytes ≡ decimal n ++ take (length bytes - len) (drop len bytes)
count_cut bytes n len some fits all is small lead =
    let long = length-take-le len bytes fits in
    let alone : get_or (take len bytes) 0 0 ≡ 48 → length (take len bytes) ≡ 1 = λ z.
    one (sym (get_or-take len bytes 0 0 some) ∙ z) (cases_lt 1 len) in
    let text = decimal-digits_value (numerals_by_value _ tells_digits) (take len bytes) all
    (omega (arith, long, some)) alone (omega (arith, is, small)) in
    sym (take-append-drop len bytes)
    ∙ ap (λ (x : List ℕ). x ++ drop len bytes) (sym text ∙ ap decimal (sym is))
    ∙ ap (λ (x : List ℕ). decimal n ++ x) (sym (take_rest bytes len)) where
      one : get_or bytes 0 0 ≡ 48 → (1 < len) ⊎ (len ≤ 1) → length (take len bytes) ≡ 1
      one z (inl more) = absurd (lead more z)
      one z (inr le) = omega (arith, length-take-le len bytes fits, some, le)
