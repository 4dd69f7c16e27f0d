-- The texts of numbers: a text has one number, a number one text, which is what the standard
-- library writes.
use Rattle.std.proofs.Common.{◌≡◌, ◌↔◌, ℕ, zero, suc, ◌+◌, ◌*◌, ◌/◌, ◌%◌, ◌^◌, ◌<◌, ◌≤◌, List, [], ◌∷◌, ◌++◌, length, get_or, drop, ℤ, pos, negsuc, neg_ℤ, nat_abs, refl, sym, ap, subst, ◌∙◌, arith, append_assoc}
use Rattle.std.specs.Prelude.{codes, Option, Some, None}
use Rattle.std.specs.Char.{digit_value}
use Rattle.std.specs.Fmt.{decimal, signed_decimal}
use Rattle.std.specs.Str.Parse.{AllDigits, digits_value_after}
use Rattle.std.proofs.lemmas.Int.{ints}
use Rattle.std.proofs.lemmas.List.{get_or_append_left, append-nil, length-append}
use Rattle.std.proofs.lemmas.Str.{digit_value_digit}
use Rattle.std.proofs.lemmas.Str.Parse.{digit_from_value}
use Rattle.std.proofs.lemmas.Fmt.{decimal_digit, decimal_step_wide, decimal_by_steps_wide, decimal_is_IsNumeral_wide}
use Rattle.std.proofs.Math.Nat.{pow-le-pow_right, pow-suc, lt_of_not-le}
use Rattle.sfm_spec.specs.Bounds.{IsEntry}
use Rattle.sfm_base.specs.NumberText.{IsCount, IsNumber, is_zero, is_positive, is_negative}

-- ---- digits

digit_is : (c : ℕ) → digit_value c < 10 → digit_value c + 48 ≡ c
digit_is c h = digit_value_digit c (digit_from_value c h)

-- digits that follow those of m make at least m times ten to the power of their count
longest : (m : ℕ) (cs : List ℕ) → m * 10 ^ length cs ≤ digits_value_after 10 m cs
longest m [] = omega arith
longest m (c ∷ cs) =
    let e : m * 10 ^ length (c ∷ cs) ≡ m * (10 ^ length cs * 10) = ap (λ p. m * p)
    (pow-suc 10 (length cs)) in
    omega (arith, longest (m * 10 + digit_value c) cs, e)

one_times : (d p : ℕ) → 1 ≤ d → p ≤ d * p
one_times zero p h = absurd (omega arith)
one_times (suc d) p h = omega arith

first_value : (c : ℕ) (cs : List ℕ) (n : ℕ) → IsCount (c ∷ cs) n → 1 ≤ digit_value c
first_value c cs n h = omega (arith, digit_is c h.digits.0, h.first)

-- a count of at most 10^30 has at most 31 digits
pub count_short : (bytes : List ℕ) (n : ℕ) → IsCount bytes n → n ≤ 10 ^ 30 → length bytes ≤ 31
count_short [] n h k = omega arith
count_short (c ∷ cs) n h k =
    let more : digit_value c * 10 ^ length
    cs ≤ n = omega (arith, longest (0 * 10 + digit_value c) cs, h.value) in
    lt_of_not-le (far (digit_value c) (length cs) more (first_value c cs n h)) where
      far : (d m : ℕ) → d * 10 ^ m ≤ n → 1 ≤ d → 31 ≤ m → ⊥
      far d m l some long = omega (
        arith,
        one_times d (10 ^ m) some,
        pow-le-pow_right {n = 10} (omega arith) {i = 31} {j = m} long,
      )

pub count_unique : (bytes : List ℕ) (m n : ℕ) → IsCount bytes m → IsCount bytes n → m ≡ n
count_unique bytes m n h k = sym h.value ∙ k.value

pub count_some : (bytes : List ℕ) (n : ℕ) → IsCount bytes n → 1 ≤ n
count_some [] n h = absurd (omega (arith, h.first))
count_some (c ∷ cs) n h = omega (
  arith,
  longest (0 * 10 + digit_value c) cs,
  h.value,
  one_le cs (digit_value c) (first_value c cs n h),
) where
  one_le : (cs : List ℕ) (d : ℕ) → 1 ≤ d → 1 ≤ d * 10 ^ length cs
  one_le cs d h = omega (
    arith,
    pow-le-pow_right {n = 10} (omega arith) {i = 0} {j = length cs}
        (omega arith),
    one_times d (10 ^ length cs) h,
  )

-- ---- a text has one number

zero_first : (bytes : List ℕ) → bytes ≡ codes "0" → get_or bytes 0 0 ≡ 48
zero_first bytes e = ap (λ x. get_or x 0 0) e

minus_first : (bytes digits : List ℕ) → bytes ≡ codes "-" ++ digits → get_or bytes 0 0 ≡ 45
minus_first bytes digits e = ap (λ x. get_or x 0 0) e

same_rest : (bytes d d' : List ℕ) → bytes ≡ codes "-" ++ d → bytes ≡ codes "-" ++ d' → d' ≡ d
same_rest bytes d d' e f = ap (drop 1) (sym f ∙ e)

pub one_value : (bytes : List ℕ) (a b : ℤ) → IsNumber bytes a → IsNumber bytes b → a ≡ b
one_value bytes a b (is_zero e h) (is_zero f k) = h ∙ sym k
one_value bytes a b (is_zero e h) (is_positive m p k) =
    absurd (omega (arith, zero_first bytes e, p.first))
one_value bytes a b (is_zero e h) (is_negative m d f p k) =
    absurd (omega (arith, zero_first bytes e, minus_first bytes d f))
one_value bytes a b (is_positive n q h) (is_zero f k) =
    absurd (omega (arith, zero_first bytes f, q.first))
one_value bytes a b (is_positive n q h) (is_positive m p k) =
    h ∙ ap pos (count_unique bytes n m q p) ∙ sym k
one_value bytes a b (is_positive n q h) (is_negative m d f p k) =
    absurd (omega (arith, q.first, minus_first bytes d f))
one_value bytes a b (is_negative n c e q h) (is_zero f k) =
    absurd (omega (arith, zero_first bytes f, minus_first bytes c e))
one_value bytes a b (is_negative n c e q h) (is_positive m p k) =
    absurd (omega (arith, p.first, minus_first bytes c e))
one_value bytes a b (is_negative n c e q h) (is_negative m d f p k) =
    h ∙ ap (λ (j : ℕ). neg_ℤ (pos j))
    (count_unique c n m q (subst (λ (x : List ℕ). IsCount x m) (same_rest bytes c d e f) p))
    ∙ sym k

-- ---- a number has one text

after_le : (m : ℕ) (cs : List ℕ) → m ≤ digits_value_after 10 m cs
after_le m [] = omega arith
after_le m (c ∷ cs) = omega (arith, after_le (m * 10 + digit_value c) cs)

last_digit : (m d c : ℕ) (cs : List ℕ) → d < 10 → d + 48 ≡ c
    → (decimal ((m * 10 + d) / 10) ++ (48 + (m * 10 + d) % 10) ∷ []) ++ cs ≡ decimal m ++ (c ∷ cs)
last_digit m d c cs h e =
    let q : (m * 10 + d) / 10 ≡ m = omega arith in
    let r : 48 + (m * 10 + d) % 10 ≡ c = omega arith in
    append_assoc (decimal ((m * 10 + d) / 10)) ((48 + (m * 10 + d) % 10) ∷ []) cs
    ∙ ap (λ (k : ℕ). decimal k ++ ((48 + (m * 10 + d) % 10) ∷ cs)) q
    ∙ ap (λ (k : ℕ). decimal m ++ (k ∷ cs)) r

-- further digits follow the text of the number before them
decimal_after : (m : ℕ) (cs : List ℕ) → 0 < m → AllDigits 10 cs
    → digits_value_after 10 m cs < 10 ^ 64 → decimal (digits_value_after 10 m cs) ≡ decimal m ++ cs
decimal_after m [] h k l = sym (append-nil (decimal m))
decimal_after m (c ∷ cs) h k l =
    decimal_after (m * 10 + digit_value c) cs (omega arith) k.1 l
    ∙ ap (λ (x : List ℕ). x ++ cs)
    (decimal_step_wide (m * 10 + digit_value c) (omega arith)
    (omega (arith, after_le (m * 10 + digit_value c) cs, l)))
    ∙ last_digit m (digit_value c) c cs k.0 (digit_is c k.0)

pub decimal_of_count : (bytes : List ℕ) (n : ℕ) → IsCount bytes n → n < 10 ^ 64 → bytes ≡ decimal n
decimal_of_count [] n h k = absurd (omega (arith, h.first))
decimal_of_count (c ∷ cs) n h k =
    let m : ℕ = 0 * 10 + digit_value c in
    let some : 0 < m = omega (arith, first_value c cs n h) in
    let one : decimal m ≡ (48 + m) ∷ [] = decimal_digit m (omega (arith, h.digits.0)) in
    let same : 48 + m ≡ c = omega (arith, digit_is c h.digits.0) in
    sym (ap (λ (x : List ℕ). x ++ cs) (one ∙ ap (λ (b : ℕ). b ∷ []) same))
    ∙ sym (decimal_after m cs some h.digits.1 (omega (arith, h.value, k)))
    ∙ ap decimal h.value

-- the first digit of what is written is not 0
first_digit : (n : ℕ) → n < 10 ^ 64 → (0 < length (decimal n))
    × (0 < n → 49 ≤ get_or (decimal n) 0 0)
first_digit n h = decimal_by_steps_wide (λ n ds. (0 < length ds) × (0 < n → 49 ≤ get_or ds 0 0))
    (λ n l. (omega arith, λ k. omega arith)) more n h where
      more : (n : ℕ) (ds : List ℕ) → 10 ≤ n → ((0 < length ds) × (0 < n / 10 → 49 ≤ get_or ds 0 0))
          → (0 < length (ds ++ (48 + n % 10) ∷ []))
          × (0 < n → 49 ≤ get_or (ds ++ (48 + n % 10) ∷ []) 0 0)
      more n ds l p = (
        omega (arith, p.0, length-append ds ((48 + n % 10) ∷ [])),
        λ k. omega (arith, get_or_append_left ds ((48 + n % 10) ∷ []) 0 0 p.0, p.1 (omega arith)),
      )

count_of_decimal : (n : ℕ) → 0 < n → n < 10 ^ 64 → IsCount (decimal n) n
count_of_decimal n some h = record {
  first = (first_digit n h).1 some;
  digits = (decimal_is_IsNumeral_wide n h).0.1;
  value = (decimal_is_IsNumeral_wide n h).1;
}

-- what the standard library writes is the number's text
pub number_of_text : (a : ℤ) → nat_abs a < 10 ^ 64 → IsNumber (signed_decimal a) a
number_of_text (pos zero) h = is_zero (decimal_digit 0 (omega arith)) refl
number_of_text (pos (suc n)) h = is_positive (suc n) (count_of_decimal (suc n) (omega arith) h) refl
number_of_text (negsuc n) h = is_negative (suc n) (decimal (suc n)) refl
    (count_of_decimal (suc n) (omega arith) h) refl

pub text_of_number : (bytes : List ℕ) (a : ℤ) → IsNumber bytes a → nat_abs a < 10 ^ 64
    → bytes ≡ signed_decimal a
text_of_number bytes a (is_zero e h) l = e ∙ sym (decimal_digit 0 (omega arith))
    ∙ ap signed_decimal (sym h)
text_of_number bytes a (is_positive n p h) l =
    decimal_of_count bytes n p (omega (arith, ints, h, l)) ∙ ap signed_decimal (sym h)
text_of_number bytes a (is_negative n digits e p h) l =
    e ∙ below n p (omega (arith, abs_is n, ap nat_abs h, l)) ∙ ap signed_decimal (sym h) where
      abs_is : (n : ℕ) → nat_abs (neg_ℤ (pos n)) ≡ n
      abs_is zero = refl
      abs_is (suc n) = refl

      below : (n : ℕ) → IsCount digits n → n < 10 ^ 64
          → 45 ∷ digits ≡ signed_decimal (neg_ℤ (pos n))
      below zero p l = absurd (omega (arith, count_some digits zero p))
      below (suc n) p l = ap (λ (x : List ℕ). 45 ∷ x) (decimal_of_count digits (suc n) p l)

pub one_text : (x y : List ℕ) (a : ℤ) → IsNumber x a → IsNumber y a → nat_abs a < 10 ^ 64 → x ≡ y
one_text x y a h k l = text_of_number x a h l ∙ sym (text_of_number y a k l)

-- ---- reading

pub count_nonempty : (bytes : List ℕ) (n : ℕ) → IsCount bytes n → 0 < length bytes
count_nonempty [] n h = absurd (omega (arith, h.first))
count_nonempty (c ∷ cs) n h = omega arith

pub begins_minus : (bytes : List ℕ) → get_or bytes 0 0 ≡ 45 → bytes ≡ codes "-" ++ drop 1 bytes
begins_minus [] e = absurd (omega (arith, e))
begins_minus (c ∷ cs) e = ap (λ (b : ℕ). b ∷ cs) e

-- what an answer says of the numbers of a text
abbrev pub Reads : List ℕ → Option ℤ → Type 0
Reads bytes r = (a : ℤ) → (r ≡ Some a) ↔ (IsNumber bytes a × IsEntry a)

abbrev pub ReadsCount : List ℕ → Option ℕ → Type 0
ReadsCount bytes r = (n : ℕ) → (r ≡ Some n) ↔ (IsCount bytes n × (n ≤ 10 ^ 30))

reads_some : (bytes : List ℕ) (z : ℤ) → IsNumber bytes z → IsEntry z → Reads bytes (Some z)
reads_some bytes z h k a = (
  λ e. let f : z ≡ a = cc in (
    subst (λ (b : ℤ). IsNumber bytes b) f h,
    subst (λ (b : ℤ). IsEntry b) f k,
  ),
  λ p. ap (λ (b : ℤ). Some b) (one_value bytes z a h p.0),
)

reads_none : (bytes : List ℕ) (r : Option ℤ) → r ≡ None
    → ((a : ℤ) → IsNumber bytes a → IsEntry a → ⊥) → Reads bytes r
reads_none bytes r e none a = (λ f. absurd (cc), λ p. absurd (none a p.0 p.1))

no_count : (bytes : List ℕ) (n : ℕ) → ReadsCount bytes None → IsCount bytes n → n ≤ 10 ^ 30 → ⊥
no_count bytes n h c l = let e : None ≡ Some n = (h n).1 (c, l) in cc

pub reads_minus_some : (bytes : List ℕ) (n : ℕ) (z : ℤ) → get_or bytes 0 0 ≡ 45
    → ReadsCount (drop 1 bytes) (Some n) → z ≡ neg_ℤ (pos n) → Reads bytes (Some z)
reads_minus_some bytes n z e h f =
    let (c, l) = (h n).0 refl in
    reads_some bytes z (is_negative n (drop 1 bytes) (begins_minus bytes e) c f)
    (record { low = omega (arith, ints, f, l); high = omega (arith, ints, f, l) })

pub reads_minus_none : (bytes : List ℕ) (r : Option ℤ) → get_or bytes 0 0 ≡ 45
    → ReadsCount (drop 1 bytes) None → r ≡ None → Reads bytes r
reads_minus_none bytes r e h f = reads_none bytes r f none where
  none : (a : ℤ) → IsNumber bytes a → IsEntry a → ⊥
  none a (is_zero g k) l = omega (arith, zero_first bytes g, e)
  none a (is_positive n c k) l = omega (arith, c.first, e)
  none a (is_negative n digits g c k) l =
      no_count (drop 1 bytes) n h (subst (λ (x : List ℕ). IsCount x n)
      (same_rest bytes (drop 1 bytes) digits (begins_minus bytes e) g) c)
      (omega (arith, ints, k, l.low))

pub reads_plain_some : (bytes : List ℕ) (n : ℕ) (z : ℤ) → ReadsCount bytes (Some n) → z ≡ pos n
    → Reads bytes (Some z)
reads_plain_some bytes n z h f =
    let (c, l) = (h n).0 refl in
    reads_some bytes z (is_positive n c f)
    (record { low = omega (arith, ints, f, l); high = omega (arith, ints, f, l) })

pub reads_plain_none : (bytes : List ℕ) (r : Option ℤ) → (bytes ≡ codes "0" → ⊥)
    → (get_or bytes 0 0 ≡ 45 → ⊥) → ReadsCount bytes None → r ≡ None → Reads bytes r
reads_plain_none bytes r z m h f = reads_none bytes r f none where
  none : (a : ℤ) → IsNumber bytes a → IsEntry a → ⊥
  none a (is_zero g k) l = z g
  none a (is_positive n c k) l = no_count bytes n h c (omega (arith, ints, k, l.high))
  none a (is_negative n digits g c k) l = m (minus_first bytes digits g)
