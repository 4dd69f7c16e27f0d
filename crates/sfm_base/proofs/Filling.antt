-- The words of the empty and of the whole set.
use Rattle.std.proofs.Common.{◌≡◌, ◌≢◌, ◌==◌, ℕ, ◌-◌, ◌*◌, ◌<◌, ◌≤◌, ◌/◌, ◌%◌, ◌^◌, true, false, ⊎_elim, List, length, set, replicate, sym, ap, ◌∙◌, arith}
use Rattle.std.proofs.lemmas.Bool.{cases_lt, cases_eq}
use Rattle.std.proofs.lemmas.List.{length-set, length-replicate, get_or-replicate}
use Rattle.std.proofs.Math.Nat.{one-mul, mod-eq_of_lt}
use Rattle.std.proofs.Math.Pow.{pow-lt}
use Rattle.std.proofs.lemmas.Nat.Bits.{bit_at-zero, bit_at_ones, bit_at_ones_above}
use Rattle.std.specs.Int.{bit_at, div_ceil}
use Rattle.sfm_spec.specs.Sets.{empty_set, whole_set}
use Rattle.sfm_base.specs.Words.{bit_of, members, AreWords}
use Rattle.sfm_base.proofs.Members.{members-are, past_words, bit_of-set_same, bit_of-set_other}

bit_of-blank : (k e : ℕ) → bit_of (replicate k 0) e ≡ 0
bit_of-blank k e = ⊎_elim
    (λ l. ap (λ w. bit_at w (e % 64)) (get_or-replicate k (e / 64) 0 0 l) ∙ bit_at-zero (e % 64))
    (λ past. past_words (replicate k 0) e (omega (arith, length-replicate {A = ℕ} k 0, past)))
    (cases_lt (e / 64) k)

pub blank_words : (n k : ℕ) → n < 2 ^ 64 → k ≡ div_ceil n 64 → AreWords n (replicate k 0)
blank_words n k fits h = record {
  fits = fits;
  counted = length-replicate {A = ℕ} k 0 ∙ h;
  clean = λ e le. bit_of-blank k e;
}

pub blank_set : (n k : ℕ) → members n (replicate k 0) ≡ empty_set n
blank_set n k = members-are n (replicate k 0) (empty_set n) (length-replicate n false)
    (λ e l. get_or-replicate n e false false l ∙ ap (λ b. b == 1) (sym (bit_of-blank k e)))

-- a word of ones alone
abbrev pub all_ones : ℕ
all_ones = 2 ^ 64 - 1

bit_of-full : (k e : ℕ) → e / 64 < k → bit_of (replicate k all_ones) e ≡ 1
bit_of-full k e l = ap (λ w. bit_at w (e % 64)) (get_or-replicate k (e / 64) all_ones 0 l)
    ∙ bit_at_ones 64 (e % 64) (omega arith)

-- the words have just the places below n
abbrev pub HaveAll : ℕ → List ℕ → Type 0
HaveAll n words = (length words ≡ div_ceil n 64) × ((e : ℕ) → e < n → bit_of words e ≡ 1)
    × ((e : ℕ) → n ≤ e → bit_of words e ≡ 0)

-- where the last word is full
pub full_words : (n k : ℕ) → k ≡ div_ceil n 64 → n % 64 ≡ 0 → HaveAll n (replicate k all_ones)
full_words n k h even = (
  length-replicate k all_ones ∙ h,
  (λ e l. bit_of-full k e (omega (arith, h, even, l))),
  (λ e le. past_words (replicate k all_ones) e
      (omega (arith, length-replicate k all_ones, h, even, le))),
)

-- where it is not, it has the places that are left
pub cut_words : (n k w : ℕ) → k ≡ div_ceil n 64 → n % 64 ≢ 0 → w ≡ 2 ^ (n % 64) - 1
    → HaveAll n (set (replicate k all_ones) (n / 64) w)
cut_words n k w h odd is = (
  length-set full (n / 64) w ∙ (length-replicate k all_ones ∙ h),
  inside,
  outside,
) where
  full : List ℕ
  full = replicate k all_ones

  there : n / 64 < length full
  there = omega (arith, length-replicate k all_ones, h, odd)

  last : (e : ℕ) → e / 64 ≡ n / 64 → bit_of (set full (n / 64) w) e ≡ bit_at (2 ^ (n % 64) - 1)
      (e % 64)
  last e same = bit_of-set_same full (n / 64) w e there same ∙ ap (λ z. bit_at z (e % 64)) is

  other : (e : ℕ) → e / 64 ≢ n / 64 → bit_of (set full (n / 64) w) e ≡ bit_of full e
  other e ne = bit_of-set_other full (n / 64) w e ne

  inside : (e : ℕ) → e < n → bit_of (set full (n / 64) w) e ≡ 1
  inside e l = ⊎_elim (λ same. last e same ∙ bit_at_ones (n % 64) (e % 64) (omega (arith, same, l)))
      (λ ne. other e ne ∙ bit_of-full k e (omega (arith, h, l))) (cases_eq (e / 64) (n / 64))

  outside : (e : ℕ) → n ≤ e → bit_of (set full (n / 64) w) e ≡ 0
  outside e le = ⊎_elim (λ same. last e same
      ∙ bit_at_ones_above (n % 64) (e % 64) (omega (arith, same, le)))
      (λ ne. other e ne ∙ past_words full e
      (omega (arith, length-replicate k all_ones, h, odd, ne, le))) (cases_eq (e / 64) (n / 64))

pub all_words : (n : ℕ) (words : List ℕ) → n < 2 ^ 64 → HaveAll n words → AreWords n words
all_words n words fits h = record { fits = fits; counted = h.0; clean = h.2 }

pub all_set : (n : ℕ) (words : List ℕ) → HaveAll n words → members n words ≡ whole_set n
all_set n words h = members-are n words (whole_set n) (length-replicate n true)
    (λ e l. get_or-replicate n e true false l ∙ ap (λ b. b == 1) (sym (h.1 e l)))

-- what `1 << r` gives
pub one_shifted : (r : ℕ) → r < 64 → 1 * 2 ^ r % 2 ^ 64 ≡ 2 ^ r
one_shifted r l = ap (λ x. x % 2 ^ 64) (one-mul (2 ^ r)) ∙ mod-eq_of_lt (pow-lt l)
