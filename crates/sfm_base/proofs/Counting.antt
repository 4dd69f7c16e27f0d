-- How many places words have, word by word; and the first of them.
use Rattle.std.proofs.Common.{◌≡◌, ◌≢◌, ◌==◌, ℕ, zero, suc, ◌+◌, ◌-◌, ◌*◌, ◌<◌, ◌≤◌, ◌/◌, ◌%◌, ◌^◌, Bool, false, cond, ⊎_elim, List, ◌∷◌, ◌++◌, length, get_or, map, refl, sym, ap, ◌∙◌, arith}
use Rattle.std.proofs.lemmas.Bool.{cases_lt}
use Rattle.std.proofs.lemmas.List.{map-id, map-append, length-replicate, get_or-replicate}
use Rattle.std.proofs.lemmas.List.FromFn.{length-map-range_with_len, get_or-map-range_with_len, take-map-range_with_len, sum_by-map-range_with_len_more}
use Rattle.std.proofs.lemmas.List.Sums.{sum_by-append, sum_by-take-le, count_by-le-length}
use Rattle.std.proofs.lemmas.Nat.Bits.{bit_at-zero, bit_at-trailing_zeros, same_from_bits_below}
use Rattle.std.proofs.lemmas.Simd.{mask_l-lt, bit_mask_l, ones-mask_l}
use Rattle.std.specs.Int.{bit_at, trailing_zeros}
use Rattle.std.specs.Int.RustNames.{count_ones}
use Rattle.std.specs.Prelude.{Option, None, Some, MatchOption}
use mir.Syntax.{w64}
use Rattle.std.specs.List.{range_with_len}
use Rattle.std.specs.Simd.Lanes.{mask_l}
use Rattle.sfm_spec.specs.Sets.{Has, empty_set, size}
use Rattle.sfm_base.specs.Words.{bit_of, members, AreWords}
use Rattle.sfm_base.proofs.Members.{bit_of-lt, bit_of-place, length-members, members-are, in_words, in_set}

range-append : (a m n : ℕ) → range_with_len a (m + n) ≡ range_with_len a m ++ range_with_len (a + m)
    n
range-append a zero n =
    let none : 0 + n ≡ n = omega arith in
    let start : a ≡ a + 0 = omega arith in
    ap (λ k. range_with_len a k) none ∙ ap (λ b. range_with_len b n) start
range-append a (suc m) n =
    let more : suc m + n ≡ suc (m + n) = omega arith in
    let start : a + 1 + m ≡ a + suc m = omega arith in
    ap (λ k. range_with_len a k) more
    ∙ ap (λ r. a ∷ r) (range-append (a + 1) m n
    ∙ ap (λ b. range_with_len (a + 1) m ++ range_with_len b n) start)

-- the bits of word k, from the lowest
bits_at : List ℕ → ℕ → List Bool
bits_at words k = map (λ e. bit_of words e == 1) (range_with_len (64 * k) 64)

one_or_none : (x : ℕ) → x < 2 → cond (x == 1) 1 0 ≡ x
one_or_none zero l = refl
one_or_none (suc zero) l = refl
one_or_none (suc (suc x)) l = absurd (omega (arith, l))

-- a word is the number of its bits
word_of_bits : (words : List ℕ) (k : ℕ) → get_or words k 0 < 2 ^ 64
    → mask_l (bits_at words k) ≡ get_or words k 0
unfolding bits_at
word_of_bits words k fits = same_from_bits_below 64 (mask_l (bits_at words k)) (get_or words k 0)
    below fits each where
      count : length (bits_at words k) ≡ 64
      count = length-map-range_with_len (λ e. bit_of words e == 1) (64 * k) 64

      below : mask_l (bits_at words k) < 2 ^ 64
      below = rw count at (mask_l-lt (bits_at words k))

      each : (t : ℕ) → t < 64 → bit_at (mask_l (bits_at words k)) t ≡ bit_at (get_or words k 0) t
      each t l = bit_mask_l (bits_at words k) t
          ∙ (ap (λ b. cond b 1 0) (get_or-map-range_with_len (λ e. bit_of words e == 1) (64 * k) 64
          t
          (64 * k + t) false l refl)
          ∙ (one_or_none (bit_of words (64 * k + t)) (bit_of-lt words (64 * k + t))
          ∙ bit_of-place words k t l))

size-bits : (words : List ℕ) (k : ℕ) → get_or words k 0 < 2 ^ 64
    → size (bits_at words k) ≡ count_ones (get_or words k 0)
size-bits words k fits = sym (ones-mask_l (λ b. b) (bits_at words k))
    ∙ ap count_ones (ap mask_l (map-id (bits_at words k)) ∙ word_of_bits words k fits)

pub members_none : (words : List ℕ) → 0 ≡ size (members 0 words)
unfolding members
members_none words = refl

-- the next word brings its ones
pub members_more : (words : List ℕ) (k : ℕ) → get_or words k 0 < 2 ^ 64
    → size (members (64 * (k + 1)) words) ≡ size (members (64 * k) words) + count_ones
    (get_or words k 0)
unfolding members bits_at
members_more words k fits =
    let p : ℕ → Bool = λ e. bit_of words e == 1 in
    let places : 64 * (k + 1) ≡ 64 * k + 64 = omega arith in
    let start : 0 + 64 * k ≡ 64 * k = omega arith in
    let split : range_with_len 0 (64 * (k + 1)) ≡ range_with_len 0 (64 * k) ++ range_with_len
    (64 * k) 64
    = ap (λ n. range_with_len 0 n) places
    ∙ (range-append 0 (64 * k) 64 ∙ ap (λ b. range_with_len 0 (64 * k) ++ range_with_len b 64)
    start) in
    ap (λ r. size (map p r)) split
    ∙ ap size (map-append p (range_with_len 0 (64 * k)) (range_with_len (64 * k) 64))
    ∙ sum_by-append (λ b. cond b 1 0) (map p (range_with_len 0 (64 * k)))
    (map p (range_with_len (64 * k) 64))
    ∙ ap (λ m. size (map p (range_with_len 0 (64 * k))) + m) (size-bits words k fits)

-- fewer places have no more members
pub members_le : (words : List ℕ) (m n : ℕ) → m ≤ n
    → size (members m words) ≤ size (members n words)
unfolding members
members_le words m n le =
    let p : ℕ → Bool = λ e. bit_of words e == 1 in
    let part = take-map-range_with_len p 0 n m le in
    let h = sum_by-take-le (λ b. cond b 1 0) (map p (range_with_len 0 n)) m in
    rw part at h

-- a place more that is no member changes nothing
members_same : (words : List ℕ) (n : ℕ) → bit_of words n ≡ 0
    → size (members (n + 1) words) ≡ size (members n words)
unfolding members
members_same words n h =
    let p : ℕ → Bool = λ e. bit_of words e == 1 in
    let none : cond (p n) 1 0 ≡ 0 = ap (λ b. cond (b == 1) 1 0) h in
    let step = sum_by-map-range_with_len_more (λ b. cond b 1 0) p 0 n n (omega arith) in
    step ∙ (ap (λ m. size (map p (range_with_len 0 n)) + m) none ∙ omega arith)

-- past the ground there is none
members_past : (words : List ℕ) (n d : ℕ) → ((e : ℕ) → n ≤ e → bit_of words e ≡ 0)
    → size (members (n + d) words) ≡ size (members n words)
members_past words n zero h = ap (λ k. size (members k words)) (omega arith)
members_past words n (suc d) h =
    ap (λ k. size (members k words)) (omega arith)
    ∙ (members_same words (n + d) (h (n + d) (omega arith)) ∙ members_past words n d h)

pub size-members : (n : ℕ) (words : List ℕ) → AreWords n words
    → size (members (64 * length words) words) ≡ size (members n words)
size-members n words kept =
    let counted = kept.counted in
    ap (λ k. size (members k words)) (omega (arith, counted))
    ∙ members_past words n (64 * length words - n) kept.clean

pub size-le : (n : ℕ) (words : List ℕ) → size (members n words) ≤ n
size-le n words = omega (
  arith,
  length-members n words,
  count_by-le-length (λ b. b) (members n words),
)

pub size_fits : (n : ℕ) (words : List ℕ) → AreWords n words
    → size (members (64 * length words) words) < 2 ^ 64
size_fits n words kept = let fits = kept.fits in omega (
  arith,
  size-members n words kept,
  size-le n words,
  fits,
)

-- the words of a set are few
pub few_words : (n : ℕ) (words : List ℕ) → AreWords n words → length words ≤ 2 ^ 58
few_words n words kept = let fits = kept.fits in let counted = kept.counted in omega (
  arith,
  fits,
  counted,
)

-- ---- the least place

-- a word that is 0 has no place
pub no_bit : (words : List ℕ) (k e : ℕ) → e / 64 ≡ k → get_or words k 0 ≡ 0 → bit_of words e ≡ 0
no_bit words k e same none = ap (λ w. bit_at w (e % 64)) (ap (λ j. get_or words j 0) same ∙ none)
    ∙ bit_at-zero (e % 64)

-- where the words before have no place, the lowest bit of a word is the least place
pub first_bit : (words : List ℕ) (k : ℕ) → get_or words k 0 ≢ 0 → get_or words k 0 < 2 ^ 64
    → ((e : ℕ) → e / 64 < k → bit_of words e ≡ 0)
    → (trailing_zeros w64 (get_or words k 0) < 64)
    × (bit_of words (64 * k + trailing_zeros w64 (get_or words k 0)) ≡ 1)
    × ((e : ℕ) → e < 64 * k + trailing_zeros w64 (get_or words k 0) → bit_of words e ≡ 0)
first_bit words k some fits before = (
  low.0,
  bit_of-place words k t low.0 ∙ low.1,
  (λ e l. ⊎_elim (before e) (λ ge. here e ge l) (cases_lt (e / 64) k)),
) where
  w : ℕ
  w = get_or words k 0

  t : ℕ
  t = trailing_zeros w64 w

  low : (t < 64) × (bit_at w t ≡ 1) × ((i : ℕ) → i < t → bit_at w i ≡ 0)
  low = bit_at-trailing_zeros w64 w (omega (arith, some)) fits

  here : (e : ℕ) → k ≤ e / 64 → e < 64 * k + t → bit_of words e ≡ 0
  here e ge l =
      let same : e / 64 ≡ k = let below = low.0 in omega (arith, ge, l, below) in
      ap (λ j. bit_at (get_or words j 0) (e % 64)) same ∙ low.2 (e % 64) (omega (arith, same, l))

pub first_in_set : (n : ℕ) (words : List ℕ) (s : List Bool) (o : Option ℕ) → AreWords n words
    → members n words ≡ s
    → MatchOption o ((e : ℕ) → bit_of words e ≡ 0)
    (λ e. (bit_of words e ≡ 1) × ((k : ℕ) → k < e → bit_of words k ≡ 0))
    → MatchOption o (s ≡ empty_set (length s)) (λ e. Has s e × ((k : ℕ) → k < e → ¬ Has s k))
first_in_set n words s None kept is h =
    sym is ∙ members-are n words (empty_set n) (length-replicate n false)
    (λ e l. get_or-replicate n e false false l ∙ ap (λ b. b == 1) (sym (h e)))
    ∙ ap empty_set (sym (length-members n words) ∙ ap length is)
first_in_set n words s (Some e) kept is h = (
  sym (ap (λ t. get_or t e false) is) ∙ in_set n words e kept h.0,
  λ k l has. let one = in_words n words k kept
      (ap (λ t. get_or t k false) is ∙ has) in let none = h.1 k l in omega (arith, one, none),
)
