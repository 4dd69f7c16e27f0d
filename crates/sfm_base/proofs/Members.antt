-- Sets as words: what the words tell place by place, and what a change of the words does to the
-- set.
use Rattle.std.proofs.Common.{◌≡◌, ◌≢◌, ◌==◌, ℕ, ◌+◌, ◌*◌, ◌<◌, ◌≤◌, ◌/◌, ◌%◌, ◌^◌, Bool, true, false, ⊎_elim, List, [], ◌∷◌, length, get_or, set, get_or-set_same, get_or-set_other, replicate, refl, sym, ap, ◌∙◌, arith}
use Rattle.std.proofs.lemmas.Bool.{cases_lt, eq-eqb, eqb-true}
use Rattle.std.proofs.lemmas.List.{ext_get_or, get_or_past}
use Rattle.std.proofs.lemmas.List.FromFn.{length-map-range_with_len, get_or-map-range_with_len}
use Rattle.std.proofs.lemmas.Nat.{and_le_l}
use Rattle.std.proofs.lemmas.Nat.Bits.{bit_at-lt, bit_at-zero, bit_at_and, same_from_bits_below}
use Rattle.std.specs.Int.{bit_at, div_ceil}
use Rattle.std.specs.Int.Bits.{bit_and}
use Rattle.sfm_spec.specs.Sets.{Has, intersection}
use Rattle.sfm_base.specs.Words.{bit_of, members, AreWords}

-- a bit is 0 or 1
pub bit_of-lt : (words : List ℕ) (e : ℕ) → bit_of words e < 2
bit_of-lt words e = bit_at-lt (get_or words (e / 64) 0) (e % 64)

-- past the words there is no place
pub past_words : (words : List ℕ) (e : ℕ) → length words ≤ e / 64 → bit_of words e ≡ 0
past_words words e past = ap (λ w. bit_at w (e % 64)) (get_or_past words (e / 64) 0 past)
    ∙ bit_at-zero (e % 64)

-- where one word is put in place of another, the bits of its places are those of the word, and all
-- others stay
pub bit_of-set_same : (words : List ℕ) (k w e : ℕ) → k < length words → e / 64 ≡ k
    → bit_of (set words k w) e ≡ bit_at w (e % 64)
bit_of-set_same words k w e l same =
    ap (λ z. bit_at z (e % 64)) (ap (λ j. get_or (set words k w) j 0) same
    ∙ get_or-set_same words k w 0 l)

pub bit_of-set_other : (words : List ℕ) (k w e : ℕ) → e / 64 ≢ k
    → bit_of (set words k w) e ≡ bit_of words e
bit_of-set_other words k w e ne =
    ap (λ z. bit_at z (e % 64)) (get_or-set_other words k (e / 64) w 0 ne)

-- the word of a place is there
pub word_there : (n : ℕ) (words : List ℕ) (e : ℕ) → AreWords n words → e < n → e / 64 < length words
word_there n words e kept l = let counted = kept.counted in omega arith

pub length-members : (n : ℕ) (words : List ℕ) → length (members n words) ≡ n
unfolding members
length-members n words = length-map-range_with_len (λ e. bit_of words e == 1) 0 n

-- each place below n is told by its bit
pub get_or-members : (n : ℕ) (words : List ℕ) (e : ℕ) → e < n
    → get_or (members n words) e false ≡ (bit_of words e == 1)
unfolding members
get_or-members n words e l = get_or-map-range_with_len (λ j. bit_of words j == 1) 0 n e e false l
    (omega arith)

-- of the words of a set, so is any other place
pub told : (n : ℕ) (words : List ℕ) (e : ℕ) → AreWords n words
    → get_or (members n words) e false ≡ (bit_of words e == 1)
told n words e kept = ⊎_elim (get_or-members n words e) past (cases_lt e n) where
  past : n ≤ e → get_or (members n words) e false ≡ (bit_of words e == 1)
  past le = get_or_past (members n words) e false (omega (arith, length-members n words, le))
      ∙ ap (λ b. b == 1) (sym (kept.clean e le))

-- a list that tells of each place what the words tell is their set
pub members-are : (n : ℕ) (words : List ℕ) (s : List Bool) → length s ≡ n
    → ((e : ℕ) → e < n → get_or s e false ≡ (bit_of words e == 1)) → members n words ≡ s
members-are n words s l h = ext_get_or false (members n words) s (length-members n words ∙ sym l)
    (λ e lt. let below : e < n = omega (arith, length-members n words, lt) in get_or-members n words
    e below ∙ sym (h e below))

-- a place that is in the set is in the words, and the other way round
pub in_words : (n : ℕ) (words : List ℕ) (e : ℕ) → AreWords n words → Has (members n words) e
    → bit_of words e ≡ 1
in_words n words e kept has = eqb-true (bit_of words e) 1 (sym (told n words e kept) ∙ has)

pub in_set : (n : ℕ) (words : List ℕ) (e : ℕ) → AreWords n words → bit_of words e ≡ 1
    → Has (members n words) e
in_set n words e kept one = told n words e kept ∙ eq-eqb (bit_of words e) 1 one

-- the place of bit t of word k
pub place_of : (k t : ℕ) → t < 64 → ((64 * k + t) / 64 ≡ k) × ((64 * k + t) % 64 ≡ t)
place_of k t l = (omega arith, omega arith)

pub bit_of-place : (words : List ℕ) (k t : ℕ) → t < 64
    → bit_of words (64 * k + t) ≡ bit_at (get_or words k 0) t
bit_of-place words k t l =
    let (d, m) = place_of k t l in
    ap (λ j. bit_at (get_or words j 0) ((64 * k + t) % 64)) d
    ∙ ap (λ j. bit_at (get_or words k 0) j) m

-- where the other words have each place that the words have, what a word has in common with the
-- other is itself
pub word_within : (s o : List ℕ) (k : ℕ) → get_or s k 0 < 2 ^ 64
    → ((e : ℕ) → bit_of s e ≤ bit_of o e) → bit_and (get_or s k 0) (get_or o k 0) ≡ get_or s k 0
word_within s o k fits h =
    same_from_bits_below 64 (bit_and (get_or s k 0) (get_or o k 0)) (get_or s k 0)
    (omega (arith, fits, and_le_l (get_or s k 0) (get_or o k 0))) fits
    (λ t l. omega (
      arith,
      bit_at_and (get_or s k 0) (get_or o k 0) t,
      h (64 * k + t),
      bit_of-place s k t l,
      bit_of-place o k t l,
    ))

-- ---- a set and its words, where the set is known by its list alone

-- two sets of one ground
pub same_places : (n m : ℕ) (a b : List ℕ) (s t : List Bool) → members n a ≡ s → members m b ≡ t
    → length s ≡ length t → m ≡ n
same_places n m a b s t ha hb e = sym (length-members m b)
    ∙ (ap length hb ∙ (sym e ∙ (sym (ap length ha) ∙ length-members n a)))

-- two sets of one ground have as many words
pub same_count : (n m : ℕ) (a b : List ℕ) (s t : List Bool) → AreWords n a → AreWords m b
    → members n a ≡ s → members m b ≡ t → length s ≡ length t → length a ≡ length b
same_count n m a b s t ha hb is_s is_t same =
    ha.counted ∙ (ap (λ k. div_ceil k 64) (sym (same_places n m a b s t is_s is_t same))
    ∙ sym hb.counted)

pub place_below : (n : ℕ) (words : List ℕ) (s : List Bool) (e : ℕ) → members n words ≡ s
    → e < length s → e < n
place_below n words s e is l = let f : n ≡ length s = sym (length-members n words)
    ∙ ap length is in omega (arith, f, l)

-- the word of a place of the ground is there
pub word_of_place : (n : ℕ) (words : List ℕ) (s : List Bool) (e : ℕ) → AreWords n words
    → members n words ≡ s → e < length s → e / 64 < length words
word_of_place n words s e kept is l = word_there n words e kept (place_below n words s e is l)

-- the whole set leaves of a set what it is
pub whole_with : (t : List Bool) → intersection (replicate (length t) true) t ≡ t
whole_with [] = refl
whole_with (b ∷ t) = ap (λ r. b ∷ r) (whole_with t)
