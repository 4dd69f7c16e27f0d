-- Sets of places as words of 64 bits.
use Rattle.std.proofs.Common.{◌≡◌, ◌≢◌, ◌⊎◌, ℕ, zero, suc, ◌+◌, ◌*◌, ◌<◌, ◌≤◌, ◌/◌, ◌%◌, ◌^◌, List, [], ◌∷◌, length, get_or, set, refl, sym, ap, ◌∙◌, arith, length-set, inl, inr, ⊎_elim, get_or-set_same, get_or-set_other}
use Rattle.std.proofs.lemmas.Bool.{cases_eq, cases_lt}
use Rattle.std.proofs.lemmas.List.{get_or_past}
use Rattle.std.proofs.lemmas.Nat.Bits.{bit_at_and, bit_at-lt, bit_at-zero, bit_at-trailing_zeros}
use Rattle.std.specs.Int.{bit_at, trailing_zeros}
use Rattle.std.specs.Int.Bits.{bit_and}
use mir.Syntax.{w64}
use Rattle.sfm_base.specs.Words.{bit_of}
use Rattle.sfm_base.proofs.Members.{bit_of-set_other, bit_of-set_same, past_words}
use Rattle.sfm_reach.specs.declared.bits.Bits.{Bits}
use Rattle.sfm_reach.specs.Bits.{bit_in}

-- the bit at e of a list of words
abbrev pub word_bit : List ℕ → ℕ → ℕ
word_bit words e = bit_at (get_or words (e / 64) 0) (e % 64)

pub bit_in-words : (s : Bits) (e : ℕ) → bit_in s e ≡ word_bit s.words e
unfolding bit_in
bit_in-words s e = refl

-- a bit is 0 or 1
pub bit_in-lt : (s : Bits) (e : ℕ) → bit_in s e < 2
bit_in-lt s e = rw (bit_in-words s e) (bit_at-lt (get_or s.words (e / 64) 0) (e % 64))

-- where the word of e is changed, all others keep their bits
pub word_bit-other : (words : List ℕ) (e k w : ℕ) → e / 64 < length words → k ≢ e
    → (k % 64 ≢ e % 64 → bit_at w (k % 64) ≡ bit_at (get_or words (e / 64) 0) (k % 64))
    → word_bit (set words (e / 64) w) k ≡ word_bit words k
word_bit-other words e k w l ne h = at (cases_eq (k / 64) (e / 64)) where
  at : (k / 64 ≡ e / 64) ⊎ (k / 64 ≢ e / 64) → word_bit (set words (e / 64) w) k ≡ word_bit words k
  at (inl same) =
      let apart : k % 64 ≢ e % 64 = λ r. ne (omega (arith, same, r)) in
      ap (λ z. bit_at z (k % 64)) (ap (λ j. get_or (set words (e / 64) w) j 0) same
      ∙ get_or-set_same words (e / 64) w 0 l)
      ∙ (h apart ∙ ap (λ j. bit_at (get_or words j 0) (k % 64)) (sym same))
  at (inr other) = ap (λ z. bit_at z (k % 64)) (get_or-set_other words (e / 64) (k / 64) w 0 other)

pub word_bit-here : (words : List ℕ) (e w : ℕ) → e / 64 < length words
    → word_bit (set words (e / 64) w) e ≡ bit_at w (e % 64)
word_bit-here words e w l = ap (λ z. bit_at z (e % 64)) (get_or-set_same words (e / 64) w 0 l)

-- the same of sets: where the word of e is w afterwards
module _ (s s' : Bits) (e w : ℕ) (l : e / 64 < length s.words)
    (is : s'.words ≡ set s.words (e / 64) w) where
  pub bit-here : bit_in s' e ≡ bit_at w (e % 64)
  bit-here = bit_in-words s' e ∙ (ap (λ z. word_bit z e) is ∙ word_bit-here s.words e w l)

  pub bit-other : (k : ℕ) → k ≢ e
      → (k % 64 ≢ e % 64 → bit_at w (k % 64) ≡ bit_at (get_or s.words (e / 64) 0) (k % 64))
      → bit_in s' k ≡ bit_in s k
  bit-other k ne h = bit_in-words s' k
      ∙ (ap (λ z. word_bit z k) is ∙ (word_bit-other s.words e k w l ne h ∙ sym (bit_in-words s k)))

-- the place of a bit of word k
pub word_of : (k t : ℕ) → t < 64 → ((64 * k + t) / 64 ≡ k) × ((64 * k + t) % 64 ≡ t)
word_of k t l = (omega arith, omega arith)

-- where the words have no bit in common, the sets have no place in common
pub apart_by_words : (s o : Bits) (e : ℕ)
    → bit_and (get_or s.words (e / 64) 0) (get_or o.words (e / 64) 0) ≡ 0 → bit_in s e ≡ 1
    → bit_in o e ≢ 1
apart_by_words s o e z hs ho =
    let w = get_or s.words (e / 64) 0 in
    let v = get_or o.words (e / 64) 0 in
    let both = bit_at_and w v (e % 64) in
    let none : bit_at (bit_and w v) (e % 64) ≡ 0 = ap (λ x. bit_at x (e % 64)) z
    ∙ bit_at-zero (e % 64) in
    let a : bit_at w (e % 64) ≡ 1 = sym (bit_in-words s e) ∙ hs in
    let b : bit_at v (e % 64) ≡ 1 = sym (bit_in-words o e) ∙ ho in
    omega (arith, both, none, a, b)

-- where the words have nothing that the others have not, the other set has each place
pub inside_by_words : (s o : Bits) (e : ℕ)
    → bit_and (get_or s.words (e / 64) 0) (get_or o.words (e / 64) 0) ≡ get_or s.words (e / 64) 0
    → bit_in s e ≡ 1 → bit_in o e ≡ 1
inside_by_words s o e same hs =
    let w = get_or s.words (e / 64) 0 in
    let v = get_or o.words (e / 64) 0 in
    let both = bit_at_and w v (e % 64) in
    let all : bit_at (bit_and w v) (e % 64) ≡ bit_at w (e % 64) = ap (λ x. bit_at x (e % 64))
    same in
    let a : bit_at w (e % 64) ≡ 1 = sym (bit_in-words s e) ∙ hs in
    let below = bit_at-lt v (e % 64) in
    bit_in-words o e ∙ omega (arith, both, all, a, below)

-- where the other set has each place, each bit is at most its own
pub bits_by_places : (s o : Bits) → ((e : ℕ) → bit_in s e ≡ 1 → bit_in o e ≡ 1) → (e : ℕ)
    → bit_of s.words e ≤ bit_of o.words e
bits_by_places s o h e = rw (← bit_in-words s e, ← bit_in-words o e) (⊎_elim
    (λ one. omega (arith, one, h e one))
    (λ none. omega (arith, none, bit_in-lt s e))
    (cases_eq (bit_in s e) 1))

-- past the words there is no place
pub within_words : (s : Bits) (e : ℕ) → length s.words ≤ e / 64 → bit_in s e ≡ 0
within_words s e past = bit_in-words s e
    ∙ (ap (λ w. bit_at w (e % 64)) (get_or_past s.words (e / 64) 0 past) ∙ bit_at-zero (e % 64))

-- where the words of a set are told by those of two sets of four words, and past these they are
-- those of the first, so are its places
pub by_words : (F : ℕ → ℕ → ℕ) (r s o : Bits) (e : ℕ) → F 0 0 ≡ 0 → length s.words ≡ 4
    → length o.words ≡ 4 → (e / 64 < 4
    → word_bit r.words e ≡ F (word_bit s.words e) (word_bit o.words e))
    → (4 ≤ e / 64 → get_or r.words (e / 64) 0 ≡ get_or s.words (e / 64) 0)
    → bit_in r e ≡ F (bit_in s e) (bit_in o e)
by_words F r s o e zero' ls lo told kept = ⊎_elim
    (λ l. rw (bit_in-words r e, bit_in-words s e, bit_in-words o e) (told l))
    (λ past.
    let none = within_words s e (omega (arith, ls, past)) in
    let same = bit_in-words r e ∙ (ap (λ w. bit_at w (e % 64)) (kept past)
    ∙ (sym (bit_in-words s e) ∙ none)) in
    rw (same, none, within_words o e (omega (arith, lo, past))) (sym zero'))
    (cases_lt (e / 64) 4)

-- the lowest bit that a word has in common is a common place, and no lesser place of that word is
pub common_first : (s o : Bits) (k : ℕ) → bit_and (get_or s.words k 0) (get_or o.words k 0) ≢ 0
    → bit_and (get_or s.words k 0) (get_or o.words k 0) < 2 ^ 64
    → (trailing_zeros w64 (bit_and (get_or s.words k 0) (get_or o.words k 0)) < 64)
    × (bit_in s (64 * k + trailing_zeros w64 (bit_and (get_or s.words k 0) (get_or o.words k 0)))
    ≡ 1)
    × (bit_in o (64 * k + trailing_zeros w64 (bit_and (get_or s.words k 0) (get_or o.words k 0)))
    ≡ 1)
    × ((e : ℕ) → e / 64 ≡ k → e < 64 * k + trailing_zeros w64
    (bit_and (get_or s.words k 0) (get_or o.words k 0)) → bit_in s e ≡ 1 → bit_in o e ≢ 1)
common_first s o k some fits =
    (below, at_place s w refl both.0, at_place o v refl both.1, least) where
      w : ℕ
      w = get_or s.words k 0

      v : ℕ
      v = get_or o.words k 0

      t : ℕ
      t = trailing_zeros w64 (bit_and w v)

      low : (t < 64) × (bit_at (bit_and w v) t ≡ 1) × ((i : ℕ) → i < t → bit_at (bit_and w v) i ≡ 0)
      low = bit_at-trailing_zeros w64 (bit_and w v) (omega (arith, some)) fits

      below : t < 64
      below = low.0

      both : (bit_at w t ≡ 1) × (bit_at v t ≡ 1)
      both =
          let m = bit_at_and w v t in
          let h = low.1 in
          let a = bit_at-lt w t in
          let b = bit_at-lt v t in
          (omega (arith, m, h, a, b), omega (arith, m, h, a, b))

      at_place : (r : Bits) (x : ℕ) → get_or r.words k 0 ≡ x → bit_at x t ≡ 1
          → bit_in r (64 * k + t) ≡ 1
      at_place r x e h =
          let (d, m) = word_of k t low.0 in
          bit_in-words r (64 * k + t) ∙ (ap (λ j. bit_at (get_or r.words j 0) ((64 * k + t) % 64)) d
          ∙ (ap (λ j. bit_at (get_or r.words k 0) j) m ∙ (ap (λ y. bit_at y t) e ∙ h)))

      least : (e : ℕ) → e / 64 ≡ k → e < 64 * k + t → bit_in s e ≡ 1 → bit_in o e ≢ 1
      least e is l hs ho =
          let m = bit_at_and w v (e % 64) in
          let z = low.2 (e % 64) (omega (arith, is, l)) in
          let a : bit_at w (e % 64) ≡ 1 = ap (λ j. bit_at (get_or s.words j 0) (e % 64)) (sym is)
          ∙ (sym (bit_in-words s e) ∙ hs) in
          let b : bit_at v (e % 64) ≡ 1 = ap (λ j. bit_at (get_or o.words j 0) (e % 64)) (sym is)
          ∙ (sym (bit_in-words o e) ∙ ho) in
          omega (arith, m, z, a, b)

-- a set has the places that the first k of some words tell
pub record HasWords (words : List ℕ) (k : ℕ) (s : Bits) : Type 0 where
  pub count : length s.words ≡ 4
  pub written : (e : ℕ) → e / 64 < k → bit_in s e ≡ bit_of words e
  pub none : (e : ℕ) → k ≤ e / 64 → bit_in s e ≡ 0

-- one word more
pub words_more : (words : List ℕ) (k : ℕ) (s : Bits) → k < 4 → HasWords words k s
    → HasWords words (k + 1) (record { words = set s.words k (get_or words k 0) })
words_more words k s lt h = record {
  count = length-set s.words k w ∙ h.count;
  written = λ e le. ⊎_elim
      (λ same. bit_in-words s' e ∙ (bit_of-set_same s.words k w e l same
      ∙ ap (λ j. bit_at (get_or words j 0) (e % 64)) (sym same)))
      (λ ne. other e ne ∙ h.written e (omega (arith, le, ne)))
      (cases_eq (e / 64) k);
  none = λ e le. other e (λ same. omega (arith, same, le)) ∙ h.none e (omega (arith, le));
} where
  w : ℕ
  w = get_or words k 0

  s' : Bits
  s' = record { words = set s.words k w }

  l : k < length s.words
  l = omega (arith, lt, h.count)

  other : (e : ℕ) → e / 64 ≢ k → bit_in s' e ≡ bit_in s e
  other e ne = bit_in-words s' e ∙ (bit_of-set_other s.words k w e ne ∙ sym (bit_in-words s e))

-- all words
pub words_all : (words : List ℕ) (k : ℕ) (s : Bits) → length words ≤ k → HasWords words k s
    → (e : ℕ) → bit_in s e ≡ bit_of words e
words_all words k s all h e = ⊎_elim (λ l. h.written e l)
    (λ ge. h.none e ge ∙ sym (past_words words e (omega (arith, all, ge)))) (cases_lt (e / 64) k)

-- four words, each made of the two of its number
abbrev pub each_word : (ℕ → ℕ → ℕ) → List ℕ → List ℕ → List ℕ
each_word F x y = F (get_or x 0 0) (get_or y 0 0) ∷ F (get_or x 1 0) (get_or y 1 0) ∷ F
    (get_or x 2 0) (get_or y 2 0) ∷ F (get_or x 3 0) (get_or y 3 0) ∷ []

each_word-at : (F : ℕ → ℕ → ℕ) (x y : List ℕ) (k : ℕ) → k < 4
    → get_or (each_word F x y) k 0 ≡ F (get_or x k 0) (get_or y k 0)
each_word-at F x y zero l = refl
each_word-at F x y (suc zero) l = refl
each_word-at F x y (suc (suc zero)) l = refl
each_word-at F x y (suc (suc (suc zero))) l = refl
each_word-at F x y (suc (suc (suc (suc k)))) l = absurd (omega (arith, l))

-- where bits of the words that are made are made of theirs, so are the places of sets
pub made_by_words : (F G : ℕ → ℕ → ℕ) (s o : Bits) (e : ℕ) → G 0 0 ≡ 0 → length s.words ≡ 4
    → length o.words ≡ 4
    → ((x y t : ℕ) → bit_at (F x y) t ≡ G (bit_at x t) (bit_at y t))
    → bit_in (record { words = each_word F s.words o.words }) e ≡ G (bit_in s e) (bit_in o e)
made_by_words F G s o e none ls lo bits =
    by_words G (record { words = each_word F s.words o.words }) s o e none ls lo
    (λ l. ap (λ w. bit_at w (e % 64)) (each_word-at F s.words o.words (e / 64) l)
    ∙ bits _ _ (e % 64))
    (λ past. get_or_past (each_word F s.words o.words) (e / 64) 0 past
    ∙ sym (get_or_past s.words (e / 64) 0 (omega (arith, ls, past))))

-- and the set of four words, taken one by one
pub four_words : (words : List ℕ) (e : ℕ) → length words ≡ 4
    → bit_in (record { words = each_word (λ a b. a) words words }) e ≡ bit_of words e
four_words words e is = let own
    : Bits = record { words = each_word (λ a b. a) words words } in ⊎_elim
    (λ l. bit_in-words own e ∙ ap (λ w. bit_at w (e % 64))
    (each_word-at (λ a b. a) words words (e / 64) l))
    (λ past. within_words own e past ∙ sym (past_words words e (omega (arith, is, past))))
    (cases_lt (e / 64) 4)
