-- What is left of a set as its places are taken one after another.
use Rattle.std.proofs.Common.{◌≡◌, ◌≢◌, ℕ, zero, suc, ◌+◌, ◌*◌, ◌-◌, ◌<◌, ◌≤◌, ◌/◌, ◌%◌, ◌∷◌, ◌++◌, drop, replicate, length, get_or, sym, ap, ◌∙◌, arith, ⊎_elim}
use Rattle.std.proofs.lemmas.Bool.{cases_eq, cases_lt}
use Rattle.std.proofs.lemmas.List.{get_or-append_right, get_or-drop, get_or-replicate, length-replicate}
use Rattle.std.proofs.Math.ListN.{get_or-append}
use Rattle.std.proofs.lemmas.Nat.Bits.{bit_at-zero}
use Rattle.std.specs.Int.{bit_at}
use Rattle.sfm_spec.specs.Progress.{sum_below}
use Rattle.sfm_spec.proofs.Counts.{sum_below-lt}
use Rattle.sfm_reach.specs.declared.bits.Bits.{Bits}
use Rattle.sfm_reach.specs.Bits.{bit_in, left_of, IsTaken}
use Rattle.sfm_reach.proofs.Words.{bit_in-words, within_words, word_of}

-- the words of what is left: none before word k, what is left of that, and the words of the set
module _ (s : Bits) (k word : ℕ) where
  before : (j : ℕ) → j < k → get_or (replicate k 0 ++ (word ∷ drop (suc k) s.words)) j 0 ≡ 0
  before j l = get_or-append (replicate k 0) (word ∷ drop (suc k) s.words) 0 j
      (omega (arith, length-replicate k zero, l)) ∙ get_or-replicate k j 0 0 l

  past : (j i : ℕ) → j ≡ k + i → get_or (replicate k 0 ++ (word ∷ drop (suc k) s.words)) j
      0 ≡ get_or (word ∷ drop (suc k) s.words) i 0
  past j i is = get_or-append_right (replicate k 0) (word ∷ drop (suc k) s.words) k j 0
      (length-replicate k zero) (omega (arith, is))
      ∙ ap (λ z. get_or (word ∷ drop (suc k) s.words) z 0) (omega (arith, is))

  behind : (j : ℕ) → k < j → get_or (replicate k 0 ++ (word ∷ drop (suc k) s.words)) j 0 ≡ get_or
      s.words j 0
  behind j l = past j (suc (j - suc k)) (omega (arith, l))
      ∙ (get_or-drop (suc k) s.words (j - suc k) 0
      ∙ ap (λ z. get_or s.words z 0) (omega (arith, l)))

  pub left_before : (e : ℕ) → e / 64 < k → bit_in (left_of s k word) e ≡ 0
  unfolding left_of
  left_before e l = bit_in-words (left_of s k word) e
      ∙ (ap (λ w. bit_at w (e % 64)) (before (e / 64) l) ∙ bit_at-zero (e % 64))

  pub left_here : (e : ℕ) → e / 64 ≡ k → bit_in (left_of s k word) e ≡ bit_at word (e % 64)
  unfolding left_of
  left_here e same = bit_in-words (left_of s k word) e
      ∙ ap (λ w. bit_at w (e % 64)) (past (e / 64) 0 (omega (arith, same)))

  pub left_behind : (e : ℕ) → k < e / 64 → bit_in (left_of s k word) e ≡ bit_in s e
  unfolding left_of
  left_behind e l = bit_in-words (left_of s k word) e
      ∙ (ap (λ w. bit_at w (e % 64)) (behind (e / 64) l) ∙ sym (bit_in-words s e))

-- a word of the set tells of its places
word_tells : (s : Bits) (k e : ℕ) → e / 64 ≡ k → bit_at (get_or s.words k 0) (e % 64) ≡ bit_in s e
word_tells s k e same = ap (λ j. bit_at (get_or s.words j 0) (e % 64)) (sym same)
    ∙ sym (bit_in-words s e)

-- at first all is left
pub left_first : (s : Bits) (e : ℕ) → bit_in (left_of s 0 (get_or s.words 0 0)) e ≡ bit_in s e
left_first s e = ⊎_elim
    (λ same. left_here s 0 (get_or s.words 0 0) e same ∙ word_tells s 0 e same)
    (λ ne. left_behind s 0 (get_or s.words 0 0) e (omega (arith, ne)))
    (cases_eq (e / 64) 0)

-- a word of which nothing is left is passed
pub left_next : (s : Bits) (k e : ℕ) → bit_in (left_of s (k + 1) (get_or s.words (k + 1) 0))
    e ≡ bit_in (left_of s k 0) e
left_next s k e = ⊎_elim
    (λ le. left_before s (k + 1) word e le ∙ sym (⊎_elim
    (λ same. left_here s k 0 e same ∙ bit_at-zero (e % 64))
    (λ ne. left_before s k 0 e (omega (arith, ne, le)))
    (cases_eq (e / 64) k)))
    (λ gt. ⊎_elim
    (λ same. left_here s (k + 1) word e same ∙ word_tells s (k + 1) e same)
    (λ ne. left_behind s (k + 1) word e (omega (arith, ne, gt)))
    (cases_eq (e / 64) (k + 1)) ∙ sym (left_behind s k 0 e (omega (arith, gt))))
    (cases_lt (e / 64) (k + 1))
  where
    word : ℕ
    word = get_or s.words (k + 1) 0

-- nothing is left of the last word
pub left_none : (s : Bits) (e : ℕ) → length s.words ≤ 4 → bit_in (left_of s 3 0) e ≡ 0
left_none s e count = ⊎_elim
    (λ l. left_before s 3 0 e l)
    (λ ge. ⊎_elim
    (λ same. left_here s 3 0 e same ∙ bit_at-zero (e % 64))
    (λ ne. left_behind s 3 0 e (omega (arith, ge, ne))
    ∙ within_words s e (omega (arith, count, ge, ne)))
    (cases_eq (e / 64) 3))
    (cases_lt (e / 64) 3)

-- a place of the word is taken
pub left_taken : (s : Bits) (k word word' t : ℕ) → k < 4 → t < 64 → bit_at word t ≡ 1
    → bit_at word' t ≡ 0 → ((i : ℕ) → i < 64 → i ≢ t → bit_at word' i ≡ bit_at word i)
    → IsTaken (left_of s k word) (64 * k + t) (left_of s k word')
left_taken s k word word' t lk lt one gone rest = record {
  below = omega (arith, lk, lt);
  had = left_here s k word e at.0 ∙ (ap (λ i. bit_at word i) at.1 ∙ one);
  out = left_here s k word' e at.0 ∙ (ap (λ i. bit_at word' i) at.1 ∙ gone);
  others = others;
} where
  e : ℕ
  e = 64 * k + t

  at : ((64 * k + t) / 64 ≡ k) × ((64 * k + t) % 64 ≡ t)
  at = word_of k t lt

  others : (j : ℕ) → j ≢ 64 * k + t → bit_in (left_of s k word') j ≡ bit_in (left_of s k word) j
  others j ne = ⊎_elim
      (λ same. left_here s k word' j same
      ∙ (rest (j % 64) (omega arith) (λ r. ne (omega (arith, same, r)))
      ∙ sym (left_here s k word j same)))
      (λ apart. ⊎_elim
      (λ l. left_before s k word' j l ∙ sym (left_before s k word j l))
      (λ ge. left_behind s k word' j (omega (arith, ge, apart))
      ∙ sym (left_behind s k word j (omega (arith, ge, apart))))
      (cases_lt (j / 64) k))
      (cases_eq (j / 64) k)

-- of a set with the same places too
pub taken_same : (s s' after : Bits) (e : ℕ) → ((k : ℕ) → bit_in s k ≡ bit_in s' k)
    → IsTaken s e after → IsTaken s' e after
taken_same s s' after e same h =
    record {
      below = h.below;
      had = sym (same e) ∙ h.had;
      out = h.out;
      others = λ k ne. h.others k ne ∙ same k;
    }

-- fewer are ahead
pub picking_shrinks : (ahead ahead' : Bits) (k : ℕ) → IsTaken ahead k ahead'
    → sum_below 256 (bit_in ahead') < sum_below 256 (bit_in ahead)
picking_shrinks ahead ahead' k h = sum_below-lt 256 (bit_in ahead') (bit_in ahead) k
    (λ e le. ⊎_elim (λ same. rw same (omega (arith, h.out)))
    (λ ne. let r = h.others e ne in omega (arith, r)) (cases_eq e k)) h.below
    (omega (arith, h.out, h.had))
