-- A place put in or taken out: one word changes, at one bit.
use Rattle.std.proofs.Common.{◌≡◌, ◌≢◌, ◌==◌, ℕ, ◌<◌, ◌/◌, ◌%◌, Bool, false, ◌⊎◌, ⊎_elim, inl, inr, refl, List, length, get_or, set, sym, ap, ◌∙◌, arith, get_or-set_same, get_or-set_other}
use Rattle.std.proofs.lemmas.Bool.{cases_eq}
use Rattle.std.proofs.lemmas.List.{get_or_default, length-set}
use Rattle.std.specs.Int.{bit_at}
use Rattle.sfm_base.specs.Words.{bit_of, members, AreWords}
use Rattle.sfm_base.proofs.Members.{bit_of-set_same, bit_of-set_other, place_below, length-members, get_or-members, members-are, word_there}

-- the word w has the bits of the word at e, but for that of e
abbrev pub IsSameBut : List ℕ → ℕ → ℕ → Type 0
IsSameBut words e w = (t : ℕ) → t < 64 → t ≢ e % 64
    → bit_at w t ≡ bit_at (get_or words (e / 64) 0) t

-- all other places stay
bit_of-other : (words : List ℕ) (e k w : ℕ) → e / 64 < length words → k ≢ e → IsSameBut words e w
    → bit_of (set words (e / 64) w) k ≡ bit_of words k
bit_of-other words e k w l ne h = ⊎_elim
    (λ same. bit_of-set_same words (e / 64) w k l same
    ∙ (h (k % 64) (omega arith) (λ r. ne (omega (arith, same, r)))
    ∙ ap (λ j. bit_at (get_or words j 0) (k % 64)) (sym same)))
    (λ other. bit_of-set_other words (e / 64) w k other)
    (cases_eq (k / 64) (e / 64))

changed_words : (n : ℕ) (words : List ℕ) (e w : ℕ) → AreWords n words → e < n → IsSameBut words e w
    → AreWords n (set words (e / 64) w)
changed_words n words e w kept l h = record {
  fits = kept.fits;
  counted = length-set words (e / 64) w ∙ kept.counted;
  clean = λ k le. bit_of-other words e k w (word_there n words e kept l)
      (λ same. omega (arith, same, le, l)) h ∙ kept.clean k le;
}

changed_set : (n : ℕ) (words : List ℕ) (e w : ℕ) (b : Bool) → AreWords n words → e < n
    → IsSameBut words e w → (bit_at w (e % 64) == 1) ≡ b
    → members n (set words (e / 64) w) ≡ set (members n words) e b
changed_set n words e w b kept l h here =
    members-are n (set words (e / 64) w) (set (members n words) e b)
    (length-set (members n words) e b ∙ length-members n words)
    (λ k lk. at k lk (cases_eq k e)) where
      inside : e < length (members n words)
      inside = omega (arith, length-members n words, l)

      there : e / 64 < length words
      there = word_there n words e kept l

      at : (k : ℕ) → k < n → (k ≡ e) ⊎ (k ≢ e)
          → get_or (set (members n words) e b) k false ≡ (bit_of (set words (e / 64) w) k == 1)
      at k lk (inl same) = ap (λ j. get_or (set (members n words) e b) j false) same
          ∙ get_or-set_same (members n words) e b false inside
          ∙ (sym here ∙ ap (λ z. z == 1)
          (sym (ap (λ j. bit_of (set words (e / 64) w) j) same
          ∙ bit_of-set_same words (e / 64) w e there refl)))
      at k lk (inr other) = get_or-set_other (members n words) e k b false other
          ∙ get_or-members n words k lk
          ∙ ap (λ z. z == 1) (sym (bit_of-other words e k w there other h))

-- a set whose list is known, where the word of a place was x and now has another bit there
pub put_set : (n : ℕ) (words : List ℕ) (s : List Bool) (e x w : ℕ) (b : Bool) → AreWords n words
    → members n words ≡ s → e < length s → x ≡ get_or words (e / 64) x
    → ((t : ℕ) → t < 64 → t ≢ e % 64 → bit_at w t ≡ bit_at x t) → (bit_at w (e % 64) == 1) ≡ b
    → AreWords n (set words (e / 64) w) × (members n (set words (e / 64) w) ≡ set s e b)
put_set n words s e x w b kept is l was others here = (
  changed_words n words e w kept below same,
  changed_set n words e w b kept below same here
      ∙ ap (λ s. set s e b) is,
) where
  below : e < n
  below = place_below n words s e is l

  same : IsSameBut words e w
  same t lt ne = others t lt ne ∙ ap (λ z. bit_at z t)
      (was ∙ get_or_default words (e / 64) x 0 (word_there n words e kept below))
