-- Two sets brought together, or one tested to be within another, by their words.
use Rattle.std.proofs.Common.{◌≡◌, ◌≢◌, ◌==◌, ℕ, zero, suc, ◌+◌, ◌-◌, ◌<◌, ◌≤◌, ◌/◌, ◌%◌, Bool, false, not, ◌&&◌, ◌||◌, max, min, ◌⊎◌, ⊎_elim, inl, inr, List, length, get_or, set, refl, sym, ap, ◌∙◌, arith}
use Rattle.std.proofs.lemmas.Bool.{cases_eq, cases_lt}
use Rattle.std.proofs.lemmas.List.{get_or-map, length-map}
use Rattle.sfm_spec.specs.Sets.{complement, IsWithin}
use Rattle.sfm_spec.proofs.Sets.{get_or-union, get_or-intersection}
use Rattle.sfm_spec.proofs.Sums.{length-union, length-intersection}
use Rattle.std.specs.Int.{bit_at}
use Rattle.sfm_base.specs.declared.words.Joining.{Joining}
use Rattle.sfm_base.specs.declared.words.Joining.TheVariants.{Union, Intersection, Difference}
use Rattle.sfm_base.specs.Words.{bit_of, members, AreWords, joined, joint}
use Rattle.sfm_base.proofs.Members.{bit_of-lt, length-members, get_or-members, members-are, in_words, in_set, same_places, past_words, bit_of-set_same, bit_of-set_other}

-- what holds of each two bits
each_bits : (P : ℕ → ℕ → Type 0) → P 0 0 → P 0 1 → P 1 0 → P 1 1 → (x y : ℕ) → x < 2 → y < 2 → P x y
each_bits P a b c d zero zero lx ly = a
each_bits P a b c d zero (suc zero) lx ly = b
each_bits P a b c d (suc zero) zero lx ly = c
each_bits P a b c d (suc zero) (suc zero) lx ly = d
each_bits P a b c d zero (suc (suc y)) lx ly = absurd (omega (arith, ly))
each_bits P a b c d (suc zero) (suc (suc y)) lx ly = absurd (omega (arith, ly))
each_bits P a b c d (suc (suc x)) y lx ly = absurd (omega (arith, lx))

-- where neither has a place, no set of both has
pub joint-none : (j : Joining) → joint j 0 0 ≡ 0
joint-none Union = refl
joint-none Intersection = refl
joint-none Difference = refl

-- the first k words are joined with the others, and those behind them stay
pub record IsJoined (j : Joining) (words other now : List ℕ) (k : ℕ) : Type 0 where
  pub joined : (e : ℕ) → e / 64 < k → bit_of now e ≡ joint j (bit_of words e) (bit_of other e)
  pub same : (e : ℕ) → k ≤ e / 64 → bit_of now e ≡ bit_of words e

-- one word more
pub joined_more : (j : Joining) (words other now : List ℕ) (k w : ℕ) → k < length now
    → ((t : ℕ) → bit_at w t ≡ joint j (bit_at (get_or now k 0) t) (bit_at (get_or other k 0) t))
    → IsJoined j words other now k → IsJoined j words other (set now k w) (k + 1)
joined_more j words other now k w there is h = record {
  joined = λ e l. ⊎_elim (λ here. at e here)
      (λ ne. bit_of-set_other now k w e ne ∙ h.joined e (omega (arith, l, ne)))
      (cases_eq (e / 64) k);
  same = λ e l. bit_of-set_other now k w e (omega (arith, l)) ∙ h.same e (omega (arith, l));
} where
  at : (e : ℕ) → e / 64 ≡ k → bit_of (set now k w) e ≡ joint j (bit_of words e) (bit_of other e)
  at e here = bit_of-set_same now k w e there here
      ∙ (is (e % 64)
      ∙ (ap (λ i. joint j (bit_at (get_or now i 0) (e % 64)) (bit_at (get_or other i 0) (e % 64)))
      (sym here)
      ∙ ap (λ z. joint j z (bit_of other e)) (h.same e (omega (arith, here)))))

-- once all are, each place is
pub joined_all : (j : Joining) (words other now : List ℕ) (k : ℕ) → length words ≡ length other
    → k ≡ length words → IsJoined j words other now k → (e : ℕ)
    → bit_of now e ≡ joint j (bit_of words e) (bit_of other e)
joined_all j words other now k counted all h e = ⊎_elim
    (h.joined e)
    (λ past. h.same e past ∙ rw (
      past_words words e (omega (arith, all, past)),
      past_words other e (omega (arith, counted, all, past)),
    ) (sym (joint-none j)))
    (cases_lt (e / 64) k)

length-joined : (j : Joining) (s t : List Bool) → length s ≡ length t
    → length (joined j s t) ≡ length s
length-joined Union s t same = length-union s t same
length-joined Intersection s t same = length-intersection s t same
length-joined Difference s t same =
    length-intersection s (complement t) (same ∙ sym (length-map t not))

-- whether a place is in the set that becomes of both, by bits that tell of each
joined-at : (j : Joining) (s t : List Bool) (e x y : ℕ) → length s ≡ length t → e < length t → x < 2
    → y < 2 → get_or s e false ≡ (x == 1) → get_or t e false ≡ (y == 1)
    → get_or (joined j s t) e false ≡ (joint j x y == 1)
joined-at Union s t e x y same l lx ly hx hy = get_or-union s t e same
    ∙ rw (hx, hy) (each_bits (λ x y. ((x == 1) || (y == 1)) ≡ (max x y == 1)) refl refl refl refl x
    y lx ly)
joined-at Intersection s t e x y same l lx ly hx hy = get_or-intersection s t e same
    ∙ rw (hx, hy) (each_bits (λ x y. ((x == 1) && (y == 1)) ≡ (min x y == 1)) refl refl refl refl x
    y lx ly)
joined-at Difference s t e x y same l lx ly hx hy =
    get_or-intersection s (complement t) e (same ∙ sym (length-map t not))
    ∙ rw (get_or-map not t e false false l, hx, hy)
    (each_bits (λ x y. ((x == 1) && not (y == 1)) ≡ (x - y == 1)) refl refl refl refl x y lx ly)

-- words that tell of each place what becomes of it with the other words are those of the set that
-- becomes of both
pub joined_set : (j : Joining) (n m : ℕ) (a b r : List ℕ) (s t : List Bool) → AreWords n a
    → AreWords m b → members n a ≡ s → members m b ≡ t → length s ≡ length t → length r ≡ length a
    → ((e : ℕ) → bit_of r e ≡ joint j (bit_of a e) (bit_of b e)) → AreWords n r
    × (members n r ≡ joined j s t)
joined_set j n m a b r s t ha hb is_s is_t same l h = (
  record { fits = ha.fits; counted = l ∙ ha.counted; clean = clean },
  members-are n r (joined j s t) (length-joined j s t same ∙ places) each,
) where
  places : length s ≡ n
  places = ap length (sym is_s) ∙ length-members n a

  ground : m ≡ n
  ground = same_places n m a b s t is_s is_t same

  clean : (e : ℕ) → n ≤ e → bit_of r e ≡ 0
  clean e le = h e ∙ rw (ha.clean e le, hb.clean e (omega (arith, ground, le))) (joint-none j)

  each : (e : ℕ) → e < n → get_or (joined j s t) e false ≡ (bit_of r e == 1)
  each e le = joined-at j s t e (bit_of a e) (bit_of b e) same (omega (arith, places, same, le))
      (bit_of-lt a e) (bit_of-lt b e)
      (ap (λ s. get_or s e false) (sym is_s) ∙ get_or-members n a e le)
      (ap (λ t. get_or t e false) (sym is_t) ∙ get_or-members m b e (omega (arith, ground, le)))
      ∙ ap (λ z. z == 1) (sym (h e))

-- one set is within another where its words are
pub set_within : (n : ℕ) (a b : List ℕ) → AreWords n a → AreWords n b
    → ((e : ℕ) → bit_of a e ≤ bit_of b e) → IsWithin (members n a) (members n b)
set_within n a b ha hb h e has =
    in_set n b e hb (omega (arith, h e, in_words n a e ha has, bit_of-lt b e))

pub words_within : (n : ℕ) (a b : List ℕ) → AreWords n a → AreWords n b
    → IsWithin (members n a) (members n b) → (e : ℕ) → bit_of a e ≤ bit_of b e
words_within n a b ha hb h e = at (cases_eq (bit_of a e) 1) where
  at : (bit_of a e ≡ 1) ⊎ (bit_of a e ≢ 1) → bit_of a e ≤ bit_of b e
  at (inl one) = omega (arith, one, in_words n b e hb (h e (in_set n a e ha one)))
  at (inr not_one) = omega (arith, not_one, bit_of-lt a e)
