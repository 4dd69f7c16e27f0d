-- Sums of values, with their bounds.
use Rattle.std.proofs.Common.{◌≡◌, ℕ, zero, suc, ◌+◌, ◌<◌, ◌^◌, Bool, false, List, [], ◌∷◌, ◌++◌, length, map, get_or, take, take_all, le_refl, Option, Some, None, unwrap_or, ℤ, pos, neg_ℤ, ◌+ℤ◌, ◌≤ℤ◌, refl, ap, ◌∙◌, arith}
use Rattle.std.proofs.lemmas.Int.{ints}
use Rattle.std.proofs.lemmas.List.{length-map, length-replicate}
use Rattle.sfm_spec.specs.Sets.{empty_set, part}
use Rattle.sfm_spec.specs.Terms.{SetFunction}
use Rattle.sfm_spec.specs.Bounds.{IsGiven, total_of}
use Rattle.sfm_spec.specs.Families.{Meaning, meanings, sum_at, value_at}
use Rattle.sfm_spec.proofs.Duality.{meanings_more}

-- the sum with one term more
sum-push : (terms : List Meaning) (m : Meaning) (s : List Bool)
    → sum_at (terms ++ m ∷ []) s ≡ (sum_at terms s +ℤ unwrap_or (value_at m s) (pos 0))
sum-push [] m s = omega (arith, ints)
sum-push (t ∷ terms) m s = let r = sum-push terms m s in omega (arith, ints, r)

module _ {X : Type 0} (places : X → List ℕ) (value : X → SetFunction) (bound : X → ℤ)
    (s : List Bool)
    (small : (x : X) → (neg_ℤ (bound x) ≤ℤ unwrap_or (value x (part (places x) s)) (pos 0))
    × (unwrap_or (value x (part (places x) s)) (pos 0) ≤ℤ bound x)) where
  pub sum_more : (xs : List X) (i : ℕ) (x : X) → i < length xs → x ≡ get_or xs i x
      → sum_at (meanings places value (take (i + 1) xs))
      s ≡ (sum_at (meanings places value (take i xs)) s +ℤ unwrap_or
      (value x (part (places x) s)) (pos 0))
  sum_more xs i x l read =
      ap (λ ts. sum_at ts s) (meanings_more places value xs i x l read)
      ∙ sum-push (meanings places value (take i xs))
      (record { places = places x; value = value x }) s

  -- the sum of some of the terms lies within the bounds of all together
  sum_bound : (xs : List X) (k : ℕ)
      → (neg_ℤ (total_of (map bound xs)) ≤ℤ sum_at (meanings places value (take k xs)) s)
      × (sum_at (meanings places value (take k xs)) s ≤ℤ total_of (map bound xs))
  sum_bound [] zero = (omega (arith, ints), omega (arith, ints))
  sum_bound [] (suc k) = (omega (arith, ints), omega (arith, ints))
  sum_bound (x ∷ xs) zero = let r = sum_bound xs zero in let h = small
      x in (omega (arith, ints, r.0, r.1, h.0, h.1), omega (arith, ints, r.0, r.1, h.0, h.1))
  sum_bound (x ∷ xs) (suc k) = let r = sum_bound xs k in let h = small
      x in (omega (arith, ints, r.0, r.1, h.0, h.1), omega (arith, ints, r.0, r.1, h.0, h.1))

  pub sum_given : (xs : List X) (k : ℕ) → total_of (map bound xs) ≤ℤ pos (10 ^ 18)
      → IsGiven (sum_at (meanings places value (take k xs)) s)
  sum_given xs k h = let r = sum_bound xs
      k in record {
        low = omega (arith, ints, r.0, r.1, h);
        high = omega (arith, ints, r.0, r.1, h);
      }

  -- and so does that of all
  pub all_given : (xs : List X) → total_of (map bound xs) ≤ℤ pos (10 ^ 18)
      → IsGiven (sum_at (meanings places value xs) s)
  all_given xs h = rw (take_all (length xs) xs (le_refl (length xs))) at
      (sum_given xs (length xs) h)

-- the value at a part, or 0, lies within the bound of a term
pub value_small : {X : Type 0} (places : X → List ℕ) (value : X → SetFunction) (bound : X → ℤ)
    → ((x : X) (s : List Bool) (a : ℤ) → length s ≡ length (places x) → value x s ≡ Some a
    → (neg_ℤ (bound x) ≤ℤ a) × (a ≤ℤ bound x))
    → ((x : X) → value x (empty_set (length (places x))) ≡ Some (pos 0))
    → (s : List Bool) (x : X) → (neg_ℤ (bound x) ≤ℤ unwrap_or (value x (part (places x) s)) (pos 0))
    × (unwrap_or (value x (part (places x) s)) (pos 0) ≤ℤ bound x)
value_small places value bound bounded empty s x = at (value x (part (places x) s)) refl where
  at : (o : Option ℤ) → value x (part (places x) s) ≡ o → (neg_ℤ (bound x) ≤ℤ unwrap_or o (pos 0))
      × (unwrap_or o (pos 0) ≤ℤ bound x)
  at None is = bounded x (empty_set (length (places x))) (pos 0)
      (length-replicate (length (places x)) false) (empty x)
  at (Some a) is = bounded x (part (places x) s) a (rw length-map refl) is
