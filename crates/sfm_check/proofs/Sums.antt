-- The sum of the first terms at a set that they allow, with its bounds.
use Rattle.std.proofs.Common.{◌≡◌, ℕ, zero, suc, ◌+◌, ◌<◌, ◌^◌, Bool, false, List, [], ◌∷◌, ◌++◌, length, map, get_or, take, Some, ℤ, pos, ◌+ℤ◌, ◌≤ℤ◌, refl, sym, ap, ◌∙◌, arith, subst}
use Rattle.std.proofs.lemmas.Int.{ints}
use Rattle.std.proofs.lemmas.List.{length-replicate}
use Rattle.sfm_spec.specs.Sets.{empty_set, part}
use Rattle.sfm_spec.specs.Bounds.{IsGiven, total_of}
use Rattle.sfm_spec.specs.Families.{Meaning, meanings, IsAllowed, sum_at, value_at}
use Rattle.sfm_spec.proofs.Duality.{meanings_more}
use Rattle.sfm_kind.specs.declared.kind.Kind.{Kind}
use Rattle.sfm_kind.specs.Kinds.{kind_places, kind_size, kind_value, kind-bounded, kind-submodular}
use Rattle.sfm_check.proofs.Small.{sum_small}

-- the first k terms allow the set, and add up to a there
pub record IsSumOfFirst (ts : List Kind) (s : List Bool) (k : ℕ) (a : ℤ) : Type 0 where
  pub allowed : IsAllowed (meanings kind_places kind_value (take k ts)) s
  pub sum : a ≡ sum_at (meanings kind_places kind_value (take k ts)) s

sum-push : (terms : List Meaning) (m : Meaning) (s : List Bool) (a : ℤ) → value_at m s ≡ Some a
    → sum_at (terms ++ m ∷ []) s ≡ (sum_at terms s +ℤ a)
sum-push [] m s a e = rw e (omega (arith, ints))
sum-push (t ∷ terms) m s a e = let r = sum-push terms m s a e in omega (arith, ints, r)

allowed-push : (terms : List Meaning) (m : Meaning) (s : List Bool) (a : ℤ) → value_at m s ≡ Some a
    → IsAllowed terms s → IsAllowed (terms ++ m ∷ []) s
allowed-push [] m s a e h = (rw e refl, tt)
allowed-push (t ∷ terms) m s a e h = (h.0, allowed-push terms m s a e h.1)

-- no size is negative
size_low : (x : Kind) → pos 0 ≤ℤ kind_size x
size_low x = (kind-bounded x (empty_set (length (kind_places x))) (pos 0)
    (length-replicate (length (kind_places x)) false) (kind-submodular x).at_empty).1

total_front : (ts : List Kind) (k : ℕ) → (pos 0 ≤ℤ total_of (map kind_size (take k ts)))
    × (total_of (map kind_size (take k ts)) ≤ℤ total_of (map kind_size ts))
total_front [] zero = (omega (arith, ints), omega (arith, ints))
total_front [] (suc k) = (omega (arith, ints), omega (arith, ints))
total_front (t ∷ ts) zero = let r = total_front ts zero in let l = size_low
    t in (omega (arith, ints), omega (arith, ints, r.0, r.1, l))
total_front (t ∷ ts) (suc k) =
    let r = total_front ts k in let l = size_low
    t in (omega (arith, ints, r.0, l), omega (arith, ints, r.1))

pub first_given : (ts : List Kind) (s : List Bool) (k : ℕ) (a : ℤ)
    → total_of (map kind_size ts) ≤ℤ pos (10 ^ 18) → IsSumOfFirst ts s k a → IsGiven a
first_given ts s k a small h =
    let r = sum_small (take k ts) s h.allowed in
    let t = total_front ts k in
    let e = h.sum in
    record {
      low = omega (arith, ints, r.0, t.1, small, e);
      high = omega (arith, ints, r.1, t.1, small, e);
    }

-- one term more
pub first_more : (ts : List Kind) (s : List Bool) (k : ℕ) (a b : ℤ) (x : Kind) → k < length ts
    → x ≡ get_or ts k x → kind_value x (part (kind_places x) s) ≡ Some b → IsSumOfFirst ts s k a
    → IsSumOfFirst ts s (k + 1) (a +ℤ b)
first_more ts s k a b x l read value h =
    let m : Meaning = record { places = kind_places x; value = kind_value x } in
    let front = meanings kind_places kind_value (take k ts) in
    let is : meanings kind_places kind_value (take (k + 1) ts) ≡ front ++ m ∷ [] = meanings_more
    kind_places kind_value ts k x l read in
    record {
      allowed = subst (λ z. IsAllowed z s) (sym is) (allowed-push front m s b value h.allowed);
      sum = ap (λ z. z +ℤ b) h.sum ∙ (sym (sum-push front m s b value)
          ∙ ap (λ z. sum_at z s) (sym is));
    }
