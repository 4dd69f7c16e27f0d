-- The least slack of a part with u and not v, one threshold after another.
use Rattle.std.proofs.Common.{◌≡◌, ◌≢◌, ◌⊎◌, ℕ, ◌+◌, ◌<◌, ◌≤◌, Bool, false, List, length, get_or, set, ℤ, pos, ◌≤ℤ◌, ◌∙◌, ap, sym, arith, inl, inr, ⊎_elim}
use Rattle.std.specs.Int.{int_min}
use Rattle.std.specs.List.Sorted.{IsPermutation}
use Rattle.std.proofs.lemmas.Bool.{cases_lt}
use Rattle.std.proofs.lemmas.Int.{ints, clamps, by_lt_z}
use Rattle.sfm_spec.specs.Sets.{whole_set}
use Rattle.sfm_concave.specs.Thresholds.{above_between, slack, Separates}
use Rattle.sfm_concave.proofs.Above.{between_split, without_split}
use Rattle.sfm_concave.proofs.Tights.{found}

-- what all places but v leave, and what is left above each of some numbers, with u and without v:
-- at least a, which some such part leaves
pub record IsLeastOver (h : ℕ → ℤ) (x : List ℤ) (u v : ℕ) (some : ℤ → Type 0) (a : ℤ) : Type 0 where
  pub rest : a ≤ℤ slack h x (set (whole_set (length x)) v false)
  pub least : (t : ℤ) → some t → a ≤ℤ slack h x (above_between t x u v)
  pub reached : (s : List Bool) × Separates x u v s × (a ≡ slack h x s)

-- one of the entries from the place i on and before n
abbrev pub IsAmong : List ℤ → ℕ → ℕ → ℤ → Type 0
IsAmong y i n t = (j : ℕ) × (i ≤ j) × (j < n) × (t ≡ get_or y j (pos 0))

one_of : (r a b : ℤ) → r ≡ int_min a b → (r ≡ a) ⊎ (r ≡ b)
one_of r a b e = by_lt_z a b (λ less. inl (omega (arith, ints, clamps, e, less)))
    (λ more. inr (omega (arith, ints, clamps, e, more)))

module _ (h : ℕ → ℤ) (x : List ℤ) (u v : ℕ) (ku : u < length x) (kv : v < length x)
    (ne : u ≢ v) where
  -- no number yet
  pub least_begin : (y : List ℤ) (i n : ℕ) (a : ℤ) → n ≤ i
      → a ≡ slack h x (set (whole_set (length x)) v false) → IsLeastOver h x u v (IsAmong y i n) a
  least_begin y i n a none e = record {
    rest = omega (arith, ints, e);
    least = λ t (j, le, lt, is). absurd (omega (arith, none, le, lt));
    reached = (set (whole_set (length x)) v false, without_split x u v ku kv ne, e);
  }

  -- a number more
  least_more : (some more : ℤ → Type 0) (t a r : ℤ) → IsLeastOver h x u v some a
      → r ≡ int_min a (slack h x (above_between t x u v)) → ((s : ℤ) → more s → some s ⊎ (s ≡ t))
      → IsLeastOver h x u v more r
  least_more some more t a r is m next = record {
    rest = (let k = is.rest in omega (arith, ints, clamps, k, m));
    least = λ s in_more. ⊎_elim
        (λ old. let k = is.least s old in omega (arith, ints, clamps, k, m))
        (λ same. rw same (omega (arith, ints, clamps, m)))
        (next s in_more);
    reached = ⊎_elim
        (λ old. (is.reached.0, is.reached.1, old ∙ is.reached.2))
        (λ new. (above_between t x u v, between_split t x u v ku kv ne, new))
        (one_of r a (slack h x (above_between t x u v)) m);
  }

  -- the entry behind the ones so far
  pub least_behind : (y : List ℤ) (i n : ℕ) (a r : ℤ) → IsLeastOver h x u v (IsAmong y i n) a
      → r ≡ int_min a (slack h x (above_between (get_or y n (pos 0)) x u v))
      → IsLeastOver h x u v (IsAmong y i (n + 1)) r
  least_behind y i n a r is m = least_more (IsAmong y i n) (IsAmong y i (n + 1))
      (get_or y n (pos 0)) a r is m (λ s (j, le, lt, e). ⊎_elim
      (λ (l : j < n). inl (j, le, l, e))
      (λ (ge : n ≤ j). let same : j ≡ n = omega arith in inr
      (e ∙ ap (λ p. get_or y p (pos 0)) same))
      (cases_lt j n))

  -- the entry before the ones so far
  pub least_before : (y : List ℤ) (i p n : ℕ) (a r : ℤ) → i ≡ p + 1
      → IsLeastOver h x u v (IsAmong y i n) a
      → r ≡ int_min a (slack h x (above_between (get_or y p (pos 0)) x u v))
      → IsLeastOver h x u v (IsAmong y p n) r
  least_before y i p n a r here is m =
      least_more (IsAmong y i n) (IsAmong y p n) (get_or y p (pos 0)) a r is m
      (λ s (j, le, lt, e). ⊎_elim
      (λ (l : p < j). inl (j, omega (arith, here, l), lt, e))
      (λ (ge : j ≤ p). let same : j ≡ p = omega arith in inr
      (e ∙ ap (λ z. get_or y z (pos 0)) same))
      (cases_lt p j))

  -- all entries, in another order
  pub least_all : (y : List ℤ) (i n : ℕ) (a : ℤ) → IsPermutation x y → i ≤ 0 → length y ≤ n
      → IsLeastOver h x u v (IsAmong y i n) a → (w : ℕ) → w < length x
      → a ≤ℤ slack h x (above_between (get_or x w (pos 0)) x u v)
  least_all y i n a same none all is w lt =
      let (p, kp, e) = found x y same w lt in is.least (get_or x w (pos 0))
      (p, omega (arith, none), omega (arith, kp, all), sym e)
