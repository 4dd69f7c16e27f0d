-- From one place to another there is a greatest exchange that keeps a base, or no allowed set
-- splits the two and every one does.
use Rattle.std.proofs.Common.{◌≡◌, ◌≢◌, ◌⊎◌, ℕ, ◌<◌, Bool, true, false, not, ◌&&◌, List, length, get_or, ℤ, pos, ◌-ℤ◌, ◌≤ℤ◌, Some, IsSome, unwrap_or, ap, arith, inl, inr, ⊎_elim}
use Rattle.std.proofs.lemmas.Bool.{both_ways, and_parts, and_from, not-true}
use Rattle.std.proofs.lemmas.Int.{ints}
use Rattle.sfm_spec.specs.Sets.{Has, sum_over}
use Rattle.sfm_spec.specs.Terms.{SetFunction, IsBase, IsCapacity, IsUncapped, IsUnsplit, exchanged}
use Rattle.sfm_spec.proofs.Sets.{has_or_not}
use Rattle.sfm_spec.proofs.Exchange.{LeavesRoom, base_moved, leaves_room}
use Rattle.sfm_spec.proofs.Tight.{some_of, is_some_of}
use Rattle.sfm_spec.proofs.Lattice.{LeastOf, NoneOf, least_set, is_some_test, some_by_test, test_by_some, value_is}

module _ {f : SetFunction} {x : List ℤ} (base : IsBase f x) (u v : ℕ) (ku : u < length x)
    (kv : v < length x) (ne : u ≢ v) where
  -- the set is allowed, and has u and not v
  splits : List Bool → Bool
  splits s = is_some_test (f s) && (get_or s u false && not (get_or s v false))

  -- what an allowed set has left
  slack : List Bool → ℤ
  slack s = unwrap_or (f s) (pos 0) -ℤ sum_over s x

  splits_by : (s : List Bool) → IsSome (f s) → Has s u → get_or s v false ≡ false → splits s ≡ true
  unfolding splits
  splits_by s allowed hu nv = and_from (is_some_test (f s))
      (get_or s u false && not (get_or s v false)) (test_by_some (f s) allowed)
      (and_from (get_or s u false) (not (get_or s v false)) hu (ap not nv))

  splits_parts : (s : List Bool) → splits s ≡ true → IsSome (f s) × Has s u
      × (get_or s v false ≡ false)
  unfolding splits
  splits_parts s h =
      let (a, b) = and_parts (is_some_test (f s)) (get_or s u false && not (get_or s v false)) h in
      let (c, d) = and_parts (get_or s u false) (not (get_or s v false)) b in
      (some_by_test (f s) a, c, not-true (get_or s v false) d)

  -- there is a greatest exchange, or every one keeps a base and no allowed set has u and not v
  pub capacity_or_unsplit : ((a : ℤ) × IsCapacity f x u v a)
      ⊎ (IsUncapped f x u v × IsUnsplit f (length x) u v)
  unfolding slack
  capacity_or_unsplit = at (least_set (length x) splits slack) where
    at : NoneOf (length x) splits ⊎ LeastOf (length x) splits slack
        → ((a : ℤ) × IsCapacity f x u v a) ⊎ (IsUncapped f x u v × IsUnsplit f (length x) u v)
    at (inl none) = inr (uncapped, unsplit) where
      unsplit : IsUnsplit f (length x) u v
      unsplit s l allowed hu = ⊎_elim (λ h. h)
          (λ nv. absurd (both_ways (splits s) (none s l) (splits_by s allowed hu nv)))
          (has_or_not s v)

      uncapped : IsUncapped f x u v
      uncapped a low = base_moved base ku kv ne a low
          (λ s c l e hu nv. absurd (both_ways (get_or s v false) nv
          (unsplit s l (is_some_of (f s) c e) hu)))
    at (inr (r, lr, split, least)) =
        inl (
          slack r,
          record {
            reached = base_moved base ku kv ne (slack r) low leaves;
            greatest = greatest;
          },
        ) where
          parts : IsSome (f r) × Has r u × (get_or r v false ≡ false)
          parts = splits_parts r split

          value : (c : ℤ) × (f r ≡ Some c)
          value = some_of (f r) parts.0

          slack_is : (s : List Bool) (c : ℤ) → f s ≡ Some c → slack s ≡ (c -ℤ sum_over s x)
          slack_is s c e = ap (λ y. y -ℤ sum_over s x) (value_is (f s) c e)

          low : pos 0 ≤ℤ slack r
          low =
              let w = base.within r value.0 lr value.1 in
              let k = slack_is r value.0 value.1 in
              omega (arith, ints, w, k)

          leaves : LeavesRoom f x u v (slack r)
          leaves s c l e hu nv =
              let k = least s l (splits_by s (is_some_of (f s) c e) hu nv) in
              let m = slack_is s c e in
              omega (arith, ints, k, m)

          greatest : (b : ℤ) → IsBase f (exchanged x u v b) → b ≤ℤ slack r
          greatest b moved =
              let k = leaves_room base ku kv ne b moved r value.0 lr value.1 parts.1 parts.2 in
              let m = slack_is r value.0 value.1 in
              omega (arith, ints, k, m)
