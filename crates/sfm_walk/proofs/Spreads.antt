-- Bounds on the entries of bases, told by a natural number or by an integer.
use Rattle.std.proofs.Common.{◌≡◌, ℕ, ◌*◌, ◌^◌, ◌≤◌, List, [], length, map, sum, get_or, ℤ, pos, ◌+ℤ◌, ◌-ℤ◌, ◌≤ℤ◌, arith}
use Rattle.std.specs.List.{All}
use Rattle.std.proofs.lemmas.Int.{ints}
use Rattle.std.proofs.lemmas.List.Elements.{All-get_or, All-from_get_or}
use Rattle.sfm_spec.specs.Sets.{magnitudes}
use Rattle.sfm_spec.specs.Bounds.{IsAtMost}
use Rattle.sfm_spec.specs.Terms.{SetFunction}
use Rattle.sfm_spec.specs.Families.{meanings, rest_at, deficit}
use Rattle.sfm_spec.specs.Walks.{base_at}
use Rattle.sfm_spec.proofs.Moves.{deficit_not_above}
use Rattle.sfm_walk.specs.Spread.{AreSpread, IsUpTo}
use Rattle.sfm_walk.proofs.Gaps.{deficit_by}

-- what follows of each entry follows of all
each : (P Q : ℤ → Type 0) → ((a : ℤ) → P a → Q a) → (rows : List (List ℤ)) → All (λ x. All P x) rows
    → All (λ x. All Q x) rows
each P Q f rows h = All-from_get_or (λ x. All Q x) rows []
    (λ i li. All-from_get_or Q (base_at rows i) (pos 0) (λ j lj.
    f (get_or (base_at rows i) j (pos 0))
    (All-get_or P (base_at rows i) j (pos 0) lj (All-get_or (λ x. All P x) rows i [] li h))))

-- a natural number as an integer
pub up_to : (m : ℕ) (rows : List (List ℤ)) → All (λ x. All (IsAtMost m) x) rows
    → All (λ x. All (IsUpTo (pos m)) x) rows
up_to m rows h = each (IsAtMost m) (IsUpTo (pos m)) (λ a o. record { low = o.low; high = o.high })
    rows h

-- an integer that is no more than a natural number
pub at_most : (m : ℕ) (rows : List (List ℤ)) (b : ℤ) → All (λ x. All (IsUpTo b) x) rows → b ≤ℤ pos m
    → All (λ x. All (IsAtMost m) x) rows
at_most m rows b h le = each (IsUpTo b) (IsAtMost m)
    (λ a o. record { low = omega (arith, ints, o.low, le); high = omega (arith, ints, o.high, le) })
    rows h

-- a greater bound
pub wider : (rows : List (List ℤ)) (b c : ℤ) → All (λ x. All (IsUpTo b) x) rows → b ≤ℤ c
    → All (λ x. All (IsUpTo c) x) rows
wider rows b c h le = each (IsUpTo b) (IsUpTo c)
    (λ a o. record { low = omega (arith, ints, o.low, le); high = omega (arith, ints, o.high, le) })
    rows h

-- a bound told otherwise
pub bound_is : (rows : List (List ℤ)) (b c : ℤ) → All (λ x. All (IsUpTo b) x) rows → b ≡ c
    → All (λ x. All (IsUpTo c) x) rows
bound_is rows b c h e = rw e at h

module _ {X : Type 0} (places : X → List ℕ) (value : X → SetFunction) (xs : List X) (shift : List ℤ)
    (before after : List (List ℤ)) where
  -- the sum of min(z, 0), at some rows
  abbrev D : List (List ℤ) → ℤ
  D rows = deficit (length shift) (rest_at (meanings places value xs) rows shift)

  -- the sum of min(z, 0) rises to 0 at most
  pub spread_in_all : AreSpread (meanings places value xs) (length shift) shift before after
      → (b : ℤ) → All (λ x. All (IsUpTo b) x) before
      → All (λ x. All (IsUpTo (b -ℤ D before)) x) after
  spread_in_all spread b h =
      let up = deficit_not_above (length shift) (rest_at (meanings places value xs) after shift) in
      wider after (b +ℤ (D after -ℤ D before)) (b -ℤ D before) (spread b h)
      (omega (arith, ints, up))

  -- entries that are small at first stay so, where the shift is small too
  pub small_after : All (λ x. All (IsAtMost (2 * 10 ^ 18)) x) before
      → sum (map length (map places xs)) ≤ 16384 → magnitudes shift ≤ℤ pos (10 ^ 24)
      → ((b : ℤ) → All (λ x. All (IsUpTo b) x) before
      → All (λ x. All (IsUpTo (b -ℤ D before)) x) after)
      → All (λ x. All (IsAtMost (10 ^ 25)) x) after
  small_after small few shifts spread =
      let gap = deficit_by (2 * 10 ^ 18) (10 ^ 24) places value xs before shift small few shifts in
      at_most (10 ^ 25) after (pos (2 * 10 ^ 18) -ℤ D before)
      (spread (pos (2 * 10 ^ 18)) (up_to (2 * 10 ^ 18) before small)) (omega (arith, ints, gap))
