-- The value of a sum of terms is small, as their sizes add up to little.
use Rattle.std.proofs.Common.{ℕ, Bool, List, [], ◌∷◌, map, ℤ, pos, neg_ℤ, ◌≤ℤ◌, arith}
use Rattle.std.proofs.lemmas.Int.{ints}
use Rattle.std.proofs.lemmas.List.{length-map}
use Rattle.sfm_spec.specs.Sets.{part}
use Rattle.sfm_spec.specs.Bounds.{IsEntry, total_of}
use Rattle.sfm_spec.specs.Families.{meanings, IsAllowed, shifted_at, sized_shift, sum_at}
use Rattle.sfm_spec.proofs.Tight.{some_of}
use Rattle.sfm_spec.proofs.Lattice.{value_is}
use Rattle.sfm_spec.proofs.Nest.{shifted-sized}
use Rattle.sfm_kind.specs.declared.kind.Kind.{Kind}
use Rattle.sfm_kind.specs.Limits.{AreInBounds}
use Rattle.sfm_kind.specs.Kinds.{kind_places, kind_size, kind_value, kind-bounded}

pub sum_small : (ts : List Kind) (s : List Bool) → IsAllowed (meanings kind_places kind_value ts) s
    → (neg_ℤ (total_of (map kind_size ts)) ≤ℤ sum_at (meanings kind_places kind_value ts) s)
    × (sum_at (meanings kind_places kind_value ts) s ≤ℤ total_of (map kind_size ts))
sum_small [] s allowed = (omega (arith, ints), omega (arith, ints))
sum_small (t ∷ ts) s allowed =
    let (a, e) = some_of (kind_value t (part (kind_places t) s)) allowed.0 in
    let b = kind-bounded t (part (kind_places t) s) a (length-map (kind_places t) _) e in
    let r = sum_small ts s allowed.1 in
    let v = value_is (kind_value t (part (kind_places t) s)) a e in
    (omega (arith, ints, b, r, v), omega (arith, ints, b, r, v))

-- the value at 0/1 of an allowed set
pub value_small : (n : ℕ) (sizes : List ℤ) (ts : List Kind) (s : List Bool) → AreInBounds n ts
    → IsAllowed (meanings kind_places kind_value ts) s
    → IsEntry (shifted_at (meanings kind_places kind_value ts) (pos 1) (sized_shift sizes (pos 0))
    s)
value_small n sizes ts s bounded allowed =
    let r = sum_small ts s allowed in
    let z = shifted-sized (meanings kind_places kind_value ts) sizes (pos 0) (pos 1) s in
    let m = bounded.small in
    record { low = omega (arith, ints, r, z, m); high = omega (arith, ints, r, z, m) }
