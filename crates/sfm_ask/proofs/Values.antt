-- Values of a sum lie within the sizes of its terms together, so any two differ by less than the
-- penalty; and with that penalty no number on the way is great.
use Rattle.std.proofs.Common.{◌≡◌, ℕ, zero, suc, ◌+◌, ◌*◌, ◌<◌, ◌≤◌, ◌^◌, Bool, true, false, List, [], ◌∷◌, length, get_or, nat_abs, FitsSigned, ℤ, pos, negsuc, neg_ℤ, ◌+ℤ◌, ◌-ℤ◌, ◌*ℤ◌, ◌≤ℤ◌, ◌<ℤ◌, refl, arith}
use Rattle.std.proofs.lemmas.Int.{ints}
use Rattle.std.proofs.lemmas.List.{length-map}
use mir.Syntax.{w128}
use Rattle.sfm_spec.specs.Sets.{magnitudes, part}
use Rattle.sfm_spec.specs.Bounds.{IsAtMost}
use Rattle.sfm_spec.specs.Families.{meanings, IsAllowed, sum_at}
use Rattle.sfm_spec.proofs.Tight.{some_of}
use Rattle.sfm_spec.proofs.Lattice.{value_is}
use Rattle.sfm_kind.specs.declared.kind.Kind.{Kind}
use Rattle.sfm_kind.specs.Kinds.{kind_places, kind_value, kind-bounded}
use Rattle.sfm_kind.specs.Limits.{AreInBounds, total_size_of}
use Rattle.sfm_kind.specs.Instance.{InstanceData}
use Rattle.sfm_kind.proofs.Bounds.{total_size-low}
use Rattle.sfm_ask.specs.Shifts.{shift_for, shift_of_pins}
use Rattle.sfm_ask.specs.Asking.{penalty_of}
use Rattle.sfm_ask.proofs.Penalties.{promised}

-- the value of an allowed set is within the sizes of the terms together
pub sum-within : (kinds : List Kind) (s : List Bool)
    → IsAllowed (meanings kind_places kind_value kinds) s
    → (neg_ℤ (total_size_of kinds) ≤ℤ sum_at (meanings kind_places kind_value kinds) s)
    × (sum_at (meanings kind_places kind_value kinds) s ≤ℤ total_size_of kinds)
sum-within [] s allowed = (omega (arith, ints), omega (arith, ints))
sum-within (kind ∷ kinds) s allowed =
    let (a, e) = some_of (kind_value kind (part (kind_places kind) s)) allowed.0 in
    let b = kind-bounded kind (part (kind_places kind) s) a (length-map (kind_places kind) _) e in
    let r = sum-within kinds s allowed.1 in
    let v = value_is (kind_value kind (part (kind_places kind) s)) a e in
    (omega (arith, ints, b, r, v), omega (arith, ints, b, r, v))

-- values of two allowed sets differ by less than the penalty
pub less-than-penalty : (instance : InstanceData) (s t : List Bool)
    → IsAllowed (meanings kind_places kind_value instance.terms) s
    → IsAllowed (meanings kind_places kind_value instance.terms) t
    → (sum_at (meanings kind_places kind_value instance.terms) s
    -ℤ sum_at (meanings kind_places kind_value instance.terms) t) <ℤ penalty_of instance
less-than-penalty instance s t from onto =
    let b = sum-within instance.terms s from in
    let c = sum-within instance.terms t onto in
    omega (arith, ints, b, c)

-- the penalty is positive and small
pub record IsPenalty (m : ℤ) : Type 0 where
  pub low : pos 1 ≤ℤ m
  pub high : m ≤ℤ pos (2 * 10 ^ 18 + 1)

pub penalty-small : (n : ℕ) (instance : InstanceData) → AreInBounds n instance.terms
    → IsPenalty (penalty_of instance)
penalty-small n instance bounded =
    let low = total_size-low instance.terms in
    let high = bounded.small in
    record { low = omega (arith, ints, low); high = omega (arith, ints, high) }

shift-one : (m : ℤ) → IsPenalty m → (is_in is_out : Bool)
    → pos (nat_abs (shift_for m is_in is_out)) ≤ℤ pos (3 * 10 ^ 18)
shift-one m h is_in is_out = abs-within (shift_for m is_in is_out) (low is_in is_out)
    (high is_in is_out) where
      abs-within : (z : ℤ) → neg_ℤ (pos (3 * 10 ^ 18)) ≤ℤ z → z ≤ℤ pos (3 * 10 ^ 18)
          → pos (nat_abs z) ≤ℤ pos (3 * 10 ^ 18)
      abs-within (pos n) low high = high
      abs-within (negsuc n) low high = omega (arith, ints, low)

      low : (is_in is_out : Bool) → neg_ℤ (pos (3 * 10 ^ 18)) ≤ℤ shift_for m is_in is_out
      low true true = omega (arith, ints, h.low, h.high)
      low true false = omega (arith, ints, h.low, h.high)
      low false true = omega (arith, ints, h.low, h.high)
      low false false = omega (arith, ints, h.low, h.high)

      high : (is_in is_out : Bool) → shift_for m is_in is_out ≤ℤ pos (3 * 10 ^ 18)
      high true true = omega (arith, ints, h.low, h.high)
      high true false = omega (arith, ints, h.low, h.high)
      high false true = omega (arith, ints, h.low, h.high)
      high false false = omega (arith, ints, h.low, h.high)

-- the magnitudes of the shift add to at most so much for each element
shift-magnitudes : (m : ℤ) → IsPenalty m → (inside outside : List Bool)
    → magnitudes (shift_of_pins m inside outside) ≤ℤ pos (3 * 10 ^ 18 * length inside)
shift-magnitudes m h [] outside = omega (arith, ints)
shift-magnitudes m h (is_in ∷ inside) [] = omega (arith, ints)
shift-magnitudes m h (is_in ∷ inside) (is_out ∷ outside) =
    let one = shift-one m h is_in is_out in
    let r = shift-magnitudes m h inside outside in
    omega (arith, ints, one, r)

-- of few elements, so to little
pub shift-small : (m : ℤ) → IsPenalty m → (inside outside : List Bool) → length inside ≤ 256
    → magnitudes (shift_of_pins m inside outside) ≤ℤ pos (10 ^ 27)
shift-small m h inside outside few =
    let r = shift-magnitudes m h inside outside in
    omega (arith, ints, r, few)

pub shift-length : (m : ℤ) (inside outside : List Bool) → length outside ≡ length inside
    → length (shift_of_pins m inside outside) ≡ length inside
shift-length m [] outside same = omega arith
shift-length m (is_in ∷ inside) [] same = absurd (omega (arith, same))
shift-length m (is_in ∷ inside) (is_out ∷ outside) same =
    let r = shift-length m inside outside (omega (arith, same)) in omega (arith, r)

pub shift-at : (m : ℤ) (inside outside : List Bool) (e : ℕ) → e < length inside
    → e < length outside → get_or (shift_of_pins m inside outside) e (pos 0)
    ≡ shift_for m (get_or inside e false) (get_or outside e false)
shift-at m [] outside e i o = absurd (omega (arith, i))
shift-at m (is_in ∷ inside) [] e i o = absurd (omega (arith, o))
shift-at m (is_in ∷ inside) (is_out ∷ outside) zero i o = refl
shift-at m (is_in ∷ inside) (is_out ∷ outside) (suc e) i o =
    shift-at m inside outside e (omega (arith, i)) (omega (arith, o))

-- what is promised is little
promised-each : (m : ℤ) → IsPenalty m → (inside : List Bool)
    → (pos 0 ≤ℤ promised m inside) × (promised m inside ≤ℤ pos (3 * 10 ^ 18 * length inside))
promised-each m h [] = (omega (arith, ints), omega (arith, ints))
promised-each m h (true ∷ inside) =
    let r = promised-each m h inside in
    (omega (arith, ints, r, h.low), omega (arith, ints, r, h.high))
promised-each m h (false ∷ inside) =
    let r = promised-each m h inside in
    (omega (arith, ints, r), omega (arith, ints, r))

pub promised-small : (m : ℤ) → IsPenalty m → (inside : List Bool) → length inside ≤ 256
    → (pos 0 ≤ℤ promised m inside) × (promised m inside ≤ℤ pos (10 ^ 27))
promised-small m h inside few =
    let r = promised-each m h inside in
    (r.0, omega (arith, ints, r.1, few))

-- the shift of an element fits
pub shift-fits : (m : ℤ) → IsAtMost (10 ^ 20) m → (is_in is_out : Bool)
    → FitsSigned w128 (shift_for m is_in is_out)
shift-fits m h true true = omega (arith, ints, h.low, h.high)
shift-fits m h true false = omega (arith, ints, h.low, h.high)
shift-fits m h false true = omega (arith, ints, h.low, h.high)
shift-fits m h false false = omega (arith, ints)

-- the penalty is formed without a great number
pub record IsFormedFrom (instance : InstanceData) (total : ℤ) : Type 0 where
  pub total_fits : FitsSigned w128 total
  pub twice_fits : FitsSigned w128 (pos 2 *ℤ total)
  pub fits : FitsSigned w128 ((pos 2 *ℤ total) +ℤ pos 1)
  pub is : ((pos 2 *ℤ total) +ℤ pos 1) ≡ penalty_of instance

pub penalty-formed : (n : ℕ) (instance : InstanceData) (total : ℤ) → AreInBounds n instance.terms
    → total ≡ total_size_of instance.terms → IsFormedFrom instance total
penalty-formed n instance total bounded e =
    let low = total_size-low instance.terms in
    let high = bounded.small in
    record {
      total_fits = omega (arith, ints, e, low, high);
      twice_fits = omega (arith, ints, e, low, high);
      fits = omega (arith, ints, e, low, high);
      is = omega (arith, ints, e);
    }
