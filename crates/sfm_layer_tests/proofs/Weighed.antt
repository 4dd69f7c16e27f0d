-- What the layers of a rank of three elements with weights need of an instance.
use Rattle.std.proofs.Common.{◌≡◌, ℕ, zero, suc, ◌<◌, ◌≤◌, Bool, true, false, List, [], ◌∷◌, ◌++◌, length, get_or, Contains, ℤ, pos, ◌+ℤ◌, ◌*ℤ◌, ◌≤ℤ◌, ◌<ℤ◌, if◌then◌else◌, sym, ap, subst, arith}
use Rattle.std.specs.List.{All}
use Rattle.std.proofs.lemmas.Int.{ints}
use Rattle.std.proofs.lemmas.List.Elements.{All-head, All-tail}
use Rattle.sfm_spec.specs.Sets.{sum_over}
use Rattle.sfm_spec.specs.Bounds.{total_of}
use Rattle.sfm_layers.specs.Weights.{IsGreatestWeight, AreLevels}
use Rattle.sfm_kind.specs.Meanings.{IsIndependentIn}
use Rattle.sfm_kind.specs.Instance.{support_of}
use Rattle.sfm_kind.specs.Limits.{AreInBounds, HasRoomFor, total_size_of}
use Rattle.sfm_kind.specs.declared.kind.Kind.{Kind}
use Rattle.sfm_kind.proofs.Levels.{levels-one}
use Rattle.sfm_kind.proofs.Brought.{AreWeightsOf, layers-bring, layers-fit}
use Rattle.sfm_layer_tests.specs.Weighed.{three_weights, AreThreeWeighed}

-- a set weighs what all places weigh at most
pub weighs-most : (s : List Bool) (weights : List ℤ) → All (λ a. pos 1 ≤ℤ a) weights
    → (pos 0 ≤ℤ total_of weights) × (sum_over s weights ≤ℤ total_of weights)
weighs-most [] [] are = (omega (arith, ints), omega (arith, ints))
weighs-most (b ∷ s) [] are = (omega (arith, ints), omega (arith, ints))
weighs-most [] (w ∷ weights) are =
    let r = weighs-most [] weights (All-tail (λ a. pos 1 ≤ℤ a) w weights are) in
    let one = All-head (λ a. pos 1 ≤ℤ a) w weights are in
    (omega (arith, ints, r.0, one), omega (arith, ints, r.0, one))
weighs-most (b ∷ s) (w ∷ weights) are =
    let r = weighs-most s weights (All-tail (λ a. pos 1 ≤ℤ a) w weights are) in
    let one = All-head (λ a. pos 1 ≤ℤ a) w weights are in
    (omega (arith, ints, r.0, one), at b r.1 one) where
      at : (b : Bool) → sum_over s weights ≤ℤ total_of weights → pos 1 ≤ℤ w
          → ((if b then w else pos 0) +ℤ sum_over s weights) ≤ℤ (w +ℤ total_of weights)
      at true r one = omega (arith, ints, r)
      at false r one = omega (arith, ints, r, one)

-- so does a greatest independent part
pub greatest-most : (IsIndependent : List Bool → Type 0) (weights : List ℤ) (s : List Bool) (r : ℤ)
    → All (λ a. pos 1 ≤ℤ a) weights → IsGreatestWeight IsIndependent weights s r
    → r ≤ℤ total_of weights
greatest-most IsIndependent weights s r are is =
    let (t, same, within, independent, weighs) = is.reached in
    let most = (weighs-most t weights are).1 in
    rw weighs at most

-- one times a number
pub once : (r : ℤ) → (pos 1 *ℤ r) ≡ r
once r = omega (arith, ints)

-- the levels of the three weights
abbrev three_levels : List ℤ
three_levels = pos 3 ∷ pos 1 ∷ []

three-levels : AreLevels three_weights three_levels
three-levels = record {
  falling = falling;
  all = λ v. (to v, from v);
} where
  falling : (i j : ℕ) → i < j → j < 2 → get_or three_levels j (pos 0) <ℤ get_or three_levels i
      (pos 0)
  falling zero (suc zero) lt l = omega (arith, ints)
  falling zero zero lt l = absurd (omega (arith, lt))
  falling (suc i) (suc zero) lt l = absurd (omega (arith, lt))
  falling (suc i) zero lt l = absurd (omega (arith, lt))
  falling i (suc (suc j)) lt l = absurd (omega (arith, l))

  to : (v : ℤ) → Contains three_weights v → Contains three_levels v
  to v (zero, l, is) = (0, omega arith, is)
  to v (suc zero, l, is) = (1, omega arith, is)
  to v (suc (suc zero), l, is) = (1, omega arith, is)
  to v (suc (suc (suc k)), l, is) = absurd (omega (arith, l))

  from : (v : ℤ) → Contains three_levels v → Contains three_weights v
  from v (zero, l, is) = (0, omega arith, is)
  from v (suc zero, l, is) = (1, omega arith, is)
  from v (suc (suc k), l, is) = absurd (omega (arith, l))

three-positive : All (λ a. pos 1 ≤ℤ a) three_weights
three-positive zero d l = omega (arith, ints)
three-positive (suc zero) d l = omega (arith, ints)
three-positive (suc (suc zero)) d l = omega (arith, ints)
three-positive (suc (suc (suc k))) d l = absurd (omega (arith, l))

three-below : (n : ℕ) → 3 ≤ n → All (λ e. e < n) (0 ∷ 1 ∷ 2 ∷ [])
three-below n le zero d l = omega (arith, le)
three-below n le (suc zero) d l = omega (arith, le)
three-below n le (suc (suc zero)) d l = omega (arith, le)
three-below n le (suc (suc (suc k))) d l = absurd (omega (arith, l))

-- the layers of a rank of three elements fit where there is room for four places and a size of five
pub three-fit : (n : ℕ) (terms layers : List Kind) → AreThreeWeighed layers → n ≡ 3
    → AreInBounds n terms → HasRoomFor terms 4 (pos 5) → AreInBounds n (terms ++ layers)
three-fit n terms layers (rank, of, are) three bounded room =
    let h : AreWeightsOf rank three_weights = record {
      kind = of.kind;
      each = sym (ap length of.places);
      positive = three-positive;
    } in
    let brings = layers-bring rank three_weights h layers are in
    let ((levels, at, places), (r, is, total)) = brings in
    let same = levels-one three_weights levels three_levels three-positive at three-levels in
    let count : support_of layers ≡ 4 = rw same at places in
    let most : r ≤ℤ pos 5 = greatest-most (IsIndependentIn rank) three_weights _ r three-positive
    is in
    let worth : total_size_of layers ≡ (pos 1 *ℤ r) = rw of.number at total in
    let one = once r in
    let few = room.few_places in
    let small = room.small in
    layers-fit rank three_weights h n terms layers (support_of layers) (total_size_of layers) are
    brings bounded (subst (λ l. All (λ e. e < n) l) (sym of.places)
    (three-below n (omega (arith, three))))
    (omega (arith, few, count)) (omega (arith, ints, small, most, worth, one))
