-- The exchanges at a base of a cut.
use Rattle.std.proofs.Common.{◌≡◌, List, [], ◌∷◌, length, get_or, ℤ, pos, ◌+ℤ◌, ◌-ℤ◌, ◌*ℤ◌, refl, arith}
use Rattle.std.proofs.lemmas.Int.{ints}
use Rattle.sfm_spec.specs.Terms.{times, IsBase, IsCapacity}
use Rattle.sfm_spec.specs.Kinds.{cut_value}
use Rattle.sfm_simple.specs.CutLaws.{cut_base, cut_base_back}

-- from the first to the second what is left of q·c
pub cut-capacity_up : (q c : ℤ) (x : List ℤ) → length x ≡ 2 → IsBase (times q (cut_value c)) x
    → IsCapacity (times q (cut_value c)) x 0 1 ((q *ℤ c) -ℤ get_or x 0 (pos 0))
cut-capacity_up q c [] two base = absurd (omega arith)
cut-capacity_up q c (b ∷ []) two base = absurd (omega arith)
cut-capacity_up q c (b ∷ d ∷ e ∷ x) two base = absurd (omega arith)
cut-capacity_up q c (b ∷ d ∷ []) two base =
    let h = cut_base_back q c (b ∷ d ∷ []) two base in
    let a : ℤ = (q *ℤ c) -ℤ b in
    let same : (b +ℤ a) ≡ (q *ℤ c) = omega (arith, ints) in
    record {
      reached = cut_base q c ((b +ℤ a) ∷ (d -ℤ a) ∷ []) refl
          (omega (arith, ints, h.low, h.high, same)) (omega (arith, ints, same))
          (omega (arith, ints, h.sum));
      greatest = λ r moved. let g = cut_base_back q c ((b +ℤ r) ∷ (d -ℤ r) ∷ []) refl
          moved in omega (arith, ints, g.high);
    }

-- from the second to the first as much as the first has
pub cut-capacity_down : (q c : ℤ) (x : List ℤ) → length x ≡ 2 → IsBase (times q (cut_value c)) x
    → IsCapacity (times q (cut_value c)) x 1 0 (get_or x 0 (pos 0))
cut-capacity_down q c [] two base = absurd (omega arith)
cut-capacity_down q c (b ∷ []) two base = absurd (omega arith)
cut-capacity_down q c (b ∷ d ∷ e ∷ x) two base = absurd (omega arith)
cut-capacity_down q c (b ∷ d ∷ []) two base =
    let h = cut_base_back q c (b ∷ d ∷ []) two base in
    let none : (b -ℤ b) ≡ pos 0 = omega (arith, ints) in
    record {
      reached = cut_base q c ((b -ℤ b) ∷ (d +ℤ b) ∷ []) refl (omega (arith, ints, none))
          (omega (arith, ints, none, h.low, h.high)) (omega (arith, ints, h.sum));
      greatest = λ r moved. let g = cut_base_back q c ((b -ℤ r) ∷ (d +ℤ r) ∷ []) refl
          moved in omega (arith, ints, g.low);
    }
