-- The exchanges at a base of a condition.
use Rattle.std.proofs.Common.{◌≡◌, ℕ, List, [], ◌∷◌, length, get_or, ℤ, pos, ◌+ℤ◌, ◌-ℤ◌, refl, arith}
use Rattle.std.proofs.lemmas.Int.{ints}
use Rattle.sfm_spec.specs.Terms.{times, IsBase, IsCapacity, IsUncapped, IsUnsplit}
use Rattle.sfm_spec.specs.Kinds.{need_value}
use Rattle.sfm_spec.proofs.Scaled.{times_allowed_back}
use Rattle.sfm_simple.specs.NeedLaws.{when_allowed, need_base, need_base_back}

-- from the first to the second any number can be moved
pub need-uncapped : (q : ℤ) (x : List ℤ) → length x ≡ 2 → IsBase (times q need_value) x
    → IsUncapped (times q need_value) x 0 1
need-uncapped q [] two base a low = absurd (omega arith)
need-uncapped q (b ∷ []) two base a low = absurd (omega arith)
need-uncapped q (b ∷ c ∷ d ∷ x) two base a low = absurd (omega arith)
need-uncapped q (b ∷ c ∷ []) two base a low =
    let h = need_base_back q (b ∷ c ∷ []) two base in
    need_base q ((b +ℤ a) ∷ (c -ℤ a) ∷ []) refl (omega (arith, ints, h.0))
    (omega (arith, ints, h.1))

pub need-unsplit : (q : ℤ) (k : ℕ) → IsUnsplit (times q need_value) k 0 1
need-unsplit q k s h allowed hu = when_allowed s (times_allowed_back q (need_value s) allowed) hu

-- from the second to the first as much as the first has
pub need-capacity : (q : ℤ) (x : List ℤ) → length x ≡ 2 → IsBase (times q need_value) x
    → IsCapacity (times q need_value) x 1 0 (get_or x 0 (pos 0))
need-capacity q [] two base = absurd (omega arith)
need-capacity q (b ∷ []) two base = absurd (omega arith)
need-capacity q (b ∷ c ∷ d ∷ x) two base = absurd (omega arith)
need-capacity q (b ∷ c ∷ []) two base =
    let h = need_base_back q (b ∷ c ∷ []) two base in
    record {
      reached = need_base q ((b -ℤ b) ∷ (c +ℤ b) ∷ []) refl (omega (arith, ints, h.0))
          (omega (arith, ints, h.1));
      greatest = λ a moved. let g = need_base_back q ((b -ℤ a) ∷ (c +ℤ a) ∷ []) refl
          moved in omega (arith, ints, g.0);
    }
