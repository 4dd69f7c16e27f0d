-- What an exchange at a base of one term does to the rooms between its places. Textbook: Fujishige,
-- Submodular Functions and Optimization, section 2 (the dependence function) and section 4
-- (exchange capacities).
use Rattle.std.specs.Prelude.{◌≡◌, ◌↔◌, ◌⊎◌, ℕ, ◌<◌, Bool, List, length, ℤ, pos, ◌+ℤ◌, Some}
use Rattle.sfm_spec.specs.Sets.{Has, sum_over}
use Rattle.sfm_spec.specs.Terms.{SetFunction, IsBase, IsTight, IsTightSet, HasRoom, exchanged}

-- w is in the least tight set that has e: it is e, or e has room to w
abbrev pub Depends : SetFunction → List ℤ → ℕ → ℕ → Type 0
Depends f x e w = (w ≡ e) ⊎ HasRoom f x e w

-- least tight sets: each is what all tight sets with the place have in common
abbrev pub LeastTight : SetFunction → List ℤ → Type 0
LeastTight f x = (e w : ℕ) → e < length x → w < length x → Depends f x e w
    ↔ ((r : List Bool) → IsTightSet f x r → Has r e → Has r w)

-- with s raised and t lowered by more than a there is a base still
abbrev pub HasMoreRoom : SetFunction → List ℤ → ℕ → ℕ → ℤ → Type 0
HasMoreRoom f x s t a = IsBase f (exchanged x s t (a +ℤ pos 1))

-- rows after an exchange: what depends on what once s is raised and t is lowered by a
pub record RowLaws (f : SetFunction) (x : List ℤ) (s t : ℕ) (a : ℤ) : Type 0 where
  -- a set is tight exactly where it was and has both places or neither, or where it has s and not t
  -- and had a left
  pub tight : (r : List Bool) → length r ≡ length x → IsTight f (exchanged x s t a) r
      ↔ ((IsTight f x r × (Has r s ↔ Has r t))
      ⊎ (Has r s × (Has r t → ⊥) × (f r ≡ Some (sum_over r x +ℤ a))))
  -- w comes to e only where t was with e, and w with s
  pub arises : (e w : ℕ) → e < length x → w < length x → Depends f (exchanged x s t a) e w
      → Depends f x e w ⊎ (Depends f x e t × Depends f x s w)
  -- s comes wherever t was
  pub follows : (e : ℕ) → e < length x → Depends f x e t → Depends f (exchanged x s t a) e s
  -- nothing changes where t was not
  pub untouched : (e w : ℕ) → e < length x → w < length x → (Depends f x e t → ⊥)
      → Depends f (exchanged x s t a) e w ↔ Depends f x e w
  -- nothing is lost where room is left
  pub kept : HasMoreRoom f x s t a → (e w : ℕ) → e < length x → w < length x → Depends f x e w
      → Depends f (exchanged x s t a) e w
  -- and then all that s had comes where t was
  pub joined : HasMoreRoom f x s t a → (e w : ℕ) → e < length x → w < length x → Depends f x e t
      → Depends f (exchanged x s t a) e w ↔ (Depends f x e w ⊎ Depends f x s w)
  -- so it is exactly where t stays
  pub stays : (e : ℕ) → e < length x → Depends f x e t
      → Depends f (exchanged x s t a) e t
      ↔ ((w : ℕ) → w < length x → Depends f (exchanged x s t a) e w
      ↔ (Depends f x e w ⊎ Depends f x s w))
  -- t leaves s where all room is used up
  pub gone : (HasMoreRoom f x s t a → ⊥) → Depends f (exchanged x s t a) s t → ⊥
