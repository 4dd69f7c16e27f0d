-- Over two places, what one reaches is told by its room to the other.
use Rattle.std.proofs.Common.{◌≡◌, ◌≢◌, ◌↔◌, ℕ, zero, suc, ◌-◌, ◌<◌, true, List, length, set, ℤ, pos, refl, sym, ◌∙◌, arith}
use Rattle.std.proofs.lemmas.Bool.{false≢true}
use Rattle.std.proofs.lemmas.Int.{ints}
use Rattle.sfm_spec.specs.Sets.{Has, empty_set}
use Rattle.sfm_spec.specs.Terms.{SetFunction, HasRoom}
use Rattle.sfm_law.specs.Room.{IsRoom, IsReach}
use Rattle.sfm_law.specs.declared.room.Room.{Room}
use Rattle.sfm_law.specs.declared.room.Room.TheVariants.{Upto, Unbounded}
use Rattle.sfm_simple.specs.Pairs.{IsOpen}

pub open_from_room : (f : SetFunction) (x : List ℤ) (u v : ℕ) (room : Room) → IsRoom f x u v room
    → HasRoom f x u v → IsOpen room
open_from_room f x u v (Upto a) is (b, least, moved) =
    let g = is.greatest b moved in omega (arith, ints, g, least)
open_from_room f x u v Unbounded is has = tt

pub room_from_open : (f : SetFunction) (x : List ℤ) (u v : ℕ) (room : Room) → IsRoom f x u v room
    → IsOpen room → HasRoom f x u v
room_from_open f x u v (Upto a) is some = (a, some, is.reached)
room_from_open f x u v Unbounded is some =
    (pos 1, omega (arith, ints), is.0 (pos 1) (omega (arith, ints)))

module _ (f : SetFunction) (x : List ℤ) (two : length x ≡ 2) (u n : ℕ) (ku : u < 2)
    (same : n ≡ length x) (room : Room) (is : IsRoom f x u (1 - u) room) where
  pub reach_other : IsOpen room → IsReach f x u (set (empty_set n) (1 - u) true)
  reach_other some = at u ku is refl where
    sized : n ≡ 2
    sized = same ∙ two

    at : (w : ℕ) → w < 2 → IsRoom f x w (1 - w) room → w ≡ u
        → IsReach f x u (set (empty_set n) (1 - u) true)
    at zero lt ir e = rw (← e, sized) (record { places = sym two; exact = exact }) where
      exact : (v : ℕ) → v < length x → Has (set (empty_set 2) 1 true) v
          ↔ ((v ≢ 0) × HasRoom f x 0 v)
      exact zero h = ((λ t. absurd (false≢true t)), (λ (ne, has). absurd (ne refl)))
      exact (suc zero) h = (
        (λ t. ((λ e. absurd (omega (arith, e))), room_from_open f x 0 1 room ir some)),
        (λ _. refl),
      )
      exact (suc (suc v)) h = absurd (omega arith)
    at (suc zero) lt ir e = rw (← e, sized) (record { places = sym two; exact = exact }) where
      exact : (v : ℕ) → v < length x → Has (set (empty_set 2) 0 true) v
          ↔ ((v ≢ 1) × HasRoom f x 1 v)
      exact zero h = (
        (λ t. ((λ e. absurd (omega (arith, e))), room_from_open f x 1 0 room ir some)),
        (λ _. refl),
      )
      exact (suc zero) h = ((λ t. absurd (false≢true t)), (λ (ne, has). absurd (ne refl)))
      exact (suc (suc v)) h = absurd (omega arith)
    at (suc (suc w)) lt ir e = absurd (omega arith)

  pub reach_none : (IsOpen room → ⊥) → IsReach f x u (empty_set n)
  reach_none shut = at u ku is refl where
    sized : n ≡ 2
    sized = same ∙ two

    at : (w : ℕ) → w < 2 → IsRoom f x w (1 - w) room → w ≡ u → IsReach f x u (empty_set n)
    at zero lt ir e = rw (← e, sized) (record { places = sym two; exact = exact }) where
      exact : (v : ℕ) → v < length x → Has (empty_set 2) v ↔ ((v ≢ 0) × HasRoom f x 0 v)
      exact zero h = ((λ t. absurd (false≢true t)), (λ (ne, has). absurd (ne refl)))
      exact (suc zero) h = (
        (λ t. absurd (false≢true t)),
        (λ (ne, has). absurd (shut (open_from_room f x 0 1 room ir has))),
      )
      exact (suc (suc v)) h = absurd (omega arith)
    at (suc zero) lt ir e = rw (← e, sized) (record { places = sym two; exact = exact }) where
      exact : (v : ℕ) → v < length x → Has (empty_set 2) v ↔ ((v ≢ 1) × HasRoom f x 1 v)
      exact zero h = (
        (λ t. absurd (false≢true t)),
        (λ (ne, has). absurd (shut (open_from_room f x 1 0 room ir has))),
      )
      exact (suc zero) h = ((λ t. absurd (false≢true t)), (λ (ne, has). absurd (ne refl)))
      exact (suc (suc v)) h = absurd (omega arith)
    at (suc (suc w)) lt ir e = absurd (omega arith)
