-- Places that are taken one after another while their slots suffice, with the split that tells
-- this.
use Rattle.std.specs.Prelude.{◌≡◌, ℕ, ◌<◌, Bool, List, length, pos}
use Rattle.std.specs.List.{All}
use Rattle.sfm_assign.specs.Splits.{Demands}
use Rattle.sfm_rank.specs.Terms.{at_places}
use Rattle.sfm_matroid.specs.Notes.{slot_demands}
use Rattle.sfm_matroid.specs.Slots.{suited}

-- the places of s below n that are taken, and their split over slots that hold 1 each
pub record IsMatchedTo (entries : List (List ℕ)) (s : List Bool) (n : ℕ) (t : List Bool)
    (d : Demands) : Type 0 where
  pub m : ℕ
  pub below : All (All (λ v. v < m)) entries
  pub places : length t ≡ length entries
  pub taken : t ≡ suited entries s n
  pub split : d ≡ slot_demands entries m (pos 1) (at_places (pos 1) t)
