-- The layers of a rank of three elements with weights.
use Rattle.std.specs.Prelude.{◌≡◌, List, [], ◌∷◌, ℤ, pos}
use Rattle.sfm_kind.specs.Meanings.{kind_places, factor_of}
use Rattle.sfm_kind.specs.Layers.{IsRankKind, AreLayers}
use Rattle.sfm_kind.specs.declared.kind.Kind.{Kind}

-- the weights of the three elements
abbrev pub three_weights : List ℤ
three_weights = pos 3 ∷ pos 1 ∷ pos 1 ∷ []

-- a rank of the first three elements, of which each independent one counts 1
pub record IsOfThree (rank : Kind) : Type 0 where
  pub kind : IsRankKind rank
  pub places : kind_places rank ≡ 0 ∷ 1 ∷ 2 ∷ []
  pub number : factor_of rank ≡ pos 1

-- the layers of such a rank with the three weights
abbrev pub AreThreeWeighed : List Kind → Type 0
AreThreeWeighed layers = (rank : Kind) × IsOfThree rank × AreLayers rank three_weights layers
