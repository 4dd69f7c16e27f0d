-- The layers of a rank whose elements have weights: plain ranks over its elements of each weight or more, which add up to it.
-- Textbook: Schrijver, Combinatorial Optimization, section 40.
use Rattle.std.specs.Prelude.{◌≡◌, ℕ, Bool, List, [], ◌∷◌, length, map, sum, Option, Some, None, ℤ, pos, ◌-ℤ◌, ◌*ℤ◌, ◌≤ℤ◌}
use Rattle.sfm_spec.specs.Sets.{size, whole_set}
use Rattle.sfm_spec.specs.Laws.{ones}
use Rattle.sfm_spec.specs.Terms.{SetFunction}
use Rattle.sfm_layers.specs.Weights.{IsGreatestWeight, at_least, AreLevels, next_level}
use Rattle.sfm_layers.specs.Kept.{kept, spread}
use Rattle.sfm_kind.specs.Meanings.{kind_places, IsIndependentIn, factor_of, IsValueOf, size_by}
use Rattle.sfm_kind.specs.declared.kind.Kind.{Kind}
use Rattle.sfm_kind.specs.declared.kind.Kind.TheVariants.{Uniform, Laminar, Graphic, Transversal}

-- a rank
abbrev pub IsRankKind : Kind → Type 0
IsRankKind (Uniform term) = Unit {0}
IsRankKind (Laminar term) = Unit {0}
IsRankKind (Graphic term) = Unit {0}
IsRankKind (Transversal term) = Unit {0}
IsRankKind _ = ⊥

-- a rank over the elements of another that weigh v or more, which gives each part of them so much for each element of it that is
-- independent in that: its number times the step from v down to the next level
pub record IsLayer (rank : Kind) (weights : List ℤ) (v next : ℤ) (layer : Kind) : Type 0 where
  pub kind : IsRankKind layer
  pub places : kind_places layer ≡ kept (at_least v weights) (kind_places rank)
  pub value : SetFunction
  pub values : IsValueOf layer value
  pub each : (s : List Bool) → length s ≡ length (kind_places layer)
      → (r : ℤ) × IsGreatestWeight (IsIndependentIn rank) (ones (length weights)) (spread (at_least v weights) s) r
      × (value s ≡ Some ((factor_of rank *ℤ (v -ℤ next)) *ℤ r))

-- a layer for each level
abbrev pub AreLayersAt : Kind → List ℤ → List ℤ → List Kind → Type 0
AreLayersAt rank weights [] [] = Unit {0}
AreLayersAt rank weights (v ∷ levels) (layer ∷ layers) = IsLayer rank weights v (next_level levels) layer × AreLayersAt rank weights levels layers
AreLayersAt rank weights levels layers = ⊥

-- the layers of a rank with these weights, from the greatest weight down
abbrev pub AreLayers : Kind → List ℤ → List Kind → Type 0
AreLayers rank weights layers = (levels : List ℤ) × AreLevels weights levels × AreLayersAt rank weights levels layers

-- the terms of a line: one, or the layers of one whose elements have weights
abbrev pub AreTermsOf : Kind → Option (List ℤ) → List Kind → Type 0
AreTermsOf term None terms = terms ≡ term ∷ []
AreTermsOf term (Some weights) terms = AreLayers term weights terms

-- how many places a line has in all, and its size: those of its term; or of its layers together, and what all its elements are worth
abbrev pub Brings : Kind → Option (List ℤ) → ℕ → ℤ → Type 0
Brings term None places total = (places ≡ length (kind_places term)) × ((f : SetFunction) × IsValueOf term f × (total ≡ size_by term f))
Brings term (Some weights) places total = ((levels : List ℤ) × AreLevels weights levels × (places ≡ sum (map (λ v. size (at_least v weights)) levels)))
    × ((r : ℤ) × IsGreatestWeight (IsIndependentIn term) weights (whole_set (length weights)) r × (total ≡ (factor_of term *ℤ r)))

-- ---- what the calls ask for

-- a weight from 1 to so much
abbrev pub IsWeight : ℕ → ℤ → Type 0
IsWeight most a = (pos 1 ≤ℤ a) × (a ≤ℤ pos most)
