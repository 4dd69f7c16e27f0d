-- A rank over some of its elements alone, as the calls that make the layers of a rank tell it.
-- Textbook: Schrijver, Combinatorial Optimization, section 39 (restrictions of a matroid).
use Rattle.std.specs.Prelude.{◌≡◌, ◌↔◌, ◌⊎◌, ℕ, suc, ◌<◌, Bool, List, length, slice_index_or, ℤ, pos, ◌-ℤ◌, ◌*ℤ◌}
use Rattle.sfm_spec.specs.Sets.{size}
use Rattle.sfm_spec.specs.Laws.{ones}
use Rattle.sfm_layers.specs.Weights.{IsGreatestWeight, at_least}
use Rattle.sfm_layers.specs.Kept.{kept, spread}
use Rattle.sfm_laminar.specs.Cut.{cut_groups}
use Rattle.sfm_kind.specs.Meanings.{kind_places, IsIndependentIn, factor_of}
use Rattle.sfm_kind.specs.Layers.{IsRankKind, IsLayer}
use Rattle.sfm_kind.specs.declared.kind.Kind.{Kind}
use Rattle.sfm_kind.specs.declared.kind.Kind.TheVariants.{Uniform, Laminar, Graphic, Transversal}

-- the same rank over the kept elements alone, which each count w
pub record IsRestricted (rank : Kind) (keep : List Bool) (w : ℤ) (part : Kind) : Type 0 where
  pub kind : IsRankKind part
  pub places : kind_places part ≡ kept keep (kind_places rank)
  pub factor : factor_of part ≡ w
  pub alike : (u : List Bool) → length u ≡ size keep → IsIndependentIn part u
      ↔ IsIndependentIn rank (spread keep u)

-- that rank by its data
abbrev pub IsKeptPart : Kind → List Bool → ℤ → Kind → Type 0
IsKeptPart (Uniform term) keep w (Uniform part) = (part.places ≡ kept keep term.places)
    × (part.w ≡ w) × (part.cap ≡ term.cap)
IsKeptPart (Laminar term) keep w (Laminar part) = (part.places ≡ kept keep term.places)
    × (part.w ≡ w) × (part.groups ≡ cut_groups keep term.groups)
IsKeptPart (Graphic term) keep w (Graphic part) = (part.places ≡ kept keep term.places)
    × (part.w ≡ w) × (part.ends ≡ kept keep term.ends)
IsKeptPart (Transversal term) keep w (Transversal part) = (part.places ≡ kept keep term.places)
    × (part.w ≡ w) × (part.entries ≡ kept keep term.entries)
IsKeptPart _ keep w _ = ⊥

-- r of the kept elements are independent together, and no more are
abbrev pub IsRankOver : Kind → List Bool → ℤ → Type 0
IsRankOver rank keep r = IsGreatestWeight (IsIndependentIn rank) (ones (length keep)) keep r

-- what each element of a layer counts: the rank's number times the step down to the next level, or
-- 0 where no kept element is independent
abbrev pub IsLayerFactor : Kind → List Bool → ℤ → ℤ → Type 0
IsLayerFactor rank keep step w = (w ≡ (factor_of rank *ℤ step))
    ⊎ ((w ≡ pos 0) × IsRankOver rank keep (pos 0))

-- the level that stands behind level j, or 0 behind the last
abbrev pub level_behind : List ℤ → ℕ → ℤ
level_behind levels j = slice_index_or levels (suc j) (pos 0)

-- the layers of the first levels
pub record AreLayersOf (rank : Kind) (weights levels : List ℤ) (count : ℕ)
    (layers : List Kind) : Type 0 where
  pub count_is : length layers ≡ count
  pub each : (j : ℕ) (layer : Kind) → j < count → slice_index_or layers j layer ≡ layer
      → IsLayer rank weights (slice_index_or levels j (pos 0)) (level_behind levels j) layer

-- what the layer of a level brings: its places, and what all its elements are worth
pub record IsLevelWeighed (rank : Kind) (weights : List ℤ) (v next : ℤ) (places : ℕ)
    (total : ℤ) : Type 0 where
  pub places_are : places ≡ size (at_least v weights)
  pub worth : (r : ℤ) × IsRankOver rank (at_least v weights) r
      × (total ≡ ((factor_of rank *ℤ (v -ℤ next)) *ℤ r))
