-- What is told of pinned members, as the calls give it, and how it is written.
use Rattle.std.specs.Prelude.{◌≡◌, ℕ, Bool, List, [], ◌∷◌, ◌++◌, length, codes, ℤ, pos, ◌+ℤ◌, ◌*ℤ◌, ◌≤ℤ◌}
use Rattle.std.specs.Fmt.{signed_decimal}
use Rattle.sfm_spec.specs.Bounds.{IsEntry}
use Rattle.sfm_spec.specs.Sets.{IsWithin}
use Rattle.sfm_spec.specs.Families.{Meaning, IsLeast, IsGreatest, meanings, shifted_at, sum_at}
use Rattle.sfm_kind.specs.Kinds.{kind_places, kind_value}
use Rattle.sfm_kind.specs.Instance.{InstanceData}
use Rattle.sfm_kind.specs.Limits.{total_size_of}
use Rattle.sfm_cert.specs.Answer.{listed, text_of}
use Rattle.sfm_extreme.specs.declared.extremes.Proved.{Proved}
use Rattle.sfm_side.specs.Pins.{PinData}
use Rattle.sfm_ask.specs.declared.asking.Asked.{Asked}
use Rattle.sfm_ask.specs.declared.asking.Asked.TheVariants.{Best, Nothing}
use Rattle.sfm_ask.specs.Pinned.{IsPinned}

-- a set of which the sum of the terms is least among those that are pinned so
pub record IsPinnedMinimiser (terms : List Meaning) (n : ℕ) (inside outside s : List Bool) : Type 0
  where
    pub pinned : IsPinned terms n inside outside s
    pub least : (t : List Bool) → IsPinned terms n inside outside t
        → sum_at terms s ≤ℤ sum_at terms t

-- the least value, with the least and the greatest set that attain it
pub record IsPinnedMinimum (terms : List Meaning) (n : ℕ) (inside outside : List Bool) (value : ℤ)
    (least greatest : List Bool) : Type 0 where
  pub low : IsPinnedMinimiser terms n inside outside least
  pub high : IsPinnedMinimiser terms n inside outside greatest
  pub value_is : value ≡ sum_at terms least
  pub between : (t : List Bool) → IsPinnedMinimiser terms n inside outside t
      → IsWithin least t × IsWithin t greatest

-- the least value with its extreme sets, or nothing where no set is pinned
abbrev pub IsAskedOf : List Meaning → ℕ → PinData → Asked → Type 0
IsAskedOf terms n pins (Best best) =
    IsPinnedMinimum terms n pins.inside pins.outside best.value best.least best.greatest
IsAskedOf terms n pins Nothing =
    (s : List Bool) → IsPinned terms n pins.inside pins.outside s → ⊥

-- both sets have n places, and the value is an entry
abbrev pub IsWritable : ℕ → Asked → Type 0
IsWritable n (Best best) =
    (length best.least ≡ n) × (length best.greatest ≡ n) × IsEntry best.value
IsWritable n Nothing = Unit {0}

-- the text that tells it
abbrev pub text_of_asked : List (List ℕ) → Asked → List ℕ
text_of_asked names (Best best) = text_of (codes "pinned 1"
    ∷ (codes "minimum " ++ signed_decimal best.value)
    ∷ (codes "least" ++ listed names best.least)
    ∷ (codes "greatest" ++ listed names best.greatest) ∷ codes "end" ∷ [])
text_of_asked names Nothing = codes "none\n"

-- what a set pays for each pin that it breaks: more than any two values of the sum differ
abbrev pub penalty_of : InstanceData → ℤ
penalty_of instance = pos 2 *ℤ total_size_of instance.terms +ℤ pos 1

-- the extreme minimisers of the sum less a shift, and their value
pub record IsFoundAt (instance : InstanceData) (shift : List ℤ) (found : Proved) : Type 0 where
  pub least : IsLeast (meanings kind_places kind_value instance.terms) (length instance.names)
      (pos 1) shift found.least
  pub greatest : IsGreatest (meanings kind_places kind_value instance.terms)
      (length instance.names) (pos 1) shift found.greatest
  pub value : found.value ≡ shifted_at (meanings kind_places kind_value instance.terms) (pos 1)
      shift found.least
