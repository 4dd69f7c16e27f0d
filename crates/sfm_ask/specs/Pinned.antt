-- The least value of a sum among the sets that have some elements and lack some others, and the text that tells it.
use Rattle.std.specs.Prelude.{◌≡◌, ◌⊎◌, ℕ, Bool, List, [], ◌∷◌, ◌++◌, length, codes, ◌≤ℤ◌}
use Rattle.std.specs.Fmt.{signed_decimal}
use Rattle.sfm_spec.specs.Sets.{Has, IsWithin}
use Rattle.sfm_spec.specs.Families.{Meaning, IsAllowed, sum_at}
use Rattle.sfm_cert.specs.Answer.{listed, text_of}
use Rattle.sfm_side.specs.Pins.{PinData}

-- an allowed set that has all of the one set and none of the other
pub record IsPinned (terms : List Meaning) (n : ℕ) (inside outside s : List Bool) : Type 0 where
  pub places : length s ≡ n
  pub allowed : IsAllowed terms s
  pub has : IsWithin inside s
  pub lacks : (e : ℕ) → Has outside e → Has s e → ⊥

-- the least and the greatest of those sets of which the sum of the terms is least
pub record ArePinned (terms : List Meaning) (n : ℕ) (inside outside least greatest : List Bool) : Type 0 where
  pub low : IsPinned terms n inside outside least
  pub high : IsPinned terms n inside outside greatest
  pub minimum : (t : List Bool) → IsPinned terms n inside outside t → sum_at terms least ≤ℤ sum_at terms t
  pub same : sum_at terms greatest ≡ sum_at terms least
  pub between : (t : List Bool) → IsPinned terms n inside outside t → sum_at terms t ≡ sum_at terms least
      → IsWithin least t × IsWithin t greatest

-- the text on pinned members: the least value with the extreme sets that attain it, or that there is no such set
abbrev pub IsAnswered : List (List ℕ) → List Meaning → PinData → List ℕ → Type 0
IsAnswered names meant pins written =
    (((s : List Bool) → IsPinned meant (length names) pins.inside pins.outside s → ⊥)
    × (written ≡ codes "none\n"))
    ⊎ ((least : List Bool) × (greatest : List Bool)
    × ArePinned meant (length names) pins.inside pins.outside least greatest
    × (written ≡ text_of (codes "pinned 1" ∷ (codes "minimum " ++ signed_decimal (sum_at meant least))
    ∷ (codes "least" ++ listed names least) ∷ (codes "greatest" ++ listed names greatest)
    ∷ codes "end" ∷ [])))
