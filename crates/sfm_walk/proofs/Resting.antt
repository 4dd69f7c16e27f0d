-- z by what bases add up to.
use Rattle.std.proofs.Common.{◌≡◌, ℕ, ◌<◌, List, length, get_or, ℤ, pos, ◌-ℤ◌, ap, ◌∙◌}
use Rattle.sfm_spec.specs.Families.{Meaning}
use Rattle.sfm_law.specs.Rest.{IsRest}
use Rattle.sfm_exchange.specs.Sums.{AreSums}

-- the sums less the shift are z
pub rest_is : {terms : List Meaning} {rows : List (List ℤ)} {sums shift z : List ℤ}
    → AreSums terms (length shift) rows sums → length z ≡ length shift
    → ((e : ℕ) → e < length shift
    → get_or z e (pos 0) ≡ (get_or sums e (pos 0) -ℤ get_or shift e (pos 0)))
    → IsRest terms shift rows z
rest_is {shift = shift} are places exact = record {
  places = places;
  exact = λ e l. let le : e < length shift = rw places at l in exact e le
      ∙ ap (λ a. a -ℤ get_or shift e (pos 0)) (are.exact e le);
}
