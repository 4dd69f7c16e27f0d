-- The places of parts.
use Rattle.std.proofs.Common.{◌≡◌, ℕ, zero, suc, ◌<◌, Bool, false, List, [], ◌∷◌, length, get_or, refl, arith}
use Rattle.std.proofs.lemmas.Bool.{false≢true}
use Rattle.sfm_spec.specs.Sets.{Has, empty_set}

pub has_place : (s : List Bool) (v : ℕ) → Has s v → v < length s
has_place [] v h = absurd (false≢true h)
has_place (a ∷ s) zero h = omega arith
has_place (a ∷ s) (suc v) h = let r = has_place s v h in omega (arith, r)

pub none_in_empty : (n v : ℕ) → get_or (empty_set n) v false ≡ false
none_in_empty zero v = refl
none_in_empty (suc n) zero = refl
none_in_empty (suc n) (suc v) = none_in_empty n v
