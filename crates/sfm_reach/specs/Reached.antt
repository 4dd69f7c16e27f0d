-- The places that links, or walks, lead to from some first places.
use Rattle.std.specs.Prelude.{◌≡◌, ◌↔◌, ℕ, ◌-◌, ◌<◌, max, Bool, List, length, ℤ}
use Rattle.sfm_spec.specs.Sets.{Has}
use Rattle.sfm_spec.specs.Families.{Meaning}
use Rattle.sfm_spec.specs.Reach.{IsClosed}
use Rattle.sfm_spec.specs.Walks.{Step, IsStep}
use Rattle.sfm_reach.specs.declared.bits.Bits.{Bits}
use Rattle.sfm_reach.specs.Bits.{bit_in, set_at}

-- the places of a row are found, and those that were not are ahead
pub record IsTakenIn (row found ahead found' ahead' : Bits) : Type 0 where
  pub grown : (e : ℕ) → bit_in found' e ≡ max (bit_in found e) (bit_in row e)
  pub next : (e : ℕ) → bit_in ahead' e ≡ max (bit_in ahead e) (bit_in row e - bit_in found e)

-- the least set that has the first places and that no link leaves
pub record AreReached (unions : List Bits) (firsts found : Bits) : Type 0 where
  pub below : (e : ℕ) → bit_in found e ≡ 1 → e < length unions
  pub begins : (e : ℕ) → bit_in firsts e ≡ 1 → bit_in found e ≡ 1
  pub closed : (e t : ℕ) → bit_in found e ≡ 1 → bit_in (set_at unions e) t ≡ 1 → bit_in found t ≡ 1
  pub least : (s : List Bool) → ((e : ℕ) → bit_in firsts e ≡ 1 → Has s e)
      → ((e t : ℕ) → Has s e → bit_in (set_at unions e) t ≡ 1 → Has s t) → (e : ℕ)
      → bit_in found e ≡ 1 → Has s e

-- the least set that has the first places and that no step leaves
pub record AreWalked (terms : List Meaning) (n : ℕ) (q : ℤ) (bases : List (List ℤ))
    (firsts found : Bits) : Type 0 where
  pub below : (e : ℕ) → bit_in found e ≡ 1 → e < n
  pub begins : (e : ℕ) → bit_in firsts e ≡ 1 → bit_in found e ≡ 1
  pub closed : (from : ℕ) (step : Step) → IsStep terms q bases from step → bit_in found from ≡ 1
      → bit_in found step.to ≡ 1
  pub least : (s : List Bool) → ((e : ℕ) → bit_in firsts e ≡ 1 → Has s e) → IsClosed terms q bases s
      → (e : ℕ) → bit_in found e ≡ 1 → Has s e

-- s has those of n places that the bits have
pub record IsSetOf (bits : Bits) (n : ℕ) (s : List Bool) : Type 0 where
  pub places : length s ≡ n
  pub exact : (e : ℕ) → e < n → Has s e ↔ (bit_in bits e ≡ 1)
