-- Where a list of names or numbers in a line goes on, and where it ends.
use Rattle.std.specs.Prelude.{◌≡◌, ◌⊎◌, ℕ, ◌≤◌, Bool, List, [], ◌∷◌, ◌++◌, length}
use Rattle.std.specs.List.{All}
use Rattle.std.specs.List.Sorted.{IsStrictlyIncreasing}
use Rattle.sfm_cert.specs.Answer.{Break, listed}
use Rattle.sfm_readback.specs.declared.head.Head.{Head}

-- nothing more, or a space
abbrev pub IsStop : List ℕ → Type 0
IsStop rest = (rest ≡ []) ⊎ ((more : List ℕ) × (rest ≡ 32 ∷ more))

-- nothing more, or a space and a colon: what may stand behind a list of names
abbrev pub IsNamesStop : List ℕ → Type 0
IsNamesStop rest = (rest ≡ []) ⊎ ((more : List ℕ) × (rest ≡ 32 ∷ (58 ∷ more)))

-- the only way to cut the bytes into a list of names and what may stand behind one
pub record IsListCut (names : List (List ℕ)) (bytes : List ℕ) (s : List Bool) (rest : List ℕ) : Type
    0 where
  pub places : length s ≡ length names
  pub cut : bytes ≡ listed names s ++ rest
  pub only : (t : List Bool) (other : List ℕ) → length t ≡ length names → IsNamesStop other
      → bytes ≡ listed names t ++ other → (t ≡ s) × (other ≡ rest)

-- numbers of blocks, ascending, from 1 to most
pub record AreNeeds (most : ℕ) (needs : List ℕ) : Type 0 where
  pub ascending : IsStrictlyIncreasing needs
  pub within : All (λ j. (1 ≤ j) × (j ≤ most)) needs

-- a slope line without bases
abbrev pub break_of_head : Head → Break
break_of_head h = record { num = h.slope.num; den = h.slope.den; members = h.set; bases = [] }
