-- Sets that grow place by place as long as they stay independent: the greedy method.
-- Textbook: Schrijver, Combinatorial Optimization, section 40.
use Rattle.std.proofs.Common.{◌≡◌, ◌⊎◌, ℕ, suc, ◌<◌, Bool, true, false, List, length, get_or, set}
use Rattle.sfm_spec.specs.Sets.{Has, IsWithin, empty_set}

-- the place j of s is taken where the set stays independent with it
abbrev pub IsStep : (List Bool → Type 0) → List Bool → ℕ → List Bool → List Bool → Type 0
IsStep IsIndependent s j before after =
    (Has s j × (after ≡ set before j true) × IsIndependent (set before j true))
    ⊎ ((after ≡ before) × (Has s j → IsIndependent (set before j true) → ⊥))

-- what has grown by the places of s below j: an independent part of them that stays so with none of
-- the others
pub record IsGrown (k : ℕ) (IsIndependent : List Bool → Type 0) (s : List Bool) (j : ℕ)
    (t : List Bool) : Type 0 where
  pub places : length t ≡ k
  pub within : IsWithin t s
  pub under : (e : ℕ) → Has t e → e < j
  pub independent : IsIndependent t
  pub refused : (e : ℕ) → e < j → Has s e → get_or t e false ≡ false → IsIndependent (set t e true)
      → ⊥

-- sets that grow by the places of s in ascending order; what a step does may rest on what is known
-- of the set before it
pub record IsGrowth (k : ℕ) (IsIndependent : List Bool → Type 0) (s : List Bool)
    (sets : ℕ → List Bool) : Type 0 where
  pub begins : sets 0 ≡ empty_set k
  pub steps : (j : ℕ) → j < k → IsGrown k IsIndependent s j (sets j)
      → IsStep IsIndependent s j (sets j) (sets (suc j))
