-- Walks one after another at a whole slope: they lower the squares of the sum of the bases.
use Rattle.std.proofs.Common.{◌≡◌, ⊎_elim, ℕ, zero, suc, ◌+◌, ◌<◌, List, get_or, replicate, ℤ, pos, ◌+ℤ◌, ◌-ℤ◌, ◌*ℤ◌, ◌≤ℤ◌, ap, subst, arith}
use Rattle.std.proofs.lemmas.Bool.{cases_lt}
use Rattle.std.proofs.lemmas.Int.{ints}
use Rattle.std.proofs.lemmas.List.{get_or-replicate}
use Rattle.sfm_spec.specs.Families.{Meaning, AreTerms, AreBases, base_sum_at, rest_at, deficit, even_shift}
use Rattle.sfm_spec.specs.Walks.{Step, IsWalkChain, Joins, last_of}
use Rattle.sfm_spec.proofs.Gain.{moves_along}
use Rattle.sfm_spec.proofs.Labels.{walk_ends_below}
use Rattle.sfm_spec.proofs.Walks.{first_below}
use Rattle.sfm_squares.specs.Level.{squares}
use Rattle.sfm_squares.specs.LevelLaws.{Rises}
use Rattle.sfm_squares.proofs.LevelBack.{chain_squares}
use Rattle.sfm_level.specs.Sums.{sums_of, squares_at}
use Rattle.sfm_level.proofs.Values.{sums_are, sums_only}

-- each walk raises the sum of min(z, 0) by at least 1
chain_rises : (terms : List Meaning) (n : ℕ) (shift : List ℤ) → AreTerms n terms → (k : ℕ)
    (rows last : List (List ℤ)) → AreBases (pos 1) terms rows
    → IsWalkChain terms (pos 1) shift k rows last
    → (deficit n (rest_at terms rows shift) +ℤ pos k) ≤ℤ deficit n (rest_at terms last shift)
chain_rises terms n shift fit zero rows last bases same =
    let e = ap (λ r. deficit n (rest_at terms r shift)) same in omega (arith, ints, e)
chain_rises terms n shift fit (suc k) rows last bases (mid, along, rest) =
    let one = moves_along terms rows n (pos 1) shift (omega (arith, ints)) fit bases mid along in
    let r = chain_rises terms n shift fit k mid last one.0 rest in
    let up = one.1 in
    omega (arith, ints, up, r)

-- what k walks at the slope t do: the sum of min(z, 0) rises by at least k, and the squares fall by
-- at least twice what it rises
pub record AreLowered (terms : List Meaning) (n : ℕ) (t : ℤ) (k : ℕ) (before after : List (List ℤ))
    : Type 0 where
  pub rises : (deficit n (rest_at terms before (even_shift n t)) +ℤ pos k)
      ≤ℤ deficit n (rest_at terms after (even_shift n t))
  pub falls : (squares_at terms n after
      +ℤ (pos 2 *ℤ (deficit n (rest_at terms after (even_shift n t))
      -ℤ deficit n (rest_at terms before (even_shift n t))))) ≤ℤ squares_at terms n before

pub chain_lowers : (terms : List Meaning) (n : ℕ) (t : ℤ) → AreTerms n terms → (k : ℕ)
    (rows last : List (List ℤ)) → AreBases (pos 1) terms rows
    → IsWalkChain terms (pos 1) (even_shift n t) k rows last → AreLowered terms n t k rows last
chain_lowers terms n t fit k rows last bases chain =
    let (y, sum, less) = chain_squares terms n t fit k rows last bases (sums_of terms n rows)
    (sums_are terms n rows) chain in
    let same = ap squares (sums_only terms n last y sum) in
    record {
      rises = chain_rises terms n (even_shift n t) fit k rows last bases chain;
      falls = omega (arith, ints, same, less);
    }

-- where no walk joins at the slope one above the sum at any place, none leads to a place at which
-- the sum is larger by two
pub none_rises : (terms : List Meaning) (n : ℕ) (rows : List (List ℤ)) → AreTerms n terms
    → AreBases (pos 1) terms rows
    → ((e : ℕ) → e < n → (first : ℕ) (steps : List Step)
    → Joins terms (pos 1) (even_shift n (base_sum_at terms rows e +ℤ pos 1)) rows first steps
    → ⊥)
    → (first : ℕ) (steps : List Step) → Rises terms rows first steps → ⊥
none_rises terms n rows fit bases ends first steps rises =
    let low : pos 0 ≤ℤ pos 1 = omega (arith, ints) in
    let t = base_sum_at terms rows first +ℤ pos 1 in
    let v = last_of first steps in
    let lf = first_below terms rows n (pos 1) low fit bases first steps rises.walk in
    let ll = walk_ends_below terms rows n (pos 1) low fit bases first steps rises.walk in
    let rf : get_or (replicate n t) first (pos 0) ≡ t = get_or-replicate n first t (pos 0) lf in
    let rl : get_or (replicate n t) v (pos 0) ≡ t = get_or-replicate n v t (pos 0) ll in
    let up = rises.rises in
    ends first lf first steps (record {
      walk = rises.walk;
      below = omega (arith, ints, rf);
      above = omega (arith, ints, rl, up);
    })

-- one place more
pub below_more : (P : ℕ → Type 0) (k : ℕ) → ((e : ℕ) → e < k → P e) → P k → (e : ℕ) → e < k + 1
    → P e
below_more P k before here e l =
    ⊎_elim (λ less. before e less)
    (λ ge. let same : k ≡ e = omega (arith, l, ge) in subst P same here) (cases_lt e k)
