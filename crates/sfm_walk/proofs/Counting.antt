-- Walks, counted one after the other.
use Rattle.std.proofs.Common.{◌≡◌, ℕ, ◌+◌, ◌≤◌, List, length, ℤ, subst, arith}
use Rattle.sfm_spec.specs.Families.{Meaning}
use Rattle.sfm_spec.specs.Walks.{few_walks}
use Rattle.sfm_spec.specs.Progress.{IsProgress, IsCountedChain}
use Rattle.sfm_spec.proofs.LeastWalks.{counted_none, counted_more, counted_few}
use Rattle.sfm_walk.specs.Counted.{IsCounted}

-- the walks so far, whose number is known by their progress, and the count that has risen by it
pub record IsCounting (terms : List Meaning) (n : ℕ) (q : ℤ) (shift : List ℤ)
    (firsts bases : List (List ℤ)) (before now : ℕ) : Type 0 where
  pub t : ℕ
  pub walks : IsCountedChain terms n q shift firsts bases t
  pub count : now ≡ before + t

-- no walk
pub counting_none : (terms : List Meaning) (n : ℕ) (q : ℤ) (shift : List ℤ) (rows : List (List ℤ))
    (count : ℕ) → IsCounting terms n q shift rows rows count count
counting_none terms n q shift rows count =
    record { t = 0; walks = counted_none terms n q shift rows; count = omega arith }

-- one walk more
pub counting_more : (terms : List Meaning) (n : ℕ) (q : ℤ) (shift : List ℤ)
    (firsts rows after : List (List ℤ)) (before now now' : ℕ)
    → IsCounting terms n q shift firsts rows before now → IsProgress terms n q shift rows after
    → now' ≡ now + 1 → IsCounting terms n q shift firsts after before now'
counting_more terms n q shift firsts rows after before now now' h progress one =
    let c = h.count in
    record {
      t = h.t + 1;
      walks = counted_more terms n q shift firsts rows after h.t h.walks
          progress;
      count = omega (arith, one, c);
    }

-- the count has risen by no more than there may be
pub counting_few : (terms : List Meaning) (n m : ℕ) (q : ℤ) (shift : List ℤ)
    (firsts bases : List (List ℤ)) (before now : ℕ) → length terms ≡ m
    → IsCounting terms n q shift firsts bases before now → now ≤ before + few_walks n m
counting_few terms n m q shift firsts bases before now same h =
    let f : h.t ≤ few_walks n m = subst (λ k. h.t ≤ few_walks n k) same
    (counted_few terms n q shift firsts bases h.t h.walks) in
    let c = h.count in
    omega (arith, f, c)

-- the walks as a contract tells them
pub counting_is : (terms : List Meaning) (n : ℕ) (q : ℤ) (shift : List ℤ)
    (firsts bases : List (List ℤ)) (before now : ℕ)
    → IsCounting terms n q shift firsts bases before now
    → IsCounted terms n q shift firsts bases before now
counting_is terms n q shift firsts bases before now h =
    (h.t, counted_few terms n q shift firsts bases h.t h.walks, h.walks.chain, h.count)
