-- What is kept while bases are levelled: that it holds at first and after walks at a whole slope,
-- and what it tells of numbers.
use Rattle.std.proofs.Common.{◌≡◌, ℕ, ◌*◌, ◌+◌, ◌<◌, ◌≤◌, ◌^◌, List, [], ◌∷◌, map, get_or, replicate, ℤ, pos, neg_ℤ, ◌+ℤ◌, ◌-ℤ◌, ◌*ℤ◌, ◌≤ℤ◌, ◌<ℤ◌, ap, ◌∙◌, arith}
use Rattle.std.specs.List.{All}
use Rattle.std.proofs.lemmas.Int.{ints}
use Rattle.std.proofs.lemmas.List.{get_or-replicate}
use Rattle.std.proofs.lemmas.List.Elements.{All-cons, All-from_get_or, All-get_or}
use Rattle.sfm_law.specs.declared.term.Term.{Ghosts}
use Rattle.sfm_spec.specs.Bounds.{IsAtMost, total_of}
use Rattle.sfm_spec.specs.Families.{Meaning, meanings, AreTerms, base_sum_at, rest_at, deficit, even_shift}
use Rattle.sfm_spec.specs.Walks.{IsWalkChain}
use Rattle.sfm_exchange.specs.declared.graph.Graph.{Graph}
use Rattle.sfm_exchange.specs.Graph.{IsClaimed}
use Rattle.sfm_walk.specs.Spread.{AreSpread, IsUpTo}
use Rattle.sfm_level.specs.Sums.{sums_of, squares_at}
use Rattle.sfm_level.specs.Levelling.{IsLevelling}
use Rattle.sfm_level.proofs.Bounds.{deficit-near, roots-small, squares-low, squares-small}
use Rattle.sfm_level.proofs.Chains.{chain_lowers}
use Rattle.sfm_level.proofs.FirstSums.{IsIn, first_sum-in}
use Rattle.sfm_level.proofs.Values.{get_or-first_values, length-first_values, sums_only}

module _ {X N : Type 0} {T : Ghosts X N} {terms : List X} {n : ℕ} {graph : Graph N}
    (h : IsLevelling T terms n graph) where
  abbrev Terms : List Meaning
  Terms = meanings T.places T.value_of terms

  -- the sum of the bases
  abbrev Sums : List ℤ
  Sums = sums_of (meanings T.places T.value_of terms) n graph.bases

  -- which the graph keeps
  pub sums-kept : graph.sums.items ≡ sums_of (meanings T.places T.value_of terms) n graph.bases
  sums-kept = let are = h.claimed.are_sums in
      sums_only Terms n graph.bases graph.sums.items
      (record { places = are.places; exact = are.exact })

  -- its squares
  pub squares-near : squares_at (meanings T.places T.value_of terms) n graph.bases ≤ℤ pos
      (11 * 10 ^ 28)
  squares-near = let r = h.room in let l = h.low in omega (arith, ints, r, l)

  -- each number of it
  pub sums-near : All (IsAtMost (10 ^ 15))
      (sums_of (meanings T.places T.value_of terms) n graph.bases)
  sums-near = let near = squares-near in roots-small Sums (omega (arith, ints, near))

  pub sum-near : (e : ℕ) → e < n
      → IsAtMost (10 ^ 15) (base_sum_at (meanings T.places T.value_of terms) graph.bases e)
  sum-near e l =
      let f = base_sum_at Terms graph.bases in
      rw (get_or-first_values n f e l) at (All-get_or (IsAtMost (10 ^ 15)) Sums e (pos 0)
      (rw (length-first_values n f) l) sums-near)

  -- the entries
  pub entries-near : (m : ℕ) → 55 * 10 ^ 27 ≤ m → All (λ x. All (IsAtMost m) x) graph.bases
  entries-near m wide i d l e k lt =
      let a = h.within i d l e k lt in
      let r = h.room in
      let s = squares-low Sums in
      record {
        low = omega (arith, ints, a.low, r, s, wide);
        high = omega (arith, ints, a.high, r, s, wide);
      }

  -- the sum of min(z, 0) at a slope
  pub gap-near : n ≤ 256 → (t : ℤ) → IsAtMost (10 ^ 15 + 1) t → neg_ℤ (pos (4 * 10 ^ 29))
      ≤ℤ deficit n (rest_at (meanings T.places T.value_of terms) graph.bases (even_shift n t))
  gap-near few t small =
      let d = deficit-near n (rest_at Terms graph.bases (even_shift n t)) (λ e l.
      let s = sum-near e l in
      let r : get_or (replicate n t) e (pos 0) ≡ t = get_or-replicate n e t (pos 0) l in
      omega (arith, ints, s.low, small.high, r)) in
      omega (arith, ints, d, few)

  -- after some walks at a slope
  module _ (fit : AreTerms n (meanings T.places T.value_of terms)) (t : ℤ) (k : ℕ) (after : Graph N)
      (chain : IsWalkChain (meanings T.places T.value_of terms) (pos 1) (even_shift n t) k
      graph.bases
      after.bases) where
    pub levelling_after : IsClaimed T terms n (pos 1) after
        → AreSpread (meanings T.places T.value_of terms) n (even_shift n t) graph.bases after.bases
        → IsLevelling T terms n after
    levelling_after claimed spread =
        let lowered = chain_lowers Terms n t fit k graph.bases after.bases h.claimed.are_bases
        chain in
        let up = lowered.rises in
        let down = lowered.falls in
        let r = h.room in
        let l = h.low in
        let more = deficit n (rest_at Terms after.bases (even_shift n t))
        -ℤ deficit n (rest_at Terms graph.bases (even_shift n t)) in
        record {
          claimed = claimed;
          bound = h.bound +ℤ more;
          low = omega (arith, ints, up, l);
          within = spread h.bound h.within;
          room = omega (arith, ints, down, r);
        }

    -- the squares have fallen, if there was any
    pub squares_fall : 0 < k → squares_at (meanings T.places T.value_of terms) n after.bases
        <ℤ squares_at (meanings T.places T.value_of terms) n graph.bases
    squares_fall some =
        let lowered = chain_lowers Terms n t fit k graph.bases after.bases h.claimed.are_bases
        chain in
        let up = lowered.rises in
        let down = lowered.falls in
        omega (arith, ints, up, down, some)

-- at the first bases, where the sizes of the terms add to little
module _ {X N : Type 0} (T : Ghosts X N) (start : X → List ℤ) (low : (x : X) → pos 0 ≤ℤ T.size_of x)
    (starts_small : (x : X) → All (IsIn (pos 2 *ℤ T.size_of x)) (start x)) (terms : List X)
    (n : ℕ) where
  -- a term is no larger than all together
  all-low : (xs : List X) → pos 0 ≤ℤ total_of (map T.size_of xs)
  all-low [] = omega (arith, ints)
  all-low (x ∷ xs) = let r = all-low xs in let l = low x in omega (arith, ints, r, l)

  starts-within : (xs : List X) → total_of (map T.size_of xs) ≤ℤ pos (10 ^ 13)
      → All (λ x. All (IsUpTo (pos (2 * 10 ^ 13))) x) (map start xs)
  starts-within [] small = λ i d l. absurd (omega (arith, l))
  starts-within (x ∷ xs) small =
      All-cons (λ x. All (IsUpTo (pos (2 * 10 ^ 13))) x) (start x) (map start xs) (λ e k l.
      let s = starts_small x e k l in
      let r = all-low xs in
      record {
        low = omega (arith, ints, s.0, small, r);
        high = omega (arith, ints, s.1, small, r);
      })
      (starts-within xs (let l = low x in omega (arith, ints, small, l)))

  pub levelling_begun : (graph : Graph N) → IsClaimed T terms n (pos 1) graph
      → graph.bases ≡ map start terms → total_of (map T.size_of terms) ≤ℤ pos (10 ^ 13)
      → IsLevelling T terms n graph
  levelling_begun graph claimed is small = record {
    claimed = claimed;
    bound = pos (2 * 10 ^ 13);
    low = omega (arith, ints);
    within = rw is (starts-within terms small);
    room = omega (arith, ints, near, few);
  } where
    few : n ≤ 256
    few = claimed.bounded.few

    f : ℕ → ℤ
    f = base_sum_at (meanings T.places T.value_of terms) graph.bases

    near : squares_at (meanings T.places T.value_of terms) n graph.bases ≤ℤ pos (4 * 10 ^ 26 * n)
    near =
        let z = sums_of (meanings T.places T.value_of terms) n graph.bases in
        rw (length-first_values n f) at
        (squares-small z (All-from_get_or (IsAtMost (2 * 10 ^ 13)) z (pos 0) (λ e l.
        let le : e < n = rw (length-first_values n f) at l in
        let a = first_sum-in T.places T.value_of T.size_of start low starts_small n terms
        claimed.bounded.placed e in
        let v : get_or z e (pos 0) ≡ base_sum_at (meanings T.places T.value_of terms)
        (map start terms) e
        = get_or-first_values n f e le
        ∙ ap (λ b. base_sum_at (meanings T.places T.value_of terms) b e) is in
        record {
          low = omega (arith, ints, v, a.0, small);
          high = omega (arith, ints, v, a.1, small);
        })))
