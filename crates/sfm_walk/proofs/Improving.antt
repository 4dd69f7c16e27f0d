-- The run at the start of each walk.
use Rattle.std.proofs.Common.{ℕ, ◌*◌, ◌^◌, ◌<◌, ◌≤◌, List, length, ℤ, pos, neg_ℤ, nat_abs, ◌+ℤ◌, ◌-ℤ◌, ◌≤ℤ◌, arith}
use Rattle.std.specs.List.{All}
use Rattle.std.proofs.lemmas.Int.{ints}
use Rattle.sfm_law.specs.declared.term.Term.{Ghosts}
use Rattle.sfm_spec.specs.Bounds.{IsAtMost}
use Rattle.sfm_spec.specs.Terms.{IsFamily, IsSubmodular}
use Rattle.sfm_spec.specs.Families.{meanings, rest_at, deficit, AreTerms}
use Rattle.sfm_spec.proofs.Gain.{moves_along}
use Rattle.sfm_spec.proofs.Moves.{deficit_not_above}
use Rattle.sfm_exchange.specs.declared.graph.Graph.{Graph}
use Rattle.sfm_walk.specs.declared.run.Run.{Run}
use Rattle.sfm_exchange.specs.Graph.{IsClaimed}
use Rattle.sfm_walk.specs.Run.{AreAdvanced, IsRunAt}
use Rattle.sfm_walk.specs.Spread.{AreSpread}
use Rattle.sfm_exchange.proofs.ClaimedGraphs.{are_terms, low}
use Rattle.sfm_walk.proofs.Gaps.{abs_falls}
use Rattle.sfm_walk.proofs.Spreads.{at_most, bound_is, up_to}

-- the graph is whole, z and its signs are those of its bases, the sum of min(z, 0) is not below
-- that at first, which was not low, and no entry has changed by more than it has risen
pub record IsImproving {X N : Type 0} (T : Ghosts X N) (terms : List X) (q : ℤ) (shift : List ℤ)
    (init : List (List ℤ)) (graph : Graph N) (run : Run) : Type 0 where
  pub whole : IsClaimed T terms (length shift) q graph
  pub at : IsRunAt (meanings T.places T.value_of terms) shift graph.bases run
  pub gap : neg_ℤ (pos (4 * 10 ^ 29)) ≤ℤ deficit (length shift)
      (rest_at (meanings T.places T.value_of terms) init shift)
  pub risen : deficit (length shift) (rest_at (meanings T.places T.value_of terms) init shift)
      ≤ℤ deficit (length shift) (rest_at (meanings T.places T.value_of terms) graph.bases shift)
  pub spread : AreSpread (meanings T.places T.value_of terms) (length shift) shift init graph.bases

module _ {X N : Type 0} {T : Ghosts X N} {terms : List X} {q : ℤ} {shift : List ℤ}
    {init : List (List ℤ)} {graph : Graph N} {run : Run}
    (h : IsImproving T terms q shift init graph run) where
  -- the sum of min(z, 0), at some rows
  abbrev D : List (List ℤ) → ℤ
  D rows = deficit (length shift) (rest_at (meanings T.places T.value_of terms) rows shift)

  -- the entries are small, where those at first are
  pub small_still : All (λ x. All (IsAtMost (10 ^ 29)) x) init → (m : ℕ) → 5 * 10 ^ 29 ≤ m
      → All (λ x. All (IsAtMost m) x) graph.bases
  small_still small m wide =
      let gap = h.gap in
      let up = deficit_not_above (length shift)
      (rest_at (meanings T.places T.value_of terms) graph.bases shift) in
      at_most m graph.bases (pos (10 ^ 29) +ℤ (D graph.bases -ℤ D init))
      (h.spread (pos (10 ^ 29)) (up_to (10 ^ 29) init small))
      (omega (arith, ints, gap, up, wide))

  pub gap_still : neg_ℤ (pos (5 * 10 ^ 29)) ≤ℤ D graph.bases
  gap_still = let gap = h.gap in let r = h.risen in omega (arith, ints, gap, r)

  module _ (family : (x : X) → IsFamily (length (T.places x)) (T.value_of x))
      (law : (x : X) → IsSubmodular (length (T.places x)) (T.value_of x)) where
    fit : AreTerms (length shift) (meanings T.places T.value_of terms)
    fit = are_terms h.whole family law

    -- one walk more
    module _ (graph' : Graph N) (run' : Run)
        (p : AreAdvanced (meanings T.places T.value_of terms) (length shift) q shift graph.bases
        graph'.bases run') where
      rises : (D graph.bases +ℤ pos 1) ≤ℤ D graph'.bases
      rises = (moves_along (meanings T.places T.value_of terms) graph.bases (length shift) q shift
          (low h.whole) fit h.whole.are_bases graph'.bases p.progress.along).1

      pub falls : nat_abs (D graph'.bases) < nat_abs (D graph.bases)
      falls = abs_falls (D graph.bases) (D graph'.bases) (omega (arith, ints, rises))
          (deficit_not_above (length shift)
          (rest_at (meanings T.places T.value_of terms) graph'.bases shift))

      pub improving_after : IsClaimed T terms (length shift) q graph'
          → IsImproving T terms q shift init graph' run'
      improving_after whole = record {
        whole = whole;
        at = p.at;
        gap = h.gap;
        risen = let r = h.risen in omega (arith, ints, r, rises);
        spread = λ b small. bound_is graph'.bases
            ((b +ℤ (D graph.bases -ℤ D init)) +ℤ (D graph'.bases -ℤ D graph.bases))
            (b +ℤ (D graph'.bases -ℤ D init))
            (p.spread (b +ℤ (D graph.bases -ℤ D init)) (h.spread b small)) (omega (arith, ints));
      }
