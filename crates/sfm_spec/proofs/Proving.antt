-- Bases prove a minimum exactly where no walk joins, and then show all minimisers.
use Rattle.std.proofs.Common.{◌≡◌, ℕ, zero, suc, ◌<◌, Bool, List, [], ◌∷◌, length, ℤ, pos, ◌≤ℤ◌, ◌<ℤ◌, refl, arith, inl, inr}
use Rattle.std.proofs.lemmas.Bool.{false≢true}
use Rattle.std.proofs.lemmas.Int.{ints}
use Rattle.std.specs.Int.Signed.{lt_z}
use Rattle.sfm_spec.specs.Sets.{Has}
use Rattle.sfm_spec.specs.Families.{Meaning, AreTerms, AreBases, Prove, rest_at}
use Rattle.sfm_spec.specs.Walks.{Step, Joins, last_of}
use Rattle.sfm_spec.specs.Laws.{BaseLaws}
use Rattle.sfm_spec.specs.Reach.{IsReached, IsReachedSet, IsUnder}
use Rattle.sfm_spec.proofs.Lattice.{minimisers_lattice}
use Rattle.sfm_spec.proofs.Reach.{reached_set}
use Rattle.sfm_spec.proofs.Walks.{has_below, walk_inside, tight_closed_set, closed_tight_set, first_below}
use Rattle.sfm_spec.proofs.Duality.{minimisers_are, proved_by, reached_back}

-- ---- the places below n at which z < 0

negatives : ℕ → (ℕ → ℤ) → List Bool
negatives zero z = []
negatives (suc n) z = lt_z (z 0) (pos 0) ∷ negatives n (λ e. z (suc e))

length-negatives : (n : ℕ) (z : ℕ → ℤ) → length (negatives n z) ≡ n
unfolding negatives
length-negatives zero z = refl
length-negatives (suc n) z = let r = length-negatives n (λ e. z (suc e)) in omega (arith, r)

in_negatives : (n : ℕ) (z : ℕ → ℤ) (e : ℕ) → e < n → z e <ℤ pos 0 → Has (negatives n z) e
unfolding negatives
in_negatives zero z e l h = absurd (omega arith)
in_negatives (suc n) z zero l h = grind (arith, ints)
in_negatives (suc n) z (suc e) l h = in_negatives n (λ e. z (suc e)) e (omega arith) h

of_negatives : (n : ℕ) (z : ℕ → ℤ) (e : ℕ) → Has (negatives n z) e → z e <ℤ pos 0
unfolding negatives
of_negatives zero z e h = absurd (false≢true h)
of_negatives (suc n) z zero h = omega (arith, ints, h)
of_negatives (suc n) z (suc e) h = of_negatives n (λ e. z (suc e)) e h

module _ (terms : List Meaning) (rows : List (List ℤ)) (n : ℕ) (q : ℤ) (shift : List ℤ)
    (low : pos 0 ≤ℤ q) (fit : AreTerms n terms) (bases : AreBases q terms rows) where
  -- where the bases prove, no walk joins
  pub no_join : Prove terms n q shift rows → (first : ℕ) (steps : List Step)
      → Joins terms q shift rows first steps → ⊥
  no_join (r, m, same) first steps h =
      let (signed, tight) = reached_back terms rows n q shift fit bases r m.places m.allowed same in
      let start : Has r first = signed.below first
      (first_below terms rows n q low fit bases first steps h.walk) h.below in
      let closed = tight_closed_set terms rows n q low fit bases r tight in
      let stop : Has r (last_of first steps) = walk_inside terms q rows r closed first steps
      h.walk.steps_fit start in
      signed.above (last_of first steps) (rw (← m.places) (has_below r (last_of first steps) stop))
      h.above stop

  -- the set that walks reach from the places with z < 0
  pub reached_under : (t : List Bool) × IsReachedSet terms n q rows (IsUnder terms rows shift) t
  reached_under = reached_set terms rows n q low fit bases (IsUnder terms rows shift)
      (negatives n (rest_at terms rows shift)) (length-negatives n (rest_at terms rows shift))
      (in_negatives n (rest_at terms rows shift)) (of_negatives n (rest_at terms rows shift))

  -- a walk joins that ends at a place with z > 0 of such a set
  pub joins_at : (e : ℕ) → IsReached terms q rows (IsUnder terms rows shift) e
      → pos 0 <ℤ rest_at terms rows shift e → (first : ℕ) × (steps : List Step)
      × Joins terms q shift rows first steps × (last_of first steps ≡ e)
  joins_at e (inl below) above = absurd (omega (arith, ints, above, below))
  joins_at e (inr (first, steps, below, walk, ends)) above =
      (first, steps, record { walk = walk; below = below; above = rw ends above }, ends)

  -- where no walk joins, the bases prove
  pub prove_if_none : ((first : ℕ) (steps : List Step) → Joins terms q shift rows first steps → ⊥)
      → Prove terms n q shift rows
  prove_if_none none = from reached_under where
    clash : (e : ℕ) → IsReached terms q rows (IsUnder terms rows shift) e
        → pos 0 <ℤ rest_at terms rows shift e → ⊥
    clash e reached above = let (first, steps, j, ends) = joins_at e reached above in none first
        steps j

    from : (t : List Bool) × IsReachedSet terms n q rows (IsUnder terms rows shift) t
        → Prove terms n q shift rows
    from (t, g) = (proved_by terms rows n q shift fit bases t g.places
        (record { below = g.firsts; above = λ e l above has. clash e (g.reached e has) above })
        (closed_tight_set terms rows n q low fit bases t g.closed)).1

  -- minimisers from bases
  pub base_laws : BaseLaws terms n q shift rows
  base_laws = record {
    exact = (no_join, prove_if_none);
    minimisers = minimisers_are terms rows n q shift fit bases;
    unions = λ prove s t hs ht. (minimisers_lattice terms n q shift low fit s t hs ht).0;
    intersections = λ prove s t hs ht. (minimisers_lattice terms n q shift low fit s t hs ht).1;
  }
