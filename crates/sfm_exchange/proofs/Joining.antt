-- Walks that join, told by the levels: along them one joins, and where they are closed none does.
use Rattle.std.proofs.Common.{◌≡◌, ℕ, ◌<◌, List, [], ◌∷◌, length, get_or, ℤ, pos, ◌≤ℤ◌, ◌<ℤ◌}
use Rattle.sfm_spec.specs.Families.{Meaning, AreTerms, AreBases}
use Rattle.sfm_spec.specs.Walks.{Step, AreSteps, IsWalk, Joins, last_of}
use Rattle.sfm_spec.proofs.Walks.{first_below, step_below}
use Rattle.sfm_law.specs.Rest.{IsRest}
use Rattle.sfm_reach.specs.declared.bits.Bits.{Bits}
use Rattle.sfm_reach.specs.Bits.{bit_in, set_at}
use Rattle.sfm_exchange.specs.Levels.{AreClosed, IsFirst}
use Rattle.sfm_reach.specs.Unions.{HaveLinks}

module _ (terms : List Meaning) (rows : List (List ℤ)) (n : ℕ) (q : ℤ) (shift z : List ℤ)
    (low : pos 0 ≤ℤ q) (fit : AreTerms n terms) (bases : AreBases q terms rows) (zn : length z ≡ n)
    (rest : IsRest terms shift rows z) (unions : List Bits)
    (levels : List Bits) where
  -- steps along the levels from the first place of the last to one of the first level are a walk
  -- that joins
  pub joins_along : (first : ℕ) → IsFirst n unions z levels first → (steps : List Step)
      → 0 < length steps → AreSteps terms q rows first steps
      → bit_in (set_at levels 0) (last_of first steps) ≡ 1 → Joins terms q shift rows first steps
  joins_along first begin steps some fits arrives =
      let walk : IsWalk terms q rows first
      steps = record { steps_exist = some; steps_fit = fits } in
      let lf : first < n = first_below terms rows n q low fit bases first steps walk in
      let (ll, over) = (begin.levelled.over (last_of first steps)).0 arrives in
      record {
        walk = walk;
        below = rw (← rest.exact first (rw zn lf)) begin.under;
        above = rw (← rest.exact (last_of first steps) (rw zn ll)) over;
      }

  -- where the levels are closed no walk joins
  pub none_joins : HaveLinks terms n q rows unions → AreClosed n unions z levels
      → (first : ℕ) (steps : List Step) → Joins terms q shift rows first steps → ⊥
  none_joins links closed first steps joins =
      let (k, lk, bit) = back first steps fin joins.walk.steps_fit top in
      closed.above k first lk bit under where
        fin : first < n
        fin = first_below terms rows n q low fit bases first steps joins.walk

        under : get_or z first (pos 0) <ℤ pos 0
        under = let b = joins.below in rw (rest.exact first (rw zn fin)) b

        ends_below : (from : ℕ) (other : List Step) → from < n → AreSteps terms q rows from other
            → last_of from other < n
        ends_below from [] l h = l
        ends_below from (s ∷ ss) l h =
            ends_below s.to ss (step_below terms rows n q low fit bases from s h.0) h.1

        top : (k : ℕ) × (k < length levels) × (bit_in (set_at levels k) (last_of first steps) ≡ 1)
        top =
            let l = ends_below first steps fin joins.walk.steps_fit in
            let o = joins.above in (
              0,
              closed.levelled.some,
              (closed.levelled.over (last_of first steps)).1
                  (l, rw (rest.exact (last_of first steps) (rw zn l)) o),
            )

        back : (from : ℕ) (other : List Step) → from < n → AreSteps terms q rows from other
            → (k : ℕ) × (k < length levels) × (bit_in (set_at levels k) (last_of from other) ≡ 1)
            → (k : ℕ) × (k < length levels) × (bit_in (set_at levels k) from ≡ 1)
        back from [] l h at = at
        back from (s ∷ ss) l h at =
            let (k, lk, bit) = back s.to ss (step_below terms rows n q low fit bases from s h.0) h.1
            at in
            closed.closed k from lk l (s.to, links from s.to l (s.term, h.0), bit)
