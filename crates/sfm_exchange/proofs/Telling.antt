-- What rows tell. By those that are right the steps of a walk are steps; by those that lack none,
-- the least ones are least.
use Rattle.std.proofs.Common.{◌≡◌, ℕ, suc, ◌-◌, ◌<◌, ◌≤◌, List, [], ◌∷◌, length, get_or, ℤ, pos, ◌≤ℤ◌, refl, sym, ap, ◌∙◌, arith}
use Rattle.sfm_spec.specs.Families.{Meaning, AreTerms, AreBases}
use Rattle.sfm_spec.specs.Terms.{times}
use Rattle.sfm_spec.specs.Labels.{FallsAlong}
use Rattle.sfm_spec.specs.Progress.{TakesLeastSteps}
use Rattle.sfm_spec.specs.Walks.{Step, term_at, base_at, IsStep, AreSteps, last_of}
use Rattle.sfm_spec.proofs.Walks.{terms-at, step_below}
use Rattle.sfm_reach.specs.declared.bits.Bits.{Bits}
use Rattle.sfm_exchange.specs.declared.path.Hop.{Hop}
use Rattle.sfm_reach.specs.Bits.{bit_in, set_at}
use Rattle.sfm_exchange.specs.Claimed.{IsClaim}
use Rattle.sfm_reach.specs.Reach.{IsTable, table_at}
use Rattle.sfm_reach.specs.Unions.{IsReadable}
use Rattle.sfm_exchange.specs.Hops.{IsHop, IsTold, AreHops, AreLeast, AreNamed, hop_at, step_of, steps_of}

-- the steps name their places
pub hops_named : (terms : List Meaning) (tables : List (List Bits)) (from : ℕ) (hops : List Hop)
    → AreHops terms tables from hops → AreNamed terms from hops
hops_named terms tables from [] h = tt
hops_named terms tables from (x ∷ hops) h = (h.0, hops_named terms tables x.to hops h.2)

module _ (terms : List Meaning) (rows : List (List ℤ)) (n : ℕ) (q : ℤ) (fit : AreTerms n terms)
    (tables : List (List Bits)) (right : (i : ℕ) → i < length terms
    → IsTable terms q rows i (table_at tables i)) where
  hop_step : (from : ℕ) (hop : Hop) → IsHop terms from hop
      → bit_in (set_at (table_at tables hop.term) hop.u) hop.to ≡ 1
      → IsStep terms q rows from (step_of hop)
  hop_step from hop is bit = rw is.begins at
      ((right hop.term is.term_in hop.u hop.to is.u_in).0 bit)

  -- they are steps
  pub hops_steps : (from : ℕ) (hops : List Hop) → AreHops terms tables from hops
      → AreSteps terms q rows from (steps_of hops)
  hops_steps from [] h = tt
  hops_steps from (x ∷ hops) h = (hop_step from x h.0 h.1, hops_steps x.to hops h.2)

-- rows that lack no place to which there is room
module _ (terms : List Meaning) (rows : List (List ℤ)) (n : ℕ) (q : ℤ) (fit : AreTerms n terms)
    (tables : List (List Bits))
    (claims : (i : ℕ) → i < length terms → (u : ℕ) → u < length (term_at terms i).places
    → IsClaim (term_at terms i).places (times q (term_at terms i).value) (base_at rows i) u
    (set_at (table_at tables i) u)) where
  -- tell each step
  pub step_told : (from : ℕ) (step : Step) → IsStep terms q rows from step
      → IsTold terms tables from step
  step_told from step (a, some, c) =
      record {
        term_in = c.in_range;
        u = c.u;
        u_in = c.u_in;
        begins = c.begins;
        has_end = rw c.ends at ((claims step.term c.in_range c.u c.u_in).has c.v c.v_in
            (λ s. c.apart (sym s)) (a, some, c.base));
      }

  -- so steps that are least of those that the rows tell are least of all
  pub hops_least : (d : ℕ → ℕ) (from : ℕ) (hops : List Hop) → FallsAlong d from (steps_of hops)
      → AreLeast terms tables d from hops → TakesLeastSteps terms q rows d from (steps_of hops)
  hops_least d from [] falls least = tt
  hops_least d from (x ∷ hops) falls least = (
    falls.0,
    (λ other h f. least.0 other (step_told from other h) f),
    hops_least d x.to hops falls.1 least.1,
  )

  -- and they have only places of the ground
  pub claims_readable : n ≤ 256 → (i : ℕ) → i < length terms → IsReadable terms tables i
  claims_readable few i li u e lu bit =
      let (v, lv, ne, is) = (claims i li u lu).inside e bit in
      let below : e < n = rw is at ((terms-at n terms i fit li).placed.below v lv) in
      (omega (arith, below, few), (v, lv, is))

-- the end of the last step
pub last_is : (first : ℕ) (hops : List Hop) → 0 < length hops
    → last_of first (steps_of hops) ≡ (hop_at hops (length hops - 1)).to
last_is first [] l = absurd (omega arith)
last_is first (x ∷ []) l = refl
last_is first (x ∷ y ∷ hops) l = last_is x.to (y ∷ hops) (omega arith)
    ∙ ap (λ k. (hop_at (x ∷ y ∷ hops) k).to) (shift (length hops)) where
      shift : (k : ℕ) → suc (suc k - 1) ≡ suc (suc k) - 1
      shift k = omega arith

-- the rows have only places of the ground
pub tables_readable : (terms : List Meaning) (rows : List (List ℤ)) (n : ℕ) (q : ℤ) → pos 0 ≤ℤ q
    → AreTerms n terms → AreBases q terms rows → n ≤ 256 → (tables : List (List Bits)) (i : ℕ)
    → i < length terms → IsTable terms q rows i (table_at tables i) → IsReadable terms tables i
tables_readable terms rows n q low fit bases few tables i li right u e lu bit =
    let s = (right u e lu).0 bit in
    let c = s.2 in
    let l = step_below terms rows n q low fit bases (get_or (term_at terms i).places u 0)
    (record { to = e; term = i }) s in
    (omega (arith, l, few), (c.v, c.v_in, c.ends))
