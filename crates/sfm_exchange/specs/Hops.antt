-- The steps of a walk as the engine keeps them.
use Rattle.std.specs.Prelude.{◌≡◌, ◌≢◌, ℕ, ◌<◌, List, [], ◌∷◌, ◌++◌, ◌+◌, ◌≤◌, length, map, slice_index_or, ℤ}
use Rattle.std.specs.List.{All}
use Rattle.sfm_spec.specs.Bounds.{IsEntry}
use Rattle.sfm_spec.specs.Terms.{times, IsBase, HasRoom, exchanged}
use Rattle.sfm_spec.specs.Families.{Meaning}
use Rattle.sfm_spec.specs.Walks.{Step, term_at, base_at, IsWalkMove, CanMove, last_of}
use Rattle.sfm_spec.specs.Labels.{step_code}
use Rattle.sfm_law.specs.Based.{CanSwap}
use Rattle.sfm_reach.specs.declared.bits.Bits.{Bits}
use Rattle.sfm_reach.specs.Bits.{bit_in, set_at}
use Rattle.sfm_reach.specs.Reach.{table_at}
use Rattle.sfm_exchange.specs.declared.path.Hop.{Hop}

abbrev pub no_hop : Hop
no_hop = record { to = 0; term = 0; u = 0; v = 0 }

abbrev pub hop_at : List Hop → ℕ → Hop
hop_at hops k = slice_index_or hops k no_hop

abbrev pub step_of : Hop → Step
step_of hop = record { to = hop.to; term = hop.term }

abbrev pub steps_of : List Hop → List Step
steps_of hops = map step_of hops

-- the places of the step in its term
pub record IsHop (terms : List Meaning) (from : ℕ) (hop : Hop) : Type 0 where
  pub term_in : hop.term < length terms
  pub u_in : hop.u < length (term_at terms hop.term).places
  pub v_in : hop.v < length (term_at terms hop.term).places
  pub begins : slice_index_or (term_at terms hop.term).places hop.u 0 ≡ from
  pub ends : slice_index_or (term_at terms hop.term).places hop.v 0 ≡ hop.to

-- each begins where the one before ends, and the row of its beginning has its end
abbrev pub AreHops : List Meaning → List (List Bits) → ℕ → List Hop → Type 0
AreHops terms tables from [] = Unit {0}
AreHops terms tables from (hop ∷ hops) = IsHop terms from hop
    × (bit_in (set_at (table_at tables hop.term) hop.u) hop.to ≡ 1)
    × AreHops terms tables hop.to hops

-- a step that the rows tell: the term has its beginning, whose row has its end
pub record IsTold (terms : List Meaning) (tables : List (List Bits)) (from : ℕ) (step : Step) : Type
    0 where
  pub term_in : step.term < length terms
  pub u : ℕ
  pub u_in : u < length (term_at terms step.term).places
  pub begins : slice_index_or (term_at terms step.term).places u 0 ≡ from
  pub has_end : bit_in (set_at (table_at tables step.term) u) step.to ≡ 1

-- no step that the rows tell from each place, and that lowers d, has a lesser code than the one
-- that is taken
abbrev pub AreLeast : List Meaning → List (List Bits) → (ℕ → ℕ) → ℕ → List Hop → Type 0
AreLeast terms tables d from [] = Unit {0}
AreLeast terms tables d from (hop ∷ hops) =
    ((other : Step) → IsTold terms tables from other → d from ≡ d other.to + 1
    → step_code terms (step_of hop) ≤ step_code terms other)
    × AreLeast terms tables d hop.to hops

-- the step can move something between its places
pub record IsMovable (terms : List Meaning) (q : ℤ) (rows : List (List ℤ)) (hop : Hop) : Type
    0 where
  pub term_in : hop.term < length terms
  pub u_in : hop.u < length (term_at terms hop.term).places
  pub v_in : hop.v < length (term_at terms hop.term).places
  pub apart : hop.u ≢ hop.v
  pub room : HasRoom (times q (term_at terms hop.term).value) (base_at rows hop.term) hop.u hop.v

-- the step can move a
abbrev pub Moves : List Meaning → ℤ → List (List ℤ) → Hop → ℤ → Type 0
Moves terms q rows hop a = IsBase (times q (term_at terms hop.term).value)
    (exchanged (base_at rows hop.term) hop.u hop.v a)

-- each step can still move a once those behind it have moved
abbrev pub AreInOrder : List Meaning → ℤ → List (List ℤ) → ℕ → List Step → ℤ → Type 0
AreInOrder terms q rows first steps a = (front back : List Step) (step : Step) (mid : List (List ℤ))
    → steps ≡ front ++ step ∷ back
    → IsWalkMove terms rows step.to back a mid → CanMove terms q mid (last_of first front) step a

-- each step leads between the places of its term that it names
abbrev pub AreNamed : List Meaning → ℕ → List Hop → Type 0
AreNamed terms from [] = Unit {0}
AreNamed terms from (hop ∷ hops) = IsHop terms from hop × AreNamed terms hop.to hops

-- the exchange of the step can be made, and the entries of the row are within the bounds before it
-- and after it
pub record CanExchange (terms : List Meaning) (q : ℤ) (rows : List (List ℤ)) (hop : Hop)
    (a : ℤ) : Type 0 where
  pub term_in : hop.term < length terms
  pub small : All IsEntry (base_at rows hop.term)
  pub after : All IsEntry (exchanged (base_at rows hop.term) hop.u hop.v a)
  pub swap : CanSwap (times q (term_at terms hop.term).value) (base_at rows hop.term) hop.u hop.v a
