-- The steps that rows tell, by the unions of the rows.
use Rattle.std.proofs.Common.{◌≡◌, ◌≢◌, ◌⊎◌, ℕ, ◌*◌, ◌<◌, ◌≤◌, List, length, get_or, ap, arith, inl, inr}
use Rattle.std.proofs.lemmas.Bool.{cases_lt}
use Rattle.std.proofs.Math.Nat.{mul-le-mul_left}
use Rattle.sfm_spec.specs.Families.{Meaning}
use Rattle.sfm_spec.specs.Labels.{step_code}
use Rattle.sfm_spec.specs.Walks.{Step, term_at}
use Rattle.sfm_reach.specs.declared.bits.Bits.{Bits}
use Rattle.sfm_reach.specs.declared.spots.Spot.{Spot}
use Rattle.sfm_reach.specs.Bits.{bit_in, set_at}
use Rattle.sfm_reach.specs.Spots.{AreSpots, spots_at, spot_at}
use Rattle.sfm_reach.specs.Unions.{AreUnions, spot_row}
use Rattle.sfm_exchange.specs.Hops.{IsTold}

-- the union rows have all that the rows tell
pub links_told : (terms : List Meaning) (n : ℕ) (spots : List (List Spot))
    (tables : List (List Bits)) (unions : List Bits) → AreSpots terms n spots
    → AreUnions tables spots unions
    → (e : ℕ) (step : Step) → e < n → IsTold terms tables e step
    → bit_in (set_at unions e) step.to ≡ 1
links_told terms n spots tables unions h all e step l told =
    let le : e < length spots = omega (arith, l, h.count) in
    let (k, lk, is) = h.complete step.term told.u told.term_in told.u_in in
    let there : (j : ℕ)
    × (j < length (spots_at spots (get_or (term_at terms step.term).places told.u 0)))
    × (bit_in (spot_row tables (spot_at
    (spots_at spots (get_or (term_at terms step.term).places told.u 0)) j)) step.to ≡ 1) = (
      k,
      lk,
      rw is told.has_end,
    ) in
    (all.exact e le step.to).1 (rw told.begins at there)

-- the least place of a level that the union row has, by the first of its spots whose row has it, is
-- the least step into the level
pub least_into : (terms : List Meaning) (n : ℕ) (spots : List (List Spot))
    (tables : List (List Bits)) (unions : List Bits) → AreSpots terms n spots
    → AreUnions tables spots unions → (at : ℕ) → at < n → (level : Bits) (to : ℕ)
    → ((e : ℕ) → e < to → bit_in (set_at unions at) e ≡ 1 → bit_in level e ≢ 1) → (here : List Spot)
    → spots_at spots at ≡ here → (j : ℕ) → j < length here
    → ((k : ℕ) → k < j → bit_in (spot_row tables (spot_at here k)) to ≡ 1 → ⊥)
    → (term : ℕ) → (spot_at here j).term ≡ term → (other : Step) → IsTold terms tables at other
    → bit_in level other.to ≡ 1 → step_code terms (record { to = to; term = term }) ≤ step_code
    terms other
least_into terms n spots tables unions h all at la level to nearer here look j lj earlier term named
    other told inside = by_place (cases_lt other.to to) (cases_lt to other.to) where
      spot : (k : ℕ) × (k < length here)
          × (spot_at here k ≡ record { term = other.term; local = told.u })
      spot = let s = h.complete other.term told.u told.term_in told.u_in in rw (told.begins, look)
          at s

      bit : bit_in (spot_row tables (spot_at here spot.0)) other.to ≡ 1
      bit = rw spot.2 told.has_end

      reached : bit_in (set_at unions at) other.to ≡ 1
      reached = (all.exact at (omega (arith, la, h.count)) other.to).1
          (rw look (spot.0, spot.1, bit))

      term_in : term < length terms
      term_in = rw (look, named) at (h.sound at j la (rw look lj)).term_in

      by_place : (other.to < to) ⊎ (to ≤ other.to) → (to < other.to) ⊎ (other.to ≤ to)
          → step_code terms (record { to = to; term = term }) ≤ step_code terms other
      by_place (inl less) o = absurd (nearer other.to less reached inside)
      by_place (inr ge) (inl more) =
          let g = mul-le-mul_left (length terms) more in omega (arith, g, term_in)
      by_place (inr ge) (inr le) = by_spot (cases_lt spot.0 j) where
        same : to ≡ other.to
        same = omega (arith, ge, le)

        by_spot : (spot.0 < j) ⊎ (j ≤ spot.0)
            → step_code terms (record { to = to; term = term }) ≤ step_code terms other
        by_spot (inl less) = absurd (earlier spot.0 less (rw same bit))
        by_spot (inr later) = let t = in_order
            (cases_lt j spot.0) in let f = ap (λ z. z * length terms)
            same in omega (arith, t, f) where
              in_order : (j < spot.0) ⊎ (spot.0 ≤ j) → term ≤ other.term
              in_order (inl less) =
                  let o = rw look at (h.ordered at j spot.0 la less (rw look spot.1)) in
                  let a = ap (λ s. s.term) spot.2 in
                  omega (arith, o, a, named)
              in_order (inr eq) =
                  let e : j ≡ spot.0 = omega (arith, later, eq) in
                  let a = ap (λ s. s.term) spot.2 in
                  let b = ap (λ k. (spot_at here k).term) e in
                  omega (arith, a, b, named)
