-- The union rows after rows of one term have changed.
use Rattle.std.proofs.Common.{◌≡◌, ◌≢◌, ◌⊎◌, ◌↔◌, ⊎_elim, ℕ, ◌<◌, max, List, length, get_or, sym, ap, ◌∙◌, arith, inl, inr}
use Rattle.std.proofs.lemmas.Bool.{cases_eq}
use Rattle.sfm_spec.specs.Families.{Meaning}
use Rattle.sfm_spec.specs.Sets.{AreDistinct}
use Rattle.sfm_spec.specs.Walks.{term_at}
use Rattle.sfm_reach.specs.declared.bits.Bits.{Bits}
use Rattle.sfm_reach.specs.declared.spots.Spot.{Spot}
use Rattle.sfm_reach.specs.Bits.{bit_in, set_at}
use Rattle.sfm_reach.specs.Reach.{table_at}
use Rattle.sfm_reach.specs.Spots.{AreSpots, IsSpot, spots_at, spot_at}
use Rattle.sfm_reach.specs.Unions.{AreRenewed, AreUnions, AreWidened, IsUnion, spot_row}
use Rattle.sfm_reach.proofs.Uniting.{union_same}
use Rattle.sfm_reach.proofs.Words.{bit_in-lt}
use Rattle.sfm_exchange.specs.declared.renewing.Changes.{Changes}
use Rattle.sfm_exchange.specs.Renewed.{AreChanges}

-- after rows of one term have changed, those that may be any are brought up and those that have
-- grown are put in
module _ (terms : List Meaning) (n : ℕ) (spots : List (List Spot))
    (tables tables' : List (List Bits)) (unions mid unions' : List Bits) (i : ℕ) (changes : Changes)
    (h : AreSpots terms n spots) (all : AreUnions tables spots unions)
    (distinct : AreDistinct (term_at terms i).places) (li : i < length terms)
    (others : (j : ℕ) → j ≢ i → table_at tables' j ≡ table_at tables j)
    (c : AreChanges (term_at terms i).places changes (table_at tables i) (table_at tables' i))
    (r : AreRenewed tables' spots changes.anew unions mid)
    (w : AreWidened (term_at terms i).places (table_at tables' i) changes.grown
    (length (term_at terms i).places) mid unions') where
  abbrev here : ℕ → List Spot
  here e = spots_at spots e

  -- the row of another term
  other_row : (spot : Spot) → spot.term ≢ i → spot_row tables' spot ≡ spot_row tables spot
  other_row spot ne = ap (λ table. set_at table spot.local) (others spot.term ne)

  -- where no row has grown
  stays : (e : ℕ) → e < length spots → bit_in changes.grown e ≢ 1 → bit_in changes.anew e ≢ 1
      → IsUnion tables' (here e) (length (here e)) (set_at unions e)
  stays e l out not = union_same tables tables' (here e) (length (here e)) (set_at unions e)
      (λ j lj. same j (h.sound e j (omega (arith, l, h.count)) lj)
      (cases_eq (spot_at (here e) j).term i)) (all.exact e l) where
        same : (j : ℕ) → IsSpot terms e (spot_at (here e) j) → ((spot_at (here e) j).term ≡ i)
            ⊎ ((spot_at (here e) j).term ≢ i)
            → spot_row tables' (spot_at (here e) j) ≡ spot_row tables
            (spot_at (here e) j)
        same j s (inl is) =
            let k = (spot_at (here e) j).local in
            let at : get_or (term_at terms i).places k 0 ≡ e = rw is at s.at in
            let row = c.others k (rw is at s.local_in) (λ one. out (rw at at one))
            (λ one. not (rw at at one)) in
            ap (λ z. set_at (table_at tables' z) k) is
            ∙ (row ∙ sym (ap (λ z. set_at (table_at tables z) k) is))
        same j s (inr ne) = other_row (spot_at (here e) j) ne

  module _ (e : ℕ) (l : e < length spots) (u : ℕ) (lu : u < length (term_at terms i).places)
      (at : get_or (term_at terms i).places u 0 ≡ e) (one : bit_in changes.grown e ≡ 1)
      (t : ℕ) where
    le : e < n
    le = let k = h.count in omega (arith, l, k)

    joined : bit_in (set_at unions' e) t ≡ max (bit_in (set_at mid e) t)
        (bit_in (set_at (table_at tables' i) u) t)
    joined = rw at at (w.widened u lu (rw at one) t)

    -- a spot of the term is that of u
    spot_of : (j : ℕ) → j < length (here e) → (spot_at (here e) j).term ≡ i
        → (spot_at (here e) j).local ≡ u
    spot_of j lj is =
        let s = h.sound e j le lj in
        let k = (spot_at (here e) j).local in
        let there : get_or (term_at terms i).places k 0 ≡ e = rw is at s.at in
        distinct k u (rw is at s.local_in) lu (there ∙ sym at)

    row_is : (some : List (List Bits)) (j : ℕ) → j < length (here e) → (spot_at (here e) j).term ≡ i
        → spot_row some (spot_at (here e) j) ≡ set_at (table_at some i) u
    row_is some j lj is = ap (λ z. set_at (table_at some z) (spot_at (here e) j).local) is
        ∙ ap (λ k. set_at (table_at some i) k) (spot_of j lj is)

    abbrev Found : List (List Bits) → Type 0
    Found some = (j : ℕ) × (j < length (here e))
        × (bit_in (spot_row some (spot_at (here e) j)) t ≡ 1)

    -- what an old row had a new one has
    kept : Found tables → Found tables'
    kept (j, lj, bit) = ⊎_elim
        (λ is.
        let old : bit_in (set_at (table_at tables i) u) t ≡ 1 = rw (row_is tables j lj is) at bit in
        let new = c.grown u t lu (rw at one) old in
        (j, lj, rw (row_is tables' j lj is) new))
        (λ ne. (j, lj, rw (other_row (spot_at (here e) j) ne) bit))
        (cases_eq (spot_at (here e) j).term i)

    mid_found : bit_in (set_at mid e) t ≡ 1 → Found tables'
    mid_found bit = ⊎_elim
        (λ anew. (r.renewed e anew t).0 bit)
        (λ not. kept ((all.exact e l t).0 (rw (r.others e not) at bit)))
        (cases_eq (bit_in changes.anew e) 1)

    own_found : bit_in (set_at (table_at tables' i) u) t ≡ 1 → Found tables'
    own_found bit =
        let (k, lk, is) = h.complete i u li lu in
        let there : (k : ℕ) × (k < length (spots_at spots (get_or (term_at terms i).places u 0)))
        × (bit_in (spot_row tables'
        (spot_at (spots_at spots (get_or (term_at terms i).places u 0)) k)) t ≡ 1) = (
          k,
          lk,
          rw is bit,
        ) in
        rw at at there

    found_mid : (j : ℕ) → j < length (here e) → bit_in (spot_row tables' (spot_at (here e) j)) t ≡ 1
        → (spot_at (here e) j).term ≢ i → bit_in (set_at mid e) t ≡ 1
    found_mid j lj bit ne = ⊎_elim
        (λ anew. (r.renewed e anew t).1 (j, lj, bit))
        (λ not. rw (r.others e not) ((all.exact e l t).1
        (j, lj, rw (other_row (spot_at (here e) j) ne) at bit)))
        (cases_eq (bit_in changes.anew e) 1)

    widened_at : (bit_in (set_at unions' e) t ≡ 1) ↔ Found tables'
    widened_at = (
      (λ bit. ⊎_elim mid_found (λ not.
          own_found (let m = joined in let a = bit_in-lt (set_at mid e) t in let b = bit_in-lt
          (set_at (table_at tables' i) u) t in omega (arith, m, a, b, bit, not)))
          (cases_eq (bit_in (set_at mid e) t) 1)),
      (λ (j, lj, bit). ⊎_elim
          (λ is. let row : bit_in (set_at (table_at tables' i) u)
          t ≡ 1 = rw (row_is tables' j lj is) at bit in let m = joined in let a = bit_in-lt
          (set_at mid e) t in omega (arith, m, a, row))
          (λ ne. let row = found_mid j lj bit ne in let m = joined in let b = bit_in-lt
          (set_at (table_at tables' i) u) t in omega (arith, m, b, row))
          (cases_eq (spot_at (here e) j).term i)),
    )

  exact : (e : ℕ) → e < length spots → (bit_in changes.grown e ≡ 1) ⊎ (bit_in changes.grown e ≢ 1)
      → IsUnion tables' (here e) (length (here e)) (set_at unions' e)
  exact e l (inl one) = let (u, lu, at) = c.inside e (inl one) in λ t. widened_at e l u lu at one t
  exact e l (inr out) =
      let same = w.others e (λ u lu one at. out (rw at at one)) in
      rw same (⊎_elim (λ anew. r.renewed e anew) (λ not. rw (r.others e not) (stays e l out not))
      (cases_eq (bit_in changes.anew e) 1))

  pub unions_widened : AreUnions tables' spots unions'
  unions_widened = record {
    count = w.count ∙ (r.count ∙ all.count);
    exact = λ e l. exact e l (cases_eq (bit_in changes.grown e) 1);
  }
