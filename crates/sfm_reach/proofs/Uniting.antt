-- The union rows of places.
use Rattle.std.proofs.Common.{◌≡◌, ◌≢◌, ◌⊎◌, ⊎_elim, ℕ, ◌+◌, ◌<◌, ◌≤◌, max, List, [], ◌∷◌, ◌++◌, length, get_or, set, ℤ, refl, sym, ap, ◌∙◌, arith, inl, inr, length-set, get_or-set_same, get_or-set_other}
use Rattle.std.proofs.lemmas.Bool.{cases_eq, cases_lt}
use Rattle.sfm_reach.specs.declared.bits.Bits.{Bits}
use Rattle.sfm_reach.specs.declared.spots.Spot.{Spot}
use Rattle.sfm_reach.specs.Bits.{bit_in, set_at, blank_bits, IsTaken}
use Rattle.sfm_spec.specs.Families.{Meaning}
use Rattle.sfm_spec.specs.Sets.{AreDistinct}
use Rattle.sfm_spec.specs.Walks.{term_at, IsStep}
use Rattle.sfm_reach.specs.Spots.{AreSpots, IsSpot, spots_at, spot_at}
use Rattle.sfm_reach.specs.Reach.{IsTable, table_at}
use Rattle.sfm_reach.specs.Unions.{IsUnion, AreRenewed, AreUnions, AreWidened, AreLinks, HasRows, HaveRows, spot_row}
use Rattle.std.proofs.lemmas.List.{get_or_default, length-append}
use Rattle.std.proofs.Math.ListN.{get_or-append}
use Rattle.std.proofs.Math.Seq.{get_or-append_seam}
use Rattle.sfm_reach.proofs.Words.{bit_in-lt}
use Rattle.sfm_reach.proofs.Spotting.{spots_read}

-- no row joined
pub union_none : (tables : List (List Bits)) (spots : List Spot) (s : Bits)
    → ((e : ℕ) → bit_in s e ≡ 0) → IsUnion tables spots 0 s
union_none tables spots s h t = (
  (λ one. absurd (let z = h t in omega (arith, z, one))),
  (λ (j, lj, bit). absurd (omega (arith, lj))),
)

-- one row more
pub union_more : (tables : List (List Bits)) (spots : List Spot) (k : ℕ) (s s' row : Bits)
    → IsUnion tables spots k s → row ≡ spot_row tables (spot_at spots k)
    → ((e : ℕ) → bit_in s' e ≡ max (bit_in s e) (bit_in row e)) → IsUnion tables spots (k + 1) s'
union_more tables spots k s s' row h is joined t = (to, from) where
  to : bit_in s' t ≡ 1 → (j : ℕ) × (j < k + 1) × (bit_in (spot_row tables (spot_at spots j)) t ≡ 1)
  to one = ⊎_elim
      (λ old. let (j, lj, bit) = (h t).0 old in (j, omega (arith, lj), bit))
      (λ other. (
        k,
        omega arith,
        let b = bit_in-lt row t in let m = joined t in let a = bit_in-lt s
            t in rw (← is) (by_max m b a other one),
      ))
      (cases_eq (bit_in s t) 1) where
        by_max : bit_in s' t ≡ max (bit_in s t) (bit_in row t) → bit_in row t < 2 → bit_in s t < 2
            → bit_in s t ≢ 1 → bit_in s' t ≡ 1 → bit_in row t ≡ 1
        by_max m b a other one = omega (arith, m, b, a, other, one)

  from : (j : ℕ) × (j < k + 1) × (bit_in (spot_row tables (spot_at spots j)) t ≡ 1)
      → bit_in s' t ≡ 1
  from (j, lj, bit) =
      let m = joined t in
      let b = bit_in-lt row t in
      let a = bit_in-lt s t in
      ⊎_elim
      (λ less. let old = (h t).1 (j, less, bit) in omega (arith, m, old, b))
      (λ ge. let same : j ≡ k = omega (arith, ge, lj) in let one : bit_in row
      t ≡ 1 = rw (is, ← same) bit in omega (arith, m, one, a))
      (cases_lt j k)

-- the rows of the places of a set but those ahead are brought up, and all others stay
pub record IsRenewing (tables : List (List Bits)) (spots : List (List Spot)) (places ahead : Bits)
    (before after : List Bits) : Type 0 where
  pub count : length after ≡ length before
  pub inside : (e : ℕ) → bit_in ahead e ≡ 1 → bit_in places e ≡ 1
  pub renewed : (e : ℕ) → bit_in places e ≡ 1 → bit_in ahead e ≡ 0
      → IsUnion tables (spots_at spots e) (length (spots_at spots e)) (set_at after e)
  pub others : (e : ℕ) → bit_in places e ≢ 1 → set_at after e ≡ set_at before e

pub renewing_begun : (tables : List (List Bits)) (spots : List (List Spot)) (places ahead : Bits)
    (unions : List Bits) → ((e : ℕ) → bit_in ahead e ≡ bit_in places e)
    → IsRenewing tables spots places ahead unions unions
renewing_begun tables spots places ahead unions all =
    record {
      count = refl;
      inside = λ e one. sym (all e) ∙ one;
      renewed = λ e one none. absurd (let a = all e in omega (arith, a, one, none));
      others = λ e h. refl;
    }

-- one place more
pub renewing_more : (tables : List (List Bits)) (spots : List (List Spot))
    (places ahead ahead' : Bits) (before mid : List Bits) (e : ℕ) (row : Bits)
    → IsRenewing tables spots places ahead before mid → e < length mid
    → IsTaken ahead e ahead' → IsUnion tables (spots_at spots e) (length (spots_at spots e)) row
    → IsRenewing tables spots places ahead' before (set mid e row)
renewing_more tables spots places ahead ahead' before mid e row h inside taken union = record {
  count = length-set mid e row ∙ h.count;
  inside = λ k bit. ⊎_elim (λ same.
      absurd (let z : bit_in ahead' e ≡ 1 = rw same at bit in omega (arith, z, taken.out)))
      (λ ne. h.inside k (sym (taken.others k ne) ∙ bit)) (cases_eq k e);
  renewed = λ k has none. at k (cases_eq k e) has none;
  others = λ k none. get_or-set_other mid e k row blank_bits
      (λ same. none (rw same (h.inside e taken.had))) ∙ h.others k none;
} where
  at : (k : ℕ) → (k ≡ e) ⊎ (k ≢ e) → bit_in places k ≡ 1 → bit_in ahead' k ≡ 0
      → IsUnion tables (spots_at spots k) (length (spots_at spots k)) (set_at (set mid e row) k)
  at k (inl same) has none = rw (same, get_or-set_same mid e row blank_bits inside) union
  at k (inr ne) has none = rw (get_or-set_other mid e k row blank_bits ne)
      (h.renewed k has (sym (taken.others k ne) ∙ none))

-- the rows of a term that were read
pub table_read : (tables : List (List Bits)) (i : ℕ) (table shown : List Bits) → i < length tables
    → table ≡ get_or tables i table → shown ≡ table → table_at tables i ≡ shown
table_read tables i table shown l is look = get_or_default tables i [] table l ∙ (sym is ∙ sym look)

-- one row of them
pub row_read : (tables : List (List Bits)) (spot : Spot) (table shown : List Bits) (d : Bits)
    → spot.term < length tables → spot.local < length (table_at tables spot.term)
    → table ≡ get_or tables spot.term table → shown ≡ table
    → get_or shown spot.local d ≡ spot_row tables spot
row_read tables spot table shown d lt ll is look =
    let same = table_read tables spot.term table shown lt is look in
    let l : spot.local < length shown = rw same at ll in
    get_or_default shown spot.local d blank_bits l ∙ ap (λ s. set_at s spot.local) (sym same)

-- there is a row for each spot of a place that was read
pub rows_read : (tables : List (List Bits)) (spots : List (List Spot)) (e : ℕ)
    (here shown : List Spot) → HaveRows tables spots → e < length spots → here ≡ get_or spots e here
    → shown ≡ here → HasRows tables shown
rows_read tables spots e here shown h l is look =
    rw (spots_read spots e here l is ∙ sym look) at (h e l)

-- the union of one place more
pub unions_push : (tables : List (List Bits)) (spots : List (List Spot)) (k : ℕ)
    (unions : List Bits) (row : Bits) → length unions ≡ k
    → ((e : ℕ) → e < k → IsUnion tables (spots_at spots e) (length (spots_at spots e))
    (set_at unions e)) → IsUnion tables (spots_at spots k) (length (spots_at spots k)) row
    → (length (unions ++ row ∷ []) ≡ k + 1)
    × ((e : ℕ) → e < k + 1 → IsUnion tables (spots_at spots e) (length (spots_at spots e))
    (set_at (unions ++ row ∷ []) e))
unions_push tables spots k unions row count h here =
    (omega (arith, length-append unions (row ∷ []), count), each) where
      each : (e : ℕ) → e < k + 1 → IsUnion tables (spots_at spots e) (length (spots_at spots e))
          (set_at (unions ++ row ∷ []) e)
      each e l = ⊎_elim
          (λ less. rw (get_or-append unions (row ∷ []) blank_bits e (omega (arith, less, count)))
          (h e less))
          (λ ge. let same : e ≡ length unions = omega (arith, ge, l, count) in let same' : e
          ≡ k = omega (arith, ge, l) in
          rw (ap (λ z. set_at (unions ++ row ∷ []) z) same
          ∙ get_or-append_seam unions row [] blank_bits) (rw same' here))
          (cases_lt e k)

-- there is a row for each spot where there is one for each place of each term
pub have_rows : (terms : List Meaning) (n : ℕ) (spots : List (List Spot))
    (tables : List (List Bits)) → AreSpots terms n spots → length tables ≡ length terms
    → ((i : ℕ) → i < length terms → length (table_at tables i) ≡ length (term_at terms i).places)
    → HaveRows tables spots
have_rows terms n spots tables h count sized e l j lj =
    let s = h.sound e j (omega (arith, l, h.count)) lj in (
      omega (arith, count, s.term_in),
      rw (sized (spot_at (spots_at spots e) j).term s.term_in) s.local_in,
    )

-- a union of the same rows
pub union_same : (tables tables' : List (List Bits)) (spots : List Spot) (k : ℕ) (s : Bits)
    → ((j : ℕ) → j < k → spot_row tables' (spot_at spots j) ≡ spot_row tables (spot_at spots j))
    → IsUnion tables spots k s → IsUnion tables' spots k s
union_same tables tables' spots k s same h t = (
  (λ one. let (j, lj, bit) = (h t).0 one in (j, lj, rw (same j lj) bit)),
  (λ (j, lj, bit). (h t).1 (j, lj, rw (same j lj) at bit)),
)

-- after some rows of one term have changed and the unions of their places are brought up
pub unions_renewed : (terms : List Meaning) (n : ℕ) (spots : List (List Spot))
    (tables tables' : List (List Bits)) (unions unions' : List Bits) (i : ℕ) (places : Bits)
    → AreSpots terms n spots → AreUnions tables spots unions
    → ((j : ℕ) → j ≢ i → table_at tables' j ≡ table_at tables j)
    → ((u : ℕ) → u < length (term_at terms i).places
    → bit_in places (get_or (term_at terms i).places u 0) ≢ 1
    → set_at (table_at tables' i) u ≡ set_at (table_at tables i) u)
    → AreRenewed tables' spots places unions unions' → AreUnions tables' spots unions'
unions_renewed terms n spots tables tables' unions unions' i places h all others rows r =
    record {
      count = r.count ∙ all.count;
      exact = λ e l. exact e l (cases_eq (bit_in places e) 1);
    } where
      exact : (e : ℕ) → e < length spots → (bit_in places e ≡ 1) ⊎ (bit_in places e ≢ 1)
          → IsUnion tables' (spots_at spots e) (length (spots_at spots e)) (set_at unions' e)
      exact e l (inl one) = r.renewed e one
      exact e l (inr none) = rw (r.others e none)
          (union_same tables tables' (spots_at spots e) (length (spots_at spots e))
          (set_at unions e)
          (λ j lj. same j (h.sound e j (omega (arith, l, h.count)) lj)
          (cases_eq (spot_at (spots_at spots e) j).term i)) (all.exact e l)) where
            same : (j : ℕ) → IsSpot terms e (spot_at (spots_at spots e) j)
                → ((spot_at (spots_at spots e) j).term ≡ i)
                ⊎ ((spot_at (spots_at spots e) j).term ≢ i)
                → spot_row tables' (spot_at (spots_at spots e) j) ≡ spot_row tables
                (spot_at (spots_at spots e) j)
            same j s (inl is) =
                let k = (spot_at (spots_at spots e) j).local in
                let at : get_or (term_at terms i).places k 0 ≡ e = rw is at s.at in
                let row = rows k (rw is at s.local_in) (λ one. none (rw at at one)) in
                ap (λ z. set_at (table_at tables' z) k) is
                ∙ (row ∙ sym (ap (λ z. set_at (table_at tables z) k) is))
            same j s (inr ne) = ap (λ table. set_at table (spot_at (spots_at spots e) j).local)
                (others (spot_at (spots_at spots e) j).term ne)

-- the union rows tell the steps
pub links_of : (terms : List Meaning) (n : ℕ) (q : ℤ) (rows : List (List ℤ))
    (spots : List (List Spot)) (tables : List (List Bits)) (unions : List Bits)
    → AreSpots terms n spots → AreUnions tables spots unions
    → ((i : ℕ) → i < length terms → IsTable terms q rows i (table_at tables i))
    → AreLinks terms n q rows unions
links_of terms n q rows spots tables unions h all right e t l = (to, from) where
  le : e < length spots
  le = omega (arith, l, h.count)

  to : bit_in (set_at unions e) t ≡ 1 → (i : ℕ)
      × IsStep terms q rows e (record { to = t; term = i })
  to one =
      let (j, lj, bit) = (all.exact e le t).0 one in
      let s = h.sound e j l lj in (
        (spot_at (spots_at spots e) j).term,
        rw s.at at ((right (spot_at (spots_at spots e) j).term s.term_in
            (spot_at (spots_at spots e) j).local t s.local_in).0 bit),
      )

  from : (i : ℕ) × IsStep terms q rows e (record { to = t; term = i })
      → bit_in (set_at unions e) t ≡ 1
  from (i, s) =
      let c = s.2 in
      let bit = (right i c.in_range c.u t c.u_in).1 (rw c.begins s) in
      let (k, lk, is) = h.complete i c.u c.in_range c.u_in in
      let there : (j : ℕ) × (j < length (spots_at spots (get_or (term_at terms i).places c.u 0)))
      × (bit_in (spot_row tables (spot_at
      (spots_at spots (get_or (term_at terms i).places c.u 0)) j)) t ≡ 1) = (
        k,
        lk,
        rw is bit,
      ) in
      (all.exact e le t).1 (rw c.begins at there)

-- one row more put into the unions
pub widened_more : (places : List ℕ) (table : List Bits) (grown : Bits) (k : ℕ)
    (before mid : List Bits) (row : Bits) → AreDistinct places → k < length places
    → AreWidened places table grown k before mid → bit_in grown (get_or places k 0) ≡ 1
    → get_or places k 0 < length mid
    → ((t : ℕ) → bit_in row t ≡ max (bit_in (set_at mid (get_or places k 0)) t)
    (bit_in (set_at table k) t))
    → AreWidened places table grown (k + 1) before (set mid (get_or places k 0) row)
widened_more places table grown k before mid row distinct lk h one inside joined = record {
  count = length-set mid (get_or places k 0) row ∙ h.count;
  widened = λ u lu has t. at u lu has t (cases_lt u k);
  others = λ e none. get_or-set_other mid (get_or places k 0) e row blank_bits
      (λ same. none k (omega arith) one (sym same))
      ∙ h.others e (λ u lu one. none u (omega (arith, lu)) one);
} where
  at : (u : ℕ) → u < k + 1 → bit_in grown (get_or places u 0) ≡ 1 → (t : ℕ) → (u < k) ⊎ (k ≤ u)
      → bit_in (set_at (set mid (get_or places k 0) row) (get_or places u 0)) t ≡ max
      (bit_in (set_at before (get_or places u 0)) t) (bit_in (set_at table u) t)
  at u lu one t (inl less) = rw (get_or-set_other mid (get_or places k 0) (get_or places u 0) row
      blank_bits (λ same. let z = distinct u k (omega (arith, less, lk)) lk
      same in omega (arith, z, less))) (h.widened u less one t)
  at u lu one t (inr ge) =
      let same : u ≡ k = omega (arith, ge, lu) in
      let stays = h.others (get_or places k 0)
      (λ i li has is. let z = distinct i k (omega (arith, li, lk)) lk
      is in omega (arith, z, li)) in
      rw (same, get_or-set_same mid (get_or places k 0) row blank_bits inside, ← stays) (joined t)

-- one that is left out
pub widened_past : (places : List ℕ) (table : List Bits) (grown : Bits) (k : ℕ)
    (before mid : List Bits) → AreWidened places table grown k before mid
    → bit_in grown (get_or places k 0) ≢ 1 → AreWidened places table grown (k + 1) before mid
widened_past places table grown k before mid h out = record {
  count = h.count;
  widened = λ u lu has t. ⊎_elim (λ less. h.widened u less has t)
      (λ (ge : k ≤ u). let same : u ≡ k = omega (arith, ge, lu) in absurd (out (rw same at has)))
      (cases_lt u k);
  others = λ e none. h.others e (λ u lu has. none u (omega (arith, lu)) has);
}
