-- The rows of a term, and the steps that they tell.
use Rattle.std.proofs.Common.{◌≡◌, ◌≢◌, ◌⊎◌, ◌↔◌, ℕ, ◌+◌, ◌<◌, Bool, List, length, get_or, set, ℤ, refl, sym, ◌∙◌, arith, inl, inr, get_or-set_same, get_or-set_other}
use Rattle.std.proofs.lemmas.Bool.{cases_eq}
use Rattle.sfm_spec.specs.Sets.{AreDistinct}
use Rattle.sfm_spec.specs.Terms.{SetFunction, times, HasRoom}
use Rattle.sfm_spec.specs.Families.{Meaning}
use Rattle.sfm_spec.specs.Walks.{term_at, base_at, IsStep}
use Rattle.sfm_law.specs.Room.{IsReach}
use Rattle.sfm_reach.specs.declared.bits.Bits.{Bits}
use Rattle.sfm_reach.specs.Bits.{bit_in, set_at, blank_bits, HasPlaces}
use Rattle.sfm_reach.specs.Reach.{IsReachTable, IsRow, AreRowsOf, IsTable}

-- the row of a place is the ground places of its reach
pub row_of : (places : List ℕ) (f : SetFunction) (x : List ℤ) (u : ℕ) (row : Bits)
    (part : List Bool) → length x ≡ length places → IsReach f x u part
    → HasPlaces places part (length places) row → IsRow places f x u row
row_of places f x u row part sized reach has e = (
  (λ one. let (v, lv, hv, is) = (has e).0 one in let r = (reach.exact v (rw sized lv)).0
      hv in (v, lv, r.0, r.1, is)),
  (λ (v, lv, ne, room, is). (has e).1 (v, lv, (reach.exact v (rw sized lv)).1 (ne, room), is)),
)

-- one row more
pub table_more : (places : List ℕ) (f : SetFunction) (x : List ℤ) (k : ℕ) (table : List Bits)
    (row : Bits) → IsReachTable places f x k table → k < length table → IsRow places f x k row
    → IsReachTable places f x (k + 1) (set table k row)
table_more places f x k table row h inside is u e l = at (cases_eq u k) where
  Goal : Bits → ℕ → Type 0
  Goal s u = (bit_in s e ≡ 1) ↔ ((v : ℕ) × (v < length places) × (v ≢ u) × HasRoom f x u v
      × (get_or places v 0 ≡ e))

  at : (u ≡ k) ⊎ (u ≢ k) → Goal (set_at (set table k row) u) u
  at (inl same) = rw (same, get_or-set_same table k row blank_bits inside) (is e)
  at (inr ne) = rw (get_or-set_other table k u row blank_bits ne) (h u e (omega (arith, l, ne)))

-- the row of one more place
pub rows_more : (places : List ℕ) (f : SetFunction) (x : List ℤ) (k : ℕ) (asked more : Bits)
    (table : List Bits) (row : Bits) → AreRowsOf places f x asked table → k < length table
    → IsRow places f x k row
    → ((v : ℕ) → v ≢ k → bit_in more v ≡ bit_in asked v)
    → AreRowsOf places f x more (set table k row)
rows_more places f x k asked more table row h inside is others u one e = at (cases_eq u k) where
  Goal : Bits → ℕ → Type 0
  Goal s u = (bit_in s e ≡ 1) ↔ ((v : ℕ) × (v < length places) × (v ≢ u) × HasRoom f x u v
      × (get_or places v 0 ≡ e))

  at : (u ≡ k) ⊎ (u ≢ k) → Goal (set_at (set table k row) u) u
  at (inl same) = rw (same, get_or-set_same table k row blank_bits inside) (is e)
  at (inr ne) = rw (get_or-set_other table k u row blank_bits ne) (h u (sym (others u ne) ∙ one) e)

-- the rows of a term tell its steps
pub table_steps : (terms : List Meaning) (q : ℤ) (rows : List (List ℤ)) (i : ℕ) (table : List Bits)
    → i < length terms → AreDistinct (term_at terms i).places
    → IsReachTable (term_at terms i).places (times q (term_at terms i).value) (base_at rows i)
    (length (term_at terms i).places) table → IsTable terms q rows i table
table_steps terms q rows i table li distinct h u e lu = (to, from) where
  to : bit_in (set_at table u) e ≡ 1 → IsStep terms q rows (get_or (term_at terms i).places u 0)
      (record { to = e; term = i })
  to one =
      let (v, lv, ne, (a, some, base), is) = (h u e lu).0 one in (
        a,
        some,
        record {
          in_range = li;
          u = u;
          v = v;
          u_in = lu;
          v_in = lv;
          begins = refl;
          ends = is;
          apart = (λ s. ne (sym s));
          base = base;
        },
      )

  from : IsStep terms q rows (get_or (term_at terms i).places u 0) (record { to = e; term = i })
      → bit_in (set_at table u) e ≡ 1
  from (a, some, c) =
      let same : c.u ≡ u = distinct c.u u c.u_in lu c.begins in
      (h u e lu).1 (
        c.v,
        c.v_in,
        (λ s. c.apart (same ∙ sym s)),
        (a, some, rw same at c.base),
        c.ends,
      )

-- and so the other way round
pub steps_table : (terms : List Meaning) (q : ℤ) (rows : List (List ℤ)) (i : ℕ) (table : List Bits)
    → i < length terms → AreDistinct (term_at terms i).places → IsTable terms q rows i table
    → IsReachTable (term_at terms i).places (times q (term_at terms i).value) (base_at rows i)
    (length (term_at terms i).places) table
steps_table terms q rows i table li distinct h u e lu = (to, from) where
  to : bit_in (set_at table u) e ≡ 1 → (v : ℕ) × (v < length (term_at terms i).places) × (v ≢ u)
      × HasRoom (times q (term_at terms i).value) (base_at rows i) u v
      × (get_or (term_at terms i).places v 0 ≡ e)
  to one =
      let (a, some, c) = (h u e lu).0 one in
      let same : c.u ≡ u = distinct c.u u c.u_in lu c.begins in
      (c.v, c.v_in, (λ s. c.apart (same ∙ sym s)), (a, some, rw same at c.base), c.ends)

  from : (v : ℕ) × (v < length (term_at terms i).places) × (v ≢ u)
      × HasRoom (times q (term_at terms i).value) (base_at rows i) u v
      × (get_or (term_at terms i).places v 0 ≡ e) → bit_in (set_at table u) e ≡ 1
  from (v, lv, ne, (a, some, base), is) =
      (h u e lu).1 (
        a,
        some,
        record {
          in_range = li;
          u = u;
          v = v;
          u_in = lu;
          v_in = lv;
          begins = refl;
          ends = is;
          apart = (λ s. ne (sym s));
          base = base;
        },
      )
