-- Rows that are asked one after the other, and the steps that they tell.
use Rattle.std.proofs.Common.{◌≡◌, ◌≢◌, ◌⊎◌, ⊎_elim, inl, inr, ℕ, zero, suc, ◌+◌, ◌<◌, List, [], ◌∷◌, length, set, ℤ, sym, ◌∙◌, arith, get_or-set_same, get_or-set_other}
use Rattle.std.proofs.lemmas.Bool.{cases_eq}
use Rattle.std.proofs.lemmas.List.Sums.{sum_by-set}
use Rattle.sfm_spec.specs.Sets.{AreDistinct}
use Rattle.sfm_spec.specs.Progress.{sum_below}
use Rattle.sfm_spec.specs.Terms.{times}
use Rattle.sfm_spec.specs.Families.{Meaning}
use Rattle.sfm_spec.specs.Walks.{base_at, term_at}
use Rattle.sfm_reach.specs.declared.bits.Bits.{Bits}
use Rattle.sfm_exchange.specs.declared.path.Hop.{Hop}
use Rattle.sfm_reach.specs.Bits.{bit_in, blank_bits, set_at}
use Rattle.sfm_exchange.specs.Claimed.{IsAsked, claims_of}
use Rattle.sfm_exchange.specs.Hops.{AreHops, IsHop, IsMovable, hop_at}
use Rattle.sfm_reach.specs.Reach.{IsRow, table_at}
use Rattle.sfm_reach.proofs.Picking.{picking_shrinks}

-- what is in a set now was in the one before, which had what this has
pub bit_back : (before after : Bits) (t : ℕ) → (bit_in before t ≢ 1 → bit_in after t ≢ 1)
    → bit_in after t ≡ 1 → bit_in before t ≡ 1
bit_back before after t fall one =
    ⊎_elim (λ is. is) (λ ne. absurd (fall ne one)) (cases_eq (bit_in before t) 1)

-- no more are claimed
pub asked_le : (tables tables' : List (List Bits)) (claimed claimed' : List Bits)
    → IsAsked tables claimed tables' claimed' → (k : ℕ) → claims_of claimed < k
    → claims_of claimed' < k
asked_le tables tables' claimed claimed' (inl (a, b)) k l = rw b l
asked_le tables tables' claimed claimed' (inr less) k l = omega (arith, less, l)

-- rows asked, and then others
pub asked_then : (tables tables' tables'' : List (List Bits))
    (claimed claimed' claimed'' : List Bits) → IsAsked tables claimed tables' claimed'
    → IsAsked tables' claimed' tables'' claimed'' → IsAsked tables claimed tables'' claimed''
asked_then tables tables' tables'' claimed claimed' claimed'' (inl (a, b)) (inl (a', b')) =
    inl (a' ∙ a, b' ∙ b)
asked_then tables tables' tables'' claimed claimed' claimed'' (inl (a, b)) (inr less) =
    inr (rw b at less)
asked_then tables tables' tables'' claimed claimed' claimed'' (inr less) o =
    inr (asked_le tables' tables'' claimed' claimed'' o (claims_of claimed) less)

less_by : (a b c d : ℕ) → a + c ≡ b + d → d < c → a < b
less_by a b c d same less = omega (arith, same, less)

-- with a claimed place taken out fewer are claimed
pub claims_fewer : (claimed : List Bits) (i place : ℕ) (b : Bits) → i < length claimed → place < 256
    → bit_in (set_at claimed i) place ≡ 1 → bit_in b place ≡ 0
    → ((e : ℕ) → e ≢ place → bit_in b e ≡ bit_in (set_at claimed i) e)
    → claims_of (set claimed i b) < claims_of claimed
claims_fewer claimed i place b li lp one gone rest =
    less_by (claims_of (set claimed i b)) (claims_of claimed)
    (sum_below 256 (bit_in (set_at claimed i))) (sum_below 256 (bit_in b))
    (sum_by-set (λ c. sum_below 256 (bit_in c)) claimed i b blank_bits li)
    (picking_shrinks (set_at claimed i) b place
    (record { below = lp; had = one; out = gone; others = rest }))

-- and no other place is
pub claims_kept : (claimed : List Bits) (i place : ℕ) (b : Bits) → i < length claimed
    → bit_in b place ≡ 0 → ((e : ℕ) → e ≢ place → bit_in b e ≡ bit_in (set_at claimed i) e)
    → (j e : ℕ) → bit_in (set_at claimed j) e ≢ 1 → bit_in (set_at (set claimed i b) j) e ≢ 1
claims_kept claimed i place b li gone rest j e none = at (cases_eq j i) (cases_eq e place) where
  at : (j ≡ i) ⊎ (j ≢ i) → (e ≡ place) ⊎ (e ≢ place) → bit_in (set_at (set claimed i b) j) e ≢ 1
  at (inl same) (inl here) = rw (same, get_or-set_same claimed i b blank_bits li, here)
      (λ one. omega (arith, one, gone))
  at (inl same) (inr other) = rw (same, get_or-set_same claimed i b blank_bits li, rest e other)
      (rw same at none)
  at (inr ne) o = rw (get_or-set_other claimed i j b blank_bits ne) none

-- the step k names its places, and its row has its end
pub told_at : (terms : List Meaning) (tables : List (List Bits)) (from : ℕ) (hops : List Hop)
    (k : ℕ) → AreHops terms tables from hops → k < length hops
    → ((at : ℕ) × IsHop terms at (hop_at hops k))
    × (bit_in (set_at (table_at tables (hop_at hops k).term) (hop_at hops k).u)
    (hop_at hops k).to ≡ 1)
told_at terms tables from [] k h l = absurd (omega arith)
told_at terms tables from (x ∷ hops) zero h l = ((from, h.0), h.1)
told_at terms tables from (x ∷ hops) (suc k) h l =
    told_at terms tables x.to hops k h.2 (omega arith)

-- a step that a true row tells can move something
pub true_movable : (terms : List Meaning) (q : ℤ) (rows : List (List ℤ)) (from : ℕ) (hop : Hop)
    (row : Bits) → AreDistinct (term_at terms hop.term).places → IsHop terms from hop
    → IsRow (term_at terms hop.term).places (times q (term_at terms hop.term).value)
    (base_at rows hop.term) hop.u row → bit_in row hop.to ≡ 1 → IsMovable terms q rows hop
true_movable terms q rows from hop row distinct is right one =
    let (v, lv, ne, room, at) = (right hop.to).0 one in
    let same : v ≡ hop.v = distinct v hop.v lv is.v_in (at ∙ sym is.ends) in
    record {
      term_in = is.term_in;
      u_in = is.u_in;
      v_in = is.v_in;
      apart = (λ s. ne (same ∙ sym s));
      room = rw same at room;
    }

-- where a step that the rows told at first is refused, fewer are claimed than at first
pub asked_refused : (hop : Hop) (tables tables' tables'' : List (List Bits))
    (claimed claimed' claimed'' : List Bits) → IsAsked tables claimed tables' claimed'
    → IsAsked tables' claimed' tables'' claimed''
    → bit_in (set_at (table_at tables hop.term) hop.u) hop.to ≡ 1
    → (bit_in (set_at (table_at tables' hop.term) hop.u) hop.to ≡ 1
    → claims_of claimed'' < claims_of claimed') → claims_of claimed'' < claims_of claimed
asked_refused hop tables tables' tables'' claimed claimed' claimed'' (inl (a, b)) o told refused =
    rw b at (refused (rw a told))
asked_refused hop tables tables' tables'' claimed claimed' claimed'' (inr less) o told refused =
    asked_le tables' tables'' claimed' claimed'' o (claims_of claimed) less
