-- The rows of what links lead to from each place tell which places come along with which in every
-- minimiser.
use Rattle.std.proofs.Common.{◌≡◌, ◌≢◌, ◌⊎◌, ◌↔◌, inl, inr, ⊎_elim, ℕ, ◌<◌, ◌≤◌, max, Bool, false, List, [], ◌∷◌, length, get_or, ℤ, refl, sym, ◌∙◌, arith}
use Rattle.std.proofs.lemmas.Bool.{both_ways, cases_eq, cases_lt}
use Rattle.std.proofs.lemmas.List.{get_or_past}
use Rattle.sfm_law.specs.declared.term.Term.{Ghosts}
use Rattle.sfm_spec.specs.Sets.{Has, complement}
use Rattle.sfm_spec.specs.Terms.{IsFamily, IsSubmodular}
use Rattle.sfm_spec.specs.Families.{meanings, IsLeast, IsGreatest, Prove}
use Rattle.sfm_spec.specs.Blocks.{IsFree, PullsAlong}
use Rattle.sfm_spec.proofs.Sets.{has_or_not}
use Rattle.sfm_spec.proofs.Walks.{has_below}
use Rattle.sfm_spec.proofs.Extremes.{in_complement, not_in_complement}
use Rattle.sfm_spec.proofs.Pulls.{free_exactly, pulls_exactly}
use Rattle.sfm_reach.specs.declared.bits.Bits.{Bits}
use Rattle.sfm_exchange.specs.Bits.{bit_in}
use Rattle.sfm_exchange.specs.Reached.{IsSetOf}
use Rattle.sfm_exchange.proofs.Minimisers.{as_set, greatest, least, links_are, walks_reach}
use Rattle.sfm_exchange.proofs.WholeGraphs.{are_terms, low, unions_count}
use Rattle.sfm_reach.proofs.Words.{bit_in-lt}
use Rattle.sfm_extreme.specs.declared.reading.Reading.{Reading}
use Rattle.sfm_extreme.specs.Pulls.{ArePullRows, AreSquare, IsPullSet, Pulls, row_of}
use Rattle.sfm_extreme.specs.Reading.{IsReading}
use Rattle.sfm_extreme.proofs.Generating.{TellsPulls}

-- as many places in each row as there are rows
pub square_of : {unions : List Bits} {outside : Bits} {rows : List (List Bool)}
    → ArePullRows unions outside rows → AreSquare rows
square_of pulls e l = (pulls.each e (rw (← pulls.count) l)).same.places ∙ sym pulls.count

module _ {X N : Type 0} {T : Ghosts X N} {terms : List X} {n : ℕ} {q : ℤ} {shift : List ℤ}
    {reading : Reading N} (h : IsReading T terms n q shift reading)
    (family : (x : X) → IsFamily (length (T.places x)) (T.value_of x))
    (law : (x : X) → IsSubmodular (length (T.places x)) (T.value_of x))
    (prove : Prove (meanings T.places T.value_of terms) n q shift reading.graph.now.bases)
    (outside : Bits) (joined : (e : ℕ)
    → bit_in outside e ≡ max (bit_in reading.reached e) (bit_in reading.leading e))
    (rows : List (List Bool)) (pulls : ArePullRows reading.graph.now.unions.items outside
    rows) where
  -- the least minimiser, and the places outside the greatest
  reached : (s : List Bool) × IsSetOf reading.reached n s
  reached = as_set reading.reached n

  leading : (s : List Bool) × IsSetOf reading.leading n s
  leading = as_set reading.leading n

  least_is : IsLeast (meanings T.places T.value_of terms) n q shift reached.0
  least_is = least h.whole family law h.count h.is_rest h.signed prove reading.reached reached.0
      reached.1 h.reached_are

  greatest_is : IsGreatest (meanings T.places T.value_of terms) n q shift (complement leading.0)
  greatest_is = greatest h.whole family law h.count h.is_rest h.signed prove reading.leading
      leading.0 leading.1 h.leading_are

  outside_in : (e : ℕ) → (bit_in reading.reached e ≡ 1) ⊎ (bit_in reading.leading e ≡ 1)
      → bit_in outside e ≡ 1
  outside_in e some =
      let m = joined e in
      let a = bit_in-lt reading.reached e in
      let b = bit_in-lt reading.leading e in
      ⊎_elim (λ one. omega (arith, m, a, b, one)) (λ one. omega (arith, m, a, b, one)) some

  outside_is : (e : ℕ) → bit_in outside e ≡ 1 → (bit_in reading.reached e ≡ 1)
      ⊎ (bit_in reading.leading e ≡ 1)
  outside_is e out =
      let m = joined e in
      let a = bit_in-lt reading.reached e in
      let b = bit_in-lt reading.leading e in
      ⊎_elim (λ one. inl one) (λ ne. inr (omega (arith, m, a, b, ne, out)))
      (cases_eq (bit_in reading.reached e) 1)

  -- a place between is in the greatest minimiser and not in the least
  in_greatest : (e : ℕ) → e < n → bit_in outside e ≢ 1 → Has (complement leading.0) e
  in_greatest e l mid = in_complement leading.0 e (rw leading.1.places l)
      (⊎_elim (λ has. absurd (mid (outside_in e (inr ((leading.1.exact e l).0 has)))))
      (λ none. none) (has_or_not leading.0 e))

  not_least : (e : ℕ) → e < n → bit_in outside e ≢ 1 → Has reached.0 e → ⊥
  not_least e l mid has = mid (outside_in e (inl ((reached.1.exact e l).0 has)))

  free : (e : ℕ) → e < n → IsFree (meanings T.places T.value_of terms) n q shift e
      ↔ (bit_in outside e ≢ 1)
  free e l = (
    (λ f out. let x = (free_exactly (meanings T.places T.value_of terms) n q shift reached.0
        (complement leading.0) least_is greatest_is e).0 f in ⊎_elim
        (λ one. x.1 ((reached.1.exact e l).1 one))
        (λ one. both_ways (get_or leading.0 e false) (not_in_complement leading.0 e x.0)
        ((leading.1.exact e l).1 one))
        (outside_is e out)),
    (λ mid. (free_exactly (meanings T.places T.value_of terms) n q shift reached.0
        (complement leading.0) least_is greatest_is e).1 (in_greatest e l mid, not_least e l mid)),
  )

  base_at : (e : ℕ) → e < n → IsPullSet reading.graph.now.unions.items outside e (row_of rows e)
  base_at e l = pulls.each e (rw (unions_count h.whole) l)

  none_in_nil : (s : List Bool) (d : ℕ) → s ≡ [] → Has s d → ⊥
  none_in_nil [] d e has = cc
  none_in_nil (b ∷ s) d e has = cc

  inside : (e d : ℕ) → Pulls rows e d → (e < n) × (d < n) × (bit_in outside e ≢ 1)
      × (bit_in outside d ≢ 1)
  inside e d has = at (cases_lt e n) where
    at : (e < n) ⊎ (n ≤ e) → (e < n) × (d < n) × (bit_in outside e ≢ 1) × (bit_in outside d ≢ 1)
    at (inl l) =
        let row = base_at e l in
        let ld : d < n = rw (← unions_count h.whole, ← row.same.places)
        (has_below (row_of rows e) d has) in
        let (found, mid) = (row.is_row.exact d).0
        ((row.same.exact d (rw (unions_count h.whole) ld)).0 has) in (
          l,
          ld,
          (λ out. none_in_nil [] d refl
              (row.is_row.reached.least []
              (λ k one. let (same, none) = (row.is_row.firsts_are k).0
              one in absurd (none (rw same out)))
              (λ k t in_nil bit. absurd (none_in_nil [] k refl in_nil)) d found)),
          mid,
        )
    at (inr ge) = absurd (none_in_nil (row_of rows e) d
        (get_or_past rows e [] (rw (pulls.count, unions_count h.whole) ge)) has)

  exact : (e d : ℕ) → e < n → d < n → bit_in outside e ≢ 1 → bit_in outside d ≢ 1 → Pulls rows e d
      ↔ PullsAlong (meanings T.places T.value_of terms) n q shift e d
  exact e d le ld me md = (to, from) where
    row : IsPullSet reading.graph.now.unions.items outside e (row_of rows e)
    row = base_at e le

    found : (s : List Bool) × IsSetOf row.is_row.found n s
    found = as_set row.is_row.found n

    along : PullsAlong (meanings T.places T.value_of terms) n q shift e d
        ↔ (Has reached.0 d ⊎ Has found.0 d)
    along =
        let fit = are_terms h.whole family law in
        let bases = h.whole.exact.are_bases in
        pulls_exactly (meanings T.places T.value_of terms) reading.graph.now.bases n q shift
        (low h.whole) fit bases prove reached.0 (complement leading.0) least_is greatest_is e d
        found.0 le
        (walks_reach (meanings T.places T.value_of terms) reading.graph.now.bases n q (low h.whole)
        fit bases reading.graph.now.unions.items (links_are h.whole family law)
        row.is_row.firsts row.is_row.found found.0 found.1 (λ k. k ≡ e)
        (λ k. (
          (λ one. let same = ((row.is_row.firsts_are k).0 one).0 in (rw same le, same)),
          (λ (l, same). (row.is_row.firsts_are k).1 (same, rw same me)),
        )) row.is_row.reached)
        (in_greatest e le me)

    to : Pulls rows e d → PullsAlong (meanings T.places T.value_of terms) n q shift e d
    to has = along.1
        (inr ((found.1.exact d ld).1
        ((row.is_row.exact d).0 ((row.same.exact d (rw (unions_count h.whole) ld)).0 has)).0))

    from : PullsAlong (meanings T.places T.value_of terms) n q shift e d → Pulls rows e d
    from pull = ⊎_elim (λ has. absurd (not_least d ld md has))
        (λ has. (row.same.exact d (rw (unions_count h.whole) ld)).1
        ((row.is_row.exact d).1 ((found.1.exact d ld).0 has, md))) (along.0 pull)

  -- the table tells of the minimisers
  pub tells : TellsPulls (meanings T.places T.value_of terms) n q shift (λ e. bit_in outside e ≢ 1)
      rows
  tells = record {
    count = pulls.count ∙ unions_count h.whole;
    square = square_of pulls;
    free = free;
    inside = inside;
    exact = exact;
  }
