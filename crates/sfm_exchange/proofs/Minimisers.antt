-- What the graph tells of the minimisers. What links lead to from some places is what walks reach
-- from them, so where the bases prove, what they lead to from the places with z < 0 is the least
-- minimiser. And each place from which links lead to one with z > 0 is outside each minimiser,
-- which no step leaves, so the places from which none does are the greatest.
use Rattle.std.proofs.Common.{◌≡◌, ◌↔◌, ⊎_elim, ℕ, ◌<◌, ◌≤◌, Bool, false, List, length, map, get_or, eqb, ℤ, pos, ◌≤ℤ◌, sym, ap, ◌∙◌, arith}
use Rattle.std.specs.List.{range_with_len}
use Rattle.std.proofs.lemmas.Bool.{both_ways, cases_lt, eq-eqb, eqb-true}
use Rattle.std.proofs.lemmas.List.{get_or_past}
use Rattle.std.proofs.lemmas.List.FromFn.{get_or-map-range_with_len, length-map-range_with_len}
use Rattle.sfm_law.specs.declared.term.Term.{Ghosts}
use Rattle.sfm_spec.specs.Sets.{Has, complement}
use Rattle.sfm_spec.specs.Terms.{IsFamily, IsSubmodular}
use Rattle.sfm_spec.specs.Families.{Meaning, meanings, AreTerms, AreBases, IsLeast, IsGreatest, IsMinimiser, IsSigned, Prove, rest_at}
use Rattle.sfm_spec.specs.Reach.{IsClosed, IsReachedSet, IsUnder}
use Rattle.sfm_spec.specs.Walks.{Step, IsOver, Joins}
use Rattle.sfm_spec.proofs.Extremes.{closed_minimiser, in_complement, least_of_reached, length-complement, minimiser_closed, no_join_exactly, not_in_complement, reached_of_least}
use Rattle.sfm_spec.proofs.Proving.{no_join, prove_if_none}
use Rattle.sfm_spec.proofs.Reach.{reached_set}
use Rattle.sfm_spec.proofs.Sets.{has_or_not}
use Rattle.sfm_spec.proofs.Walks.{has_below, step_below}
use Rattle.sfm_law.specs.Rest.{IsRest}
use Rattle.sfm_reach.specs.declared.bits.Bits.{Bits}
use Rattle.sfm_exchange.specs.declared.graph.Graph.{Graph}
use Rattle.sfm_exchange.specs.declared.signs.Signs.{Signs}
use Rattle.sfm_reach.specs.Bits.{bit_in, blank_bits, set_at}
use Rattle.sfm_exchange.specs.Graph.{IsWhole}
use Rattle.sfm_exchange.specs.Levels.{AreClosed}
use Rattle.sfm_reach.specs.Reached.{AreReached, AreWalked, IsSetOf}
use Rattle.sfm_exchange.specs.Signs.{AreSigns}
use Rattle.sfm_reach.specs.Turned.{AreTurned}
use Rattle.sfm_reach.specs.Unions.{AreLinks}
use Rattle.sfm_exchange.proofs.Joining.{none_joins}
use Rattle.sfm_reach.proofs.Uniting.{links_of}
use Rattle.sfm_exchange.proofs.WholeGraphs.{are_terms, counted, low, unions_count}
use Rattle.sfm_reach.proofs.Words.{within_words}

-- the bits of n places as a set
abbrev has_bit : Bits → ℕ → Bool
has_bit b e = eqb (bit_in b e) 1

pub as_set : (b : Bits) (n : ℕ) → (s : List Bool) × IsSetOf b n s
as_set b n = (
  map (has_bit b) (range_with_len 0 n),
  record {
    places = length-map-range_with_len (has_bit b) 0 n;
    exact = λ e l. let at : get_or (map (has_bit b) (range_with_len 0 n)) e false ≡ has_bit b
        e = get_or-map-range_with_len (has_bit b) 0 n e e false l (omega arith) in
        ((λ has. eqb-true (bit_in b e) 1 (sym at ∙ has)), (λ one. at ∙ eq-eqb (bit_in b e) 1 one));
  },
)

-- links lead from places of the list alone
link_from : (unions : List Bits) (e t : ℕ) → bit_in (set_at unions e) t ≡ 1 → e < length unions
link_from unions e t link = ⊎_elim
    (λ l. l)
    (λ past. absurd (let z = ap (λ b. bit_in b t) (get_or_past unions e blank_bits past)
    ∙ within_words blank_bits t (omega arith) in omega (arith, z, link)))
    (cases_lt e (length unions))

-- what is not in a set is in its complement
out_of : (s : List Bool) (e : ℕ) → e < length s → (Has s e → ⊥) → Has (complement s) e
out_of s e l out = in_complement s e l
    (⊎_elim (λ has. absurd (out has)) (λ none. none) (has_or_not s e))

not_both : (s : List Bool) (e : ℕ) → Has (complement s) e → Has s e → ⊥
not_both s e out has = both_ways (get_or s e false) (not_in_complement s e out) has

-- where the bases prove, all that walks lead to from the places with z < 0 is the least minimiser
module _ (terms : List Meaning) (rows : List (List ℤ)) (n : ℕ) (q : ℤ) (low : pos 0 ≤ℤ q)
    (fit : AreTerms n terms) (bases : AreBases q terms rows) (shift : List ℤ)
    (prove : Prove terms n q shift rows) where
  least_reached : (s : List Bool) → IsReachedSet terms n q rows (IsUnder terms rows shift) s
      → IsLeast terms n q shift s
  least_reached s set = (least_of_reached terms rows n q shift low fit bases s set
      ((no_join_exactly terms rows n q shift low fit bases s set).1
      (no_join terms rows n q shift low fit bases prove))).0

  pub least_walked : (firsts found : Bits)
      → ((e : ℕ) → (bit_in firsts e ≡ 1) ↔ ((e < n) × IsUnder terms rows shift e)) → (s : List Bool)
      → IsSetOf found n s → AreWalked terms n q rows firsts found → IsLeast terms n q shift s
  least_walked firsts found are s same walked =
      least_reached s (reached_of_least terms rows n q shift low fit bases s (record {
        places = same.places;
        firsts = λ e l under. (same.exact e l).1 (walked.begins e ((are e).1 (l, under)));
        closed = λ from step h has.
            let lf : from < n = inside from has in
            (same.exact step.to (step_below terms rows n q low fit bases from step h)).1
            (walked.closed from step h ((same.exact from lf).0 has));
        within = λ t places closed holds e has.
            walked.least t (λ d one. let (l, under) = (are d).0 one in holds d l under) closed e
            ((same.exact e (inside e has)).0 has);
      })) where
        inside : (e : ℕ) → Has s e → e < n
        inside e has = rw (← same.places) (has_below s e has)

module _ (terms : List Meaning) (rows : List (List ℤ)) (n : ℕ) (q : ℤ) (low : pos 0 ≤ℤ q)
    (fit : AreTerms n terms) (bases : AreBases q terms rows) (unions : List Bits)
    (links : AreLinks terms n q rows unions) where
  -- a link leads to a place of the ground
  pub link_below : (e t : ℕ) → e < n → bit_in (set_at unions e) t ≡ 1 → t < n
  link_below e t l bit = let (i, h) = (links e t l).0 bit in step_below terms rows n q low fit bases
      e (record { to = t; term = i }) h

  module _ (firsts found : Bits) (s : List Bool) (same : IsSetOf found n s) where
    inside : (e : ℕ) → Has s e → e < n
    inside e has = rw (← same.places) (has_below s e has)

    -- what links lead to from some places is what walks reach from them
    pub walks_reach : (P : ℕ → Type 0) → ((e : ℕ) → (bit_in firsts e ≡ 1) ↔ ((e < n) × P e))
        → AreReached unions firsts found → IsReachedSet terms n q rows P s
    walks_reach P are reached = record {
      places = same.places;
      firsts = λ e l p. (same.exact e l).1 (reached.begins e ((are e).1 (l, p)));
      closed = λ from step h has.
          let lf : from < n = inside from has in
          let lt : step.to < n = step_below terms rows n q low fit bases from step h in
          (same.exact step.to lt).1 (reached.closed from step.to ((same.exact from lf).0 has)
          ((links from step.to lf).1 (step.term, h)));
      reached = λ e has. walked.1.reached e (within e has);
    } where
      walked : (t : List Bool) × IsReachedSet terms n q rows P t
      walked =
          let (b, bits) = as_set firsts n in
          reached_set terms rows n q low fit bases P b bits.places
          (λ e l p. (bits.exact e l).1 ((are e).1 (l, p)))
          (λ e has. ((are e).0 ((bits.exact e (rw (← bits.places) (has_below b e has))).0
          has)).1)

      within : (e : ℕ) → Has s e → Has walked.0 e
      within e has = reached.least walked.0
          (λ d one. let (l, p) = (are d).0 one in walked.1.firsts d l p)
          (λ d k in_t bit. let (i, h) = (links d k
          (rw (← walked.1.places) (has_below walked.0 d in_t))).0 bit in walked.1.closed d
          (record { to = k; term = i }) h in_t)
          e ((same.exact e (inside e has)).0 has)

    module _ (shift : List ℤ) (prove : Prove terms n q shift rows) where
      pub least_is : ((e : ℕ) → (bit_in firsts e ≡ 1) ↔ ((e < n) × IsUnder terms rows shift e))
          → AreReached unions firsts found → IsLeast terms n q shift s
      least_is are reached =
          least_reached terms rows n q low fit bases shift prove s
          (walks_reach (IsUnder terms rows shift) are reached)

      module _ (back : List Bits) (turned : AreTurned unions back) (few : n ≤ 256)
          (count : length unions ≡ n)
          (are : (e : ℕ) → (bit_in firsts e ≡ 1) ↔ ((e < n) × IsOver terms rows shift e))
          (leading : AreReached back firsts found) where
        -- a place from which links lead to one with z > 0 is in no minimiser
        apart : (t : List Bool) → IsMinimiser terms n q shift t → (e : ℕ) → Has s e → Has t e → ⊥
        apart t m e has = not_both t e
            (leading.least (complement t) begins steps e
            ((same.exact e (inside e has)).0 has)) where
              kept : IsSigned n (rest_at terms rows shift) t × IsClosed terms q rows t
              kept = minimiser_closed terms rows n q shift low fit bases prove t m

              begins : (d : ℕ) → bit_in firsts d ≡ 1 → Has (complement t) d
              begins d one = let (l, over) = (are d).0 one in out_of t d (rw m.places l)
                  (kept.0.above d l over)

              steps : (d k : ℕ) → Has (complement t) d → bit_in (set_at back d) k ≡ 1
                  → Has (complement t) k
              steps d k out bit =
                  let ld : d < n = rw (← m.places, ← length-complement t)
                  (has_below (complement t) d out) in
                  let link : bit_in (set_at unions k) d ≡ 1 = sym
                  (turned.exact k d (omega (arith, ld, few))) ∙ bit in
                  let lk : k < n = rw (← count) (link_from unions k d link) in
                  let (i, h) = (links k d lk).0 link in
                  out_of t k (rw m.places lk)
                  (λ has. not_both t d out (kept.1 k (record { to = d; term = i }) h has))

        pub greatest_is : IsGreatest terms n q shift (complement s)
        greatest_is = record {
          minimiser = (closed_minimiser terms rows n q shift low fit bases (complement s)
              (length-complement s ∙ same.places) (record { below = below; above = above })
              closed).0;
          within = λ t m e has. out_of s e (rw (same.places, ← m.places) (has_below t e has))
              (λ lead. apart t m e lead has);
        } where
          below : (e : ℕ) → e < n → IsUnder terms rows shift e → Has (complement s) e
          below e l under = let (t, m, value) = prove in out_of s e (rw same.places l)
              (λ lead. apart t m e lead
              ((minimiser_closed terms rows n q shift low fit bases prove t m).0.below e l under))

          above : (e : ℕ) → e < n → IsOver terms rows shift e → Has (complement s) e → ⊥
          above e l over out = not_both s e out
              ((same.exact e l).1 (leading.begins e ((are e).1 (l, over))))

          closed : IsClosed terms q rows (complement s)
          closed from step h out =
              let lf : from < n = rw (← same.places, ← length-complement s)
              (has_below (complement s) from out) in
              let lt : step.to < n = step_below terms rows n q low fit bases from step h in
              let link = turned.exact from step.to (omega (arith, lt, few))
              ∙ (links from step.to lf).1 (step.term, h) in
              out_of s step.to (rw same.places lt)
              (λ lead. not_both s from out
              ((same.exact from lf).1 (leading.closed step.to from
              ((same.exact step.to lt).0 lead) link)))

-- the signs of z tell where it is below or over 0
module _ (terms : List Meaning) (n : ℕ) (rows : List (List ℤ)) {shift z : List ℤ} {signs : Signs}
    (zn : length z ≡ n) (rest : IsRest terms shift rows z) (signed : AreSigns z signs) where
  pub under_are : (e : ℕ) → (bit_in signs.under e ≡ 1) ↔ ((e < n) × IsUnder terms rows shift e)
  under_are e = (
    (λ one. let (l, u) = (signed.below e).0 one in (rw (← zn) l, rw (rest.exact e l) at u)),
    (λ (l, u). let lz : e < length z = rw zn l in (signed.below e).1 (lz, rw (rest.exact e lz) u)),
  )

  pub over_are : (e : ℕ) → (bit_in signs.over e ≡ 1) ↔ ((e < n) × IsOver terms rows shift e)
  over_are e = (
    (λ one. let (l, o) = (signed.above e).0 one in (rw (← zn) l, rw (rest.exact e l) at o)),
    (λ (l, o). let lz : e < length z = rw zn l in (signed.above e).1 (lz, rw (rest.exact e lz) o)),
  )

-- ---- the graph as a whole

module _ {X N : Type 0} {T : Ghosts X N} {terms : List X} {n : ℕ} {q : ℤ} {graph : Graph N}
    (h : IsWhole T terms n q graph)
    (family : (x : X) → IsFamily (length (T.places x)) (T.value_of x))
    (law : (x : X) → IsSubmodular (length (T.places x)) (T.value_of x)) where
  fit : AreTerms n (meanings T.places T.value_of terms)
  fit = are_terms h family law

  pub links_are : AreLinks (meanings T.places T.value_of terms) n q graph.bases graph.unions.items
  links_are = links_of (meanings T.places T.value_of terms) n q graph.bases graph.spots.items
      graph.rows.items graph.unions.items h.exact.are_spots h.exact.are_unions
      (λ i l. h.exact.tables i (rw (counted h) at l))

  -- links lead to places of the ground, and those turned round to places below 256
  pub link_in : (e t : ℕ) → e < length graph.unions.items
      → bit_in (set_at graph.unions.items e) t ≡ 1 → t < length graph.unions.items
  link_in e t l bit = rw (unions_count h)
      (link_below (meanings T.places T.value_of terms) graph.bases n q (low h) fit h.exact.are_bases
      graph.unions.items links_are e t (rw (unions_count h) at l) bit)

  pub back_in : (e t : ℕ) → e < length graph.back.items → bit_in (set_at graph.back.items e) t ≡ 1
      → t < length graph.back.items
  back_in e t l bit =
      let turned = h.exact.are_turned in
      let from = link_from graph.unions.items t e
      (sym (turned.exact t e (rw turned.count at l)) ∙ bit) in
      rw turned.count (omega (arith, from, unions_count h, h.bounded.few))

  module _ {shift z : List ℤ} {signs : Signs} (zn : length z ≡ n)
      (rest : IsRest (meanings T.places T.value_of terms) shift graph.bases z)
      (signed : AreSigns z signs) where
    pub under_in : (e : ℕ) → bit_in signs.under e ≡ 1 → e < length graph.unions.items
    under_in e one = rw (unions_count h)
        ((under_are (meanings T.places T.value_of terms) n graph.bases zn rest signed e).0 one).0

    pub over_in : (e : ℕ) → bit_in signs.over e ≡ 1 → e < length graph.back.items
    over_in e one = let (l, o) = (over_are (meanings T.places T.value_of terms) n graph.bases zn
        rest signed e).0 one in rw h.exact.are_turned.count (omega (arith, l, h.bounded.few))

    -- where the levels are closed no walk joins
    pub none : (levels : List Bits) → AreClosed n graph.unions.items z levels
        → (first : ℕ) (steps : List Step)
        → Joins (meanings T.places T.value_of terms) q shift graph.bases first steps → ⊥
    none levels closed = none_joins (meanings T.places T.value_of terms) graph.bases n q shift z
        (low h) fit h.exact.are_bases zn rest graph.unions.items levels
        (λ e t l. (links_are e t l).1) closed

    -- and where none joins the bases prove
    pub proves : ((first : ℕ) (steps : List Step)
        → Joins (meanings T.places T.value_of terms) q shift graph.bases first steps → ⊥)
        → Prove (meanings T.places T.value_of terms) n q shift graph.bases
    proves none_does = prove_if_none (meanings T.places T.value_of terms) graph.bases n q shift
        (low h) fit h.exact.are_bases none_does

    -- where the bases prove
    module _ (prove : Prove (meanings T.places T.value_of terms) n q shift graph.bases)
        (found : Bits) (s : List Bool) (same : IsSetOf found n s) where
      pub least : AreReached graph.unions.items signs.under found
          → IsLeast (meanings T.places T.value_of terms) n q shift s
      least = least_is (meanings T.places T.value_of terms) graph.bases n q (low h) fit
          h.exact.are_bases graph.unions.items links_are signs.under found s same shift prove
          (under_are (meanings T.places T.value_of terms) n graph.bases zn rest signed)

      pub greatest : AreReached graph.back.items signs.over found
          → IsGreatest (meanings T.places T.value_of terms) n q shift (complement s)
      greatest = greatest_is (meanings T.places T.value_of terms) graph.bases n q (low h) fit
          h.exact.are_bases graph.unions.items links_are signs.over found s same shift prove
          graph.back.items h.exact.are_turned h.bounded.few (unions_count h)
          (over_are (meanings T.places T.value_of terms) n graph.bases zn rest signed)
