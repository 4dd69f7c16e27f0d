-- The graph where some rows are only claimed, term by term.
use Rattle.std.proofs.Common.{◌≡◌, ◌≢◌, ◌⊎◌, inl, inr, ℕ, ◌<◌, List, [], Option, length, map, get_or, set, ℤ, pos, ◌≤ℤ◌, sym, ap, subst, ◌∙◌, arith, get_or-set_same, get_or-set_other, length-set}
use Rattle.std.specs.List.{All}
use Rattle.std.proofs.lemmas.Bool.{cases_eq}
use Rattle.std.proofs.lemmas.Int.{ints}
use Rattle.std.proofs.lemmas.List.{get_or_default, length-map, set-get_or}
use Rattle.sfm_law.specs.declared.term.Term.{Ghosts}
use Rattle.sfm_spec.specs.Sets.{IsPlaced, AreDistinct}
use Rattle.sfm_spec.specs.Bounds.{IsEntry}
use Rattle.sfm_spec.specs.Terms.{times, IsFamily, IsSubmodular}
use Rattle.sfm_spec.specs.Families.{Meaning, meanings, AreTerms}
use Rattle.sfm_spec.specs.Walks.{term_at, base_at}
use Rattle.sfm_spec.proofs.Duality.{meanings-terms}
use Rattle.sfm_spec.proofs.Walks.{bases-at}
use Rattle.sfm_law.proofs.Lists.{all-at, meanings-at, length-meanings, length-bases, placed-meanings}
use Rattle.sfm_reach.specs.declared.bits.Bits.{Bits}
use Rattle.sfm_exchange.specs.declared.graph.Graph.{Graph}
use Rattle.sfm_exchange.specs.declared.renewing.Changes.{Changes}
use Rattle.sfm_reach.specs.Based.{IsPlacedBase}
use Rattle.sfm_reach.specs.Bits.{bit_in, blank_bits, set_at}
use Rattle.sfm_exchange.specs.Claimed.{AreClaims, IsClaim, IsSettled}
use Rattle.sfm_exchange.specs.Graph.{IsClaimed, IsShaped, IsWhole}
use Rattle.sfm_exchange.specs.Sums.{AreSums}
use Rattle.sfm_reach.specs.Reach.{AreNotes, IsRow, IsTable, kept_fits, table_at}
use Rattle.sfm_exchange.specs.Renewed.{AreChanges}
use Rattle.sfm_reach.specs.declared.spots.Spot.{Spot}
use Rattle.sfm_reach.specs.Spots.{AreSpots, spot_at, spots_at}
use Rattle.sfm_reach.specs.Turned.{AreTurned}
use Rattle.sfm_reach.specs.Unions.{AreRenewed, AreUnions, AreWidened, HaveLinks, HaveRows, IsArc}
use Rattle.sfm_reach.proofs.Basing.{is_based}
use Rattle.sfm_exchange.proofs.Claiming.{claims_asked, rows_claimed}
use Rattle.sfm_exchange.proofs.Exchanging.{bases_set}
use Rattle.sfm_reach.proofs.Noting.{notes_set, sized_at, sized_meanings, sized_read, sized_set, there_is}
use Rattle.sfm_reach.proofs.Reaching.{steps_table, table_steps}
use Rattle.sfm_exchange.proofs.Telling.{step_told}
use Rattle.sfm_reach.proofs.Uniting.{have_rows, unions_renewed}
use Rattle.sfm_exchange.proofs.Linking.{links_told}
use Rattle.sfm_exchange.proofs.Widening.{unions_widened}

module _ {X N : Type 0} {T : Ghosts X N} {terms : List X} {n : ℕ} {q : ℤ} {graph : Graph N}
    (h : IsClaimed T terms n q graph) where
  abbrev pub Terms : List Meaning
  Terms = meanings T.places T.value_of terms

  -- at a factor that is not negative
  pub low : pos 0 ≤ℤ q
  low = omega (arith, ints, h.factor.low)

  -- as many meanings as terms
  pub counted : length (meanings T.places T.value_of terms) ≡ length terms
  counted = length-meanings T.places T.value_of terms

  -- as many bases
  pub base_count : length graph.bases ≡ length terms
  base_count = length-bases q (meanings T.places T.value_of terms) graph.bases h.are_bases ∙ counted

  pub rows_count : length graph.rows.items ≡ length terms
  rows_count = h.sized_rows.count ∙ length-map terms T.places

  -- and there is a union for each place
  pub unions_count : length graph.unions.items ≡ n
  unions_count = h.are_unions.count ∙ h.are_spots.count

  -- the lists that a graph has
  pub shaped : IsShaped T terms n graph
  shaped = record {
    are_spots = h.are_spots;
    sized_rows = h.sized_rows;
    claim_count = h.claim_count;
    note_count = h.note_count;
    noted = (q, graph.bases, h.noted);
    union_count = unions_count;
    back_count = h.are_turned.count;
  }

  -- the same over as many places as the graph has spots for
  pub own : IsClaimed T terms (length graph.spots.items) q graph
  own = subst (λ k. IsClaimed T terms k q graph) (sym h.are_spots.count) h

  -- and another graph over so many is one over as many as these
  pub over : {graph' : Graph N} → IsClaimed T terms (length graph.spots.items) q graph'
      → IsClaimed T terms n q graph'
  over {graph'} h' = subst (λ k. IsClaimed T terms k q graph') h.are_spots.count h'

  -- there is a row for each spot
  pub spot_rows : HaveRows graph.rows.items graph.spots.items
  spot_rows = let s = sized_meanings T.places T.value_of terms graph.rows.items
      h.sized_rows in have_rows (meanings T.places T.value_of terms) n graph.spots.items
      graph.rows.items h.are_spots s.0 s.1

  -- the terms are what the laws ask of terms
  pub are_terms : ((x : X) → IsFamily (length (T.places x)) (T.value_of x))
      → ((x : X) → IsSubmodular (length (T.places x)) (T.value_of x))
      → AreTerms n (meanings T.places T.value_of terms)
  are_terms family law = meanings-terms n T.places T.value_of family law terms
      (placed-meanings n T.places T.value_of terms h.bounded.placed)

  -- no row lacks a place to which there is room
  pub claims_in : (i : ℕ) → i < length (meanings T.places T.value_of terms) → (u : ℕ)
      → u < length (term_at (meanings T.places T.value_of terms) i).places
      → IsClaim (term_at (meanings T.places T.value_of terms) i).places
      (times q (term_at (meanings T.places T.value_of terms) i).value) (base_at graph.bases i) u
      (set_at (table_at graph.rows.items i) u)
  claims_in i l u lu = (h.claims i (rw counted at l)).claims u lu

  -- so the union rows lack no step
  pub have_links : AreTerms n (meanings T.places T.value_of terms)
      → HaveLinks (meanings T.places T.value_of terms) n q graph.bases graph.unions.items
  have_links fit e t le (i, s) = links_told (meanings T.places T.value_of terms) n graph.spots.items
      graph.rows.items graph.unions.items h.are_spots h.are_unions e (record { to = t; term = i })
      le
      (step_told (meanings T.places T.value_of terms) graph.bases n q fit graph.rows.items claims_in
      e (record { to = t; term = i }) s)

  module _ (i : ℕ) (l : i < length terms) (term : X) (is : term ≡ get_or terms i term) where
    li : i < length (meanings T.places T.value_of terms)
    li = rw counted l

    -- the meaning of the term
    pub means : term_at (meanings T.places T.value_of terms)
        i ≡ record { places = T.places term; value = T.value_of term }
    means = meanings-at T.places T.value_of terms i term l is

    pub places_are : (term_at (meanings T.places T.value_of terms) i).places ≡ T.places term
    places_are = ap (λ (m : Meaning). m.places) means

    placed : IsPlaced n (T.places term)
    placed = all-at (IsPlaced n) T.places terms i term l is h.bounded.placed

    pub distinct_at : AreDistinct (term_at (meanings T.places T.value_of terms) i).places
    distinct_at = subst AreDistinct (sym places_are) placed.distinct

    -- its row is a base within the bounds
    pub based : ((x : X) → pos 0 ≤ℤ T.size_of x) → All IsEntry (base_at graph.bases i)
        → IsPlacedBase T.places T.value_of T.size_of term q (base_at graph.bases i)
    based sound small = is_based T.places T.value_of T.size_of sound terms n q graph.bases h.bounded
        h.factor h.are_bases i l term is small

    -- there is an entry for each of its places
    pub row_long : length (base_at graph.bases i) ≡ length (T.places term)
    row_long = (bases-at q (meanings T.places T.value_of terms) graph.bases i h.are_bases li).0
        ∙ ap length places_are

    -- there is a row for each of its places
    pub rows_long : length (table_at graph.rows.items i) ≡ length (T.places term)
    rows_long = sized_at T.places terms graph.rows.items i term h.sized_rows l is

    -- also as they are read
    pub rows_shown : (shown : List Bits) → shown ≡ get_or graph.rows.items i shown
        → (shown ≡ table_at graph.rows.items i) × (length shown ≡ length (T.places term))
    rows_shown shown e = (
      e ∙ get_or_default graph.rows.items i shown [] (rw rows_count l),
      sized_read T.places terms graph.rows.items i term shown h.sized_rows l is e,
    )

    pub claimed_shown : (shown : Bits) → shown ≡ get_or graph.claimed.items i shown
        → shown ≡ set_at graph.claimed.items i
    claimed_shown shown e = e ∙ get_or_default graph.claimed.items i shown blank_bits
        (rw h.claim_count l)

    -- and they are claims, where none is claimed the true ones
    pub claims_at : AreClaims (T.places term) (times q (T.value_of term)) (base_at graph.bases i)
        (set_at graph.claimed.items i) (table_at graph.rows.items i)
    claims_at = rw means at (h.claims i l)

    -- with another note of it that fits, all notes fit
    pub noted_still : (note : Option N) → kept_fits T.fits term note q (base_at graph.bases i)
        → AreNotes (kept_fits T.fits) q terms (set graph.notes.items i note) graph.bases
    noted_still note fit = subst (AreNotes (kept_fits T.fits) q terms
        (set graph.notes.items i note)) (set-get_or graph.bases i [])
        (notes_set (kept_fits T.fits) q terms graph.notes.items graph.bases i term note
        (base_at graph.bases i) h.note_count base_count l h.noted is fit)

    -- its places are of the ground
    pub place_in : (u : ℕ) → u < length (T.places term) → get_or (T.places term) u 0 < n
    place_in u lu = placed.below u lu

    -- with other rows of the term there is a row for each spot still
    pub rows_after : (rows : List Bits) → length rows ≡ length (T.places term)
        → HaveRows (set graph.rows.items i rows) graph.spots.items
    rows_after rows long =
        let sized = sized_set (map T.places terms) graph.rows.items i rows h.sized_rows
        (long ∙ sym rows_long) in
        let s = sized_meanings T.places T.value_of terms (set graph.rows.items i rows) sized in
        have_rows (meanings T.places T.value_of terms) n graph.spots.items
        (set graph.rows.items i rows) h.are_spots s.0 s.1

    -- with other rows of the term the unions are those of all rows, once those that have changed
    -- are brought up
    pub united_anew : (rows : List Bits) (changed : Bits) (unions : List Bits)
        → ((u : ℕ) → u < length (T.places term) → bit_in changed (get_or (T.places term) u 0) ≢ 1
        → set_at rows u ≡ set_at (table_at graph.rows.items i) u)
        → AreRenewed (set graph.rows.items i rows) graph.spots.items changed graph.unions.items
        unions → AreUnions (set graph.rows.items i rows) graph.spots.items unions
    united_anew rows changed unions others renewed =
        unions_renewed (meanings T.places T.value_of terms) n graph.spots.items graph.rows.items
        (set graph.rows.items i rows) graph.unions.items unions i changed h.are_spots h.are_unions
        (λ j ne. get_or-set_other graph.rows.items i j rows [] ne)
        (λ u lu none. ap (λ table. set_at table u)
        (get_or-set_same graph.rows.items i rows [] (rw rows_count l))
        ∙ others u (rw places_are at lu) (rw places_are at none)) renewed

    pub united_by : (rows : List Bits) (changes : Changes) (mid unions : List Bits)
        → AreChanges (T.places term) changes (table_at graph.rows.items i) rows
        → AreRenewed (set graph.rows.items i rows) graph.spots.items changes.anew graph.unions.items
        mid → AreWidened (T.places term) rows changes.grown (length (T.places term)) mid unions
        → AreUnions (set graph.rows.items i rows) graph.spots.items unions
    united_by rows changes mid unions changed renewed widened =
        let here = get_or-set_same graph.rows.items i rows [] (rw rows_count l) in
        unions_widened (meanings T.places T.value_of terms) n graph.spots.items graph.rows.items
        (set graph.rows.items i rows) graph.unions.items mid unions i changes h.are_spots
        h.are_unions distinct_at li
        (λ j ne. get_or-set_other graph.rows.items i j rows [] ne) (rw (places_are, here) changed)
        renewed (rw (places_are, here) widened)

    -- with another row of the term, and other rows of reach
    pub claimed_after : (x : List ℤ) (note : Option N) (rows : List Bits) (claimed : Bits)
        (graph' : Graph N) → AreSums (meanings T.places T.value_of terms) n (set graph.bases i x)
        graph'.sums.items
        → IsPlacedBase T.places T.value_of T.size_of term q x → kept_fits T.fits term note q x
        → length rows ≡ length (T.places term)
        → AreClaims (T.places term) (times q (T.value_of term)) x claimed rows
        → AreUnions (set graph.rows.items i rows) graph.spots.items graph'.unions.items
        → AreTurned graph'.unions.items graph'.back.items
        → graph'.bases ≡ set graph.bases i x → graph'.spots.items ≡ graph.spots.items
        → graph'.notes.items ≡ set graph.notes.items i note
        → graph'.rows.items ≡ set graph.rows.items i rows
        → graph'.claimed.items ≡ set graph.claimed.items i claimed
        → IsClaimed T terms n q graph'
    claimed_after x note rows claimed graph' added at noted long told united turned bases_are
        spots_are notes_are rows_are claimed_are = record {
          bounded = h.bounded;
          factor = h.factor;
          are_bases = rw bases_are (bases_set q (meanings T.places T.value_of terms) graph.bases i x
              h.are_bases li (at.based.entries ∙ ap length (sym places_are))
              (rw means at.based.base));
          are_sums = rw bases_are added;
          note_count = ap length notes_are ∙ (length-set graph.notes.items i note ∙ h.note_count);
          claim_count = ap length claimed_are
              ∙ (length-set graph.claimed.items i claimed ∙ h.claim_count);
          noted = rw (notes_are, bases_are)
              (notes_set (kept_fits T.fits) q terms graph.notes.items graph.bases i term note x
              h.note_count base_count l h.noted is noted);
          sized_rows = rw rows_are (sized_set (map T.places terms) graph.rows.items i rows
              h.sized_rows
              (long ∙ sym rows_long));
          claims = λ j lj. rw (bases_are, rows_are, claimed_are) (claims j lj (cases_eq j i));
          are_spots = rw spots_are h.are_spots;
          are_unions = rw (spots_are, rows_are) united;
          are_turned = turned;
        } where
          inside : i < length graph.rows.items
          inside = rw rows_count l

          Right : ℕ → Type 0
          Right j = AreClaims (term_at (meanings T.places T.value_of terms) j).places
              (times q (term_at (meanings T.places T.value_of terms) j).value)
              (base_at (set graph.bases i x) j) (set_at (set graph.claimed.items i claimed) j)
              (table_at (set graph.rows.items i rows) j)

          here : Right i
          here = rw (
            means,
            get_or-set_same graph.bases i x [] (rw base_count l),
            get_or-set_same graph.claimed.items i claimed blank_bits (rw h.claim_count l),
            get_or-set_same graph.rows.items i rows [] inside,
          ) told

          claims : (j : ℕ) → j < length terms → (j ≡ i) ⊎ (j ≢ i) → Right j
          claims j lj (inl same) = subst Right (sym same) here
          claims j lj (inr ne) = rw (
            get_or-set_other graph.bases i j x [] ne,
            get_or-set_other graph.claimed.items i j claimed blank_bits ne,
            get_or-set_other graph.rows.items i j rows [] ne,
          ) (h.claims j lj)

    -- with one of its rows asked
    pub asked_after : (note : Option N) (u : ℕ) (row claimed changed : Bits) (graph' : Graph N)
        → u < length (T.places term) → All IsEntry (base_at graph.bases i)
        → ((x : X) → pos 0 ≤ℤ T.size_of x) → kept_fits T.fits term note q (base_at graph.bases i)
        → IsRow (T.places term) (times q (T.value_of term)) (base_at graph.bases i) u row
        → ((e : ℕ) → e ≢ get_or (T.places term) u 0
        → bit_in claimed e ≡ bit_in (set_at graph.claimed.items i) e)
        → bit_in changed (get_or (T.places term) u 0) ≡ 1
        → AreRenewed (set graph.rows.items i (set (table_at graph.rows.items i) u row))
        graph.spots.items changed graph.unions.items graph'.unions.items
        → AreTurned graph'.unions.items graph'.back.items
        → graph'.bases ≡ graph.bases → graph'.sums.items ≡ graph.sums.items
        → graph'.spots.items ≡ graph.spots.items
        → graph'.notes.items ≡ set graph.notes.items i note
        → graph'.rows.items ≡ set graph.rows.items i (set (table_at graph.rows.items i) u row)
        → graph'.claimed.items ≡ set graph.claimed.items i claimed → IsClaimed T terms n q graph'
    asked_after note u row claimed changed graph' lu small sound noted is_row same one renewed
        turned bases_are sums_are spots_are notes_are rows_are claimed_are =
        let table = table_at graph.rows.items i in
        claimed_after (base_at graph.bases i) note (set table u row) claimed graph'
        (rw (set-get_or graph.bases i [], sums_are) h.are_sums) (based sound small) noted
        (length-set table u row ∙ rows_long)
        (claims_asked (T.places term) placed.distinct (times q (T.value_of term))
        (base_at graph.bases i) (set_at graph.claimed.items i) claimed table u row lu
        (rw rows_long lu) claims_at is_row same)
        (united_anew (set table u row) changed graph'.unions.items
        (λ v lv none. get_or-set_other table u v row blank_bits (λ s. none (rw s one))) renewed)
        turned (bases_are ∙ sym (set-get_or graph.bases i [])) spots_are notes_are rows_are
        claimed_are

  -- where no row of a place is claimed, its union row tells arcs alone
  pub arcs_alone : (e : ℕ) → e < n
      → ((k : ℕ) → k < length (spots_at graph.spots.items e)
      → bit_in (set_at graph.claimed.items (spot_at (spots_at graph.spots.items e) k).term) e ≢ 1)
      → (t : ℕ) → bit_in (set_at graph.unions.items e) t ≡ 1
      → IsArc (meanings T.places T.value_of terms) q graph.bases e t
  arcs_alone e le none t one =
      let inside : e < length graph.spots.items = rw h.are_spots.count le in
      let (j, lj, bit) = (h.are_unions.exact e inside t).0 one in
      let is = h.are_spots.sound e j le lj in
      let spot = spot_at (spots_at graph.spots.items e) j in
      let row = (h.claims spot.term (rw counted at is.term_in)).exact spot.local is.local_in
      (rw is.at (none j lj)) in
      let (v, lv, ne, (a, some, base), ends) = (row t).0 bit in (
        spot.term,
        (
          a,
          some,
          record {
            in_range = is.term_in;
            u = spot.local;
            v = v;
            u_in = is.local_in;
            v_in = lv;
            begins = is.at;
            ends = ends;
            apart = (λ same. ne (sym same));
            base = base;
          },
        ),
      )

  -- where no row is claimed at any place, all are true
  pub whole_settled : (spots : List (List Spot))
      → AreSpots (meanings T.places T.value_of terms) n spots
      → ((e : ℕ) → e < n → IsSettled spots graph.claimed.items e) → IsWhole T terms n q graph
  whole_settled spots are none = record {
    bounded = h.bounded;
    factor = h.factor;
    exact = record {
      are_bases = h.are_bases;
      are_sums = h.are_sums;
      note_count = h.note_count;
      claim_count = h.claim_count;
      noted = h.noted;
      sized_rows = h.sized_rows;
      tables = tables;
      are_spots = h.are_spots;
      are_unions = h.are_unions;
      are_turned = h.are_turned;
    };
  } where
    tables : (i : ℕ) → i < length terms → IsTable (meanings T.places T.value_of terms) q graph.bases
        i (table_at graph.rows.items i)
    tables i l =
        let (term, is) = there_is terms i l in
        let li : i < length (meanings T.places T.value_of terms) = rw counted l in
        let at : (term_at (meanings T.places T.value_of terms) i).places ≡ T.places
        term = ap (λ (m : Meaning). m.places)
        (meanings-at T.places T.value_of terms i term l is) in
        let placed = subst (IsPlaced n) (sym at)
        (all-at (IsPlaced n) T.places terms i term l is h.bounded.placed) in
        table_steps (meanings T.places T.value_of terms) q graph.bases i
        (table_at graph.rows.items i) li placed.distinct
        (λ u e lu. (h.claims i l).exact u lu (λ one.
        let (k, lk, spot) = are.complete i u li lu in
        none (get_or (term_at (meanings T.places T.value_of terms) i).places u 0)
        (placed.below u lu) k lk (rw spot one)) e)

-- and a graph whose rows are true is one, whatever is claimed
module _ {X N : Type 0} {T : Ghosts X N} {terms : List X} {n : ℕ} {q : ℤ} {graph : Graph N}
    (h : IsWhole T terms n q graph) where
  pub whole_claimed : IsClaimed T terms n q graph
  whole_claimed = record {
    bounded = h.bounded;
    factor = h.factor;
    are_bases = h.exact.are_bases;
    are_sums = h.exact.are_sums;
    note_count = h.exact.note_count;
    claim_count = h.exact.claim_count;
    noted = h.exact.noted;
    sized_rows = h.exact.sized_rows;
    claims = claims;
    are_spots = h.exact.are_spots;
    are_unions = h.exact.are_unions;
    are_turned = h.exact.are_turned;
  } where
    Claims : ℕ → Type 0
    Claims i = AreClaims (term_at (meanings T.places T.value_of terms) i).places
        (times q (term_at (meanings T.places T.value_of terms) i).value) (base_at graph.bases i)
        (set_at graph.claimed.items i) (table_at graph.rows.items i)

    claims : (i : ℕ) → i < length terms → Claims i
    claims i l =
        let (term, is) = there_is terms i l in
        let li : i < length (meanings T.places T.value_of terms) = rw (length-meanings T.places
        T.value_of terms) l in
        let at : (term_at (meanings T.places T.value_of terms) i).places ≡ T.places
        term = ap (λ (m : Meaning). m.places)
        (meanings-at T.places T.value_of terms i term l is) in
        let distinct = subst AreDistinct (sym at)
        (all-at (IsPlaced n) T.places terms i term l is h.bounded.placed).distinct in
        let table = steps_table (meanings T.places T.value_of terms) q graph.bases i
        (table_at graph.rows.items i) li distinct (h.exact.tables i l) in
        rows_claimed (term_at (meanings T.places T.value_of terms) i).places
        (times q (term_at (meanings T.places T.value_of terms) i).value) (base_at graph.bases i)
        (set_at graph.claimed.items i) (table_at graph.rows.items i) (λ u lu e. table u e lu)
