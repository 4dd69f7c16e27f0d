-- The spots of each place.
use Rattle.std.proofs.Common.{◌≡◌, ◌≢◌, ⊎_elim, ℕ, zero, suc, ◌+◌, ◌<◌, ◌≤◌, List, [], ◌∷◌, ◌++◌, length, get_or, set, replicate, refl, sym, ap, ◌∙◌, arith, length-set, get_or-set_same, get_or-set_other}
use Rattle.std.proofs.lemmas.Bool.{cases_eq, cases_lt}
use Rattle.std.proofs.lemmas.List.{get_or_default, length-append, length-replicate}
use Rattle.std.proofs.Math.ListN.{get_or-append}
use Rattle.std.proofs.Math.Seq.{get_or-append_seam}
use Rattle.sfm_spec.specs.Families.{Meaning}
use Rattle.sfm_spec.specs.Walks.{term_at}
use Rattle.sfm_reach.specs.declared.spots.Spot.{Spot}
use Rattle.sfm_reach.specs.Spots.{AddsSpots, AreSpots, IsSpot, no_spot, spots_at, spot_at}

-- the spots of a place that were read
pub spots_read : (spots : List (List Spot)) (e : ℕ) (here : List Spot) → e < length spots
    → here ≡ get_or spots e here → spots_at spots e ≡ here
spots_read spots e here l is = get_or_default spots e [] here l ∙ sym is

-- one of them is a spot of the place
pub spot_found : (terms : List Meaning) (n : ℕ) (spots : List (List Spot)) (e : ℕ)
    (here shown : List Spot) (spot : Spot) → AreSpots terms n spots → e < n
    → here ≡ get_or spots e here → shown ≡ here
    → (j : ℕ) → j < length shown → spot_at shown j ≡ spot → IsSpot terms e spot
spot_found terms n spots e here shown spot all l is look j lj at =
    let l' : e < length spots = omega (arith, all.count, l) in
    let same : spots_at spots e ≡ shown = spots_read spots e here l' is ∙ sym look in
    let h = all.sound e j l (rw same lj) in
    rw (same, at) at h

-- nothing is put for no place
pub adds_none : (places : List ℕ) (i : ℕ) (spots : List (List Spot))
    → AddsSpots places i 0 spots spots
adds_none places i spots = record {
  count = refl;
  grown = λ e. omega arith;
  kept = λ e j l. refl;
  put = λ u l. absurd (omega arith);
  only = λ e j l l'. absurd (omega (arith, l, l'));
}

module _ (places : List ℕ) (i k : ℕ) (before mid : List (List Spot))
    (h : AddsSpots places i k before mid) (inside : get_or places k 0 < length mid) where
  abbrev place : ℕ
  place = get_or places k 0

  abbrev spot : Spot
  spot = record { term = i; local = k }

  abbrev after : List (List Spot)
  after = set mid (get_or places k 0)
      (spots_at mid (get_or places k 0) ++ record { term = i; local = k } ∷ [])

  here : spots_at after place ≡ spots_at mid place ++ spot ∷ []
  here = get_or-set_same mid place (spots_at mid place ++ spot ∷ []) [] inside

  there : (e : ℕ) → e ≢ place → spots_at after e ≡ spots_at mid e
  there e ne = get_or-set_other mid place e (spots_at mid place ++ spot ∷ []) [] ne

  length_here : length (spots_at after place) ≡ length (spots_at mid place) + 1
  length_here = ap length here ∙ length-append (spots_at mid place) (spot ∷ [])

  longer : (e : ℕ) → length (spots_at mid e) ≤ length (spots_at after e)
  longer e = ⊎_elim (λ same. rw same (omega (arith, length_here)))
      (λ ne. rw (there e ne) (omega arith)) (cases_eq e place)

  stays : (e j : ℕ) → j < length (spots_at mid e)
      → spot_at (spots_at after e) j ≡ spot_at (spots_at mid e) j
  stays e j l = ⊎_elim
      (λ same. let l' : j < length (spots_at mid place) = rw same at l in rw same
      (ap (λ s. spot_at s j) here ∙ get_or-append (spots_at mid place) (spot ∷ []) no_spot j
      l'))
      (λ ne. ap (λ s. spot_at s j) (there e ne)) (cases_eq e place)

  pub adds_more : AddsSpots places i (k + 1) before after
  adds_more = record {
    count = length-set mid place (spots_at mid place ++ spot ∷ []) ∙ h.count;
    grown = λ e. let a = h.grown e in let b = longer e in omega (arith, a, b);
    kept = λ e j l. let a = h.grown e in stays e j (omega (arith, l, a)) ∙ h.kept e j l;
    put = λ u l. ⊎_elim
        (λ less. let (j, lj, is) = h.put u less in let b = longer
        (get_or places u 0) in (j, omega (arith, lj, b), stays (get_or places u 0) j lj ∙ is))
        (λ ge. let same : u ≡ k = omega (arith, ge, l) in rw same (
          length (spots_at mid place),
          omega (arith, length_here),
          ap (λ s. spot_at s (length (spots_at mid place))) here
              ∙ get_or-append_seam (spots_at mid place) spot [] no_spot,
        ))
        (cases_lt u k);
    only = only;
  } where
    only : (e j : ℕ) → length (spots_at before e) ≤ j → j < length (spots_at after e) → (u : ℕ)
        × (u < k + 1) × (get_or places u 0 ≡ e)
        × (spot_at (spots_at after e) j ≡ record { term = i; local = u })
    only e j l lj = ⊎_elim
        (λ less. let (u, lu, at, is) = h.only e j l
        less in (u, omega (arith, lu), at, stays e j less ∙ is))
        (λ ge. ⊎_elim
        (λ same. let lj' : j < length (spots_at after place) = rw same at lj in let ge' : length
        (spots_at mid place) ≤ j = rw same at ge in
        let is : j ≡ length (spots_at mid place) = omega (arith, lj', ge', length_here) in (
          k,
          omega arith,
          sym same,
          rw (same, is)
              (ap (λ s. spot_at s (length (spots_at mid place))) here
              ∙ get_or-append_seam (spots_at mid place) spot [] no_spot),
        ))
        (λ ne. absurd (let lj' = rw (there e ne) at lj in omega (arith, lj', ge)))
        (cases_eq e place))
        (cases_lt j (length (spots_at mid e)))

-- the spots of the first i terms
pub record AreSpotsTo (terms : List Meaning) (n i : ℕ) (spots : List (List Spot)) : Type 0 where
  pub count : length spots ≡ n
  pub sound : (e k : ℕ) → e < n → k < length (spots_at spots e)
      → IsSpot terms e (spot_at (spots_at spots e) k)
  pub complete : (j u : ℕ) → j < i → u < length (term_at terms j).places
      → (k : ℕ) × (k < length (spots_at spots (get_or (term_at terms j).places u 0)))
      × (spot_at (spots_at spots (get_or (term_at terms j).places u 0))
      k ≡ record { term = j; local = u })
  pub first : (e k : ℕ) → e < n → k < length (spots_at spots e)
      → (spot_at (spots_at spots e) k).term < i
  pub ordered : (e j k : ℕ) → e < n → j < k → k < length (spots_at spots e)
      → (spot_at (spots_at spots e) j).term ≤ (spot_at (spots_at spots e) k).term

pub spots_none : (terms : List Meaning) (n : ℕ) → AreSpotsTo terms n 0 (replicate n [])
spots_none terms n = record {
  count = length-replicate n [];
  sound = λ e k l lk. absurd (let lk' = rw (get_or-replicate n e l) at lk in omega (arith, lk'));
  complete = λ j u l lu. absurd (omega arith);
  first = λ e k l lk. absurd (let lk' = rw (get_or-replicate n e l) at lk in omega (arith, lk'));
  ordered = λ e j k l jk lk. absurd (let lk' = rw (get_or-replicate n e l) at
      lk in omega (arith, lk'));
} where
  get_or-replicate : (n e : ℕ) → e < n → spots_at (replicate n []) e ≡ []
  get_or-replicate zero e l = absurd (omega arith)
  get_or-replicate (suc n) zero l = refl
  get_or-replicate (suc n) (suc e) l = get_or-replicate n e (omega arith)

-- those of one term more
pub spots_more : (terms : List Meaning) (n i : ℕ) (before after : List (List Spot))
    → i < length terms → AreSpotsTo terms n i before
    → AddsSpots (term_at terms i).places i (length (term_at terms i).places) before after
    → AreSpotsTo terms n (i + 1) after
spots_more terms n i before after li h adds = record {
  count = adds.count ∙ h.count;
  sound = λ e k l lk. ⊎_elim
      (λ less. rw (adds.kept e k less) (h.sound e k l less))
      (λ ge. let (u, lu, at, is) = adds.only e k ge lk in rw is
      (record { term_in = li; local_in = lu; at = at }))
      (cases_lt k (length (spots_at before e)));
  complete = λ j u lj lu. ⊎_elim
      (λ less. let (k, lk, is) = h.complete j u less lu in let g = adds.grown
      (get_or (term_at terms j).places u 0) in (
        k,
        omega (arith, lk, g),
        adds.kept (get_or (term_at terms j).places u 0) k lk ∙ is,
      ))
      (λ ge. let same : j ≡ i = omega (arith, ge, lj) in rw same (adds.put u (rw same at lu)))
      (cases_lt j i);
  first = λ e k l lk. up_to e k l lk;
  ordered = λ e j k l jk lk. ⊎_elim
      (λ less.
      let a = ap (λ s. s.term) (adds.kept e k less) in
      let b = ap (λ s. s.term) (adds.kept e j (omega (arith, jk, less))) in
      let o = h.ordered e j k l jk less in
      omega (arith, a, b, o))
      (λ ge.
      let (u, lu, at, is) = adds.only e k ge lk in
      let a = ap (λ s. s.term) is in
      let b = up_to e j l (omega (arith, jk, lk)) in
      omega (arith, a, b))
      (cases_lt k (length (spots_at before e)));
} where
  up_to : (e k : ℕ) → e < n → k < length (spots_at after e)
      → (spot_at (spots_at after e) k).term < i + 1
  up_to e k l lk = ⊎_elim
      (λ less. let a = ap (λ s. s.term) (adds.kept e k less) in let o = h.first e k l
      less in omega (arith, a, o))
      (λ ge. let (u, lu, at, is) = adds.only e k ge lk in let a = ap (λ s. s.term)
      is in omega (arith, a))
      (cases_lt k (length (spots_at before e)))

pub spots_all : (terms : List Meaning) (n : ℕ) (spots : List (List Spot))
    → AreSpotsTo terms n (length terms) spots → AreSpots terms n spots
spots_all terms n spots h = record {
  count = h.count;
  sound = h.sound;
  complete = h.complete;
  ordered = h.ordered;
}
