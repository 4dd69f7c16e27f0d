-- What grows place by place as long as it stays independent is as large as any independent part:
-- the greedy method finds the rank. Textbook: Schrijver, Combinatorial Optimization, section 40.
use Rattle.std.proofs.Common.{◌≡◌, ℕ, zero, suc, ◌+◌, ◌<◌, ◌≤◌, Bool, true, false, cond, List, ◌∷◌, length, get_or, set, refl, sym, ap, ◌∙◌, arith, ⊎_elim, length-set, get_or-set_other}
use Rattle.std.proofs.lemmas.Bool.{false≢true, cases_lt}
use Rattle.std.proofs.lemmas.List.{length-replicate}
use Rattle.sfm_spec.specs.Sets.{Has, IsWithin, whole_set, size}
use Rattle.sfm_spec.specs.Kinds.{IsRank}
use Rattle.sfm_spec.proofs.Sets.{Has-whole}
use Rattle.sfm_spec.proofs.Sizes.{size-empty}
use Rattle.sfm_law.proofs.Greedy.{front, length-front, front-none}
use Rattle.sfm_rank.proofs.Members.{has_or_out, has_place, has_set, nothing, set_has, set_here, set_within, size-in}
use Rattle.sfm_rank.specs.Matroids.{AreRanks, IsMatroid}
use Rattle.sfm_rank.specs.Growth.{IsGrown, IsGrowth}
use Rattle.sfm_rank.specs.Terms.{IsFirstBasis}
use Rattle.sfm_rank.proofs.Ranks.{rank-more, rank-same, rank-size}

-- the place that comes next is not yet in
pub next-out : (k : ℕ) (IsIndependent : List Bool → Type 0) (s : List Bool) (j : ℕ) (t : List Bool)
    → IsGrown k IsIndependent s j t → get_or t j false ≡ false
next-out k IsIndependent s j t h = has_or_out t j (λ has. let u = h.under j has in omega (arith, u))

module _ (k : ℕ) (IsIndependent : List Bool → Type 0) (matroid : IsMatroid k IsIndependent)
    (s : List Bool) (sets : ℕ → List Bool) (growth : IsGrowth k IsIndependent s sets) where
  taken : (j : ℕ) (t after : List Bool) → j < k → Has s j → IsGrown k IsIndependent s j t
      → after ≡ set t j true → IsIndependent (set t j true)
      → IsGrown k IsIndependent s (suc j) after
  taken j t after lt has h is free = rw is (record {
    places = length-set t j true ∙ h.places;
    within = set_within t s j h.within has;
    under = λ e he. ⊎_elim (λ (same : e ≡ j). omega (arith, same))
        (λ old. let u = h.under e old in omega (arith, u)) (has_set t j e he);
    independent = free;
    refused = λ e le hs out more. ⊎_elim
        (λ (less : e < j).
        let kt = length-set t j true ∙ h.places in
        let ke = length-set t e true ∙ h.places in
        h.refused e less hs (has_or_out t e (λ he. false≢true (sym out ∙ set_has t j e he)))
        (matroid.parts (set t e true) (set (set t j true) e true) ke
        (length-set (set t j true) e true ∙ kt)
        (set_within t (set (set t j true) e true) e
        (λ i hi. set_has (set t j true) e i (set_has t j i hi))
        (set_here (set t j true) e (omega (arith, kt, lt, less)))) more))
        (λ (ge : j ≤ e). let same : e ≡ j = omega arith in false≢true
        (sym out ∙ rw same (set_here t j (let p = h.places in omega (arith, p, lt)))))
        (cases_lt e j);
  })

  left : (j : ℕ) (t after : List Bool) → IsGrown k IsIndependent s j t → after ≡ t
      → (Has s j → IsIndependent (set t j true) → ⊥) → IsGrown k IsIndependent s (suc j) after
  left j t after h is never = rw is (record {
    places = h.places;
    within = h.within;
    under = λ e he. let u = h.under e he in omega (arith, u);
    independent = h.independent;
    refused = λ e le hs out more. ⊎_elim
        (λ (less : e < j). h.refused e less hs out more)
        (λ (ge : j ≤ e). let same : e ≡ j = omega arith in never (let h' = rw same at hs in h')
        (let m = rw same at more in m))
        (cases_lt e j);
  })

  pub is_grown : (j : ℕ) → j ≤ k → IsGrown k IsIndependent s j (sets j)
  is_grown zero le = rw growth.begins (record {
    places = length-replicate k false;
    within = λ e h. absurd (nothing k e h);
    under = λ e h. absurd (nothing k e h);
    independent = matroid.empty;
    refused = λ e lt. absurd (omega (arith, lt));
  })
  is_grown (suc j) le =
      let h = is_grown j (omega arith) in
      ⊎_elim
      (λ (has, is, free). taken j (sets j) (sets (suc j)) (omega arith) has h is free)
      (λ (is, never). left j (sets j) (sets (suc j)) h is never)
      (growth.steps j (omega arith) h)

  -- what has grown by all places is as large as any independent part
  pub grown-rank : length s ≡ k → IsRank IsIndependent s (size (sets k))
  grown-rank ks = let h = is_grown k (omega arith) in record {
    reached = (sets k, h.places ∙ sym ks, h.within, h.independent, refl);
    greatest = λ t kt within free. ⊎_elim
        (λ (less : size (sets k) < size t).
        let (e, ht, out, more) = matroid.grows (sets k) t h.places (kt ∙ ks) h.independent free
        less in
        let lt = has_place s e (within e ht) in
        absurd (h.refused e (omega (arith, lt, ks)) (within e ht) out more))
        (λ (most : size t ≤ size (sets k)). most)
        (cases_lt (size (sets k)) (size t));
  }

-- ---- growing by all places

front-has : (k j e : ℕ) → e < j → j ≤ k → Has (front k j) e
front-has zero j e lt le = absurd (omega arith)
front-has (suc k) zero e lt le = absurd (omega arith)
front-has (suc k) (suc j) zero lt le = refl
front-has (suc k) (suc j) (suc e) lt le = front-has k j e (omega arith) (omega arith)

front-set : (k j : ℕ) → j < k → front k (suc j) ≡ set (front k j) j true
front-set zero j lt = absurd (omega arith)
front-set (suc k) zero lt = refl
front-set (suc k) (suc j) lt = ap (λ s. true ∷ s) (front-set k j (omega arith))

module _ (k : ℕ) (IsIndependent : List Bool → Type 0) (rank : List Bool → ℕ)
    (matroid : IsMatroid k IsIndependent) (ranks : AreRanks k IsIndependent rank)
    (sets : ℕ → List Bool) (growth : IsGrowth k IsIndependent (whole_set k) sets) where
  state : (j : ℕ) → j ≤ k → IsGrown k IsIndependent (whole_set k) j (sets j)
  state j le = is_grown k IsIndependent matroid (whole_set k) sets growth j le

  before : (j : ℕ) → j ≤ k → IsWithin (sets j) (front k j)
  before j le e h = let u = (state j le).under e h in front-has k j e u le

  -- one place more
  gain : (j : ℕ) → j < k → size (sets j) ≡ rank (front k j)
      → (rank (front k (suc j)) ≡ rank (front k j) + cond (get_or (sets (suc j)) j false) 1 0)
      × (size (sets (suc j)) ≡ rank (front k (suc j)))
  gain j lt full = ⊎_elim
      (λ (has, is, free).
      let kb = (state j (omega arith)).places in
      let out = next-out k IsIndependent (whole_set k) j (sets j) (state j (omega arith)) in
      let m = rank-more k IsIndependent rank matroid ranks (front k j) (sets j) j (length-front k j)
      kb lt (before j (omega arith)) full out free in
      let here : get_or (sets (suc j)) j false ≡ true = rw is
      (set_here (sets j) j (omega (arith, kb, lt))) in
      let z : size (sets (suc j)) ≡ suc (size (sets j)) = rw is
      (size-in (sets j) j (omega (arith, kb, lt)) out) in
      rw (front-set k j lt, here) (omega (arith, m), omega (arith, m, z, full)))
      (λ (is, never).
      let kb = (state j (omega arith)).places in
      let out = next-out k IsIndependent (whole_set k) j (sets j) (state j (omega arith)) in
      let m = rank-same k IsIndependent rank matroid ranks (front k j) (sets j) j (length-front k j)
      kb lt (before j (omega arith)) (state j (omega arith)).independent full
      (never (Has-whole k j lt)) in
      let here : get_or (sets (suc j)) j false ≡ false = rw is out in
      let z : size (sets (suc j)) ≡ size (sets j) = ap size is in
      rw (front-set k j lt, here) (omega (arith, m), omega (arith, m, z, full)))
      (growth.steps j lt (state j (omega arith)))

  pub front-rank : (j : ℕ) → j ≤ k → size (sets j) ≡ rank (front k j)
  front-rank zero le =
      let r = rank-size k IsIndependent rank matroid ranks (front k zero) (length-front k zero) in
      let e = ap size (front-none k) in
      let z = size-empty k in
      let b = ap size growth.begins in
      omega (arith, r, e, z, b)
  front-rank (suc j) le = (gain j (omega arith) (front-rank j (omega arith))).1

  -- what is decided stays
  kept : (j n : ℕ) → j < n → n ≤ k → get_or (sets n) j false ≡ get_or (sets (suc j)) j false
  kept j zero lt le = absurd (omega arith)
  kept j (suc n) lt le = ⊎_elim
      (λ (less : j < n). ⊎_elim
      (λ (has, is, free). ap (λ t. get_or t j false) is
      ∙ (get_or-set_other (sets n) n j true false (λ e. absurd (omega (arith, e, less)))
      ∙ kept j n less (omega arith)))
      (λ (is, never). ap (λ t. get_or t j false) is ∙ kept j n less (omega arith))
      (growth.steps n (omega arith) (state n (omega arith))))
      (λ (ge : n ≤ j). let e : n ≡ j = omega arith in rw e refl)
      (cases_lt j n)

  pub first_basis : IsFirstBasis k rank (sets k)
  first_basis = record {
    places = (state k (omega arith)).places;
    gains = λ j lt. (gain j lt (front-rank j (omega arith))).0
        ∙ ap (λ b. rank (front k j) + cond b 1 0) (sym (kept j k lt (omega arith)));
  }
