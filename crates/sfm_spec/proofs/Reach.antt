-- Each set of places grows to the set of the places that walks reach from it.
use Rattle.std.proofs.Common.{◌≡◌, ◌≢◌, ◌⊎◌, ℕ, zero, suc, ◌<◌, ◌≤◌, Bool, true, false, List, [], ◌∷◌, length, get_or, set, ℤ, pos, ◌≤ℤ◌, refl, sym, ap, ◌∙◌, arith, inl, inr, ⊎_elim, length-set, get_or-set_other, get_or-set_same}
use Rattle.std.proofs.lemmas.Bool.{both_ways, cases_eq}
use Rattle.sfm_spec.specs.Sets.{Has}
use Rattle.sfm_spec.specs.Terms.{times, IsFamily, IsSubmodular, IsBase, HasRoom}
use Rattle.sfm_spec.specs.Families.{Meaning, IsTerm, AreTerms, AreBases}
use Rattle.sfm_spec.specs.Walks.{Step, term_at, base_at, IsStep}
use Rattle.sfm_spec.specs.Reach.{IsClosed, IsReached, IsReachedSet}
use Rattle.sfm_spec.proofs.Sets.{has_or_not}
use Rattle.sfm_spec.proofs.Scaled.{family-times, submodular-times}
use Rattle.sfm_spec.proofs.Tight.{TightSet, room_or_split, tight_closed}
use Rattle.sfm_spec.proofs.Walks.{reached_step, terms-at, bases-at, each_or, closed_by_rooms, step_below}

-- ---- how many places a set lacks

missing : List Bool → ℕ
missing [] = 0
missing (true ∷ s) = missing s
missing (false ∷ s) = suc (missing s)

missing-set : (s : List Bool) (e : ℕ) → e < length s → get_or s e false ≡ false
    → missing s ≡ suc (missing (set s e true))
unfolding missing
missing-set [] e h l = absurd (omega arith)
missing-set (true ∷ s) zero h l = cc
missing-set (false ∷ s) zero h l = refl
missing-set (true ∷ s) (suc e) h l = missing-set s e (omega arith) l
missing-set (false ∷ s) (suc e) h l = ap suc (missing-set s e (omega arith) l)

module _ (terms : List Meaning) (rows : List (List ℤ)) (n : ℕ) (q : ℤ) (low : pos 0 ≤ℤ q)
    (fit : AreTerms n terms) (bases : AreBases q terms rows) where
  -- a step that leaves s
  Leaves : List Bool → Type 0
  Leaves s = (from : ℕ) × (step : Step) × IsStep terms q rows from step × Has s from
      × (get_or s step.to false ≡ false)

  -- within one term, from u to v
  Stays : List Bool → ℕ → ℕ → ℕ → Type 0
  Stays s i u v = u ≢ v → Has s (get_or (term_at terms i).places u 0)
      → HasRoom (times q (term_at terms i).value) (base_at rows i) u v
      → Has s (get_or (term_at terms i).places v 0)

  one_pair : (s : List Bool) (i u v : ℕ) → i < length terms → u < length (term_at terms i).places
      → v < length (term_at terms i).places → Stays s i u v ⊎ Leaves s
  unfolding Stays Leaves
  one_pair s i u v li lu lv = ⊎_elim (λ e. inl (λ ne. absurd (ne e)))
      (λ ne. at ne (has_or_not s (get_or t.places u 0)) (has_or_not s (get_or t.places v 0)))
      (cases_eq u v) where
        t : Meaning
        t = term_at terms i

        at : u ≢ v → Has s (get_or t.places u 0) ⊎ (get_or s (get_or t.places u 0) false ≡ false)
            → Has s (get_or t.places v 0) ⊎ (get_or s (get_or t.places v 0) false ≡ false)
            → Stays s i u v ⊎ Leaves s
        at ne (inr nu) hv = inl (λ _ hu.
            absurd (both_ways (get_or s (get_or t.places u 0) false) nu hu))
        at ne (inl hu) (inl hv) = inl (λ _ _ _. hv)
        at ne (inl hu) (inr nv) = by_room (room_or_split family law b.0 b.1 u v lu lv ne) where
          l : IsTerm n t
          l = terms-at n terms i fit li

          b : (length (base_at rows i) ≡ length t.places)
              × IsBase (times q t.value) (base_at rows i)
          b = bases-at q terms rows i bases li

          family : IsFamily (length t.places) (times q t.value)
          family = family-times (length t.places) q t.value l.family

          law : IsSubmodular (length t.places) (times q t.value)
          law = submodular-times (length t.places) q t.value low l.submodular

          by_room : HasRoom (times q t.value) (base_at rows i) u v
              ⊎ ((r : List Bool) × TightSet family law b.0 b.1 r × Has r u
              × (get_or r v false ≡ false))
              → Stays s i u v ⊎ Leaves s
          by_room (inl (a, least, moved)) = inr (
            get_or t.places u 0,
            record { to = get_or t.places v 0; term = i },
            (
              a,
              least,
              record {
                in_range = li;
                u = u;
                v = v;
                u_in = lu;
                v_in = lv;
                begins = refl;
                ends = refl;
                apart = ne;
                base = moved;
              },
            ),
            hu,
            nv,
          )
          by_room (inr (r, tight, ru, rv)) =
              inl (λ _ _ room. absurd (both_ways (get_or r v false) rv
              (tight_closed family law b.0 b.1 r u v tight lu lv ne ru room)))

  AllStay : List Bool → Type 0
  AllStay s = (i : ℕ) → i < length terms → (u : ℕ) → u < length (term_at terms i).places → (v : ℕ)
      → v < length (term_at terms i).places → Stays s i u v

  stays_or_leaves : (s : List Bool) → AllStay s ⊎ Leaves s
  unfolding AllStay
  stays_or_leaves s =
      each_or (length terms) (λ i. (u : ℕ) → u < length (term_at terms i).places → (v : ℕ)
      → v < length (term_at terms i).places → Stays s i u v) (Leaves s)
      (λ i li. each_or (length (term_at terms i).places)
      (λ u. (v : ℕ) → v < length (term_at terms i).places → Stays s i u v) (Leaves s)
      (λ u lu. each_or (length (term_at terms i).places) (λ v. Stays s i u v) (Leaves s)
      (λ v lv. one_pair s i u v li lu lv)))

  closed_of_stay : (s : List Bool) → AllStay s → IsClosed terms q rows s
  unfolding AllStay Stays
  closed_of_stay s h = closed_by_rooms terms q rows s (λ i li u v lu lv. h i li u lu v lv)

  -- a set that no step leaves, or a step that leaves it
  closed_or_leaves : (s : List Bool) → IsClosed terms q rows s ⊎ Leaves s
  closed_or_leaves s = ⊎_elim (λ h. inl (closed_of_stay s h)) (λ h. inr h) (stays_or_leaves s)

  module _ (IsFirst : ℕ → Type 0) where
    record Grown (s : List Bool) : Type 0 where
      pub places : length s ≡ n
      pub firsts : (e : ℕ) → e < n → IsFirst e → Has s e
      pub reached : (e : ℕ) → Has s e → IsReached terms q rows IsFirst e

    set_of : (s : List Bool) → Grown s → IsClosed terms q rows s → (t : List Bool)
        × IsReachedSet terms n q rows IsFirst t
    set_of s g closed =
        (s, record { places = g.places; firsts = g.firsts; closed = closed; reached = g.reached })

    grow : (fuel : ℕ) (s : List Bool) → missing s ≤ fuel → Grown s → (t : List Bool)
        × IsReachedSet terms n q rows IsFirst t
    unfolding Leaves
    grow zero s few g = at (closed_or_leaves s) where
      at : IsClosed terms q rows s ⊎ Leaves s → (t : List Bool)
          × IsReachedSet terms n q rows IsFirst t
      at (inl closed) = set_of s g closed
      at (inr (from, step, h, inside, outside)) =
          let lt = step_below terms rows n q low fit bases from step h in
          absurd (omega (arith, missing-set s step.to (rw g.places lt) outside))
    grow (suc fuel) s few g = at (grow fuel) (closed_or_leaves s) where
      bigger : (from : ℕ) (step : Step) → IsStep terms q rows from step → Has s from
          → step.to < length s → Grown (set s step.to true)
      bigger from step h inside lt = record {
        places = length-set s step.to true ∙ g.places;
        firsts = λ e l first. keeps e (g.firsts e l first);
        reached = λ e has. by (cases_eq e step.to) has;
      } where
        keeps : (e : ℕ) → Has s e → Has (set s step.to true) e
        keeps e has = ⊎_elim (λ same. rw same (get_or-set_same s step.to true false lt))
            (λ ne. get_or-set_other s step.to e true false ne ∙ has) (cases_eq e step.to)

        by : {e : ℕ} → (e ≡ step.to) ⊎ (e ≢ step.to) → Has (set s step.to true) e
            → IsReached terms q rows IsFirst e
        by {e} (inl same) has = rw same
            (reached_step terms q rows IsFirst from step h (g.reached from inside))
        by {e} (inr ne) has = g.reached e (sym (get_or-set_other s step.to e true false ne) ∙ has)

      at : ((t : List Bool) → missing t ≤ fuel → Grown t → (r : List Bool)
          × IsReachedSet terms n q rows IsFirst r) → IsClosed terms q rows s ⊎ Leaves s
          → (t : List Bool) × IsReachedSet terms n q rows IsFirst t
      at next (inl closed) = set_of s g closed
      at next (inr (from, step, h, inside, outside)) =
          let lt : step.to < length s = rw g.places
          (step_below terms rows n q low fit bases from step h) in
          next (set s step.to true) (omega (arith, missing-set s step.to lt outside))
          (bigger from step h inside lt)

    -- the set of the places reached from the places of s
    pub reached_set : (s : List Bool) → length s ≡ n → ((e : ℕ) → e < n → IsFirst e → Has s e)
        → ((e : ℕ) → Has s e → IsFirst e) → (t : List Bool) × IsReachedSet terms n q rows IsFirst t
    reached_set s places holds only =
        grow (missing s) s (omega arith)
        (record { places = places; firsts = holds; reached = λ e h. inl (only e h) })
