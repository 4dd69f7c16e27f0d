-- Places that are taken one after another while their slots suffice: a greatest set with slots of
-- its own. Textbook: Schrijver, Combinatorial Optimization, sections 22 (Hall's theorem), 39 and
-- 40.
use Rattle.std.proofs.Common.{◌≡◌, ℕ, zero, suc, ◌<◌, ◌≤◌, Bool, true, false, not, ◌&&◌, List, [], ◌∷◌, length, get_or, set, refl, sym, ap, ◌∙◌, arith, inl, inr, ⊎_elim, length-set}
use Rattle.std.specs.List.{Contains}
use Rattle.std.proofs.lemmas.Bool.{false≢true, cases_lt, cases_Bool, and_parts, or_cases, or_left, or_right, ltb-true, lt-ltb}
use Rattle.sfm_spec.specs.Sets.{whole_set, intersection, size}
use Rattle.sfm_spec.specs.Kinds.{IsMatchable}
use Rattle.sfm_spec.proofs.Sets.{in_both, in_first, in_second, same_sets}
use Rattle.sfm_spec.proofs.Sums.{length-intersection}
use Rattle.sfm_rank.specs.Matroids.{AreRanks}
use Rattle.sfm_rank.specs.Growth.{IsGrowth}
use Rattle.sfm_rank.specs.Terms.{IsFirstBasis}
use Rattle.sfm_rank.proofs.Growing.{first_basis, grown-rank}
use Rattle.sfm_matroid.specs.Slots.{above_list, above_slots, have_slots, lack_slots, slots_count, some_set, suited, suits, transversal_basis, transversal_rank}
use Rattle.sfm_matroid.specs.Matchings.{matching-matroid}
use Rattle.sfm_matroid.specs.Ore.{AreSlotsBelow, matchable_by_slots, matched_slots}

-- ---- a test of independence

some_from : (k : ℕ) (p : List Bool → Bool) (s : List Bool) → length s ≡ k → p s ≡ true
    → some_set k p ≡ true
some_from zero p [] same h = h
some_from zero p (b ∷ s) same h = absurd (omega (arith, same))
some_from (suc k) p [] same h = absurd (omega (arith, same))
some_from (suc k) p (true ∷ s) same h =
    or_left (some_set k (λ s. p (true ∷ s))) (some_set k (λ s. p (false ∷ s)))
    (some_from k (λ s. p (true ∷ s)) s (omega arith) h)
some_from (suc k) p (false ∷ s) same h =
    or_right (some_set k (λ s. p (true ∷ s))) (some_set k (λ s. p (false ∷ s)))
    (some_from k (λ s. p (false ∷ s)) s (omega arith) h)

some_to : (k : ℕ) (p : List Bool → Bool) → some_set k p ≡ true → (s : List Bool) × (length s ≡ k)
    × (p s ≡ true)
some_to zero p h = ([], refl, h)
some_to (suc k) p h = ⊎_elim
    (λ l. let (s, same, has) = some_to k (λ s. p (true ∷ s))
    l in (true ∷ s, omega (arith, same), has))
    (λ r. let (s, same, has) = some_to k (λ s. p (false ∷ s))
    r in (false ∷ s, omega (arith, same), has))
    (or_cases (some_set k (λ s. p (true ∷ s))) (some_set k (λ s. p (false ∷ s))) h)

module _ (k m : ℕ) (entries : List (List ℕ)) (below : AreSlotsBelow entries m) where
  pub slots_suffice : (t : List Bool) → length t ≡ k → have_slots entries m t ≡ true
      → IsMatchable entries t
  slots_suffice t kt test = matchable_by_slots k m entries t kt (λ r kr within.
      let same : intersection r t ≡ r = same_sets (intersection r t) r
      (length-intersection r t (kr ∙ sym kt)) (λ e lt h. in_first r t e (kr ∙ sym kt) h)
      (λ e lt h. in_both r t e (kr ∙ sym kt) h (within e h)) in
      ⊎_elim
      (λ (less : slots_count entries m r < size r).
      let lacks : lack_slots entries m t r ≡ true = rw same
      (lt-ltb (slots_count entries m r) (size r) less) in
      absurd (false≢true
      (sym (ap not (some_from (length t) (lack_slots entries m t) r (kr ∙ sym kt) lacks))
      ∙ test)))
      (λ (enough : size r ≤ slots_count entries m r). enough)
      (cases_lt (slots_count entries m r) (size r)))

  pub slots_needed : (t : List Bool) → length t ≡ k → have_slots entries m t ≡ false
      → IsMatchable entries t → ⊥
  slots_needed t kt test (slots, matched) =
      let (r, kr, lacks) = some_to (length t) (lack_slots entries m t)
      (turned (some_set (length t) (lack_slots entries m t)) test) in
      let less = ltb-true (slots_count entries m (intersection r t)) (size (intersection r t))
      lacks in
      let c = matched_slots k m entries below (intersection r t) (intersection r t) (λ e h. h) (
        slots,
        record {
          own = λ e h. matched.own e (in_second r t e kr h);
          distinct = λ d e hd he. matched.distinct d e (in_second r t d kr hd)
              (in_second r t e kr he);
        },
      ) in
      omega (arith, less, c) where
        turned : (b : Bool) → not b ≡ false → b ≡ true
        turned true h = refl
        turned false h = absurd (false≢true (sym h))

-- ---- places taken one after another

list_below : (slots : List ℕ) (v : ℕ) → Contains slots v → v < above_list slots
list_below [] v (i, lt, is) = absurd (omega (arith, lt))
list_below (a ∷ slots) v (zero, lt, is) = let e : a ≡ v = is in omega (arith, e)
list_below (a ∷ slots) v (suc i, lt, is) =
    let r = list_below slots v (i, omega arith, is) in omega (arith, r)

pub slots_below : (entries : List (List ℕ)) → AreSlotsBelow entries (above_slots entries)
slots_below [] e v (i, lt, is) = absurd (omega (arith, lt))
slots_below (slots ∷ entries) zero v c = let r = list_below slots v c in omega (arith, r)
slots_below (slots ∷ entries) (suc e) v c = let r = slots_below entries e v c in omega (arith, r)

module _ (entries : List (List ℕ)) where
  pub suited-growth : (s : List Bool)
      → IsGrowth (length entries) (IsMatchable entries) s (suited entries s)
  suited-growth s = record {
    begins = refl;
    steps = λ j lt state.
        let t = suited entries s j in
        let kt = length-set t j true ∙ state.places in
        ⊎_elim
        (λ take.
        let (has, test) = and_parts (get_or s j false)
        (have_slots entries (above_slots entries) (set t j true)) take in
        inl (
          has,
          rw take refl,
          slots_suffice (length entries) (above_slots entries) entries
              (slots_below entries) (set t j true) kt test,
        ))
        (λ idle. inr (
          rw idle refl,
          λ has free. slots_needed (length entries) (above_slots entries)
              entries (slots_below entries) (set t j true) kt
              (second (get_or s j false) (have_slots entries (above_slots entries) (set t j true))
              has
              idle) free,
        ))
        (cases_Bool (suits entries s t j));
  } where
    second : (a b : Bool) → a ≡ true → (a && b) ≡ false → b ≡ false
    second true b h e = e
    second false b h e = absurd (false≢true h)

  pub transversal-ranks : AreRanks (length entries) (IsMatchable entries) (transversal_rank entries)
  transversal-ranks s ks = grown-rank (length entries) (IsMatchable entries)
      (matching-matroid (length entries) entries) s (suited entries s) (suited-growth s) ks

  pub transversal-first : IsFirstBasis (length entries) (transversal_rank entries)
      (transversal_basis entries)
  transversal-first = first_basis (length entries) (IsMatchable entries) (transversal_rank entries)
      (matching-matroid (length entries) entries) transversal-ranks
      (suited entries (whole_set (length entries))) (suited-growth (whole_set (length entries)))

  pub length-transversal_basis : length (transversal_basis entries) ≡ length entries
  length-transversal_basis = transversal-first.places
