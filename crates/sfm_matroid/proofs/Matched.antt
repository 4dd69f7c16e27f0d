-- Whether places have slots of their own, by a split over slots that hold 1 each, with 1 at these
-- places and 0 elsewhere; and places taken one after another by one that grows.
use Rattle.std.proofs.Common.{◌≡◌, ◌≢◌, ℕ, zero, suc, ◌+◌, ◌<◌, Bool, true, false, ◌&&◌, List, [], ◌∷◌, length, get_or, set, replicate, ℤ, pos, ◌+ℤ◌, ◌*ℤ◌, if◌then◌else◌, refl, sym, ap, ◌∙◌, arith, ⊎_elim, FitsSigned, length-set}
use Rattle.std.proofs.lemmas.Bool.{cases_Bool}
use Rattle.std.proofs.lemmas.Int.{ints}
use Rattle.std.proofs.lemmas.List.{length-replicate, set-get_or}
use Rattle.std.specs.List.{All}
use mir.Syntax.{w128}
use Rattle.sfm_assign.specs.Splits.{amount_at, CanBeMet, Demands}
use Rattle.sfm_assign.specs.Lenders.{with_more, IsMostUpto}
use Rattle.sfm_spec.specs.Sets.{Has, empty_set, intersection, size, sum_over}
use Rattle.sfm_spec.specs.Kinds.{IsMatchable}
use Rattle.sfm_spec.proofs.Sets.{in_both, in_first, in_second, same_sets}
use Rattle.sfm_spec.proofs.Sums.{length-intersection}
use Rattle.sfm_spec.proofs.Where.{size-cons}
use Rattle.sfm_law.proofs.Monotone.{AreCounts}
use Rattle.sfm_rank.specs.Terms.{at_places}
use Rattle.sfm_rank.proofs.Terms.{at_places-length, at_places-at}
use Rattle.sfm_rank.proofs.Growing.{is_grown, next-out}
use Rattle.sfm_matroid.specs.Matchings.{matching-matroid}
use Rattle.sfm_matroid.specs.Matched.{IsMatchedTo}
use Rattle.sfm_matroid.specs.Notes.{slot_demands}
use Rattle.sfm_matroid.specs.Slots.{slots_count, have_slots, above_slots, suited}
use Rattle.sfm_matroid.specs.Ore.{AreSlotsBelow, matched_slots, matchable_by_slots}
use Rattle.sfm_matroid.specs.Transversals.{slots_below, slots_suffice, slots_needed, suited-growth}
use Rattle.sfm_matroid.proofs.SplitTests.{split_within_slots, within_slots_split}

-- slots that exist, one by one
pub slots_each : (entries : List (List ℕ)) (m : ℕ) → All (All (λ v. v < m)) entries
    → AreSlotsBelow entries m
slots_each [] m all e v (i, lt, is) = absurd (omega (arith, lt))
slots_each (slots ∷ entries) m all zero v (i, lt, is) = rw is at (all 0 [] (omega arith) i v lt)
slots_each (slots ∷ entries) m all (suc e) v c =
    slots_each entries m (λ k d lt. all (suc k) d (omega (arith, lt))) e v c

-- ---- 1 at some places

pub ones-none : (k : ℕ) → at_places (pos 1) (empty_set k) ≡ replicate k (pos 0)
ones-none zero = refl
ones-none (suc k) = ap (λ x. pos 0 ∷ x) (ones-none k)

ones-set : (t : List Bool) (e : ℕ) → set (at_places (pos 1) t) e (pos 1) ≡ at_places (pos 1)
    (set t e true)
ones-set [] e = refl
ones-set (b ∷ t) zero = refl
ones-set (b ∷ t) (suc e) = ap (λ x. (if b then pos 1 else pos 0) ∷ x) (ones-set t e)

pub ones-out : (t : List Bool) (e : ℕ) → get_or t e false ≡ false
    → amount_at (at_places (pos 1) t) e ≡ pos 0
ones-out t e out = at_places-at (pos 1) t e ∙ rw out refl

ones-count : (t : List Bool) → AreCounts (at_places (pos 1) t)
ones-count [] e lt = absurd (omega (arith, lt))
ones-count (true ∷ t) zero lt = omega (arith, ints)
ones-count (false ∷ t) zero lt = omega (arith, ints)
ones-count (b ∷ t) (suc e) lt = ones-count t e (omega (arith, lt))

sum-ones : (s t : List Bool) → length s ≡ length t
    → sum_over s (at_places (pos 1) t) ≡ pos (size (intersection s t))
sum-ones [] t same = refl
sum-ones (b ∷ s) [] same = absurd (omega (arith, same))
sum-ones (b ∷ s) (d ∷ t) same = at b d (sum-ones s t (omega (arith, same))) where
  at : (b d : Bool) → sum_over s (at_places (pos 1) t) ≡ pos (size (intersection s t))
      → sum_over (b ∷ s) (at_places (pos 1) (d ∷ t)) ≡ pos (size (intersection (b ∷ s) (d ∷ t)))
  at true true r = let z = size-cons true (intersection s t) in omega (arith, ints, r, z)
  at true false r = let z = size-cons false (intersection s t) in omega (arith, ints, r, z)
  at false d r = let z = size-cons false (intersection s t) in omega (arith, ints, r, z)

once : (n : ℕ) → (pos 1 *ℤ pos n) ≡ pos n
once n = omega (arith, ints)

-- ---- a split over slots that hold 1 each, with 1 at the places of t

module _ (entries : List (List ℕ)) (m : ℕ) (exist : All (All (λ v. v < m)) entries) (t : List Bool)
    (kt : length t ≡ length entries) where
  sized : length (at_places (pos 1) t) ≡ length entries
  sized = at_places-length (pos 1) t ∙ kt

  met_ones : CanBeMet (at_places (pos 1) t) entries (replicate m (pos 1)) → IsMatchable entries t
  met_ones met = matchable_by_slots (length entries) m entries t kt (λ r kr inside.
      let same : intersection r t ≡ r = same_sets (intersection r t) r
      (length-intersection r t (kr ∙ sym kt)) (λ e lt h. in_first r t e (kr ∙ sym kt) h)
      (λ e lt h. in_both r t e (kr ∙ sym kt) h (inside e h)) in
      let sum = sum-ones r t (kr ∙ sym kt) ∙ ap (λ s. pos (size s)) same in
      let h = split_within_slots entries m exist (pos 1) (at_places (pos 1) t) sized met r kr in
      let o = once (slots_count entries m r) in
      omega (arith, ints, sum, h, o))

  ones_met : IsMatchable entries t → CanBeMet (at_places (pos 1) t) entries (replicate m (pos 1))
  ones_met (slots, matched) = within_slots_split entries m exist (pos 1) (at_places (pos 1) t) sized
      (omega (arith, ints)) (ones-count t) (λ s ks.
      let same = ks ∙ sym kt in
      let n = matched_slots (length entries) m entries (slots_each entries m exist) s
      (intersection s t) (λ e h. in_first s t e same h) (
        slots,
        record {
          own = λ e h. matched.own e (in_second s t e same h);
          distinct = λ d e hd he. matched.distinct d e (in_second s t d same hd)
              (in_second s t e same he);
        },
      ) in
      let sum = sum-ones s t same in
      let o = once (slots_count entries m s) in
      omega (arith, ints, n, sum, o))

  suffice : have_slots entries (above_slots entries) t ≡ true
      → CanBeMet (at_places (pos 1) t) entries (replicate m (pos 1))
  suffice h = ones_met (slots_suffice (length entries) (above_slots entries) entries
      (slots_below entries) t kt h)

  lack : have_slots entries (above_slots entries) t ≡ false
      → CanBeMet (at_places (pos 1) t) entries (replicate m (pos 1)) → ⊥
  lack h met = slots_needed (length entries) (above_slots entries) entries (slots_below entries) t
      kt h (met_ones met)

module _ (entries : List (List ℕ)) (m : ℕ) (exist : All (All (λ v. v < m)) entries) where
  -- there is one where no place is taken
  pub none_met : CanBeMet (replicate (length entries) (pos 0)) entries (replicate m (pos 1))
  none_met = rw (← ones-none (length entries))
      (ones_met entries m exist (empty_set (length entries))
      (length-replicate (length entries) false) (matching-matroid (length entries) entries).empty)

  -- a place more has a slot with the others exactly where it can be raised by 1
  module _ (t : List Bool) (kt : length t ≡ length entries) (e : ℕ) (out : get_or t e false ≡ false)
      (g : ℤ) (grown : IsMostUpto (slot_demands entries m (pos 1) (at_places (pos 1) t)) e (pos 1)
      g) where
    more : length (set t e true) ≡ length entries
    more = length-set t e true ∙ kt

    raised : set (at_places (pos 1) t) e (amount_at (at_places (pos 1) t) e +ℤ pos 1) ≡ at_places
        (pos 1) (set t e true)
    raised = rw (ones-out t e out) (ones-set t e)

    pub grown-suits : g ≡ pos 1 → have_slots entries (above_slots entries) (set t e true) ≡ true
    grown-suits one = ⊎_elim (λ h. h)
        (λ h. absurd (lack entries m exist (set t e true) more h
        (rw (one, raised) at grown.reached)))
        (cases_Bool (have_slots entries (above_slots entries) (set t e true)))

    pub grown-not : g ≢ pos 1 → have_slots entries (above_slots entries) (set t e true) ≡ false
    grown-not ne = ⊎_elim
        (λ h.
        let le = grown.greatest (pos 1) (omega (arith, ints)) (omega (arith, ints))
        (rw raised (suffice entries m exist (set t e true) more h)) in
        let high = grown.high in
        absurd (ne (omega (arith, ints, le, high))))
        (λ h. h)
        (cases_Bool (have_slots entries (above_slots entries) (set t e true)))

    pub grown-taken : g ≡ pos 1 → with_more (slot_demands entries m (pos 1) (at_places (pos 1) t)) e
        g ≡ slot_demands entries m (pos 1) (at_places (pos 1) (set t e true))
    grown-taken one = rw (one, raised) refl

    pub grown-left : g ≢ pos 1 → with_more (slot_demands entries m (pos 1) (at_places (pos 1) t)) e
        g ≡ slot_demands entries m (pos 1) (at_places (pos 1) t)
    grown-left ne =
        let low = grown.low in
        let high = grown.high in
        let none : g ≡ pos 0 = omega (arith, ints, low, high, ne) in
        let same : (amount_at (at_places (pos 1) t) e +ℤ g) ≡ amount_at (at_places (pos 1) t)
        e = omega (arith, ints, none) in
        ap (λ x. slot_demands entries m (pos 1) x)
        (rw same (set-get_or (at_places (pos 1) t) e (pos 0)))

pub fits_one : (entries : List (List ℕ)) (m : ℕ) (x : List ℤ) (e : ℕ) (g : ℤ)
    → IsMostUpto (slot_demands entries m (pos 1) x) e (pos 1) g → FitsSigned w128 g
fits_one entries m x e g most =
    let low = most.low in let high = most.high in omega (arith, ints, low, high)

-- ---- places taken one after another

module _ (entries : List (List ℕ)) (s : List Bool) (n : ℕ) where
  pub suited-out : n < length entries → get_or (suited entries s n) n false ≡ false
  suited-out lt = next-out (length entries) (IsMatchable entries) s n (suited entries s n)
      (is_grown (length entries) (IsMatchable entries) (matching-matroid (length entries) entries) s
      (suited entries s) (suited-growth entries s) n (omega arith))

  module _ (t : List Bool) (is : t ≡ suited entries s n) where
    pub suited-taken : Has s n → have_slots entries (above_slots entries) (set t n true) ≡ true
        → set t n true ≡ suited entries s (n + 1)
    suited-taken has h = let e : n + 1 ≡ suc n = omega arith in let h' = rw is at
        h in rw (e, is, has, h') refl

    pub suited-left : have_slots entries (above_slots entries) (set t n true) ≡ false
        → t ≡ suited entries s (n + 1)
    suited-left h = let e : n + 1 ≡ suc n = omega arith in let h' = rw is at
        h in rw (e, is, h', never (get_or s n false)) refl where
          never : (b : Bool) → (b && false) ≡ false
          never true = refl
          never false = refl

    pub suited-same : get_or s n false ≡ false → t ≡ suited entries s (n + 1)
    suited-same out = let e : n + 1 ≡ suc n = omega arith in rw (e, out) is

-- ---- a place more

module _ (entries : List (List ℕ)) (s : List Bool) (e : ℕ) (lt : e < length entries) (t : List Bool)
    (d : Demands) (h : IsMatchedTo entries s e t d) where
  is_out : get_or t e false ≡ false
  is_out = ap (λ t. get_or t e false) h.taken ∙ suited-out entries s e lt

  pub matched_place : e < length d.demands
  matched_place = let n = ap (λ (d : Demands). length d.demands) h.split
      ∙ (at_places-length (pos 1) t ∙ h.places) in omega (arith, n, lt)

  pub matched_none : amount_at d.demands e ≡ pos 0
  matched_none = ap (λ (d : Demands). amount_at d.demands e) h.split ∙ ones-out t e is_out

  -- one that is not in s
  pub matched_pass : get_or s e false ≡ false → IsMatchedTo entries s (e + 1) t d
  matched_pass out = record {
    m = h.m;
    below = h.below;
    places = h.places;
    taken = suited-same entries s e t h.taken out;
    split = h.split;
  }

  module _ (g : ℤ) (most : IsMostUpto d e (pos 1) g) where
    upto : IsMostUpto (slot_demands entries h.m (pos 1) (at_places (pos 1) t)) e (pos 1) g
    upto = rw h.split at most

    pub matched_take : Has s e → g ≡ pos 1
        → IsMatchedTo entries s (e + 1) (set t e true) (with_more d e g)
    matched_take has one = record {
      m = h.m;
      below = h.below;
      places = length-set t e true ∙ h.places;
      taken = suited-taken entries s e t h.taken has
          (grown-suits entries h.m h.below t h.places e is_out g upto one);
      split = ap (λ d. with_more d e g) h.split ∙ grown-taken entries h.m h.below t h.places e
          is_out g upto one;
    }

    pub matched_leave : g ≢ pos 1 → IsMatchedTo entries s (e + 1) t (with_more d e g)
    matched_leave ne = record {
      m = h.m;
      below = h.below;
      places = h.places;
      taken = suited-left entries s e t h.taken
          (grown-not entries h.m h.below t h.places e is_out g upto ne);
      split = ap (λ d. with_more d e g) h.split ∙ grown-left entries h.m h.below t h.places e is_out
          g upto ne;
    }
