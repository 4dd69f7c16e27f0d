-- The test of bases as demands that are split over slots: each member over the slots of its entry.
-- Demands can be split exactly where they pass the test. Textbook: Schrijver, Combinatorial
-- Optimization, section 22 (Hall's condition).
use Rattle.std.proofs.Common.{◌≡◌, ℕ, ◌<◌, Bool, true, false, ◌||◌, List, [], ◌∷◌, length, get_or, replicate, ℤ, pos, ◌*ℤ◌, ◌≤ℤ◌, refl, sym, ap, ◌∙◌, arith, ⊎_elim, length-set, get_or-set_other, get_or-set_same}
use Rattle.std.proofs.lemmas.Bool.{cases_eq, eq-eqb}
use Rattle.std.proofs.lemmas.Int.{ints}
use Rattle.std.proofs.lemmas.List.{length-replicate, get_or-replicate}
use Rattle.sfm_spec.specs.Sets.{sum_over}
use Rattle.sfm_spec.proofs.Sets.{get_or-union}
use Rattle.sfm_assign.specs.Splits.{set_of, slots_of, CanBeMet}
use Rattle.sfm_cells.proofs.Rows.{AreBelow, length-slots_of}
use Rattle.sfm_cells.proofs.Hall.{hall_easy}
use Rattle.sfm_split.proofs.Filling.{hall}
use Rattle.sfm_law.proofs.Monotone.{AreCounts}
use Rattle.sfm_matroid.specs.Counts.{count_below}
use Rattle.sfm_matroid.specs.Counting.{count-same, eqb_apart, size-count}
use Rattle.sfm_matroid.specs.Slots.{lists_slot, listed, slots_count, IsWithinSlots}
use Rattle.sfm_matroid.proofs.MatroidTests.{sum-level}

-- ---- the slots of a set, one by one

length-set_of : (m : ℕ) (slots : List ℕ) → length (set_of m slots) ≡ m
length-set_of m [] = length-replicate m false
length-set_of m (a ∷ slots) = length-set (set_of m slots) a true ∙ length-set_of m slots

set_of-at : (m : ℕ) (slots : List ℕ) (v : ℕ) → v < m
    → get_or (set_of m slots) v false ≡ lists_slot slots v
set_of-at m [] v lt = get_or-replicate m v false false lt
set_of-at m (a ∷ slots) v lt = ⊎_elim
    (λ (same : v ≡ a).
    let l = length-set_of m slots in
    rw (same, eq-eqb a a refl) (get_or-set_same (set_of m slots) a true false
    (omega (arith, l, lt, same))))
    (λ ne. rw (eqb_apart a v (λ e. ne (sym e)))
    (get_or-set_other (set_of m slots) a v true false ne ∙ set_of-at m slots v lt))
    (cases_eq v a)

pub slots_of-at : (m : ℕ) (lists : List (List ℕ)) (s : List Bool) (v : ℕ) → v < m
    → get_or (slots_of m lists s) v false ≡ listed lists s v
slots_of-at m [] s v lt = get_or-replicate m v false false lt
slots_of-at m (slots ∷ lists) [] v lt = get_or-replicate m v false false lt
slots_of-at m (slots ∷ lists) (true ∷ s) v lt =
    let r = slots_of-at m lists s v lt in
    let f = set_of-at m slots v lt in
    get_or-union (set_of m slots) (slots_of m lists s) v
    (length-set_of m slots ∙ sym (length-slots_of m lists s))
    ∙ (ap (λ b. b || get_or (slots_of m lists s) v false) f
    ∙ ap (λ b. lists_slot slots v || b) r)
slots_of-at m (slots ∷ lists) (false ∷ s) v lt = slots_of-at m lists s v lt

-- ---- what slots hold

pub level-sum : (m : ℕ) (lists : List (List ℕ)) (s : List Bool) (c : ℤ)
    → sum_over (slots_of m lists s) (replicate m c) ≡ (c *ℤ pos (slots_count lists m s))
level-sum m lists s c =
    let z = slots_of m lists s in
    let l = length-slots_of m lists s in
    let a = rw l at (sum-level z c) in
    let n = size-count z ∙ ap (λ i. count_below i (λ v. get_or z v false)) l in
    let e = count-same m (λ v. get_or z v false) (listed lists s)
    (λ v lt. slots_of-at m lists s v lt) in
    a ∙ ap (λ i. c *ℤ pos i) (n ∙ e)

-- ---- members, each with the slots of its entry

module _ (entries : List (List ℕ)) (m : ℕ) (exist : AreBelow m entries) (c : ℤ) (x : List ℤ)
    (sized : length x ≡ length entries) where
  slots : length (replicate m c) ≡ m
  slots = length-replicate m c

  held_slots : (s : List Bool) → sum_over (slots_of (length (replicate m c)) entries s)
      (replicate m c) ≡ (c *ℤ pos (slots_count entries m s))
  held_slots s = rw slots (level-sum m entries s c)

  pub split_within_slots : CanBeMet x entries (replicate m c) → IsWithinSlots entries m c x
  split_within_slots can s ks =
      let below : AreBelow (length (replicate m c)) entries = rw slots exist in
      let h = hall_easy x entries (replicate m c) s (sym sized) below (ks ∙ sym sized) can in
      let e = held_slots s in
      omega (arith, ints, h, e)

  -- what passes it is split
  pub within_slots_split : pos 0 ≤ℤ c → AreCounts x → IsWithinSlots entries m c x
      → CanBeMet x entries (replicate m c)
  within_slots_split low counts within =
      let below : AreBelow (length (replicate m c)) entries = rw slots exist in
      hall x entries (replicate m c) (sym sized) below counts caps
      (λ s ks. let h = within s (ks ∙ sized) in let e = held_slots
      s in omega (arith, ints, h, e)) where
        caps : (s : ℕ) → s < length (replicate m c) → pos 0 ≤ℤ get_or (replicate m c) s (pos 0)
        caps s ls = let l = slots in rw (get_or-replicate m s c (pos 0) (omega (arith, ls, l))) low
