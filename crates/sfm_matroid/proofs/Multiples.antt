-- Splits of bases m times: so much is over slots that hold m times as much, and is within the
-- bounds, as m times the base is.
use Rattle.std.proofs.Common.{None, ◌≡◌, ℕ, zero, suc, List, ◌∷◌, length, map, replicate, ℤ, ◌*ℤ◌, refl, sym, ap, ◌∙◌}
use Rattle.sfm_spec.specs.Bounds.{IsFactor}
use Rattle.sfm_spec.specs.Terms.{times, IsBase}
use Rattle.sfm_spec.proofs.Scaled.{times-assoc}
use Rattle.sfm_assign.specs.Splits.{Demands}
use Rattle.sfm_matroid.specs.Notes.{AreBeside, CanMultiply, demands_times, slot_demands, transversal_fits}
use Rattle.sfm_matroid.proofs.Beside.{not_near}
use Rattle.sfm_matroid.specs.Slots.{transversal_value}
use Rattle.sfm_matroid.specs.declared.splits.SlotSplit.{SlotSplit}
use Rattle.sfm_matroid.specs.declared.transversal.Transversal.{Transversal}
use Rattle.sfm_matroid.proofs.Fits.{capped_amounts}
use Rattle.sfm_matroid.proofs.TransversalBases.{held_base}

module _ (m q w : ℤ) where
  -- slots that hold q·w each
  pub replicate-times : (n : ℕ) → map (λ a. m *ℤ a) (replicate n (q *ℤ w)) ≡ replicate n
      ((m *ℤ q) *ℤ w)
  replicate-times zero = refl
  replicate-times (suc n) = ap (λ a. a ∷ map (λ b. m *ℤ b) (replicate n (q *ℤ w)))
      (sym (times-assoc m q w)) ∙ ap (λ r. ((m *ℤ q) *ℤ w) ∷ r) (replicate-times n)

  -- demands of entries m times
  slots-times : (entries : List (List ℕ)) (n : ℕ) (x : List ℤ)
      → demands_times m (slot_demands entries n (q *ℤ w) x) ≡ slot_demands entries n ((m *ℤ q) *ℤ w)
      (map (λ b. m *ℤ b) x)
  slots-times entries n x =
      ap (λ l. record { demands = map (λ b. m *ℤ b) x; lists = entries; capacities = l })
      (replicate-times n)

-- what is kept beside a base can be multiplied, where m times the base is one
pub slots_multiply : (s : Transversal) (m q : ℤ) (x : List ℤ) (note : SlotSplit)
    → transversal_fits s.w s.entries note q x → IsFactor m → IsFactor (m *ℤ q)
    → length (map (λ a. m *ℤ a) x) ≡ length s.places
    → IsBase (times (m *ℤ q) (transversal_value s.w s.entries)) (map (λ a. m *ℤ a) x)
    → CanMultiply m note.pair.kept.demand
slots_multiply s m q x note h few factor sized base =
    let held = held_base s (m *ℤ q) h.m h.below factor (map (λ a. m *ℤ a) x) sized base in
    rw h.split (record {
      low = few.low;
      amounts = capped_amounts _ _ held.capped;
      bounded = rw (replicate-times m q s.w h.m) held.bounded;
    })

-- and m times as much fits that
pub slots_multiplied : (s : Transversal) (m q : ℤ) (x : List ℤ) (note made : SlotSplit)
    → transversal_fits s.w s.entries note q x
    → made.pair.kept.demand ≡ demands_times m note.pair.kept.demand
    → made.capacities.items ≡ made.pair.kept.demand.capacities → AreBeside made.pair
    → made.pair.near ≡ None
    → transversal_fits s.w s.entries made (m *ℤ q) (map (λ a. m *ℤ a) x)
slots_multiplied s m q x note made h kept holds spare none =
    let is = kept ∙ (ap (demands_times m) h.split ∙ slots-times m q s.w s.entries h.m x) in
    record {
      m = h.m;
      below = h.below;
      holds = holds ∙ ap (λ (d : Demands). d.capacities) is;
      split = is;
      spare = spare;
      near = not_near made.pair _ none;
    }
