-- Demands, capacities and the amounts on the cells, each m times as much: what was met is met
-- still, and m times as much is left.
use Rattle.std.proofs.Common.{◌≡◌, ℕ, ◌<◌, Bool, true, false, List, [], ◌∷◌, length, get_or, map, nat_eq, ℤ, pos, ◌+ℤ◌, ◌*ℤ◌, ◌≤ℤ◌, if◌then◌else◌, refl, sym, ap, ◌∙◌, arith}
use Rattle.std.specs.List.{All}
use Rattle.std.proofs.Math.IntN.{*ℤ-zero}
use Rattle.std.proofs.Math.ListN.{get_or-map}
use Rattle.std.proofs.lemmas.Int.{ints}
use Rattle.std.proofs.lemmas.List.{length-map}
use Rattle.std.proofs.lemmas.List.Elements.{All-get_or, All-from_get_or}
use Rattle.sfm_spec.proofs.Scaled.{times-add, times-mono}
use Rattle.sfm_cells.specs.Splits.{sum_at, amount_at, Demands, IsAmount, IsCapacity, AreDemands}
use Rattle.sfm_cells.specs.Cells.{label_at, AreMet}
use Rattle.sfm_cells.specs.Left.{AreLeft}
use Rattle.sfm_cells.proofs.Amounts.{sum_at-low, sum_at-holds}
use Rattle.sfm_cells.proofs.Outcomes.{cells_for}

module _ (m : ℤ) where
  -- each number times m
  abbrev scaled : List ℤ → List ℤ
  scaled xs = map (λ a. m *ℤ a) xs

  amount_at-times : (x : List ℤ) (i : ℕ) → amount_at (scaled x) i ≡ (m *ℤ amount_at x i)
  amount_at-times x i = ap (λ z. get_or (scaled x) i z) (sym (*ℤ-zero m))
      ∙ get_or-map (λ a. m *ℤ a) x i (pos 0)

  if-times : (t : Bool) (a : ℤ) → (if t then (m *ℤ a) else pos 0) ≡ (m *ℤ (if t then a else pos 0))
  if-times true a = refl
  if-times false a = sym (*ℤ-zero m)

  -- a sum is multiplied with its amounts
  sum_at-times : (k : ℕ) (js : List ℕ) (y : List ℤ) → sum_at k js (scaled y) ≡ (m *ℤ sum_at k js y)
  sum_at-times k [] y = sym (*ℤ-zero m)
  sum_at-times k (j ∷ js) [] = sym (*ℤ-zero m)
  sum_at-times k (j ∷ js) (a ∷ y) =
      ap (λ z. z +ℤ sum_at k js (scaled y)) (if-times (nat_eq j k) a)
      ∙ ap (λ z. (m *ℤ (if nat_eq j k then a else pos 0)) +ℤ z) (sum_at-times k js y)
      ∙ sym (times-add m (if nat_eq j k then a else pos 0) (sum_at k js y))

  -- what is left is multiplied with its totals and amounts
  pub left_times : (totals : List ℤ) (labels : List ℕ) (y left : List ℤ)
      → AreLeft totals labels y left → AreLeft (scaled totals) labels (scaled y) (scaled left)
  left_times totals labels y left h = record {
    places = length-map left (λ a. m *ℤ a) ∙ (h.places ∙ sym (length-map totals (λ a. m *ℤ a)));
    each = λ k lt.
        let e = h.each k (rw (length-map totals (λ a. m *ℤ a)) at lt) in
        let whole : amount_at totals
        k ≡ (amount_at left k +ℤ sum_at k labels y) = omega (arith, ints, e) in
        let parts = ap (λ a. m *ℤ a) whole ∙ times-add m (amount_at left k) (sum_at k labels y) in
        rw (amount_at-times left k, amount_at-times totals k, sum_at-times k labels y)
        (omega (arith, ints, parts));
  }

  module _ (low : pos 1 ≤ℤ m) (d : Demands) (whos slots : List ℕ) (y : List ℤ)
      (met : AreMet d whos slots y) where
    not_less : (a b : ℤ) → a ≤ℤ b → (m *ℤ a) ≤ℤ (m *ℤ b)
    not_less a b h = times-mono m a b (omega (arith, ints, low)) h

    not_negative : (a : ℤ) → pos 0 ≤ℤ a → pos 0 ≤ℤ (m *ℤ a)
    not_negative a h = rw (*ℤ-zero m) at (not_less (pos 0) a h)

    -- m times the demands are met by m times the amounts
    pub met_times : AreMet (record {
      demands = scaled d.demands;
      lists = d.lists;
      capacities = scaled d.capacities;
    }) whos slots (scaled y)
    met_times = record {
      in_order = met.in_order;
      in_lists = met.in_lists;
      part = record {
        cells = length-map y (λ a. m *ℤ a) ∙ met.part.cells;
        amounts = λ e. rw (amount_at-times y e) (not_negative (amount_at y e) (met.part.amounts e));
        got = λ i lt. rw (sum_at-times i whos y, amount_at-times d.demands i)
            (not_less (sum_at i whos y) (amount_at d.demands i)
            (met.part.got i (rw (length-map d.demands (λ a. m *ℤ a)) at lt)));
        within = λ s lt. rw (sum_at-times s slots y, amount_at-times d.capacities s)
            (not_less (sum_at s slots y) (amount_at d.capacities s)
            (met.part.within s (rw (length-map d.capacities (λ a. m *ℤ a)) at lt)));
      };
      met = λ i lt. rw (sum_at-times i whos y, amount_at-times d.demands i)
          (not_less (amount_at d.demands i) (sum_at i whos y)
          (met.met i (rw (length-map d.demands (λ a. m *ℤ a)) at lt)));
    }

    -- m times an amount is at most m times its demand
    pub amounts_times : AreDemands d → All IsAmount (scaled d.demands) → All IsAmount (scaled y)
    amounts_times sound fit = All-from_get_or IsAmount (scaled y) (pos 0)
        (λ e lt. fits e (rw (length-map y (λ a. m *ℤ a)) at lt)) where
          fits : (e : ℕ) → e < length y → IsAmount (amount_at (scaled y) e)
          fits e lt =
              let cells = met.part.cells in
              let long = ap length met.in_order in
              let in_order = (cells_for d sound).owned e (omega (arith, lt, cells, long)) in
              let owned : label_at whos e < length d.demands = rw met.in_order in_order in
              let holds = sum_at-holds whos y e met.part.amounts cells (omega (arith, lt, cells)) in
              let got = met.part.got (label_at whos e) owned in
              let most = not_less (amount_at y e) (amount_at d.demands (label_at whos e))
              (omega (arith, ints, holds, got)) in
              let ask : IsAmount (amount_at (scaled d.demands) (label_at whos e)) = All-get_or
              IsAmount
              (scaled d.demands) (label_at whos e) (pos 0)
              (rw (length-map d.demands (λ a. m *ℤ a)) owned) fit in
              let is = amount_at-times d.demands (label_at whos e) in
              let high = ask.high in
              rw (amount_at-times y e)
              (record {
                low = not_negative (amount_at y e) (met.part.amounts e);
                high = omega (arith, ints, most, is, high);
              })

    -- m times what a slot has left is at most m times its capacity
    pub rooms_times : (rooms : List ℤ) → AreLeft d.capacities slots y rooms
        → All IsCapacity (scaled d.capacities) → All IsAmount (scaled rooms)
    rooms_times rooms left fit = All-from_get_or IsAmount (scaled rooms) (pos 0)
        (λ s lt. fits s (rw (length-map rooms (λ a. m *ℤ a)) at lt)) where
          fits : (s : ℕ) → s < length rooms → IsAmount (amount_at (scaled rooms) s)
          fits s lt =
              let places = left.places in
              let ls : s < length d.capacities = omega (arith, lt, places) in
              let e = left.each s ls in
              let within = met.part.within s ls in
              let some = sum_at-low s slots y met.part.amounts in
              let most = not_less (amount_at rooms s) (amount_at d.capacities s)
              (omega (arith, ints, e, some)) in
              let most_holds : IsCapacity (amount_at (scaled d.capacities) s) = All-get_or
              IsCapacity
              (scaled d.capacities) s (pos 0) (rw (length-map d.capacities (λ a. m *ℤ a)) ls) fit in
              let is = amount_at-times d.capacities s in
              let high = most_holds.high in
              rw (amount_at-times rooms s)
              (record {
                low = not_negative (amount_at rooms s) (omega (arith, ints, e, within));
                high = omega (arith, ints, most, is, high);
              })
