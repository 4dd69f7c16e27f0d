-- Amounts lowered cell by cell, and what they then leave.
use Rattle.std.proofs.Common.{◌≡◌, ℕ, zero, suc, ◌+◌, ◌<◌, ◌^◌, List, [], ◌∷◌, length, set, ℤ, pos, ◌+ℤ◌, ◌-ℤ◌, ◌≤ℤ◌, ◌<ℤ◌, refl, sym, ap, ◌∙◌, add-one, arith, FitsSigned, ⊎_elim, length-set, get_or-set_other, get_or-set_same}
use Rattle.std.specs.List.{All}
use Rattle.std.proofs.lemmas.Int.{ints, by_lt_z}
use Rattle.std.proofs.lemmas.Bool.{cases_eq}
use Rattle.std.proofs.lemmas.List.{set-get_or}
use Rattle.std.proofs.lemmas.List.Elements.{All-get_or, All-set}
use mir.Syntax.{w128}
use Rattle.sfm_cells.specs.Splits.{sum_at, amount_at, IsAmount, IsCapacity}
use Rattle.sfm_cells.specs.Cells.{label_at, AreCells}
use Rattle.sfm_cells.specs.Left.{AreLeft, turned, CanPut}
use Rattle.sfm_cells.proofs.Amounts.{AreAmounts, sum_at-set, sum_at-low, sum_at-holds, only-same, only-other}
use Rattle.sfm_cells.proofs.Leaving.{left_taken}
use Rattle.sfm_cells.proofs.Written.{are_turned}
use Rattle.sfm_split.specs.Pours.{IsPouring, AreWithin}
use Rattle.sfm_split.specs.Lowers.{IsCharge, AreSmall, AreCharged, AreLowered, IsStanding, StandsBy, IsTotal, lacks_put, rooms_put}
use Rattle.sfm_split.specs.Sides.{of_side}
use Rattle.sfm_split.specs.Changes.{with_change, CanTurn}
use Rattle.sfm_split.specs.declared.lower.Change.{Change}
use Rattle.sfm_split.specs.declared.lower.Side.{Side}
use Rattle.sfm_split.specs.declared.lower.Side.TheVariants.{Demands, Slots}
use Rattle.sfm_split.proofs.Fills.{left_low}
use Rattle.sfm_split.proofs.Pours.{amounts_set, pouring_begun}

-- ---- one place of a list

pub at_raised : (x : List ℤ) (k i : ℕ) (a : ℤ) → pos 0 ≤ℤ a
    → amount_at x i ≤ℤ amount_at (set x k (amount_at x k +ℤ a)) i
at_raised [] k i a low = omega (arith, ints)
at_raised (b ∷ x) zero zero a low = omega (arith, ints)
at_raised (b ∷ x) zero (suc i) a low = omega (arith, ints)
at_raised (b ∷ x) (suc k) zero a low = omega (arith, ints)
at_raised (b ∷ x) (suc k) (suc i) a low = at_raised x k i a low

pub at_lowered : (x : List ℤ) (k i : ℕ) (a : ℤ) → pos 0 ≤ℤ a
    → amount_at (set x k (amount_at x k -ℤ a)) i ≤ℤ amount_at x i
at_lowered [] k i a low = omega (arith, ints)
at_lowered (b ∷ x) zero zero a low = omega (arith, ints)
at_lowered (b ∷ x) zero (suc i) a low = omega (arith, ints)
at_lowered (b ∷ x) (suc k) zero a low = omega (arith, ints)
at_lowered (b ∷ x) (suc k) (suc i) a low = at_lowered x k i a low

-- ---- one cell

module _ (totals : List ℤ) (labels : List ℕ) (y left : List ℤ) (e : ℕ) (a : ℤ)
    (same : length y ≡ length labels) (lt : e < length labels)
    (below : label_at labels e < length totals) (h : AreLeft totals labels y left) where
  abbrev j : ℕ
  j = label_at labels e

  -- what is taken from a cell is left besides
  pub left_given : AreLeft totals labels (set y e (amount_at y e -ℤ a))
      (set left j (amount_at left j +ℤ a))
  left_given =
      let p : (amount_at y e +ℤ (pos 0 -ℤ a)) ≡ (amount_at y e -ℤ a) = omega (arith, ints) in
      let q : (amount_at left j -ℤ (pos 0 -ℤ a)) ≡ (amount_at left j +ℤ a) = omega (arith, ints) in
      rw q at (left_taken totals labels y (set y e (amount_at y e -ℤ a)) left j (pos 0 -ℤ a) below h
      (λ k. ap (λ v. sum_at k labels (set y e v)) (sym p)
      ∙ sum_at-set k labels y e (pos 0 -ℤ a) same lt))

  -- with all of the cell no more is left than the total
  pub left_fits : AreAmounts y → a ≤ℤ amount_at y e → (amount_at left j +ℤ a) ≤ℤ amount_at totals j
  left_fits low most =
      let r = h.each j below in
      let s = sum_at-holds labels y e low same lt in
      omega (arith, ints, r, s, most)

  can_give : AreAmounts y → AreSmall left → amount_at totals j ≤ℤ pos (10 ^ 32) → pos 0 ≤ℤ a
      → a ≤ℤ amount_at y e → CanPut left j a
  can_give low small high some most =
      let p = h.places in
      let l = below in
      let s = small j in
      let f = left_fits low most in
      record {
        place = omega (arith, l, p);
        low = omega (arith, ints, s, some);
        high = omega (arith, ints, f, high);
      }

-- where something is left on the cell, all that was asked for is given back
given_all : (y left : List ℤ) (e k : ℕ) (a over : ℤ) → e < length y → k < length left
    → (pos 1 ≤ℤ (amount_at y e -ℤ a) → a ≡ over)
    → pos 1 ≤ℤ amount_at (set y e (amount_at y e -ℤ a)) e
    → amount_at (set left k (amount_at left k +ℤ a)) k ≡ (amount_at left k +ℤ over)
given_all y left e k a over le lk all some =
    let f = get_or-set_same y e (amount_at y e -ℤ a) (pos 0) le in
    let g = get_or-set_same left k (amount_at left k +ℤ a) (pos 0) lk in
    let is = all (omega (arith, ints, f, some)) in
    omega (arith, ints, g, is)

sum_at-none : (k : ℕ) (js : List ℕ) (y : List ℤ)
    → ((e : ℕ) → e < length js → label_at js e ≡ k → amount_at y e ≤ℤ pos 0)
    → sum_at k js y ≤ℤ pos 0
sum_at-none k [] y none = omega (arith, ints)
sum_at-none k (j ∷ js) [] none = omega (arith, ints)
sum_at-none k (j ∷ js) (a ∷ y) none =
    let r = sum_at-none k js y (λ e lt is. none (suc e) (omega (arith, lt)) is) in
    ⊎_elim
    (λ (q : j ≡ k). let o = only-same j k a q in let h = none 0 (omega arith)
    q in omega (arith, ints, r, o, h))
    (λ ne. let o = only-other j k a ne in omega (arith, ints, r, o))
    (cases_eq j k)

-- nothing is on a cell while too much is taken from a total
abbrev pub IsSpent : List ℤ → ℕ → List ℤ → ℕ → Type 0
IsSpent left k y e = amount_at left k <ℤ pos 0 → amount_at y e ≤ℤ pos 0

-- where amounts are too much for a total as long as some are there, they are not once they are gone
-- along
pub mended : (totals : List ℤ) (labels : List ℕ) (y left : List ℤ) (k : ℕ) → k < length totals
    → pos 0 ≤ℤ amount_at totals k → AreLeft totals labels y left
    → ((e : ℕ) → e < length labels → label_at labels e ≡ k → IsSpent left k y e)
    → pos 0 ≤ℤ amount_at left k
mended totals labels y left k lt low h none = by_lt_z (amount_at left k) (pos 0)
    (λ l.
    let s = sum_at-none k labels y (λ e le is. none e le is l) in
    let r = h.each k lt in
    omega (arith, ints, s, r, low))
    (λ ge. ge)

-- ---- amounts lowered step by step

module _ (whos slots : List ℕ) (y lacks rooms : List ℤ) where
  pub lowered_nowhere : AreLowered whos slots y lacks rooms y lacks rooms
  lowered_nowhere = record {
    each = λ demands capacities cells h. h;
    falls = λ e. omega (arith, ints);
    lacks_rise = λ i. omega (arith, ints);
    rooms_rise =
        λ s. omega (arith, ints);
  }

  pub lowered_on : (z lacks' rooms' z'' lacks'' rooms'' : List ℤ)
      → AreLowered whos slots y lacks rooms z lacks' rooms'
      → AreLowered whos slots z lacks' rooms' z'' lacks'' rooms''
      → AreLowered whos slots y lacks rooms z'' lacks'' rooms''
  lowered_on z lacks' rooms' z'' lacks'' rooms'' f g = record {
    each = λ demands capacities cells h. g.each demands capacities cells
        (f.each demands capacities cells h);
    falls = λ e. let p = f.falls e in let q = g.falls e in omega (arith, ints, p, q);
    lacks_rise = λ i. let p = f.lacks_rise i in let q = g.lacks_rise i in omega (arith, ints, p, q);
    rooms_rise = λ s. let p = f.rooms_rise s in let q = g.rooms_rise s in omega (arith, ints, p, q);
  }

  pub side_rises : (z lacks' rooms' : List ℤ) → AreLowered whos slots y lacks rooms z lacks' rooms'
      → (side : Side) (k : ℕ) → amount_at (of_side side lacks rooms) k ≤ℤ amount_at
      (of_side side lacks' rooms') k
  side_rises z lacks' rooms' r Demands k = r.lacks_rise k
  side_rises z lacks' rooms' r Slots k = r.rooms_rise k

  -- what was spent stays so
  pub still_spent : (z lacks' rooms' : List ℤ) → AreLowered whos slots y lacks rooms z lacks' rooms'
      → (side : Side) (k e : ℕ) → IsSpent (of_side side lacks rooms) k y e
      → IsSpent (of_side side lacks' rooms') k z e
  still_spent z lacks' rooms' r side k e h less =
      let u = side_rises z lacks' rooms' r side k in let f = r.falls e in let d = h
      (omega (arith, ints, less, u)) in omega (arith, ints, d, f)

  -- one cell is lowered
  module _ (e : ℕ) (a : ℤ) (lt : e < length whos) (low : pos 0 ≤ℤ a)
      (most : a ≤ℤ amount_at y e) where
    charge_lowered : (demands capacities : List ℤ)
        → AreCells (length demands) (length capacities) whos slots
        → IsCharge demands capacities whos slots y lacks rooms
        → IsCharge demands capacities whos slots (set y e (amount_at y e -ℤ a))
        (set lacks (label_at whos e) (amount_at lacks (label_at whos e) +ℤ a))
        (set rooms (label_at slots e) (amount_at rooms (label_at slots e) +ℤ a))
    charge_lowered demands capacities cells h =
        let same_slots : length y ≡ length slots = h.cells ∙ sym cells.same in
        let same = cells.same in
        let in_slots : e < length slots = omega (arith, lt, same) in
        let long = h.cells in
        record {
          cells = length-set y e (amount_at y e -ℤ a) ∙ h.cells;
          amounts = amounts_set y e (amount_at y e -ℤ a) h.amounts (omega (arith, lt, long))
              (let m = most in omega (arith, ints, m));
          lacks_are = left_given demands whos y lacks e a h.cells lt (cells.owned e lt) h.lacks_are;
          rooms_are = left_given capacities slots y rooms e a same_slots in_slots (cells.exist e lt)
              h.rooms_are;
        }

    pub lowered_cell : AreLowered whos slots y lacks rooms (set y e (amount_at y e -ℤ a))
        (set lacks (label_at whos e) (amount_at lacks (label_at whos e) +ℤ a))
        (set rooms (label_at slots e) (amount_at rooms (label_at slots e) +ℤ a))
    lowered_cell = record {
      each = charge_lowered;
      falls = λ f. at_lowered y e f a low;
      lacks_rise = λ i. at_raised lacks (label_at whos e) i a low;
      rooms_rise = λ s. at_raised rooms (label_at slots e) s a low;
    }

  module _ (w : AreCharged whos slots y lacks rooms) where
    pub charged_cells : AreCells (length lacks) (length rooms) whos slots
    charged_cells = rw (w.charge.lacks_are.places, w.charge.rooms_are.places) w.cells

    -- what is left stays small where an amount is given back
    pub side_give : (e : ℕ) (a : ℤ) → e < length whos → pos 0 ≤ℤ a → a ≤ℤ amount_at y e
        → (side : Side) → CanPut (of_side side lacks rooms) (label_at (of_side side whos slots) e) a
    side_give e a lt some most Demands =
        let li = w.cells.owned e lt in
        can_give w.demands whos y lacks e a w.charge.cells lt li w.charge.lacks_are w.charge.amounts
        w.lacks_small (All-get_or IsAmount w.demands (label_at whos e) (pos 0) li w.asked).high
        some most
    side_give e a lt some most Slots =
        let ls = w.cells.exist e lt in
        let same = w.cells.same in
        let b = (All-get_or IsCapacity w.capacities (label_at slots e) (pos 0) ls w.bounded).high in
        can_give w.capacities slots y rooms e a (w.charge.cells ∙ sym w.cells.same)
        (omega (arith, lt, same)) ls w.charge.rooms_are w.charge.amounts w.rooms_small
        (omega (arith, ints, b)) some most

    -- where something is left on the cell, both sides have all back that was asked for
    pub given_back : (e : ℕ) (a over : ℤ) → e < length whos
        → (pos 1 ≤ℤ (amount_at y e -ℤ a) → a ≡ over)
        → pos 1 ≤ℤ amount_at (set y e (amount_at y e -ℤ a)) e → (side : Side)
        → let k = label_at (of_side side whos slots) e in amount_at
        (of_side side (set lacks (label_at whos e) (amount_at lacks (label_at whos e) +ℤ a))
        (set rooms (label_at slots e) (amount_at rooms (label_at slots e) +ℤ a)))
        k ≡ (amount_at (of_side side lacks rooms) k +ℤ over)
    given_back e a over lt all some Demands =
        let p = w.charge.cells in given_all y lacks e (label_at whos e) a over
        (omega (arith, lt, p)) (charged_cells.owned e lt) all some
    given_back e a over lt all some Slots =
        let p = w.charge.cells in given_all y rooms e (label_at slots e) a over
        (omega (arith, lt, p)) (charged_cells.exist e lt) all some

    -- the cells of a total, all gone through
    pub side_mended : (side : Side) (k : ℕ) → k < length (of_side side lacks rooms)
        → ((e : ℕ) → e < length (of_side side whos slots) → label_at (of_side side whos slots) e ≡ k
        → IsSpent (of_side side lacks rooms) k y e)
        → pos 0 ≤ℤ amount_at (of_side side lacks rooms) k
    side_mended Demands k lt none =
        let p = w.charge.lacks_are.places in
        let li : k < length w.demands = omega (arith, lt, p) in
        mended w.demands whos y lacks k li (All-get_or IsAmount w.demands k (pos 0) li w.asked).low
        w.charge.lacks_are none
    side_mended Slots k lt none =
        let p = w.charge.rooms_are.places in
        let ls : k < length w.capacities = omega (arith, lt, p) in
        mended w.capacities slots y rooms k ls
        (All-get_or IsCapacity w.capacities k (pos 0) ls w.bounded).low w.charge.rooms_are none

    pub side_small : (side : Side) → AreSmall (of_side side lacks rooms)
    side_small Demands = w.lacks_small
    side_small Slots = w.rooms_small

    -- each side has the same cells
    pub side_cells : (side : Side) → length (of_side side whos slots) ≡ length whos
    side_cells Demands = refl
    side_cells Slots = w.cells.same

    module _ (z lacks' rooms' : List ℤ)
        (r : AreLowered whos slots y lacks rooms z lacks' rooms') where
      charge_after : IsCharge w.demands w.capacities whos slots z lacks' rooms'
      charge_after = r.each w.demands w.capacities w.cells w.charge

      pub side_places : (side : Side)
          → length (of_side side lacks' rooms') ≡ length (of_side side lacks rooms)
      side_places Demands = charge_after.lacks_are.places ∙ sym w.charge.lacks_are.places
      side_places Slots = charge_after.rooms_are.places ∙ sym w.charge.rooms_are.places

      pub still_charged : AreCharged whos slots z lacks' rooms'
      still_charged = record {
        demands = w.demands;
        capacities = w.capacities;
        cells = w.cells;
        asked = w.asked;
        bounded = w.bounded;
        charge = charge_after;
        lacks_small = λ k. let s = w.lacks_small k in let u = r.lacks_rise
            k in omega (arith, ints, s, u);
        rooms_small = λ k. let s = w.rooms_small k in let u = r.rooms_rise
            k in omega (arith, ints, s, u);
      }

-- ---- other totals in place of those that amounts are within

-- a total changes, and what is left of it changes as much
pub left_turned : (totals : List ℤ) (labels : List ℕ) (y left : List ℤ) (k : ℕ) (more : ℤ)
    → k < length totals → AreLeft totals labels y left
    → AreLeft (set totals k (amount_at totals k +ℤ more)) labels y
    (set left k (amount_at left k +ℤ more))
left_turned totals labels y left k more lt h =
    let lt' = length-set totals k (amount_at totals k +ℤ more) in
    let p = h.places in
    record {
      places = length-set left k (amount_at left k +ℤ more) ∙ (h.places ∙ sym lt');
      each = λ i li.
          let v = h.each i (omega (arith, li, lt')) in
          ⊎_elim
          (λ (q : i ≡ k).
          let t = get_or-set_same totals k (amount_at totals k +ℤ more) (pos 0) lt in
          let l = get_or-set_same left k (amount_at left k +ℤ more) (pos 0)
          (omega (arith, lt, p)) in
          let v' = rw q at v in
          rw q (omega (arith, ints, t, l, v')))
          (λ ne.
          let t = get_or-set_other totals k i (amount_at totals k +ℤ more) (pos 0) ne in
          let l = get_or-set_other left k i (amount_at left k +ℤ more) (pos 0) ne in
          omega (arith, ints, t, l, v))
          (cases_eq i k);
    }

-- of what is left, none below nothing, one changes by no more than a demand can ask for
turned_small : (left : List ℤ) (k : ℕ) (more : ℤ) → k < length left → AreAmounts left
    → pos 0 ≤ℤ (more +ℤ pos (10 ^ 32)) → AreSmall (set left k (amount_at left k +ℤ more))
turned_small left k more lt low least i = ⊎_elim
    (λ (q : i ≡ k). let e = get_or-set_same left k (amount_at left k +ℤ more) (pos 0)
    lt in let l = low k in rw q (omega (arith, ints, e, l, least)))
    (λ ne. let e = get_or-set_other left k i (amount_at left k +ℤ more) (pos 0) ne in let l = low
    i in omega (arith, ints, e, l))
    (cases_eq i k)

still_small : (left : List ℤ) → AreAmounts left → AreSmall left
still_small left low k = let l = low k in omega (arith, ints, l)

-- what rises from there, and is not below nothing at the place of the change, is so nowhere
turned_low : (left after : List ℤ) (k : ℕ) (more : ℤ) → AreAmounts left
    → ((i : ℕ) → amount_at (set left k (amount_at left k +ℤ more)) i ≤ℤ amount_at after i)
    → pos 0 ≤ℤ amount_at after k → AreAmounts after
turned_low left after k more low rise here i = ⊎_elim
    (λ (q : i ≡ k). rw q here)
    (λ ne. let e = get_or-set_other left k i (amount_at left k +ℤ more) (pos 0) ne in let l = low
    i in let r = rise i in omega (arith, ints, e, l, r))
    (cases_eq i k)

still_low : (left after : List ℤ) → AreAmounts left
    → ((i : ℕ) → amount_at left i ≤ℤ amount_at after i) → AreAmounts after
still_low left after low rise i = let l = low i in let r = rise i in omega (arith, ints, l, r)

none_below : (left : List ℤ) → ((k : ℕ) → k < length left → pos 0 ≤ℤ amount_at left k)
    → AreAmounts left
none_below [] low k = omega (arith, ints)
none_below (a ∷ left) low zero = low 0 (omega arith)
none_below (a ∷ left) low (suc k) = none_below left (λ i lt. low (suc i) (omega (arith, lt))) k

-- amounts that stand leave no less than nothing
module _ (demands capacities : List ℤ) (whos slots : List ℕ) (y lacks rooms : List ℤ)
    (h : IsStanding demands capacities whos slots y lacks rooms) where
  pub standing_within : AreWithin whos slots y lacks rooms
  standing_within = record {
    demands = demands;
    capacities = capacities;
    cells = h.cells;
    bounded = h.bounded;
    part = h.part;
    lacks_are = h.lacks_are;
    rooms_are = h.rooms_are;
  }

  standing_lacks : AreAmounts lacks
  standing_lacks = none_below lacks (left_low demands whos y lacks h.lacks_are h.part.got)

  standing_rooms : AreAmounts rooms
  standing_rooms = none_below rooms (left_low capacities slots y rooms h.rooms_are h.part.within)

  pub standing_pouring : IsPouring demands capacities whos slots y y lacks rooms
  standing_pouring = pouring_begun demands capacities whos slots y lacks rooms h.part h.lacks_are
      h.rooms_are

-- amounts that may be too much for demands and capacities within their own bounds
record AreOver (demands capacities : List ℤ) (whos slots : List ℕ) (y lacks rooms : List ℤ) : Type
    0 where
  cells : AreCells (length demands) (length capacities) whos slots
  asked : All IsAmount demands
  bounded : All IsCapacity capacities
  charge : IsCharge demands capacities whos slots y lacks rooms

-- lowered until nothing is too much, they stand
over_stands : (demands capacities : List ℤ) (whos slots : List ℕ) (y lacks rooms : List ℤ)
    → AreOver demands capacities whos slots y lacks rooms
    → (z lacks' rooms' : List ℤ) → AreLowered whos slots y lacks rooms z lacks' rooms'
    → AreAmounts lacks' → AreAmounts rooms'
    → IsStanding demands capacities whos slots z lacks' rooms'
over_stands demands capacities whos slots y lacks rooms over z lacks' rooms' r few fits =
    let charge = r.each demands capacities over.cells over.charge in
    record {
      cells = over.cells;
      asked = over.asked;
      bounded = over.bounded;
      part = record {
        cells = charge.cells;
        amounts = charge.amounts;
        got = λ i lt. let l = few i in let e = charge.lacks_are.each i
            lt in omega (arith, ints, l, e);
        within = λ s lt. let l = fits s in let e = charge.rooms_are.each s
            lt in omega (arith, ints, l, e);
      };
      lacks_are = charge.lacks_are;
      rooms_are = charge.rooms_are;
    }

-- a total can change by so much, and what is left of it as well
pub record CanChange (left : List ℤ) (k : ℕ) (more : ℤ) : Type 0 where
  pub fits : FitsSigned w128 more
  pub least : pos 0 ≤ℤ (more +ℤ pos (10 ^ 32))
  pub put : CanPut left k more

-- a capacity is within the bounds of a demand
total_amount : (side : Side) (a : ℤ) → IsTotal side a → IsAmount a
total_amount Demands a h = h
total_amount Slots a h = let b = h.high in record { low = h.low; high = omega (arith, ints, b) }

can_change : (side : Side) (totals : List ℤ) (labels : List ℕ) (y left : List ℤ) (k : ℕ) (more : ℤ)
    → All (IsTotal side) totals → AreAmounts y → AreLeft totals labels y left → AreAmounts left
    → k < length totals → IsTotal side (amount_at totals k +ℤ more)
    → CanChange left k more
can_change side totals labels y left k more bounds low h free lt new =
    let b = total_amount side (amount_at totals k)
    (All-get_or (IsTotal side) totals k (pos 0) lt bounds) in
    let a = total_amount side (amount_at totals k +ℤ more) new in
    let bl = b.low in
    let bh = b.high in
    let al = a.low in
    let ah = a.high in
    let l = free k in
    let p = h.places in
    let e = h.each k lt in
    let g = sum_at-low k labels y low in
    record {
      fits = omega (arith, ints, bl, bh, al, ah);
      least = omega (arith, ints, al, bh);
      put = record {
        place = omega (arith, lt, p);
        low = omega (arith, ints, l, al, bh);
        high = omega (arith, ints, e, g, ah);
      };
    }

-- amounts stand, and one total of a side is to change by so much
module _ (totals others : List ℤ) (whos slots : List ℕ) (y lacks rooms : List ℤ) (k : ℕ)
    (more : ℤ) where
  abbrev after : List ℤ
  after = set totals k (amount_at totals k +ℤ more)

  side_change : (side : Side) → StandsBy side totals others whos slots y lacks rooms
      → k < length totals → IsTotal side (amount_at totals k +ℤ more)
      → CanChange (of_side side lacks rooms) k more
  side_change Demands h lt new =
      can_change Demands totals whos y lacks k more h.asked h.part.amounts h.lacks_are
      (standing_lacks totals others whos slots y lacks rooms h) lt new
  side_change Slots h lt new = can_change Slots totals slots y rooms k more h.bounded h.part.amounts
      h.rooms_are (standing_rooms others totals whos slots y lacks rooms h) lt new

  side_over : (side : Side) → StandsBy side totals others whos slots y lacks rooms
      → k < length totals → IsTotal side (amount_at totals k +ℤ more)
      → AreOver (of_side side after others) (of_side side others after) whos slots y
      (lacks_put side lacks k more) (rooms_put side rooms k more)
  side_over Demands h lt new = record {
    cells = rw (length-set totals k (amount_at totals k +ℤ more)) h.cells;
    asked = All-set IsAmount totals k (amount_at totals k +ℤ more) new h.asked;
    bounded = h.bounded;
    charge = record {
      cells = h.part.cells;
      amounts = h.part.amounts;
      lacks_are = left_turned totals whos y lacks k more lt h.lacks_are;
      rooms_are =
          h.rooms_are;
    };
  }
  side_over Slots h lt new = record {
    cells = rw (length-set totals k (amount_at totals k +ℤ more)) h.cells;
    asked = h.asked;
    bounded = All-set IsCapacity totals k (amount_at totals k +ℤ more) new h.bounded;
    charge = record {
      cells = h.part.cells;
      amounts = h.part.amounts;
      lacks_are = h.lacks_are;
      rooms_are = left_turned totals slots y rooms k more lt h.rooms_are;
    };
  }

  put_small : (side : Side) → StandsBy side totals others whos slots y lacks rooms
      → CanChange (of_side side lacks rooms) k more → AreSmall (lacks_put side lacks k more)
      × AreSmall (rooms_put side rooms k more)
  put_small Demands h can = (
    turned_small lacks k more can.put.place
        (standing_lacks totals others whos slots y lacks rooms h) can.least,
    still_small rooms (standing_rooms totals others whos slots y lacks rooms h),
  )
  put_small Slots h can = (
    still_small lacks (standing_lacks others totals whos slots y lacks rooms h),
    turned_small rooms k more can.put.place
        (standing_rooms others totals whos slots y lacks rooms h) can.least,
  )

  put_low : (side : Side) → StandsBy side totals others whos slots y lacks rooms
      → (z lacks' rooms' : List ℤ) → AreLowered whos slots y (lacks_put side lacks k more)
      (rooms_put side rooms k more) z lacks' rooms'
      → pos 0 ≤ℤ amount_at (of_side side lacks' rooms') k
      → AreAmounts lacks' × AreAmounts rooms'
  put_low Demands h z lacks' rooms' r here = (
    turned_low lacks lacks' k more (standing_lacks totals others whos slots y lacks rooms h)
        r.lacks_rise here,
    still_low rooms rooms'
        (standing_rooms totals others whos slots y lacks rooms h) r.rooms_rise,
  )
  put_low Slots h z lacks' rooms' r here = (
    still_low lacks lacks' (standing_lacks others totals whos slots y lacks rooms h)
        r.lacks_rise,
    turned_low rooms rooms' k more
        (standing_rooms others totals whos slots y lacks rooms h) r.rooms_rise here,
  )

-- on the side of the change
pub side_put : (side : Side) (lacks rooms : List ℤ) (k : ℕ) (a : ℤ)
    → of_side side (lacks_put side lacks k a) (rooms_put side rooms k a) ≡ set
    (of_side side lacks rooms) k (amount_at (of_side side lacks rooms) k +ℤ a)
side_put Demands lacks rooms k a = refl
side_put Slots lacks rooms k a = refl

-- a total can change by so much; once what is too much then is lowered, amounts stand with it
pub record IsTurning (side : Side) (totals others : List ℤ) (whos slots : List ℕ)
    (y lacks rooms : List ℤ) (c : Change) : Type 0 where
  pub can : CanChange (of_side side lacks rooms) c.k c.more
  pub charged : AreCharged whos slots y (lacks_put side lacks c.k c.more)
      (rooms_put side rooms c.k c.more)
  pub stands : (z lacks' rooms' : List ℤ) → AreLowered whos slots y
      (lacks_put side lacks c.k c.more) (rooms_put side rooms c.k c.more) z lacks' rooms'
      → pos 0 ≤ℤ amount_at (of_side side lacks' rooms') c.k
      → StandsBy side (with_change c totals) others whos slots z lacks' rooms'

pub turning : (side : Side) (totals others : List ℤ) (whos slots : List ℕ)
    (y lacks rooms : List ℤ) (c : Change)
    → CanTurn side totals others whos slots y lacks rooms c
    → IsTurning side totals others whos slots y lacks rooms c
turning side totals others whos slots y lacks rooms c h =
    let can = side_change totals others whos slots y lacks rooms c.k c.more side h.stands h.place
    h.total in
    let over = side_over totals others whos slots y lacks rooms c.k c.more side h.stands h.place
    h.total in
    let small = put_small totals others whos slots y lacks rooms c.k c.more side h.stands can in
    record {
      can = can;
      charged = record {
        demands = of_side side (set totals c.k (amount_at totals c.k +ℤ c.more)) others;
        capacities = of_side side others (set totals c.k (amount_at totals c.k +ℤ c.more));
        cells = over.cells;
        asked = over.asked;
        bounded = over.bounded;
        charge = over.charge;
        lacks_small = small.0;
        rooms_small = small.1;
      };
      stands = λ z lacks' rooms' r here.
          let low = put_low totals others whos slots y lacks rooms c.k c.more side h.stands z
          lacks' rooms' r here in
          over_stands _ _ whos slots y (lacks_put side lacks c.k c.more)
          (rooms_put side rooms c.k c.more) over z lacks' rooms' r low.0 low.1;
    }

-- ---- all totals of a side change, in order

module _ (side : Side) (totals before others : List ℤ) (whos slots : List ℕ)
    (y lacks rooms : List ℤ) (k : ℕ) (same : length before ≡ length totals)
    (h : StandsBy side (turned k totals before) others whos slots y lacks rooms) where
  abbrev now : List ℤ
  now = turned k totals before

  abbrev more : ℤ
  more = amount_at totals k -ℤ amount_at before k

  is_new : (amount_at now k +ℤ more) ≡ amount_at totals k
  is_new = let e = (are_turned k totals before same).next in omega (arith, ints, e)

  pub next_turned : set now k (amount_at now k +ℤ more) ≡ turned (k + 1) totals before
  next_turned = rw (is_new, add-one) (are_turned k totals before same).more

  -- a total that stays
  pub turned_same : amount_at totals k ≡ amount_at before k
      → StandsBy side (turned (k + 1) totals before) others whos slots y lacks rooms
  turned_same e =
      let stays : (amount_at now k +ℤ more) ≡ amount_at now k = omega (arith, ints, e) in
      rw (← next_turned, stays, set-get_or now k (pos 0)) h

  -- the next total can change
  pub turned_can : k < length totals → All (IsTotal side) totals
      → CanTurn side now others whos slots y lacks rooms (record { k = k; more = more })
  turned_can lt bounded =
      let p = (are_turned k totals before same).places in
      record {
        stands = h;
        place = omega (arith, lt, p);
        total = rw is_new (All-get_or (IsTotal side) totals k (pos 0) lt bounded);
      }
