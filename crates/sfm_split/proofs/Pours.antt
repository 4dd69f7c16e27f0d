-- What one cell after another gets in a first filling: within what its demand lacks and what its
-- slot has left.
use Rattle.std.proofs.Common.{◌≡◌, ℕ, ◌<◌, ◌^◌, List, length, set, ℤ, pos, Option, ◌+ℤ◌, ◌-ℤ◌, ◌≤ℤ◌, sym, ap, ◌∙◌, arith, ⊎_elim, length-set, get_or-set_other, get_or-set_same}
use Rattle.std.specs.List.{All}
use Rattle.std.proofs.lemmas.Int.{ints}
use Rattle.std.proofs.lemmas.Bool.{cases_eq}
use Rattle.std.proofs.lemmas.List.Elements.{All-get_or}
use Rattle.sfm_cells.specs.Splits.{sum_at, amount_at, IsCapacity}
use Rattle.sfm_cells.specs.Cells.{label_at, AreCells, IsPart}
use Rattle.sfm_cells.specs.Left.{AreLeft}
use Rattle.sfm_cells.proofs.Amounts.{AreAmounts, sum_at-set, sum_at-holds, only-same, only-other}
use Rattle.sfm_cells.proofs.Leaving.{left_taken}
use Rattle.sfm_split.specs.Search.{IsRaised}
use Rattle.sfm_split.specs.declared.nodes.Node.{Node}
use Rattle.sfm_split.specs.Pours.{IsPouring}
use Rattle.sfm_split.proofs.Fills.{root_in, raised_more, raised_part}

-- an amount changed at a cell leaves none negative
pub amounts_set : (z : List ℤ) (e : ℕ) (b : ℤ) → AreAmounts z → e < length z → pos 0 ≤ℤ b
    → AreAmounts (set z e b)
amounts_set z e b low lt some f = ⊎_elim
    (λ (q : f ≡ e). let s = get_or-set_same z e b (pos 0)
    lt in let p = ap (λ i. amount_at (set z e b) i) q in omega (arith, ints, some, s, p))
    (λ ne. let o = get_or-set_other z e f b (pos 0) ne in let l = low
    f in omega (arith, ints, o, l))
    (cases_eq f e)

module _ (totals : List ℤ) (labels : List ℕ) (z left : List ℤ) (e : ℕ) (a : ℤ)
    (same : length z ≡ length labels) (lt : e < length labels)
    (below : label_at labels e < length totals) (h : AreLeft totals labels z left) where
  abbrev j : ℕ
  j = label_at labels e

  -- what is put on a cell is taken from what is left
  left_less : AreLeft totals labels (set z e (amount_at z e +ℤ a))
      (set left j (amount_at left j -ℤ a))
  left_less = left_taken totals labels z (set z e (amount_at z e +ℤ a)) left j a below h
      (λ k. sum_at-set k labels z e a same lt)

  -- and so no total is passed
  still_within : ((k : ℕ) → k < length totals → sum_at k labels z ≤ℤ amount_at totals k)
      → a ≤ℤ amount_at left j → (k : ℕ) → k < length totals
      → sum_at k labels (set z e (amount_at z e +ℤ a)) ≤ℤ amount_at totals k
  still_within within fits k lk =
      let s = sum_at-set k labels z e a same lt in
      let p = h.each k lk in
      let w = within k lk in
      ⊎_elim
      (λ (q : k ≡ j). let o = only-same j k a (sym q) in let x = ap (λ i. amount_at left i)
      q in omega (arith, ints, s, p, o, x, fits))
      (λ ne. let o = only-other j k a (λ q. ne (sym q)) in omega (arith, ints, s, o, w))
      (cases_eq k j)

pub pouring_begun : (demands capacities : List ℤ) (whos slots : List ℕ) (y lacks rooms : List ℤ)
    → IsPart demands capacities whos slots y → AreLeft demands whos y lacks
    → AreLeft capacities slots y rooms → IsPouring demands capacities whos slots y y lacks rooms
pouring_begun demands capacities whos slots y lacks rooms part ll lr =
    record { part = part; more = λ i. omega (arith, ints); lacks_are = ll; rooms_are = lr }

module _ (demands capacities : List ℤ) (whos slots : List ℕ) (y z lacks rooms : List ℤ) (e : ℕ)
    (a : ℤ) (cells : AreCells (length demands) (length capacities) whos slots)
    (inv : IsPouring demands capacities whos slots y z lacks rooms) (lt : e < length whos) where
  in_slots : e < length slots
  in_slots = let s = cells.same in let l = lt in omega (arith, l, s)

  same_slots : length z ≡ length slots
  same_slots = inv.part.cells ∙ sym cells.same

  module _ (low : pos 0 ≤ℤ a) (fits : a ≤ℤ amount_at rooms (label_at slots e)) where
    -- an amount on a cell is at most the capacity of its slot
    pub poured_small : All IsCapacity capacities → (amount_at z e +ℤ a) ≤ℤ pos (10 ^ 24)
    poured_small bounded =
        let s = label_at slots e in
        let ls = cells.exist e lt in
        let h = sum_at-holds slots z e inv.part.amounts same_slots in_slots in
        let r = inv.rooms_are.each s ls in
        let b = (All-get_or IsCapacity capacities s (pos 0) ls bounded).high in
        let f = fits in
        omega (arith, ints, h, r, b, f)

    pub poured_low : pos 0 ≤ℤ (amount_at z e +ℤ a)
    poured_low = let z0 = inv.part.amounts e in let l = low in omega (arith, ints, z0, l)

    pub poured : a ≤ℤ amount_at lacks (label_at whos e)
        → IsPouring demands capacities whos slots y (set z e (amount_at z e +ℤ a))
        (set lacks (label_at whos e) (amount_at lacks (label_at whos e) -ℤ a))
        (set rooms (label_at slots e) (amount_at rooms (label_at slots e) -ℤ a))
    poured lacking = record {
      part = record {
        cells = length-set z e (amount_at z e +ℤ a) ∙ inv.part.cells;
        amounts = amounts_set z e (amount_at z e +ℤ a) inv.part.amounts
            (let p = inv.part.cells in let l = lt in omega (arith, p, l)) poured_low;
        got = still_within demands whos z lacks e a inv.part.cells lt (cells.owned e lt)
            inv.lacks_are inv.part.got lacking;
        within = still_within capacities slots z rooms e a same_slots in_slots (cells.exist e lt)
            inv.rooms_are inv.part.within fits;
      };
      more = λ i.
          let m = inv.more i in
          let s = sum_at-set i whos z e a inv.part.cells lt in
          let l = low in
          ⊎_elim
          (λ (q : label_at whos e ≡ i). let o = only-same (label_at whos e) i a
          q in omega (arith, ints, m, s, o, l))
          (λ ne. let o = only-other (label_at whos e) i a ne in omega (arith, ints, m, s, o))
          (cases_eq (label_at whos e) i);
      lacks_are = left_less demands whos z lacks e a inv.part.cells lt (cells.owned e lt)
          inv.lacks_are;
      rooms_are = left_less capacities slots z rooms e a same_slots in_slots (cells.exist e lt)
          inv.rooms_are;
    }

-- an amount moves along links, and is taken off what its two ends have left
pub moved_pouring : (demands capacities : List ℤ) (whos slots : List ℕ)
    (before y lacks rooms : List ℤ) (nodes : List (Option Node)) (last : ℕ) (a : ℤ) (z : List ℤ)
    → AreCells (length demands) (length capacities) whos slots
    → IsPouring demands capacities whos slots before y lacks rooms → length nodes ≡ length lacks
    → last < length whos → pos 1 ≤ℤ a → a ≤ℤ amount_at rooms (label_at slots last)
    → (r : IsRaised whos slots nodes lacks last a y z)
    → IsPouring demands capacities whos slots before z
    (set lacks r.root (amount_at lacks r.root -ℤ a))
    (set rooms (label_at slots last) (amount_at rooms (label_at slots last) -ℤ a))
moved_pouring demands capacities whos slots before y lacks rooms nodes last a z cells inv places lt
    some fits r =
    record {
      part = raised_part demands capacities whos slots y lacks rooms nodes last a z cells inv.part
          inv.lacks_are inv.rooms_are places lt some fits r;
      more = λ i. let f = inv.more i in let g = raised_more demands capacities whos slots y lacks
          rooms nodes last a z cells inv.part inv.lacks_are inv.rooms_are places lt some fits r
          i in omega (arith, ints, f, g);
      lacks_are = left_taken demands whos y z lacks r.root a
          (root_in demands capacities whos slots y lacks rooms nodes last a z cells inv.part
          inv.lacks_are inv.rooms_are places lt some fits r) inv.lacks_are r.got;
      rooms_are = left_taken capacities slots y z rooms (label_at slots last) a
          (cells.exist last lt) inv.rooms_are r.loads;
    }
