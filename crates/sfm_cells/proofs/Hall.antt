-- No set of demands gets more than its slots have; a closed set gets exactly that.
use Rattle.std.proofs.Common.{◌≡◌, ℕ, zero, suc, ◌<◌, Bool, List, [], ◌∷◌, length, set, ℤ, pos, ◌≤ℤ◌, ◌<ℤ◌, sym, ap, ◌∙◌, arith, ⊎_elim, get_or-set_other, get_or-set_same, length-set}
use Rattle.std.proofs.lemmas.Int.{ints, by_lt_z}
use Rattle.std.proofs.lemmas.Bool.{cases_eq, false≢true}
use Rattle.sfm_spec.specs.Sets.{Has, sum_over}
use Rattle.sfm_cells.specs.Splits.{sum_at, amount_at, slots_of, CanBeMet, IsShort}
use Rattle.sfm_cells.specs.Cells.{joined, owners, label_at, sum_in, AreCells, IsPart, IsClosed}
use Rattle.sfm_cells.proofs.Amounts.{tally, length-tally, tally-at, sum_over-tally, sum_in-le, sum_in-same, sum_over-le, sum_over-lt}
use Rattle.sfm_cells.proofs.Rows.{AreBelow, cells_of, length-slots_of, of_slots, in_slots, part_of_split}

-- z has exactly the slots of the cells of a set of demands
pub record HasSlots (whos slots : List ℕ) (s z : List Bool) : Type 0 where
  pub holds : (e : ℕ) → e < length whos → Has s (label_at whos e) → Has z (label_at slots e)
  pub within : (k : ℕ) → Has z k → (e : ℕ) × (e < length whos) × Has s (label_at whos e)
      × (label_at slots e ≡ k)

pub slots_of_cells : (m : ℕ) (lists : List (List ℕ)) (s : List Bool) → AreBelow m lists
    → HasSlots (owners 0 lists) (joined lists) s (slots_of m lists s)
slots_of_cells m lists s below = record {
  holds = λ e lt has. in_slots m 0 lists s e (label_at (owners 0 lists) e) lt (omega arith) has
      ((cells_of m lists below).exist e lt);
  within = λ k has. let (e, i, lt, own, h, is) = of_slots m 0 lists s k has in let q : label_at
      (owners 0 lists) e ≡ i = omega (arith, own) in (e, lt, rw q h, is);
}

module _ (demands capacities : List ℤ) (whos slots : List ℕ) (y : List ℤ)
    (cells : AreCells (length demands) (length capacities) whos slots)
    (part : IsPart demands capacities whos slots y) (s z : List Bool)
    (ls : length s ≡ length demands) (lz : length z ≡ length capacities) where
  -- what the demands of a set get
  by_cells : sum_over s (tally (length demands) whos y) ≡ sum_in s whos y
  by_cells = sum_over-tally (length demands) s whos y ls cells.owned

  by_slots : sum_over z (tally (length capacities) slots y) ≡ sum_in z slots y
  by_slots = sum_over-tally (length capacities) z slots y lz
      (λ e lt. let h = cells.same in cells.exist e (omega (arith, lt, h)))

  -- is at most what their slots have
  pub at_most : HasSlots whos slots s z → sum_over s (tally (length demands) whos y) ≤ℤ sum_over z
      capacities
  at_most h =
      let a = by_cells in
      let b = by_slots in
      let len = length-tally (length capacities) slots y in
      let c = sum_in-le s z whos slots y cells.same part.amounts h.holds in
      let d = sum_over-le z (tally (length capacities) slots y) capacities (lz ∙ sym len) (sym len)
      (λ k has.
      let (e, lt, own, is) = h.within k has in
      let x = cells.exist e lt in
      let t = tally-at (length capacities) k slots y (omega (arith, x, is)) in
      let w = part.within k (omega (arith, x, is)) in
      omega (arith, ints, t, w)) in
      omega (arith, ints, a, b, c, d)

  -- and all of it, if the set is closed
  pub at_least : HasSlots whos slots s z → IsClosed capacities whos slots y s
      → sum_over z capacities ≤ℤ sum_over s (tally (length demands) whos y)
  at_least h closed =
      let a = by_cells in
      let b = by_slots in
      let len = length-tally (length capacities) slots y in
      let c = sum_in-same s z whos slots y cells.same h.holds
      (λ f lf has out. let (e, le, own, is) = h.within (label_at slots f) has in closed.none e f
      le lf own (sym is) out) in
      let d = sum_over-le z capacities (tally (length capacities) slots y) lz len (λ k has.
      let (e, lt, own, is) = h.within k has in
      let x = cells.exist e lt in
      let t = tally-at (length capacities) k slots y (omega (arith, x, is)) in
      let w = closed.full e lt own in
      let p = ap (λ i. amount_at capacities i) is in
      let q = ap (λ i. sum_at i slots y) is in
      omega (arith, ints, t, w, p, q)) in
      omega (arith, ints, a, b, c, d)

has_place : (s : List Bool) (e : ℕ) → Has s e → e < length s
has_place [] e h = absurd (false≢true h)
has_place (a ∷ s) zero h = omega arith
has_place (a ∷ s) (suc e) h = let r = has_place s e h in omega (arith, r)

-- demands that can be met: no set of them asks for more than its slots have
pub hall_easy : (demands : List ℤ) (lists : List (List ℕ)) (capacities : List ℤ) (s : List Bool)
    → length lists ≡ length demands → AreBelow (length capacities) lists → length s ≡ length demands
    → CanBeMet demands lists capacities
    → sum_over s demands ≤ℤ sum_over (slots_of (length capacities) lists s) capacities
hall_easy demands lists capacities s same below ls (rows, split) =
    let (part, met) = part_of_split demands lists capacities rows same split in
    let cells : AreCells (length demands) (length capacities) (owners 0 lists)
    (joined lists) = rw (← same) (cells_of (length capacities) lists below) in
    let z = slots_of (length capacities) lists s in
    let y = joined rows in
    let len = length-tally (length demands) (owners 0 lists) y in
    let a = at_most demands capacities (owners 0 lists) (joined lists) y cells part s z ls
    (length-slots_of (length capacities) lists s)
    (slots_of_cells (length capacities) lists s below) in
    let b = sum_over-le s demands (tally (length demands) (owners 0 lists) y) ls len (λ i has.
    let lt = has_place s i has in
    let t = tally-at (length demands) i (owners 0 lists) y (omega (arith, lt, ls)) in
    let m = met i (omega (arith, lt, ls)) in
    omega (arith, ints, t, m)) in
    omega (arith, ints, a, b)

-- demands of which a set asks for more than its slots have cannot be met
pub short_refuses : (demands : List ℤ) (lists : List (List ℕ)) (capacities : List ℤ) (s : List Bool)
    → length lists ≡ length demands → AreBelow (length capacities) lists
    → IsShort demands lists capacities s → CanBeMet demands lists capacities → ⊥
short_refuses demands lists capacities s same below short met =
    let h = hall_easy demands lists capacities s same below short.places
    met in let m = short.more in absurd (omega (arith, ints, h, m))

module _ (demands capacities : List ℤ) (lists : List (List ℕ)) (y : List ℤ)
    (same : length lists ≡ length demands) (below : AreBelow (length capacities) lists)
    (part : IsPart demands capacities (owners 0 lists) (joined lists) y) (s : List Bool)
    (ls : length s ≡ length demands)
    (closed : IsClosed capacities (owners 0 lists) (joined lists) y s) where
  cells : AreCells (length demands) (length capacities) (owners 0 lists) (joined lists)
  cells = rw (← same) (cells_of (length capacities) lists below)

  got : List ℤ
  got = tally (length demands) (owners 0 lists) y

  z : List Bool
  z = slots_of (length capacities) lists s

  tight : sum_over z capacities ≤ℤ sum_over s got
  unfolding got z
  tight = at_least demands capacities (owners 0 lists) (joined lists) y cells part s z ls
      (length-slots_of (length capacities) lists s)
      (slots_of_cells (length capacities) lists s below) closed

  got-at : (i : ℕ) → i < length demands → amount_at got i ≡ sum_at i (owners 0 lists) y
  unfolding got
  got-at i lt = tally-at (length demands) i (owners 0 lists) y lt

  length-got : length got ≡ length demands
  unfolding got
  length-got = length-tally (length demands) (owners 0 lists) y

  -- a closed set with a demand that lacks something asks for more than its slots have
  pub short_of_closed : (i : ℕ) → Has s i → sum_at i (owners 0 lists) y <ℤ amount_at demands i
      → IsShort demands lists capacities s
  unfolding z
  short_of_closed i has less = record {
    places = ls;
    more =
        (let t = tight in
        let li = has_place s i has in
        let g = got-at i (omega (arith, li, ls)) in
        let m = sum_over-lt s got demands i (ls ∙ sym length-got) (sym length-got) (λ j hj.
        let lj = has_place s j hj in
        let g = got-at j (omega (arith, lj, ls)) in
        let p = part.got j (omega (arith, lj, ls)) in
        omega (arith, ints, g, p)) has (omega (arith, ints, g, less)) in
        omega (arith, ints, t, m));
  }

  -- a demand in a closed set cannot get more while the others are met
  pub most_of_closed : (u : ℕ) → Has s u → (b : ℤ) → CanBeMet (set demands u b) lists capacities
      → b ≤ℤ sum_at u (owners 0 lists) y
  unfolding z
  most_of_closed u has b can = by_lt_z (sum_at u (owners 0 lists) y) b (λ more. absurd (over more))
      (λ le. le) where
        lu : u < length demands
        lu = let h = has_place s u has in omega (arith, h, ls)

        len : length (set demands u b) ≡ length demands
        len = length-set demands u b

        asks : amount_at (set demands u b) u ≡ b
        asks = get_or-set_same demands u b (pos 0) lu

        over : sum_at u (owners 0 lists) y <ℤ b → ⊥
        over more =
            let t = tight in
            let h = hall_easy (set demands u b) lists capacities s (same ∙ sym len) below
            (ls ∙ sym len)
            can in
            let g = got-at u lu in
            let m = sum_over-lt s got (set demands u b) u (ls ∙ sym length-got)
            (len ∙ sym length-got)
            (λ j hj.
            let lj = has_place s j hj in
            let lj' : j < length demands = omega (arith, lj, ls) in
            let gj = got-at j lj' in
            ⊎_elim
            (λ (e : j ≡ u). let q = ap (λ i. amount_at got i)
            e in let r = ap (λ i. amount_at (set demands u b) i)
            e in omega (arith, ints, q, r, g, asks, more))
            (λ ne. let o = get_or-set_other demands u j b (pos 0) ne in let p = part.got j
            lj' in omega (arith, ints, o, p, gj))
            (cases_eq j u)) has (omega (arith, ints, g, asks, more)) in
            absurd (omega (arith, ints, t, h, m))

  -- demands that can be met ask for no more within a closed set than those that get what they have
  pub closed_bounds : (x : List ℤ) → length x ≡ length demands → CanBeMet x lists capacities
      → sum_over s x ≤ℤ sum_over s demands
  unfolding z
  closed_bounds x lx can =
      let t = tight in
      let h = hall_easy x lists capacities s (same ∙ sym lx) below (ls ∙ sym lx) can in
      let m = sum_over-le s got demands (ls ∙ sym length-got) (sym length-got) (λ j hj.
      let lj = has_place s j hj in
      let g = got-at j (omega (arith, lj, ls)) in
      let p = part.got j (omega (arith, lj, ls)) in
      omega (arith, ints, g, p)) in
      omega (arith, ints, t, h, m)
