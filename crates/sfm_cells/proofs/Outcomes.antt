-- The first amounts and the last ones: from nothing to a split, or to a set that asks for too much.
use Rattle.std.proofs.Common.{Option, Some, None, is_some, MatchOption, ◌≡◌, ℕ, zero, suc, ◌<◌, Bool, true, false, List, [], ◌∷◌, length, set, replicate, ℤ, pos, ◌+ℤ◌, ◌≤ℤ◌, ◌<ℤ◌, if◌then◌else◌, nat_eq, refl, sym, ap, subst, ◌∙◌, arith, ⊎_elim, length-set, get_or-set_other, get_or-set_same}
use Rattle.std.specs.List.{All}
use Rattle.std.proofs.lemmas.Int.{ints, by_lt_z}
use Rattle.std.proofs.lemmas.Bool.{cases_eq, false≢true}
use Rattle.std.proofs.lemmas.List.{length-replicate, set-set}
use Rattle.std.proofs.lemmas.List.Elements.{All-get_or, All-head, All-tail}
use Rattle.sfm_spec.specs.Sets.{empty_set, sum_over}
use Rattle.sfm_spec.specs.Bounds.{total_of}
use Rattle.sfm_spec.proofs.Sizes.{weight-empty}
use Rattle.sfm_cells.specs.Splits.{sum_at, amount_at, slots_of, IsAmount, IsCapacity, IsAssignment, CanBeMet, IsShort, IsMost, Demands, AreDemands}
use Rattle.sfm_cells.specs.Cells.{joined, owners, cut, AreCells, IsPart, IsMet, IsFilled, IsLacking}
use Rattle.sfm_cells.specs.Lenders.{IsMostUpto}
use Rattle.sfm_cells.proofs.Rows.{AreBelow, cells_of, split_of_part}
use Rattle.sfm_cells.proofs.Hall.{hall_easy, short_refuses, short_of_closed}

-- ---- nothing on each cell

pub sum_at-nothing : (k n : ℕ) (js : List ℕ) → sum_at k js (replicate n (pos 0)) ≡ pos 0
sum_at-nothing k n [] = refl
sum_at-nothing k zero (j ∷ js) = refl
sum_at-nothing k (suc n) (j ∷ js) = let r = sum_at-nothing k n js in at (nat_eq j k) r where
  at : (t : Bool) → sum_at k js (replicate n (pos 0)) ≡ pos 0
      → ((if t then pos 0 else pos 0) +ℤ sum_at k js (replicate n (pos 0))) ≡ pos 0
  at true r = omega (arith, ints, r)
  at false r = omega (arith, ints, r)

pub nothing-at : (n e : ℕ) → amount_at (replicate n (pos 0)) e ≡ pos 0
nothing-at zero e = refl
nothing-at (suc n) zero = refl
nothing-at (suc n) (suc e) = nothing-at n e

pub nothing_part : (demands capacities : List ℤ) (whos slots : List ℕ)
    → ((i : ℕ) → i < length demands → pos 0 ≤ℤ amount_at demands i)
    → ((s : ℕ) → s < length capacities → pos 0 ≤ℤ amount_at capacities s)
    → IsPart demands capacities whos slots (replicate (length whos) (pos 0))
nothing_part demands capacities whos slots low caps = record {
  cells = length-replicate (length whos) (pos 0);
  amounts = λ e. let z = nothing-at (length whos) e in omega (arith, ints, z);
  got = λ i lt. let z = sum_at-nothing i (length whos) whos in let h = low i
      lt in omega (arith, ints, z, h);
  within = λ s lt. let z = sum_at-nothing s (length whos) slots in let h = caps s
      lt in omega (arith, ints, z, h);
}

-- the cells of demands
pub cells_for : (d : Demands) → AreDemands d
    → AreCells (length d.demands) (length d.capacities) (owners 0 d.lists) (joined d.lists)
cells_for d sound = rw (← sound.same) (cells_of (length d.capacities) d.lists sound.exist)

-- other demands and capacities over the same lists
pub other_demands : (d : Demands) → AreDemands d → (demands capacities : List ℤ)
    → length demands ≡ length d.demands → length capacities ≡ length d.capacities
    → All IsAmount demands → All IsCapacity capacities
    → AreDemands (record { demands = demands; lists = d.lists; capacities = capacities })
other_demands d sound demands capacities sized slots amounts bounded = record {
  same = sound.same ∙ sym sized;
  few = rw sized sound.few;
  few_slots = rw slots sound.few_slots;
  amounts = amounts;
  bounded = bounded;
  exist = rw slots sound.exist;
}

-- ---- a split, or a set that asks for too much

pub split_from : (d : Demands) (y : List ℤ) → AreDemands d
    → IsPart d.demands d.capacities (owners 0 d.lists) (joined d.lists) y
    → IsMet d.demands (owners 0 d.lists) y
    → IsAssignment d.demands d.lists d.capacities (cut d.lists y)
split_from d y sound part met = split_of_part d.demands d.lists d.capacities y sound.same part met

pub short_from : (d : Demands) (y : List ℤ) (s : List Bool) (i : ℕ) → AreDemands d
    → IsPart d.demands d.capacities (owners 0 d.lists) (joined d.lists) y
    → IsFilled d.demands d.capacities (owners 0 d.lists) (joined d.lists) y s
    → i < length d.demands → sum_at i (owners 0 d.lists) y <ℤ amount_at d.demands i
    → IsShort d.demands d.lists d.capacities s × (CanBeMet d.demands d.lists d.capacities → ⊥)
short_from d y s i sound part filled lt less =
    let short = short_of_closed d.demands d.capacities d.lists y sound.same sound.exist part s
    filled.places filled.closed i (filled.lacking i lt less) less in
    (short, short_refuses d.demands d.lists d.capacities s sound.same sound.exist short)

pub lacking_end : (d : Demands) (y : List ℤ) (s : List Bool) → AreDemands d
    → IsPart d.demands d.capacities (owners 0 d.lists) (joined d.lists) y
    → IsLacking d.demands d.capacities (owners 0 d.lists) (joined d.lists) y s
    → IsShort d.demands d.lists d.capacities s × (CanBeMet d.demands d.lists d.capacities → ⊥)
lacking_end d y s sound part h = short_from d y s h.one sound part h.filled h.in_range h.less

-- ---- the most of one demand

-- the sum over a set is at most the total
within_total : (z : List Bool) (c : List ℤ) → All IsCapacity c → sum_over z c ≤ℤ total_of c
within_total [] c h = total_low c h where
  total_low : (c : List ℤ) → All IsCapacity c → pos 0 ≤ℤ total_of c
  total_low [] h = omega (arith, ints)
  total_low (a ∷ c) h = let r = total_low c
      (All-tail IsCapacity a c h) in let f = (All-head IsCapacity a c h).low in omega (
        arith,
        ints,
        r,
        f,
      )
within_total (b ∷ z) [] h = omega (arith, ints)
within_total (true ∷ z) (a ∷ c) h =
    let r = within_total z c (All-tail IsCapacity a c h) in omega (arith, ints, r)
within_total (false ∷ z) (a ∷ c) h =
    let r = within_total z c (All-tail IsCapacity a c h) in let f = (All-head IsCapacity a c
    h).low in omega (arith, ints, r, f)

pub total_low : (c : List ℤ) → All IsCapacity c → pos 0 ≤ℤ total_of c
total_low c h = let r = within_total [] c h in omega (arith, ints, r)

sum_over-one : (n u : ℕ) (x : List ℤ) → length x ≡ n → u < n
    → sum_over (set (empty_set n) u true) x ≡ amount_at x u
sum_over-one zero u x same lt = absurd (omega arith)
sum_over-one (suc n) u [] same lt = absurd (omega arith)
sum_over-one (suc n) zero (a ∷ x) same lt = let w = weight-empty n x in omega (arith, ints, w)
sum_over-one (suc n) (suc u) (a ∷ x) same lt =
    let r = sum_over-one n u x (omega arith) (omega arith) in omega (arith, ints, r)

-- no demand that can be met is more than all capacities together
capacity_bounds : (demands : List ℤ) (lists : List (List ℕ)) (capacities : List ℤ) (u : ℕ)
    → length lists ≡ length demands → AreBelow (length capacities) lists → All IsCapacity capacities
    → u < length demands
    → CanBeMet demands lists capacities → amount_at demands u ≤ℤ total_of capacities
capacity_bounds demands lists capacities u same below bounded lt can =
    let n = length demands in
    let s = set (empty_set n) u true in
    let h = hall_easy demands lists capacities s same below
    (length-set (empty_set n) u true ∙ length-replicate n false) can in
    let o = sum_over-one n u demands refl lt in
    let w = within_total (slots_of (length capacities) lists s) capacities bounded in
    omega (arith, ints, h, o, w)

-- of demands with another one at u: all but that one are the same
module _ (demands : List ℤ) (u : ℕ) (lu : u < length demands) where
  pub changed-at : (b : ℤ) → amount_at (set demands u b) u ≡ b
  changed-at b = get_or-set_same demands u b (pos 0) lu

  pub changed-other : (b : ℤ) (i : ℕ) → (i ≡ u → ⊥)
      → amount_at (set demands u b) i ≡ amount_at demands i
  changed-other b i ne = get_or-set_other demands u i b (pos 0) ne

module _ (d : Demands) (sound : AreDemands d) (u : ℕ) (lu : u < length d.demands) where
  -- the amounts that the others need are still amounts when the demand asks for more
  pub asked_part : (b c : ℤ) (y : List ℤ) → b ≤ℤ c
      → IsPart (set d.demands u b) d.capacities (owners 0 d.lists) (joined d.lists) y
      → IsPart (set d.demands u c) d.capacities (owners 0 d.lists) (joined d.lists) y
  asked_part b c y le part = record {
    cells = part.cells;
    amounts = part.amounts;
    got = λ i lt.
        let lb = length-set d.demands u b in
        let lc = length-set d.demands u c in
        let p = part.got i (omega (arith, lt, lb, lc)) in
        ⊎_elim
        (λ (q : i ≡ u). let e = ap (λ k. amount_at (set d.demands u b) k)
        q in let f = ap (λ k. amount_at (set d.demands u c) k) q in let eb = changed-at
        d.demands u lu b in let ec = changed-at d.demands u lu
        c in omega (arith, ints, p, e, f, eb, ec, le))
        (λ ne. let eb = changed-other d.demands u lu b i ne in let ec = changed-other d.demands u lu
        c i ne in omega (arith, ints, p, eb, ec))
        (cases_eq i u);
    within = part.within;
  }

  -- the most besides nothing is the most
  pub most_from : (c g : ℤ) → c ≡ total_of d.capacities
      → IsMostUpto (record {
        demands = set d.demands u (pos 0);
        lists = d.lists;
        capacities = d.capacities;
      }) u c g → IsMost d.demands d.lists d.capacities u g
  most_from c g ec h = record {
    reached = (let Meets : List ℤ → Type 0 = λ x. CanBeMet x d.lists d.capacities in subst Meets
        (with_nothing g) h.reached);
    greatest = λ b can. by_lt_z b (pos 0)
        (λ less. let l = h.low in omega (arith, ints, l, less))
        (λ ge.
        let lb = length-set d.demands u b in
        let bound = capacity_bounds (set d.demands u b) d.lists d.capacities u (sound.same ∙ sym lb)
        sound.exist sound.bounded (omega (arith, lu, lb)) can in
        let eb = changed-at d.demands u lu b in
        let Meets : List ℤ → Type 0 = λ x. CanBeMet x d.lists d.capacities in
        h.greatest b (omega (arith, ints, ge)) (omega (arith, ints, bound, eb, ec))
        (subst Meets (sym (with_nothing b)) can));
  } where
    with_nothing : (b : ℤ) → set (set d.demands u (pos 0)) u
        (amount_at (set d.demands u (pos 0)) u +ℤ b) ≡ set d.demands u b
    with_nothing b =
        let z = changed-at d.demands u lu (pos 0) in
        let e : (amount_at (set d.demands u (pos 0)) u +ℤ b) ≡ b = omega (arith, ints, z) in
        set-set d.demands u (pos 0) (amount_at (set d.demands u (pos 0)) u +ℤ b)
        ∙ ap (λ x. set d.demands u x) e

-- ---- what a test of an option tells

pub some_here : {A : Type 0} (o : Option A) (P : Type 0) (Q : A → Type 0) → is_some o ≡ true
    → MatchOption o P Q → (x : A) × Q x
some_here None P Q t h = absurd (false≢true t)
some_here (Some x) P Q t h = (x, h)

pub none_here : {A : Type 0} (o : Option A) (P : Type 0) (Q : A → Type 0) → is_some o ≡ false
    → MatchOption o P Q → P
none_here None P Q t h = h
none_here (Some x) P Q t h = absurd (false≢true (sym t))

pub amounts_low : (d : Demands) → AreDemands d → (i : ℕ) → i < length d.demands
    → pos 0 ≤ℤ amount_at d.demands i
amounts_low d sound i lt = (All-get_or IsAmount d.demands i (pos 0) lt sound.amounts).low

pub capacities_low : (d : Demands) → AreDemands d → (s : ℕ) → s < length d.capacities
    → pos 0 ≤ℤ amount_at d.capacities s
capacities_low d sound s lt = (All-get_or IsCapacity d.capacities s (pos 0) lt sound.bounded).low
