-- Amounts in rows, one row for each list, and the same amounts on the cells in one list.
use Rattle.std.proofs.Common.{◌≡◌, ◌⊎◌, ℕ, zero, suc, ◌+◌, ◌-◌, ◌<◌, ◌≤◌, Bool, true, false, List, [], ◌∷◌, ◌++◌, length, take, drop, replicate, ℤ, pos, ◌+ℤ◌, ◌≤ℤ◌, refl, sym, ap, ◌∙◌, arith, inl, inr, ⊎_elim, length-set, get_or-set_other, get_or-set_same}
use Rattle.std.specs.List.{All}
use Rattle.std.proofs.lemmas.Int.{ints}
use Rattle.std.proofs.lemmas.Bool.{cases_eq, cases_lt, false≢true}
use Rattle.std.proofs.lemmas.List.{length-replicate, get_or-replicate, length-append, length-take, length-take-le, length-drop, take-append-drop, get_or_append_left, get_or-append-add, get_or-take, get_or-drop, get_or_past}
use Rattle.std.proofs.lemmas.List.Elements.{All-head, All-tail, All-get_or}
use Rattle.sfm_spec.specs.Sets.{Has, empty_set}
use Rattle.sfm_spec.specs.Bounds.{total_of}
use Rattle.sfm_spec.proofs.Sets.{in_union, union_left, union_right}
use Rattle.sfm_spec.proofs.Sums.{length-union}
use Rattle.sfm_cells.specs.Splits.{sum_at, load, amount_at, list_at, row_at, set_of, slots_of, IsAssignment}
use Rattle.sfm_cells.specs.Cells.{joined, owners, cut, label_at, AreCells, IsPart, IsMet}
use Rattle.sfm_cells.proofs.Amounts.{AreAmounts, only-same, only-other}

-- as many rows as lists, each as long as its list
pub record FitsLists (lists : List (List ℕ)) (rows : List (List ℤ)) : Type 0 where
  pub row_each : length rows ≡ length lists
  pub cells : (i : ℕ) → i < length lists → length (row_at rows i) ≡ length (list_at lists i)

fits-tail : (slots : List ℕ) (lists : List (List ℕ)) (row : List ℤ) (rows : List (List ℤ))
    → FitsLists (slots ∷ lists) (row ∷ rows) → FitsLists lists rows
fits-tail slots lists row rows f =
    record {
      row_each = (let h = f.row_each in omega arith);
      cells = λ i lt. f.cells (suc i) (omega arith);
    }

fits-head : (slots : List ℕ) (lists : List (List ℕ)) (row : List ℤ) (rows : List (List ℤ))
    → FitsLists (slots ∷ lists) (row ∷ rows) → length row ≡ length slots
fits-head slots lists row rows f = f.cells 0 (omega arith)

-- ---- sums over joined lists

sum_at-append : (k : ℕ) (js ks : List ℕ) (x y : List ℤ) → length x ≡ length js
    → sum_at k (js ++ ks) (x ++ y) ≡ (sum_at k js x +ℤ sum_at k ks y)
sum_at-append k [] ks [] y same = omega (arith, ints)
sum_at-append k [] ks (a ∷ x) y same = absurd (omega arith)
sum_at-append k (j ∷ js) ks [] y same = absurd (omega arith)
sum_at-append k (j ∷ js) ks (a ∷ x) y same =
    let r = sum_at-append k js ks x y (omega arith) in omega (arith, ints, r)

pub load-joined : (s : ℕ) (lists : List (List ℕ)) (rows : List (List ℤ)) → FitsLists lists rows
    → load lists rows s ≡ sum_at s (joined lists) (joined rows)
load-joined s [] rows f = refl
load-joined s (slots ∷ lists) [] f = absurd (let h = f.row_each in omega arith)
load-joined s (slots ∷ lists) (row ∷ rows) f =
    let r = load-joined s lists rows (fits-tail slots lists row rows f) in
    let a = sum_at-append s slots (joined lists) row (joined rows)
    (fits-head slots lists row rows f) in
    omega (arith, ints, r, a)

sum_at-all : (k n : ℕ) (x : List ℤ) → length x ≡ n → sum_at k (replicate n k) x ≡ total_of x
sum_at-all k zero [] h = refl
sum_at-all k zero (a ∷ x) h = absurd (omega arith)
sum_at-all k (suc n) [] h = absurd (omega arith)
sum_at-all k (suc n) (a ∷ x) h = let r = sum_at-all k n x (omega arith) in let o = only-same k k a
    refl in omega (arith, ints, r, o)

sum_at-none : (k j n : ℕ) (x : List ℤ) → (j ≡ k → ⊥) → length x ≡ n
    → sum_at k (replicate n j) x ≡ pos 0
sum_at-none k j zero x ne h = refl
sum_at-none k j (suc n) [] ne h = refl
sum_at-none k j (suc n) (a ∷ x) ne h =
    let r = sum_at-none k j n x ne (omega arith) in let o = only-other j k a
    ne in omega (arith, ints, r, o)

sum_at-before : (k b : ℕ) (lists : List (List ℕ)) (rows : List (List ℤ)) → FitsLists lists rows
    → k < b → sum_at k (owners b lists) (joined rows) ≡ pos 0
sum_at-before k b [] rows f lt = refl
sum_at-before k b (slots ∷ lists) [] f lt = absurd (let h = f.row_each in omega arith)
sum_at-before k b (slots ∷ lists) (row ∷ rows) f lt =
    let h = fits-head slots lists row rows f in
    let r = sum_at-before k (suc b) lists rows (fits-tail slots lists row rows f) (omega arith) in
    let a = sum_at-append k (replicate (length slots) b) (owners (suc b) lists) row (joined rows)
    (h ∙ sym (length-replicate (length slots) b)) in
    let o = sum_at-none k b (length slots) row (λ e. absurd (omega arith)) h in
    omega (arith, ints, r, a, o)

-- what a row holds is what its demand gets
pub got-joined : (b i : ℕ) (lists : List (List ℕ)) (rows : List (List ℤ)) → FitsLists lists rows
    → i < length lists → total_of (row_at rows i) ≡ sum_at (b + i) (owners b lists) (joined rows)
got-joined b i [] rows f lt = absurd (omega arith)
got-joined b i (slots ∷ lists) [] f lt = absurd (let h = f.row_each in omega arith)
got-joined b zero (slots ∷ lists) (row ∷ rows) f lt =
    let h = fits-head slots lists row rows f in
    let r = sum_at-before b (suc b) lists rows (fits-tail slots lists row rows f) (omega arith) in
    let a = sum_at-append b (replicate (length slots) b) (owners (suc b) lists) row (joined rows)
    (h ∙ sym (length-replicate (length slots) b)) in
    let o = sum_at-all b (length slots) row h in
    let z : b + 0 ≡ b = omega arith in
    let q = ap (λ k. sum_at k (replicate (length slots) b ++ owners (suc b) lists)
    (row ++ joined rows)) z in
    omega (arith, ints, r, a, o, q)
got-joined b (suc i) (slots ∷ lists) (row ∷ rows) f lt =
    let h = fits-head slots lists row rows f in
    let r = got-joined (suc b) i lists rows (fits-tail slots lists row rows f) (omega arith) in
    let a = sum_at-append (b + suc i) (replicate (length slots) b) (owners (suc b) lists) row
    (joined rows) (h ∙ sym (length-replicate (length slots) b)) in
    let o = sum_at-none (b + suc i) b (length slots) row (λ e. absurd (omega arith)) h in
    let z : suc b + i ≡ b + suc i = omega arith in
    let q = ap (λ k. sum_at k (owners (suc b) lists) (joined rows)) z in
    omega (arith, ints, r, a, o, q)

-- ---- lengths and entries

pub length-joined : (lists : List (List ℕ)) (rows : List (List ℤ)) → FitsLists lists rows
    → length (joined rows) ≡ length (joined lists)
length-joined [] [] f = refl
length-joined [] (row ∷ rows) f = absurd (let h = f.row_each in omega arith)
length-joined (slots ∷ lists) [] f = absurd (let h = f.row_each in omega arith)
length-joined (slots ∷ lists) (row ∷ rows) f =
    let r = length-joined lists rows (fits-tail slots lists row rows f) in
    let h = fits-head slots lists row rows f in
    let a = length-append row (joined rows) in
    let b = length-append slots (joined lists) in
    omega (arith, r, h, a, b)

pub length-owners : (b : ℕ) (lists : List (List ℕ))
    → length (owners b lists) ≡ length (joined lists)
length-owners b [] = refl
length-owners b (slots ∷ lists) =
    let r = length-owners (suc b) lists in
    let l = length-replicate (length slots) b in
    let x = length-append (replicate (length slots) b) (owners (suc b) lists) in
    let y = length-append slots (joined lists) in
    omega (arith, r, l, x, y)

pub joined-low : (rows : List (List ℤ)) → ((i j : ℕ) → pos 0 ≤ℤ amount_at (row_at rows i) j)
    → AreAmounts (joined rows)
joined-low [] low e = omega (arith, ints)
joined-low (row ∷ rows) low e = ⊎_elim
    (λ lt. let q = get_or_append_left row (joined rows) (pos 0) e lt in let h = low 0
    e in omega (arith, ints, q, h))
    (λ (le : length row ≤ e).
    let z : length row + (e - length row) ≡ e = omega arith in
    let q = get_or-append-add row (joined rows) (e - length row) (pos 0) in
    let p = ap (λ i. amount_at (row ++ joined rows) i) z in
    let r = joined-low rows (λ i. low (suc i)) (e - length row) in
    omega (arith, ints, q, p, r))
    (cases_lt e (length row))

-- ---- amounts cut into rows

pub cut-fits : (lists : List (List ℕ)) (y : List ℤ) → length y ≡ length (joined lists)
    → FitsLists lists (cut lists y)
cut-fits [] y same = record { row_each = refl; cells = λ i lt. absurd (omega arith) }
cut-fits (slots ∷ lists) y same =
    let a = length-append slots (joined lists) in
    let d = length-drop (length slots) y in
    let r = cut-fits lists (drop (length slots) y) (omega (arith, a, d, same)) in
    record {
      row_each = (let h = r.row_each in omega (arith, h));
      cells = cells r (length-take-le (length slots) y (omega (arith, a, same)));
    } where
      cells : FitsLists lists (cut lists (drop (length slots) y))
          → length (take (length slots) y) ≡ length slots
          → (i : ℕ) → i < length (slots ∷ lists)
          → length (row_at (cut (slots ∷ lists) y) i) ≡ length (list_at (slots ∷ lists) i)
      cells r h zero lt = h
      cells r h (suc i) lt = r.cells i (omega arith)

pub joined-cut : (lists : List (List ℕ)) (y : List ℤ) → length y ≡ length (joined lists)
    → joined (cut lists y) ≡ y
joined-cut [] [] same = refl
joined-cut [] (a ∷ y) same = absurd (omega arith)
joined-cut (slots ∷ lists) y same =
    let a = length-append slots (joined lists) in
    let d = length-drop (length slots) y in
    let r = joined-cut lists (drop (length slots) y) (omega (arith, a, d, same)) in
    ap (λ x. take (length slots) y ++ x) r ∙ take-append-drop (length slots) y

cut-low : (lists : List (List ℕ)) (y : List ℤ) → AreAmounts y → (i j : ℕ)
    → pos 0 ≤ℤ amount_at (row_at (cut lists y) i) j
cut-low [] y low i j = omega (arith, ints)
cut-low (slots ∷ lists) y low zero j = ⊎_elim
    (λ lt. let q = get_or-take (length slots) y j (pos 0) lt in let h = low
    j in omega (arith, ints, q, h))
    (λ (le : length slots ≤ j). let t = length-take (length slots) y in let q = get_or_past
    (take (length slots) y) j (pos 0) (omega (arith, t)) in omega (arith, ints, q))
    (cases_lt j (length slots))
cut-low (slots ∷ lists) y low (suc i) j =
    cut-low lists (drop (length slots) y)
    (λ e. let q = get_or-drop (length slots) y e (pos 0) in let h = low
    (length slots + e) in omega (arith, ints, q, h)) i j

-- ---- splits, as amounts on cells

pub part_of_split : (demands : List ℤ) (lists : List (List ℕ)) (capacities : List ℤ)
    (rows : List (List ℤ)) → length lists ≡ length demands
    → IsAssignment demands lists capacities rows
    → IsPart demands capacities (owners 0 lists) (joined lists) (joined rows)
    × IsMet demands (owners 0 lists) (joined rows)
part_of_split demands lists capacities rows same h = (
  record {
    cells = length-joined lists rows fits ∙ sym (length-owners 0 lists);
    amounts = joined-low rows h.amounts;
    got = λ i lt. let g = got i lt in omega (arith, ints, g);
    within = λ s lt. let l = load-joined s lists rows fits in let w = h.within s
        lt in omega (arith, ints, l, w);
  },
  (λ i lt. let g = got i lt in omega (arith, ints, g)),
) where
  fits : FitsLists lists rows
  fits = record { row_each = h.row_each; cells = h.cells }

  got : (i : ℕ) → i < length demands → sum_at i (owners 0 lists) (joined rows) ≡ amount_at demands i
  got i lt =
      let li : i < length lists = omega arith in
      let z : 0 + i ≡ i = omega arith in
      let q = ap (λ k. sum_at k (owners 0 lists) (joined rows)) z in
      sym q ∙ (sym (got-joined 0 i lists rows fits li) ∙ h.met i li)

pub split_of_part : (demands : List ℤ) (lists : List (List ℕ)) (capacities y : List ℤ)
    → length lists ≡ length demands
    → IsPart demands capacities (owners 0 lists) (joined lists) y → IsMet demands (owners 0 lists) y
    → IsAssignment demands lists capacities (cut lists y)
split_of_part demands lists capacities y same h met = record {
  row_each = fits.row_each;
  cells = fits.cells;
  amounts = cut-low lists y h.amounts;
  met = λ i lt.
      let li : i < length demands = omega arith in
      let z : 0 + i ≡ i = omega arith in
      let q = ap (λ k. sum_at k (owners 0 lists) (joined (cut lists y))) z in
      let p = ap (λ x. sum_at i (owners 0 lists) x) back in
      let g = got-joined 0 i lists (cut lists y) fits lt in
      let m = met i li in
      let t = h.got i li in
      omega (arith, ints, q, p, g, m, t);
  within = λ s lt.
      let l = load-joined s lists (cut lists y) fits in
      let p = ap (λ x. sum_at s (joined lists) x) back in
      let w = h.within s lt in
      omega (arith, ints, l, p, w);
} where
  len : length y ≡ length (joined lists)
  len = h.cells ∙ length-owners 0 lists

  fits : FitsLists lists (cut lists y)
  fits = cut-fits lists y len

  back : joined (cut lists y) ≡ y
  back = joined-cut lists y len

-- ---- the cells of lists

-- each slot is one of m
abbrev pub AreBelow : ℕ → List (List ℕ) → Type 0
AreBelow m lists = All (All (λ s. s < m)) lists

-- an entry of two joined lists
either : (xs ys : List ℕ) (e : ℕ) → ((e < length xs) × (label_at (xs ++ ys) e ≡ label_at xs e))
    ⊎ ((f : ℕ) × (e ≡ length xs + f) × (label_at (xs ++ ys) e ≡ label_at ys f))
either xs ys e = ⊎_elim
    (λ lt. inl (lt, get_or_append_left xs ys 0 e lt))
    (λ (le : length xs ≤ e). let z : length xs + (e - length xs) ≡ e = omega arith in inr (
      e - length xs,
      sym z,
      ap (λ i. label_at (xs ++ ys) i) (sym z)
          ∙ get_or-append-add xs ys (e - length xs) 0,
    ))
    (cases_lt e (length xs))

owner-low : (b : ℕ) (lists : List (List ℕ)) (e : ℕ) → e < length (owners b lists)
    → (b ≤ label_at (owners b lists) e) × (label_at (owners b lists) e < b + length lists)
owner-low b [] e lt = absurd (omega arith)
owner-low b (slots ∷ lists) e lt =
    let l = length-replicate (length slots) b in
    let x = length-append (replicate (length slots) b) (owners (suc b) lists) in
    ⊎_elim
    (λ (h, q). let r = get_or-replicate (length slots) e b 0
    (omega (arith, h, l)) in (omega (arith, q, r), omega (arith, q, r)))
    (λ (f, z, q). let r = owner-low (suc b) lists f
    (omega (arith, z, x, lt)) in (omega (arith, q, r.0), omega (arith, q, r.1)))
    (either (replicate (length slots) b) (owners (suc b) lists) e)

entry-below : (m : ℕ) (lists : List (List ℕ)) (e : ℕ) → AreBelow m lists → e < length (joined lists)
    → label_at (joined lists) e < m
entry-below m [] e below lt = absurd (omega arith)
entry-below m (slots ∷ lists) e below lt =
    let x = length-append slots (joined lists) in
    ⊎_elim
    (λ (h, q). let r = All-get_or (λ s. s < m) slots e 0 h
    (All-head (All (λ s. s < m)) slots lists below) in omega (arith, q, r))
    (λ (f, z, q). let r = entry-below m lists f (All-tail (All (λ s. s < m)) slots lists below)
    (omega (arith, z, x, lt)) in omega (arith, q, r))
    (either slots (joined lists) e)

pub cells_of : (m : ℕ) (lists : List (List ℕ)) → AreBelow m lists
    → AreCells (length lists) m (owners 0 lists) (joined lists)
cells_of m lists below = record {
  same = sym (length-owners 0 lists);
  owned = λ e lt. let r = (owner-low 0 lists e lt).1 in omega (arith, r);
  exist = λ e lt. let l = length-owners 0 lists in entry-below m lists e below
      (omega (arith, lt, l));
}

-- ---- the slots of a set of demands, told by cells

none_in_empty : (k p : ℕ) → Has (empty_set k) p → ⊥
none_in_empty zero p h = false≢true h
none_in_empty (suc k) zero h = false≢true h
none_in_empty (suc k) (suc p) h = none_in_empty k p h

pub length-set_of : (m : ℕ) (slots : List ℕ) → length (set_of m slots) ≡ m
length-set_of m [] = length-replicate m false
length-set_of m (s ∷ slots) = length-set (set_of m slots) s true ∙ length-set_of m slots

pub length-slots_of : (m : ℕ) (lists : List (List ℕ)) (set : List Bool)
    → length (slots_of m lists set) ≡ m
length-slots_of m [] set = length-replicate m false
length-slots_of m (slots ∷ lists) [] = length-replicate m false
length-slots_of m (slots ∷ lists) (true ∷ set) =
    let r = length-slots_of m lists set in
    let l = length-set_of m slots in
    length-union (set_of m slots) (slots_of m lists set) (l ∙ sym r) ∙ l
length-slots_of m (slots ∷ lists) (false ∷ set) = length-slots_of m lists set

-- a member of the set of a list is an entry of the list
of_set : (m : ℕ) (slots : List ℕ) (s : ℕ) → Has (set_of m slots) s → (j : ℕ) × (j < length slots)
    × (label_at slots j ≡ s)
of_set m [] s h = absurd (none_in_empty m s h)
of_set m (t ∷ slots) s h = ⊎_elim
    (λ (e : s ≡ t). (0, omega arith, sym e))
    (λ ne. let (j, lt, is) = of_set m slots s
    (sym (get_or-set_other (set_of m slots) t s true false ne) ∙ h) in (suc j, omega arith, is))
    (cases_eq s t)

in_set_of : (m : ℕ) (slots : List ℕ) (j : ℕ) → j < length slots → label_at slots j < m
    → Has (set_of m slots) (label_at slots j)
in_set_of m [] j lt below = absurd (omega arith)
in_set_of m (t ∷ slots) zero lt below =
    let len = length-set_of m slots in get_or-set_same (set_of m slots) t true false
    (omega (arith, len, below))
in_set_of m (t ∷ slots) (suc j) lt below = let r = in_set_of m slots j (omega arith) below in ⊎_elim
    (λ (e : label_at slots j ≡ t). let len = length-set_of m slots in let in_range : t < length
    (set_of m slots) = omega (arith, len, below, e) in rw e
    (get_or-set_same (set_of m slots) t true false in_range))
    (λ ne. get_or-set_other (set_of m slots) t (label_at slots j) true false ne ∙ r)
    (cases_eq (label_at slots j) t)

-- a slot of the set is the slot of a cell of one of its demands
pub of_slots : (m b : ℕ) (lists : List (List ℕ)) (set : List Bool) (s : ℕ)
    → Has (slots_of m lists set) s
    → (e i : ℕ) × (e < length (owners b lists)) × (label_at (owners b lists) e ≡ b + i) × Has set i
    × (label_at (joined lists) e ≡ s)
of_slots m b [] set s h = absurd (none_in_empty m s h)
of_slots m b (slots ∷ lists) [] s h = absurd (none_in_empty m s h)
of_slots m b (slots ∷ lists) (c ∷ set) s h = at c (of_slots m (suc b) lists set s) h where
  Found : Type 0
  Found = (e i : ℕ) × (e < length (owners (suc b) lists))
      × (label_at (owners (suc b) lists) e ≡ suc b + i) × Has set i
      × (label_at (joined lists) e ≡ s)

  later : (c : Bool) → Found → (e i : ℕ) × (e < length (owners b (slots ∷ lists)))
      × (label_at (owners b (slots ∷ lists)) e ≡ b + i) × Has (c ∷ set) i
      × (label_at (joined (slots ∷ lists)) e ≡ s)
  later c (e, i, lt, own, has, is) =
      let l = length-replicate (length slots) b in
      let x = length-append (replicate (length slots) b) (owners (suc b) lists) in
      let o = get_or-append-add (replicate (length slots) b) (owners (suc b) lists) e 0 in
      let q = ap (λ k. label_at (replicate (length slots) b ++ owners (suc b) lists) (k + e)) l in (
        length slots + e,
        suc i,
        omega (arith, lt, l, x),
        omega (arith, o, q, own),
        has,
        get_or-append-add slots (joined lists) e 0 ∙ is,
      )

  first : Has (set_of m slots) s → (e i : ℕ) × (e < length (owners b (slots ∷ lists)))
      × (label_at (owners b (slots ∷ lists)) e ≡ b + i) × Has (true ∷ set) i
      × (label_at (joined (slots ∷ lists)) e ≡ s)
  first h =
      let (j, lt, is) = of_set m slots s h in
      let l = length-replicate (length slots) b in
      let x = length-append (replicate (length slots) b) (owners (suc b) lists) in
      let r = get_or-replicate (length slots) j b 0 lt in
      let a = get_or_append_left (replicate (length slots) b) (owners (suc b) lists) 0 j
      (omega (arith, lt, l)) in (
        j,
        0,
        omega (arith, lt, l, x),
        omega (arith, r, a),
        refl,
        get_or_append_left slots (joined lists) 0 j lt ∙ is,
      )

  at : (c : Bool) → (Has (slots_of m lists set) s → Found)
      → Has (slots_of m (slots ∷ lists) (c ∷ set)) s
      → (e i : ℕ) × (e < length (owners b (slots ∷ lists)))
      × (label_at (owners b (slots ∷ lists)) e ≡ b + i) × Has (c ∷ set) i
      × (label_at (joined (slots ∷ lists)) e ≡ s)
  at true rest h = ⊎_elim first (λ k. later true (rest k))
      (in_union (set_of m slots) (slots_of m lists set) s
      (length-set_of m slots ∙ sym (length-slots_of m lists set)) h)
  at false rest h = later false (rest h)

-- the slot of a cell of a demand of the set
pub in_slots : (m b : ℕ) (lists : List (List ℕ)) (set : List Bool) (e i : ℕ)
    → e < length (owners b lists) → label_at (owners b lists) e ≡ b + i → Has set i
    → label_at (joined lists) e < m
    → Has (slots_of m lists set) (label_at (joined lists) e)
in_slots m b [] set e i lt own has below = absurd (omega arith)
in_slots m b (slots ∷ lists) [] e i lt own has below = absurd (false≢true has)
in_slots m b (slots ∷ lists) (c ∷ set) e i lt own has below =
    ⊎_elim first (later (in_slots m (suc b) lists set)) (either slots (joined lists) e) where
      Rest : Type 0
      Rest = (f i : ℕ) → f < length (owners (suc b) lists)
          → label_at (owners (suc b) lists) f ≡ suc b + i → Has set i
          → label_at (joined lists) f < m
          → Has (slots_of m lists set) (label_at (joined lists) f)

      same : length (set_of m slots) ≡ length (slots_of m lists set)
      same = length-set_of m slots ∙ sym (length-slots_of m lists set)

      Goal : Type 0
      Goal = Has (slots_of m (slots ∷ lists) (c ∷ set)) (label_at (slots ++ joined lists) e)

      here : (c : Bool) (s : ℕ) → c ≡ true → Has (set_of m slots) s
          → Has (slots_of m (slots ∷ lists) (c ∷ set)) s
      here true s t h = union_left (set_of m slots) (slots_of m lists set) s same h
      here false s t h = absurd (false≢true t)

      beyond : (c : Bool) (s : ℕ) → Has (slots_of m lists set) s
          → Has (slots_of m (slots ∷ lists) (c ∷ set)) s
      beyond true s h = union_right (set_of m slots) (slots_of m lists set) s same h
      beyond false s h = h

      zeroth : (i : ℕ) → Has (c ∷ set) i → i ≡ 0 → c ≡ true
      zeroth zero has z = has
      zeroth (suc i) has z = absurd (omega arith)

      nth : (i j : ℕ) → Has (c ∷ set) i → i ≡ suc j → Has set j
      nth zero j has z = absurd (omega arith)
      nth (suc i) j has z = let q : i ≡ j = omega arith in rw (← q) has

      first : (e < length slots) × (label_at (slots ++ joined lists) e ≡ label_at slots e) → Goal
      first (h, q) =
          let l = length-replicate (length slots) b in
          let r = get_or-replicate (length slots) e b 0 h in
          let a = get_or_append_left (replicate (length slots) b) (owners (suc b) lists) 0 e
          (omega (arith, h, l)) in
          rw q (here c (label_at slots e) (zeroth i has (omega (arith, own, r, a)))
          (in_set_of m slots e h (omega (arith, q, below))))

      after : Rest → (i f : ℕ) → label_at (slots ++ joined lists) e ≡ label_at (joined lists) f
          → f < length (owners (suc b) lists) → suc b ≤ label_at (owners (suc b) lists) f
          → label_at (owners (suc b) lists) f ≡ b + i → Has (c ∷ set) i → Goal
      after rest zero f q lf low own' has = absurd (omega (arith, low, own'))
      after rest (suc i) f q lf low own' has =
          rw q (beyond c (label_at (joined lists) f)
          (rest f i lf (omega (arith, own')) has (omega (arith, q, below))))

      later : Rest → (f : ℕ) × (e ≡ length slots + f)
          × (label_at (slots ++ joined lists) e ≡ label_at (joined lists) f) → Goal
      later rest (f, z, q) =
          let l = length-replicate (length slots) b in
          let x = length-append (replicate (length slots) b) (owners (suc b) lists) in
          let o = get_or-append-add (replicate (length slots) b) (owners (suc b) lists) f 0 in
          let p = ap (λ k. label_at (replicate (length slots) b ++ owners (suc b) lists) (k + f))
          l in
          let y = ap (λ k. label_at (replicate (length slots) b ++ owners (suc b) lists) k) z in
          let lf : f < length (owners (suc b) lists) = omega (arith, lt, z, l, x) in
          let low = (owner-low (suc b) lists f lf).0 in
          let own' : label_at (owners (suc b) lists) f ≡ b + i = omega (arith, o, p, y, own) in
          after rest i f q lf low own' has
