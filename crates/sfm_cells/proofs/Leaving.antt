-- Amounts taken off the totals one after the other, and the demands that then lack something, in a
-- list.
use Rattle.std.proofs.Common.{◌≡◌, ℕ, ◌+◌, ◌<◌, ◌≤◌, List, [], ◌∷◌, ◌++◌, length, set, drop, ℤ, pos, ◌+ℤ◌, ◌-ℤ◌, ◌≤ℤ◌, ◌<ℤ◌, refl, sym, ap, ◌∙◌, arith, ⊎_elim, length-set, get_or-set_other, get_or-set_same}
use Rattle.std.proofs.lemmas.Int.{ints}
use Rattle.std.proofs.lemmas.Bool.{cases_eq, cases_lt}
use Rattle.std.proofs.lemmas.List.{get_or-drop, drop_all, length_push, get_or_push, get_or_append_left}
use Rattle.sfm_cells.specs.Splits.{sum_at, amount_at}
use Rattle.sfm_cells.specs.Cells.{label_at, only}
use Rattle.sfm_cells.specs.Left.{AreLeft, ListsBelow, ListsLacking}
use Rattle.sfm_cells.proofs.Amounts.{AreAmounts, sum_at-drop, sum_at-low, only-same, only-other}

-- what the first e amounts leave
pub record LeavesTo (totals : List ℤ) (labels : List ℕ) (y left : List ℤ) (e : ℕ) : Type 0 where
  pub places : length left ≡ length totals
  pub each : (k : ℕ) → k < length totals
      → (amount_at left k +ℤ sum_at k labels y)
      ≡ (amount_at totals k +ℤ sum_at k (drop e labels) (drop e y))

rest_low : (k e : ℕ) (labels : List ℕ) (y : List ℤ) → AreAmounts y
    → pos 0 ≤ℤ sum_at k (drop e labels) (drop e y)
rest_low k e labels y low = sum_at-low k (drop e labels) (drop e y)
    (λ i. let q = get_or-drop e y i (pos 0) in let h = low (e + i) in omega (arith, ints, q, h))

-- the next amount is at most what is left
pub next_fits : (totals : List ℤ) (labels : List ℕ) (y left : List ℤ) (e : ℕ)
    → length y ≡ length labels → AreAmounts y → e < length labels
    → label_at labels e < length totals
    → sum_at (label_at labels e) labels y ≤ℤ amount_at totals (label_at labels e)
    → LeavesTo totals labels y left e → amount_at y e ≤ℤ amount_at left (label_at labels e)
next_fits totals labels y left e same low lt below within inv =
    let k = label_at labels e in
    let h = inv.each k below in
    let s = sum_at-drop k labels y e same lt in
    let o = only-same k k (amount_at y e) refl in
    let r = rest_low k (e + 1) labels y low in
    omega (arith, ints, h, s, o, r, within)

pub left_more : (totals : List ℤ) (labels : List ℕ) (y left : List ℤ) (e : ℕ) (x : ℤ)
    → x ≡ amount_at left (label_at labels e) → length y ≡ length labels → e < length labels
    → label_at labels e < length totals
    → LeavesTo totals labels y left e
    → LeavesTo totals labels y (set left (label_at labels e) (x -ℤ amount_at y e)) (e + 1)
left_more totals labels y left e x v same lt below inv = record {
  places = length-set left (label_at labels e) (x -ℤ amount_at y e) ∙ inv.places;
  each = λ k lk.
      let j = label_at labels e in
      let h = inv.each k lk in
      let s = sum_at-drop k labels y e same lt in
      let len = inv.places in
      ⊎_elim
      (λ (e' : k ≡ j).
      let in_range : j < length left = omega (arith, len, below) in
      let q = ap (λ i. amount_at (set left j (x -ℤ amount_at y e)) i) e' in
      let p = ap (λ i. amount_at left i) e' in
      let g = get_or-set_same left j (x -ℤ amount_at y e) (pos 0) in_range in
      let o = only-same j k (amount_at y e) (sym e') in
      omega (arith, ints, h, s, q, p, g, o, v))
      (λ ne.
      let g = get_or-set_other left j k (x -ℤ amount_at y e) (pos 0) ne in
      let o = only-other j k (amount_at y e) (λ e'. ne (sym e')) in
      omega (arith, ints, h, s, g, o))
      (cases_eq k j);
}

pub left_none : (totals : List ℤ) (labels : List ℕ) (y : List ℤ) → LeavesTo totals labels y totals 0
left_none totals labels y = record { places = refl; each = λ k lt. refl }

pub left_all : (totals : List ℤ) (labels : List ℕ) (y left : List ℤ) (e : ℕ) → length labels ≤ e
    → LeavesTo totals labels y left e → AreLeft totals labels y left
left_all totals labels y left e past inv = record {
  places = inv.places;
  each = λ k lk.
      let h = inv.each k lk in
      let d = drop_all e labels past in
      let q = ap (λ ls. sum_at k ls (drop e y)) d in
      omega (arith, ints, h, q);
}

-- what one number gets is taken from what it has left
pub left_taken : (totals : List ℤ) (labels : List ℕ) (y z left : List ℤ) (j : ℕ) (a : ℤ)
    → j < length totals → AreLeft totals labels y left
    → ((k : ℕ) → sum_at k labels z ≡ (sum_at k labels y +ℤ only j k a))
    → AreLeft totals labels z (set left j (amount_at left j -ℤ a))
left_taken totals labels y z left j a below h got = record {
  places = length-set left j (amount_at left j -ℤ a) ∙ h.places;
  each = λ k lk.
      let s = got k in
      let p = h.each k lk in
      let len = h.places in
      ⊎_elim
      (λ (q : k ≡ j).
      let o = only-same j k a (sym q) in
      let g = get_or-set_same left j (amount_at left j -ℤ a) (pos 0) (omega (arith, below, len)) in
      let x = ap (λ i. amount_at (set left j (amount_at left j -ℤ a)) i) q in
      let w = ap (λ i. amount_at left i) q in
      omega (arith, ints, s, p, o, g, x, w))
      (λ ne.
      let o = only-other j k a (λ q. ne (sym q)) in
      let g = get_or-set_other left j k (amount_at left j -ℤ a) (pos 0) ne in
      omega (arith, ints, s, p, o, g))
      (cases_eq k j);
}

-- ---- the demands that lack something

pub listed_none : (lacks : List ℤ) → ListsBelow 0 lacks []
listed_none lacks = record {
  below = λ k lt. absurd (omega (arith, lt));
  all = λ i lt some. absurd (omega (arith, lt));
}

pub listed_skip : (i : ℕ) (lacks : List ℤ) (list : List ℕ) → amount_at lacks i ≤ℤ pos 0
    → ListsBelow i lacks list → ListsBelow (i + 1) lacks list
listed_skip i lacks list none h = record {
  below = λ k lt. let b = h.below k lt in omega (arith, b);
  all = λ j lt some. ⊎_elim
      (λ (l : j < i). h.all j l some)
      (λ ge. let q : j ≡ i = omega (arith, ge, lt) in let v = ap (λ m. amount_at lacks m)
      q in absurd (omega (arith, ints, v, none, some)))
      (cases_lt j i);
}

-- a number at the end of a list
module _ (list : List ℕ) (i : ℕ) where
  long : length (list ++ i ∷ []) ≡ length list + 1
  long = length_push list i

  old : (k : ℕ) → k < length list → label_at (list ++ i ∷ []) k ≡ label_at list k
  old k lt = get_or_append_left list (i ∷ []) 0 k lt

  last : (k : ℕ) → length list ≤ k → k < length (list ++ i ∷ []) → label_at (list ++ i ∷ []) k ≡ i
  last k ge lt = let l = long in get_or_push list i 0 k (omega (arith, ge, lt, l))

  -- what stands in a longer list below n
  below_more : (n : ℕ) → i < n → ((k : ℕ) → k < length list → label_at list k < n) → (k : ℕ)
      → k < length (list ++ i ∷ []) → label_at (list ++ i ∷ []) k < n
  below_more n li h k lt = ⊎_elim
      (λ (l : k < length list). let a = old k l in let r = h k l in omega (arith, a, r))
      (λ ge. let q = last k ge lt in omega (arith, q, li))
      (cases_lt k (length list))

  abbrev StandsIn : List ℕ → ℕ → Type 0
  StandsIn l j = (k : ℕ) × (k < length l) × (label_at l k ≡ j)

  stands_more : (j : ℕ) → StandsIn list j → StandsIn (list ++ i ∷ []) j
  stands_more j h = let l = long in let (k, lk, q) = h in (k, omega (arith, lk, l), old k lk ∙ q)

  stands_last : (j : ℕ) → j ≡ i → StandsIn (list ++ i ∷ []) j
  stands_last j q = let l = long in (
    length list,
    omega (arith, l),
    last (length list) (omega arith) (omega (arith, l)) ∙ sym q,
  )

pub listed_more : (i : ℕ) (lacks : List ℤ) (list : List ℕ) → ListsBelow i lacks list
    → ListsBelow (i + 1) lacks (list ++ i ∷ [])
listed_more i lacks list h = record {
  below = below_more list i (i + 1) (omega arith)
      (λ k lt. let b = h.below k lt in omega (arith, b));
  all = λ j lt some. ⊎_elim
      (λ (l : j < i). stands_more list i j (h.all j l some))
      (λ ge. stands_last list i j (omega (arith, ge, lt)))
      (cases_lt j i);
}

-- where no demand lacks more than before
pub listed_on : (lacks after : List ℤ) (list : List ℕ) → length after ≡ length lacks
    → ((i : ℕ) → i < length lacks → amount_at after i ≤ℤ amount_at lacks i)
    → ListsLacking lacks list → ListsLacking after list
listed_on lacks after list same le h = record {
  below = λ k lt. let b = h.below k lt in omega (arith, b, same);
  all = λ i lt some. let li : i < length lacks = omega (arith, lt, same) in let l = le i li in h.all
      i li (omega (arith, ints, l, some));
}

-- where no demand lacks anything
pub listed_nothing : (lacks : List ℤ) → ((i : ℕ) → i < length lacks → amount_at lacks i ≤ℤ pos 0)
    → ListsLacking lacks []
listed_nothing lacks none = record {
  below = λ k lt. absurd (omega (arith, lt));
  all = λ i lt some. let n = none i lt in absurd (omega (arith, ints, n, some));
}

-- where one demand alone lacks something
pub listed_one : (lacks : List ℤ) (u : ℕ) → u < length lacks
    → ((i : ℕ) → i < length lacks → (i ≡ u → ⊥) → amount_at lacks i ≤ℤ pos 0)
    → ListsLacking lacks (u ∷ [])
listed_one lacks u lu none = record {
  below = λ k lt. let q : k ≡ 0 = omega (arith, lt) in rw q lu;
  all = λ i lt some. ⊎_elim
      (λ (q : i ≡ u). (0, omega arith, sym q))
      (λ ne. let n = none i lt ne in absurd (omega (arith, ints, n, some)))
      (cases_eq i u);
}

-- what one demand lacks changes
module _ (lacks : List ℤ) (list : List ℕ) (i : ℕ) (v : ℤ) (lt : i < length lacks)
    (h : ListsLacking lacks list) where
  -- another that lacks something then did so before
  other_lacks : (j : ℕ) → (j ≡ i → ⊥) → pos 0 <ℤ amount_at (set lacks i v) j
      → pos 0 <ℤ amount_at lacks j
  other_lacks j ne some = let g = get_or-set_other lacks i j v (pos 0)
      ne in omega (arith, ints, g, some)

  -- the demand is listed once more
  pub listed_besides : ListsLacking (set lacks i v) (list ++ i ∷ [])
  listed_besides = let p = length-set lacks i v in record {
    below = below_more list i (length (set lacks i v)) (omega (arith, p, lt))
        (λ k lk. let b = h.below k lk in omega (arith, b, p));
    all = λ j lj some. ⊎_elim
        (λ (q : j ≡ i). stands_last list i j q)
        (λ ne. stands_more list i j (h.all j (omega (arith, p, lj)) (other_lacks j ne some)))
        (cases_eq j i);
  }

  -- the list serves where the demand lacked something before, or lacks nothing then
  pub listed_still : (pos 0 <ℤ v → pos 0 <ℤ amount_at lacks i) → ListsLacking (set lacks i v) list
  listed_still more = let p = length-set lacks i v in record {
    below = λ k lk. let b = h.below k lk in omega (arith, b, p);
    all = λ j lj some. ⊎_elim
        (λ (q : j ≡ i).
        let g = get_or-set_same lacks i v (pos 0) lt in
        let w = ap (λ m. amount_at (set lacks i v) m) q in
        let m = more (omega (arith, ints, g, w, some)) in
        let e = ap (λ m. amount_at lacks m) q in
        h.all j (omega (arith, q, lt)) (omega (arith, ints, m, e)))
        (λ ne. h.all j (omega (arith, p, lj)) (other_lacks j ne some))
        (cases_eq j i);
  }
