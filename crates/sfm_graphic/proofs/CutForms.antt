-- Forests and vertices: the rank of edges is at most the number of their ends but one, and what
-- gives no edges more than their ends but one may hold, whichever one, gives none more than their
-- rank allows. Textbook: Schrijver, Combinatorial Optimization, section 50 (the forest polytope);
-- Cunningham, Testing membership in matroid polyhedra.
use Rattle.std.proofs.Common.{◌≡◌, ◌≢◌, ◌⊎◌, ℕ, zero, suc, ◌+◌, ◌<◌, ◌≤◌, Bool, true, false, not, ◌&&◌, ◌||◌, List, [], ◌∷◌, length, nat_eq, ℤ, pos, ◌+ℤ◌, ◌*ℤ◌, ◌≤ℤ◌, if◌then◌else◌, refl, sym, ap, ◌∙◌, arith, inl, inr, ⊎_elim}
use Rattle.std.proofs.lemmas.Bool.{false≢true, cases_eq, cases_lt, cases_Bool, eq-eqb, eqb-true, and_parts, and_from, or_cases, or_left, or_right}
use Rattle.std.proofs.lemmas.Int.{ints}
use Rattle.std.proofs.Math.IntN.{*ℤ-zero}
use Rattle.sfm_spec.specs.Sets.{Has, sum_over}
use Rattle.sfm_spec.specs.Kinds.{Edge}
use Rattle.sfm_spec.proofs.Scaled.{times-mono, times-add}
use Rattle.sfm_rank.proofs.Members.{has_place}
use Rattle.sfm_matroid.specs.Counts.{count_below, unit_of}
use Rattle.sfm_graphic.specs.Graphs.{EndsBelow, edge_at, graphic_rank, label}
use Rattle.sfm_graphic.specs.Cuts.{IsWithinEnds, ends_but, touches}
use Rattle.sfm_matroid.specs.Counting.{count-into, count-most, eqb_apart}
use Rattle.sfm_graphic.specs.Runs.{label-blind, label-joins, label-twice, label_below, taken-roots}

pub count-not : (n : ℕ) (p : ℕ → Bool) → count_below n p + count_below n (λ x. not (p x)) ≡ n
count-not zero p = refl
count-not (suc n) p = at (p n) (count-not n p) where
  at : (b : Bool) → count_below n p + count_below n (λ x. not (p x)) ≡ n
      → unit_of b + count_below n p + (unit_of (not b) + count_below n (λ x. not (p x))) ≡ suc n
  at true r = omega (arith, r)
  at false r = omega (arith, r)

pub touches-ends : (edges : List Edge) (s : List Bool) (e : ℕ) → e < length edges → Has s e
    → (touches edges s (edge_at edges e).tail ≡ true)
    × (touches edges s (edge_at edges e).head ≡ true)
touches-ends [] s e lt has = absurd (omega (arith, lt))
touches-ends (edge ∷ edges) [] e lt has = absurd (false≢true has)
touches-ends (edge ∷ edges) (b ∷ s) zero lt has = (
  or_left (b && (nat_eq edge.tail edge.tail || nat_eq edge.head edge.tail))
      (touches edges s edge.tail) (and_from b
      (nat_eq edge.tail edge.tail || nat_eq edge.head edge.tail) has
      (or_left (nat_eq edge.tail edge.tail) (nat_eq edge.head edge.tail)
      (eq-eqb edge.tail edge.tail refl))),
  or_left (b && (nat_eq edge.tail edge.head || nat_eq edge.head edge.head))
      (touches edges s edge.head) (and_from b
      (nat_eq edge.tail edge.head || nat_eq edge.head edge.head) has
      (or_right (nat_eq edge.tail edge.head) (nat_eq edge.head edge.head)
      (eq-eqb edge.head edge.head refl))),
)
touches-ends (edge ∷ edges) (b ∷ s) (suc e) lt has =
    let r = touches-ends edges s e (omega arith) has in
    let t = (edge_at edges e).tail in
    let h = (edge_at edges e).head in (
      or_right (b && (nat_eq edge.tail t || nat_eq edge.head t)) (touches edges s t) r.0,
      or_right (b && (nat_eq edge.tail h || nat_eq edge.head h)) (touches edges s h) r.1,
    )

-- ---- the rank is at most the number of the ends but one

module _ (edges : List Edge) (s : List Bool) (ks : length s ≡ length edges) (m : ℕ)
    (below : EndsBelow edges m) where
  l : ℕ → ℕ
  l x = label edges s (length edges) x

  -- a vertex that is no end is its own label, and no other's
  untouched : (z : ℕ) → touches edges s z ≡ false → (x : ℕ)
      → unit_of (nat_eq (label edges s (length edges) x) z) ≡ unit_of (nat_eq x z)
  untouched z none x = label-blind edges s (length edges) (λ v. unit_of (nat_eq v z)) (λ e lt has.
      let t = touches-ends edges s e lt has in
      let a = eqb_apart (edge_at edges e).tail z
      (λ same. false≢true (sym none ∙ (ap (touches edges s) (sym same) ∙ t.0))) in
      let b = eqb_apart (edge_at edges e).head z
      (λ same. false≢true (sym none ∙ (ap (touches edges s) (sym same) ∙ t.1))) in
      ap unit_of a ∙ ap unit_of (sym b)) x

  unit-true : (b c : Bool) → unit_of b ≡ unit_of c → c ≡ true → b ≡ true
  unit-true true c e h = refl
  unit-true false true e h = absurd (omega (arith, e))
  unit-true false false e h = h

  own_label : (z : ℕ) → touches edges s z ≡ false → label edges s (length edges) z ≡ z
  own_label z none = eqb-true (label edges s (length edges) z) z
      (unit-true (nat_eq (label edges s (length edges) z) z) (nat_eq z z) (untouched z none z)
      (eq-eqb z z refl))

  no_label : (z x : ℕ) → touches edges s z ≡ false → label edges s (length edges) x ≡ z → x ≡ z
  no_label z x none same = eqb-true x z
      (unit-true (nat_eq x z) (nat_eq (label edges s (length edges) x) z) (sym (untouched z none x))
      (eq-eqb (label edges s (length edges) x) z same))

  -- as many vertices are not their own labels as edges are taken
  pub moved-count : count_below m (λ v. not (nat_eq (label edges s (length edges) v) v))
      ≡ graphic_rank edges s
  moved-count =
      let a = taken-roots edges s ks m below (length edges) (omega arith) in
      let b = count-not m (λ v. nat_eq (label edges s (length edges) v) v) in
      omega (arith, a, b)

  pub rank_ends : (a : ℕ) → graphic_rank edges s ≤ ends_but edges m a s
  rank_ends a =
      let c = count-into m m (λ v. not (nat_eq (label edges s k v) v))
      (λ v. touches edges s v && not (nat_eq v a))
      (λ v. if nat_eq v a then label edges s k a else v)
      (λ u. if nat_eq u (label edges s k a) then a else u)
      (λ v lt moved. into v lt moved (cases_eq v a)) in
      let e = moved-count in
      omega (arith, c, e) where
        k : ℕ
        k = length edges

        apart_from : (v : ℕ) → not (nat_eq (label edges s (length edges) v) v) ≡ true
            → label edges s (length edges) v ≢ v
        apart_from v moved same = false≢true
            (let q = rw (eq-eqb (label edges s (length edges) v) v same) at moved in q)

        Into : ℕ → ℕ → Type 0
        Into v f = (f < m) × ((touches edges s f && not (nat_eq f a)) ≡ true)
            × ((if nat_eq f (label edges s (length edges) a) then a else f) ≡ v)

        into : (v : ℕ) → v < m → not (nat_eq (label edges s (length edges) v) v) ≡ true → (v ≡ a)
            ⊎ (v ≢ a) → Into v (if nat_eq v a then label edges s (length edges) a else v)
        into v lt moved (inl same) =
            let la = label edges s (length edges) a in
            let ne : la ≢ a = λ e. apart_from v moved
            (ap (label edges s (length edges)) same ∙ (e ∙ sym same)) in
            let lm = label_below edges s ks m below (length edges) a (omega arith)
            (omega (arith, lt, same)) in
            let touched : touches edges s la ≡ true = ⊎_elim (λ t. t)
            (λ none. absurd (ne (sym (no_label la a none refl))))
            (cases_Bool (touches edges s la)) in
            rw (eq-eqb v a same) (
              lm,
              rw (touched, eqb_apart la a ne) refl,
              rw (eq-eqb la la refl) (sym same),
            )
        into v lt moved (inr ne) =
            let la = label edges s (length edges) a in
            let touched : touches edges s v ≡ true = ⊎_elim (λ t. t)
            (λ none. absurd (apart_from v moved (own_label v none)))
            (cases_Bool (touches edges s v)) in
            let other : v ≢ la = λ e. apart_from v moved
            (ap (label edges s (length edges)) e
            ∙ (label-twice edges s (length edges) a ∙ sym e)) in
            rw (eqb_apart v a ne) (
              lt,
              rw (touched, eqb_apart v a ne) refl,
              rw (eqb_apart v la other) refl,
            )

-- ---- sums by label

-- the sum of f over the numbers below n
abbrev total : ℕ → (ℕ → ℤ) → ℤ
total zero f = pos 0
total (suc n) f = f n +ℤ total n f

total-same : (n : ℕ) (f g : ℕ → ℤ) → ((b : ℕ) → f b ≡ g b) → total n f ≡ total n g
total-same zero f g same = refl
total-same (suc n) f g same = let r = total-same n f g same in let h = same
    n in omega (arith, ints, r, h)

total-most : (n : ℕ) (f g : ℕ → ℤ) → ((b : ℕ) → b < n → f b ≤ℤ g b) → total n f ≤ℤ total n g
total-most zero f g most = omega (arith, ints)
total-most (suc n) f g most = let r = total-most n f g
    (λ b lt. most b (omega arith)) in let h = most n (omega arith) in omega (arith, ints, r, h)

total-add : (n : ℕ) (f g : ℕ → ℤ) → total n (λ b. f b +ℤ g b) ≡ (total n f +ℤ total n g)
total-add zero f g = omega (arith, ints)
total-add (suc n) f g = let r = total-add n f g in omega (arith, ints, r)

total-zero : (n : ℕ) → total n (λ b. pos 0) ≡ pos 0
total-zero zero = refl
total-zero (suc n) = let r = total-zero n in omega (arith, ints, r)

total-past : (n j : ℕ) (a : ℤ) → n ≤ j → total n (λ b. if nat_eq j b then a else pos 0) ≡ pos 0
total-past zero j a le = refl
total-past (suc n) j a le =
    let r = total-past n j a (omega arith) in
    let h : (if nat_eq j n then a else pos 0) ≡ pos
    0 = rw (eqb_apart j n (λ e. omega (arith, e, le))) refl in
    omega (arith, ints, r, h)

-- what only the number j has
total-one : (n j : ℕ) (a : ℤ) → j < n → total n (λ b. if nat_eq j b then a else pos 0) ≡ a
total-one zero j a lt = absurd (omega (arith, lt))
total-one (suc n) j a lt = ⊎_elim
    (λ (same : j ≡ n).
    let r = total-past n j a (omega arith) in
    let h : (if nat_eq j n then a else pos 0) ≡ a = rw (eq-eqb j n same) refl in
    omega (arith, ints, r, h))
    (λ (ne : j ≢ n).
    let r = total-one n j a (⊎_elim (λ (less : j < n). less)
    (λ (ge : n ≤ j). absurd (ne (omega (arith, ge, lt)))) (cases_lt j n)) in
    let h : (if nat_eq j n then a else pos 0) ≡ pos 0 = rw (eqb_apart j n ne) refl in
    omega (arith, ints, r, h))
    (cases_eq j n)

-- the edges of s whose heads have the label b
abbrev with_label : List Edge → List Bool → (ℕ → ℕ) → ℕ → List Bool
with_label [] s g b = []
with_label (edge ∷ edges) [] g b = []
with_label (edge ∷ edges) (c ∷ s) g b = (c && nat_eq (g edge.head) b) ∷ with_label edges s g b

length-with : (edges : List Edge) (s : List Bool) (g : ℕ → ℕ) (b : ℕ) → length s ≡ length edges
    → length (with_label edges s g b) ≡ length edges
length-with [] s g b same = refl
length-with (edge ∷ edges) [] g b same = absurd (omega (arith, same))
length-with (edge ∷ edges) (c ∷ s) g b same =
    let r : length (with_label edges s g b) ≡ length edges = length-with edges s g b
    (omega arith) in omega (arith, r)

-- each edge has one label
sum-labels : (edges : List Edge) (s : List Bool) (x : List ℤ) (g : ℕ → ℕ) (m : ℕ)
    → length s ≡ length edges → ((e : ℕ) → e < length edges → g (edge_at edges e).head < m)
    → total m (λ b. sum_over (with_label edges s g b) x) ≡ sum_over s x
sum-labels [] [] x g m same below = total-zero m
sum-labels [] (c ∷ s) x g m same below = absurd (omega (arith, same))
sum-labels (edge ∷ edges) [] x g m same below = absurd (omega (arith, same))
sum-labels (edge ∷ edges) (c ∷ s) [] g m same below = total-zero m
sum-labels (edge ∷ edges) (c ∷ s) (y ∷ x) g m same below =
    let r = sum-labels edges s x g m (omega arith) (λ e lt. below (suc e) (omega arith)) in
    let add = total-add m (λ b. if c && nat_eq (g edge.head) b then y else pos 0)
    (λ b. sum_over (with_label edges s g b) x) in
    let one = first c in
    omega (arith, ints, r, add, one) where
      first : (c : Bool) → total m (λ b. if c && nat_eq (g edge.head) b then y else pos 0)
          ≡ (if c then y else pos 0)
      first true = total-one m (g edge.head) y (below 0 (omega arith))
      first false = total-zero m

-- the ends of the edges with the label b have it
touches-label : (edges : List Edge) (s : List Bool) (g : ℕ → ℕ) (b v : ℕ)
    → ((e : ℕ) → Has s e → g (edge_at edges e).tail ≡ g (edge_at edges e).head)
    → touches edges (with_label edges s g b) v ≡ true → g v ≡ b
touches-label [] s g b v joins h = absurd (false≢true h)
touches-label (edge ∷ edges) [] g b v joins h = absurd (false≢true h)
touches-label (edge ∷ edges) (c ∷ s) g b v joins h = ⊎_elim
    (λ here.
    let (has, ends) = and_parts (c && nat_eq (g edge.head) b)
    (nat_eq edge.tail v || nat_eq edge.head v) here in
    let (hc, hb) = and_parts c (nat_eq (g edge.head) b) has in
    let head = eqb-true (g edge.head) b hb in
    ⊎_elim (λ t. ap g (sym (eqb-true edge.tail v t)) ∙ (joins 0 hc ∙ head))
    (λ t. ap g (sym (eqb-true edge.head v t)) ∙ head)
    (or_cases (nat_eq edge.tail v) (nat_eq edge.head v) ends))
    (λ later. touches-label edges s g b v (λ e has. joins (suc e) has) later)
    (or_cases ((c && nat_eq (g edge.head) b) && (nat_eq edge.tail v || nat_eq edge.head v))
    (touches edges (with_label edges s g b) v) h)

-- how many of n vertices have the label b and are not b, added over all b
labels-total : (w : ℤ) (g : ℕ → ℕ) (m n : ℕ) → ((v : ℕ) → v < n → g v < m)
    → total m (λ b. w *ℤ pos (count_below n (λ v. nat_eq (g v) b && not (nat_eq v b))))
    ≡ (w *ℤ pos (count_below n (λ v. not (nat_eq (g v) v))))
labels-total w g m zero below = total-same m (λ b. w *ℤ pos 0) (λ b. pos 0) (λ b. *ℤ-zero w)
    ∙ (total-zero m ∙ sym (*ℤ-zero w))
labels-total w g m (suc n) below =
    let r = labels-total w g m n (λ v lt. below v (omega arith)) in
    let p : ℕ → Bool = λ b. nat_eq (g n) b && not (nat_eq n b) in
    let c : ℕ → ℕ = λ b. count_below n (λ v. nat_eq (g v) b && not (nat_eq v b)) in
    let parts = total-same m (λ b. w *ℤ pos (unit_of (p b) + c b))
    (λ b. (w *ℤ pos (unit_of (p b))) +ℤ (w *ℤ pos (c b))) (λ b. split (unit_of (p b)) (c b)) in
    let add = total-add m (λ b. w *ℤ pos (unit_of (p b))) (λ b. w *ℤ pos (c b)) in
    let one = total-same m (λ b. w *ℤ pos (unit_of (p b)))
    (λ b. if nat_eq (g n) b then (w *ℤ pos (unit_of (not (nat_eq (g n) n)))) else pos 0)
    (λ b. alone b (cases_eq (g n) b))
    ∙ total-one m (g n) (w *ℤ pos (unit_of (not (nat_eq (g n) n)))) (below n (omega arith)) in
    let back = split (unit_of (not (nat_eq (g n) n))) (count_below n (λ v. not (nat_eq (g v) v))) in
    omega (arith, ints, r, parts, add, one, back) where
      split : (a c : ℕ) → (w *ℤ pos (a + c)) ≡ ((w *ℤ pos a) +ℤ (w *ℤ pos c))
      split a c = let e : pos (a + c) ≡ (pos a +ℤ pos c) = omega (arith, ints) in ap (λ z. w *ℤ z) e
          ∙ times-add w (pos a) (pos c)

      turned : (a b : ℕ) → nat_eq a b ≡ nat_eq b a
      turned a b = ⊎_elim (λ e. eq-eqb a b e ∙ sym (eq-eqb b a (sym e)))
          (λ ne. eqb_apart a b ne ∙ sym (eqb_apart b a (λ e. ne (sym e)))) (cases_eq a b)

      alone : (b : ℕ) → (g n ≡ b) ⊎ (g n ≢ b)
          → (w *ℤ pos (unit_of (nat_eq (g n) b && not (nat_eq n b))))
          ≡ (if nat_eq (g n) b then (w *ℤ pos (unit_of (not (nat_eq (g n) n)))) else pos 0)
      alone b (inl same) = rw (eq-eqb (g n) b same)
          (ap (λ t. w *ℤ pos (unit_of (not t))) (turned n b ∙ ap (λ i. nat_eq i n) (sym same)))
      alone b (inr ne) = rw (eqb_apart (g n) b ne) (*ℤ-zero w)

-- ---- the cut form

module _ (edges : List Edge) (m : ℕ) (below : EndsBelow edges m) (c : ℤ) (low : pos 0 ≤ℤ c)
    (x : List ℤ) where
  pub ends_from_rank : ((s : List Bool) → length s ≡ length edges
      → sum_over s x ≤ℤ (c *ℤ pos (graphic_rank edges s))) → (a : ℕ) → IsWithinEnds edges m c x a
  ends_from_rank within a s ks =
      let h = within s ks in
      let r = rank_ends edges s ks m below a in
      let up = times-mono c (pos (graphic_rank edges s)) (pos (ends_but edges m a s)) low
      (omega (arith, ints, r)) in
      omega (arith, ints, h, up)

  pub rank_from_ends : ((a : ℕ) → a < m → IsWithinEnds edges m c x a) → (s : List Bool)
      → length s ≡ length edges → sum_over s x ≤ℤ (c *ℤ pos (graphic_rank edges s))
  rank_from_ends within s ks =
      let k = length edges in
      let g = label edges s k in
      let joins : (e : ℕ) → Has s e → g (edge_at edges e).tail ≡ g (edge_at edges e).head = λ e has.
      label-joins edges s k e (let p = has_place s e has in omega (arith, p, ks)) has in
      let lows : (v : ℕ) → v < m → g v < m = λ v lt. label_below edges s ks m below k v
      (omega arith) lt in
      let all = sum-labels edges s x g m ks (λ e lt. lows (edge_at edges e).head (below e lt).1) in
      let each = total-most m (λ b. sum_over (with_label edges s g b) x)
      (λ b. c *ℤ pos (count_below m (λ v. nat_eq (g v) b && not (nat_eq v b)))) (λ b lt.
      let h = within b lt (with_label edges s g b) (length-with edges s g b ks) in
      let n = count-most m (λ v. touches edges (with_label edges s g b) v && not (nat_eq v b))
      (λ v. nat_eq (g v) b && not (nat_eq v b)) (λ v lv t.
      let (touched, ne) = and_parts (touches edges (with_label edges s g b) v) (not (nat_eq v b))
      t in
      and_from (nat_eq (g v) b) (not (nat_eq v b))
      (eq-eqb (g v) b (touches-label edges s g b v joins touched)) ne) in
      let up = times-mono c (pos (ends_but edges m b (with_label edges s g b)))
      (pos (count_below m (λ v. nat_eq (g v) b && not (nat_eq v b)))) low
      (omega (arith, ints, n)) in
      omega (arith, ints, h, up)) in
      let sum = labels-total c g m m lows in
      let rank = ap (λ n. c *ℤ pos n) (moved-count edges s ks m below) in
      omega (arith, ints, all, each, sum, rank)
