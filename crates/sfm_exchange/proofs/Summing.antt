-- What bases add up to at each place: at multiples of bases, and after an exchange.
use Rattle.std.proofs.Common.{◌≡◌, ◌≢◌, ◌⊎◌, inl, inr, ℕ, zero, suc, ◌^◌, ◌<◌, ◌≤◌, Bool, true, false, List, [], ◌∷◌, length, map, get_or, set, nat_eq, sum, ℤ, pos, ◌+ℤ◌, ◌-ℤ◌, ◌*ℤ◌, neg_ℤ, if◌then◌else◌, eq-eqb, refl, sym, ap, ◌∙◌, arith, get_or-set_same, get_or-set_other}
use Rattle.std.specs.List.{All}
use Rattle.std.proofs.Math.IntN.{*ℤ-zero}
use Rattle.std.proofs.lemmas.Int.{ints}
use Rattle.std.proofs.lemmas.Bool.{cases_eq, ne_eqb}
use Rattle.std.proofs.lemmas.List.{length-set, length-map}
use Rattle.std.proofs.lemmas.List.Elements.{All-from_get_or, All-map}
use Rattle.sfm_spec.specs.Terms.{SetFunction, exchanged}
use Rattle.sfm_spec.specs.Bounds.{IsAtMost, IsEntry, IsFactor}
use Rattle.sfm_spec.specs.Families.{Meaning, meanings, entry_at, base_sum_at}
use Rattle.sfm_spec.specs.Walks.{term_at, base_at}
use Rattle.sfm_spec.proofs.Scaled.{times-add, times-mono}
use Rattle.sfm_law.proofs.Rests.{base_sum_at-bound}
use Rattle.sfm_exchange.specs.Scaled.{row_times, rows_times}
use Rattle.sfm_exchange.specs.Sums.{AreSums}

module _ (q : ℤ) where
  -- what stands at a place of a list
  pub number_at : (x : List ℤ) (j : ℕ)
      → get_or (row_times q x) j (pos 0) ≡ (q *ℤ get_or x j (pos 0))
  number_at [] j = sym (*ℤ-zero q)
  number_at (a ∷ x) zero = refl
  number_at (a ∷ x) (suc j) = number_at x j

  -- a part that counts or does not
  pub part_times : (b : Bool) (a : ℤ)
      → (if b then (q *ℤ a) else pos 0) ≡ (q *ℤ (if b then a else pos 0))
  part_times true a = refl
  part_times false a = sym (*ℤ-zero q)

  -- what a row gives a place
  entry_times : (places : List ℕ) (x : List ℤ) (e : ℕ)
      → entry_at places (row_times q x) e ≡ (q *ℤ entry_at places x e)
  entry_times [] x e = sym (*ℤ-zero q)
  entry_times (p ∷ places) [] e = sym (*ℤ-zero q)
  entry_times (p ∷ places) (a ∷ x) e =
      rw (part_times (nat_eq p e) a, entry_times places x e)
      (sym (times-add q (if nat_eq p e then a else pos 0) (entry_at places x e)))

  -- the sum of all rows there
  pub sum_times : (terms : List Meaning) (rows : List (List ℤ)) (e : ℕ)
      → base_sum_at terms (rows_times q rows) e ≡ (q *ℤ base_sum_at terms rows e)
  sum_times [] rows e = sym (*ℤ-zero q)
  sum_times (t ∷ terms) [] e = sym (*ℤ-zero q)
  sum_times (t ∷ terms) (x ∷ rows) e =
      rw (entry_times t.places x e, sum_times terms rows e)
      (sym (times-add q (entry_at t.places x e) (base_sum_at terms rows e)))

  -- multiples of bases add up to multiples
  pub sums_times : {terms : List Meaning} {n : ℕ} {rows : List (List ℤ)} {sums : List ℤ}
      → AreSums terms n rows sums → AreSums terms n (rows_times q rows) (row_times q sums)
  sums_times {terms} {n} {rows} {sums} h = record {
    places = length-map sums (λ a. q *ℤ a) ∙ h.places;
    exact = λ e l. number_at sums e
        ∙ (ap (λ a. q *ℤ a) (h.exact e l) ∙ sym (sum_times terms rows e));
  }

-- a row in place of another one
sum_set : (terms : List Meaning) (rows : List (List ℤ)) (i : ℕ) (x : List ℤ) (e : ℕ)
    → i < length terms → length rows ≡ length terms
    → base_sum_at terms (set rows i x)
    e ≡ (base_sum_at terms rows e
    +ℤ (entry_at (term_at terms i).places x e -ℤ entry_at (term_at terms i).places
    (base_at rows i) e))
sum_set [] rows i x e l same = absurd (omega arith)
sum_set (t ∷ terms) [] i x e l same = absurd (omega arith)
sum_set (t ∷ terms) (y ∷ rows) zero x e l same = omega (arith, ints)
sum_set (t ∷ terms) (y ∷ rows) (suc i) x e l same =
    let r = sum_set terms rows i x e (omega (arith, l))
    (omega (arith, same)) in omega (arith, ints, r)

-- something more at one entry of a row
entry_more : (places : List ℕ) (x : List ℤ) (j : ℕ) (a : ℤ) (e : ℕ) → j < length places
    → length x ≡ length places
    → entry_at places (set x j (get_or x j (pos 0) +ℤ a))
    e ≡ (entry_at places x e +ℤ (if nat_eq (get_or places j 0) e then a else pos 0))
entry_more [] x j a e l same = absurd (omega (arith, l))
entry_more (p ∷ places) [] j a e l same = absurd (omega (arith, same))
entry_more (p ∷ places) (b ∷ x) zero a e l same = by (nat_eq p e) where
  by : (t : Bool) → ((if t then (b +ℤ a) else pos 0) +ℤ entry_at places x e)
      ≡ (((if t then b else pos 0) +ℤ entry_at places x e) +ℤ (if t then a else pos 0))
  by true = omega (arith, ints)
  by false = omega (arith, ints)
entry_more (p ∷ places) (b ∷ x) (suc j) a e l same =
    let r = entry_more places x j a e (omega (arith, l))
    (omega (arith, same)) in omega (arith, ints, r)

-- and at one number of a list
number_more : (x : List ℤ) (p : ℕ) (a : ℤ) (e : ℕ) → p < length x
    → get_or (set x p (get_or x p (pos 0) +ℤ a)) e
    (pos 0) ≡ (get_or x e (pos 0) +ℤ (if nat_eq p e then a else pos 0))
number_more x p a e l = by (cases_eq p e) where
  by : (p ≡ e) ⊎ (p ≢ e) → get_or (set x p (get_or x p (pos 0) +ℤ a)) e
      (pos 0) ≡ (get_or x e (pos 0) +ℤ (if nat_eq p e then a else pos 0))
  by (inl is) = rw (← is, eq-eqb p p refl) (get_or-set_same x p (get_or x p (pos 0) +ℤ a) (pos 0) l)
  by (inr ne) =
      let r = get_or-set_other x p e (get_or x p (pos 0) +ℤ a) (pos 0) (λ s. ne (sym s)) in
      rw (ne_eqb p e ne) (omega (arith, ints, r))

-- an exchange as two entries that have more
exchanged_more : (x : List ℤ) (u v : ℕ) (a : ℤ) → u ≢ v → (y : List ℤ)
    → y ≡ set x u (get_or x u (pos 0) +ℤ a)
    → exchanged x u v a ≡ set y v (get_or y v (pos 0) +ℤ (pos 0 -ℤ a))
exchanged_more x u v a ne y is =
    let other : get_or y v (pos 0) ≡ get_or x v (pos 0) = ap (λ z. get_or z v (pos 0)) is
    ∙ get_or-set_other x u v (get_or x u (pos 0) +ℤ a) (pos 0) (λ s. ne (sym s)) in
    let less : (get_or x v (pos 0) -ℤ a) ≡ (get_or y v (pos 0) +ℤ (pos 0 -ℤ a)) = omega (
      arith,
      ints,
      other,
    ) in
    ap (λ z. set z v (get_or x v (pos 0) -ℤ a)) (sym is) ∙ ap (set y v) less

-- after an exchange of one row what the rows add up to is exchanged at the places of the ground
pub sums_exchanged : {terms : List Meaning} {n : ℕ} {rows : List (List ℤ)} {sums : List ℤ}
    → AreSums terms n rows sums → (i u v : ℕ) (a : ℤ) → i < length terms
    → length rows ≡ length terms
    → (places : List ℕ) → places ≡ (term_at terms i).places
    → length (base_at rows i) ≡ length places → u < length places → v < length places → u ≢ v
    → get_or places u 0 < n → get_or places v 0 < n → get_or places u 0 ≢ get_or places v 0
    → AreSums terms n (set rows i (exchanged (base_at rows i) u v a))
    (exchanged sums (get_or places u 0) (get_or places v 0) a)
sums_exchanged {terms} {n} {rows} {sums} h i u v a li count places are long lu lv ne gu gv apart =
    record {
      places = ap length two ∙ (length-set t lowered (get_or t lowered (pos 0) +ℤ (pos 0 -ℤ a))
          ∙ (length-set sums raised (get_or sums raised (pos 0) +ℤ a) ∙ h.places));
      exact = exact;
    } where
      raised : ℕ
      raised = get_or places u 0

      lowered : ℕ
      lowered = get_or places v 0

      x : List ℤ
      x = base_at rows i

      y : List ℤ
      y = set x u (get_or x u (pos 0) +ℤ a)

      t : List ℤ
      t = set sums raised (get_or sums raised (pos 0) +ℤ a)

      one : exchanged x u v a ≡ set y v (get_or y v (pos 0) +ℤ (pos 0 -ℤ a))
      one = exchanged_more x u v a ne y refl

      two : exchanged sums raised lowered a ≡ set t lowered
          (get_or t lowered (pos 0) +ℤ (pos 0 -ℤ a))
      two = exchanged_more sums raised lowered a apart t refl

      in_t : lowered < length t
      in_t = rw (length-set, h.places) gv

      exact : (e : ℕ) → e < n → get_or (exchanged sums raised lowered a) e (pos 0) ≡ base_sum_at
          terms
          (set rows i (exchanged x u v a)) e
      exact e le =
          let first = number_more sums raised a e (rw h.places gu) in
          let second = number_more t lowered (pos 0 -ℤ a) e in_t in
          let row1 = entry_more places x u a e lu long in
          let row2 = entry_more places y v (pos 0 -ℤ a) e lv
          (length-set x u (get_or x u (pos 0) +ℤ a) ∙ long) in
          let rows' = rw (← are) at (sum_set terms rows i (exchanged x u v a) e li count) in
          let was = h.exact e le in
          let t1 = ap (λ z. get_or z e (pos 0)) two in
          let t2 = ap (λ z. entry_at places z e) one in
          omega (arith, ints, first, second, row1, row2, rows', was, t1, t2)

-- what small rows add up to is small
pub sums_small : {X : Type 0} (places : X → List ℕ) (value : X → SetFunction) (terms : List X)
    (n : ℕ) (rows : List (List ℤ)) (sums : List ℤ)
    → AreSums (meanings places value terms) n rows sums → All (λ x. All IsEntry x) rows
    → sum (map length (map places terms)) ≤ 16384
    → All (IsAtMost (10 ^ 35)) sums
sums_small places value terms n rows sums h small few =
    All-from_get_or (IsAtMost (10 ^ 35)) sums (pos 0) (λ e l.
    let b = base_sum_at-bound places value terms rows e small in
    let is = h.exact e (rw h.places at l) in
    rw is (record {
      low = omega (arith, ints, b.low, few);
      high = omega (arith, ints, b.high, few);
    }))

-- multiples of small entries are small
entry_small : (m a : ℤ) → IsFactor m → IsAtMost (10 ^ 21) a → IsEntry (m *ℤ a)
entry_small m a f h =
    let up = times-mono m a (pos (10 ^ 21)) (omega (arith, ints, f.low)) h.high in
    let down = times-mono m (neg_ℤ (pos (10 ^ 21))) a (omega (arith, ints, f.low)) h.low in
    record {
      low = omega (arith, ints, down, f.low, f.high);
      high = omega (arith, ints, up, f.low, f.high);
    }

pub rows_small : (m : ℤ) (rows : List (List ℤ)) → IsFactor m
    → All (λ x. All (IsAtMost (10 ^ 21)) x) rows → All (λ x. All IsEntry x) (rows_times m rows)
rows_small m rows f h = All-map (λ x. All IsEntry x) (row_times m) rows
    (λ k d l. All-map IsEntry (λ a. m *ℤ a) (get_or rows k d)
    (λ j e lt. entry_small m (get_or (get_or rows k d) j e) f (h k d l j e lt)))

pub entries_small : (rows : List (List ℤ)) → All (λ x. All (IsAtMost (10 ^ 21)) x) rows
    → All (λ x. All IsEntry x) rows
entries_small rows h k d l j e lt =
    let s = h k d l j e lt in record {
      low = omega (arith, ints, s.low);
      high = omega (arith, ints, s.high);
    }

-- so multiplied sums are small
pub products_small : {X : Type 0} (places : X → List ℕ) (value : X → SetFunction) (terms : List X)
    (n : ℕ) (rows : List (List ℤ)) (sums : List ℤ) (m : ℤ)
    → AreSums (meanings places value terms) n rows sums → IsFactor m
    → All (λ x. All (IsAtMost (10 ^ 21)) x) rows
    → sum (map length (map places terms)) ≤ 16384 → All (λ a. IsAtMost (10 ^ 35) (m *ℤ a)) sums
products_small places value terms n rows sums m h f small few =
    All-from_get_or (λ a. IsAtMost (10 ^ 35) (m *ℤ a)) sums (pos 0) (λ e l.
    let b = base_sum_at-bound places value terms (rows_times m rows) e
    (rows_small m rows f small) in
    let is = h.exact e (rw h.places at l) in
    let all = ap (λ a. m *ℤ a) is ∙ sym (sum_times m (meanings places value terms) rows e) in
    rw all (record {
      low = omega (arith, ints, b.low, few);
      high = omega (arith, ints, b.high, few);
    }))
