-- The bar of a row by one walk over the entries in ascending order. Let `slack_from h y i` be what
-- the places but the i least leave. At a base it is never negative. Where it is 0 at i and not at i
-- + 1, the entry before i is less than the one at i: h is concave, so among equal entries a 0 in
-- the midst would make those at both sides 0. So the places above that entry leave nothing, and it
-- is the greatest entry to which u has no room, if i is the last such number before u's own. If u
-- and what has more than u leave nothing, u's own entry is.
use Rattle.std.proofs.Common.{◌≡◌, ℕ, zero, suc, ◌+◌, ◌-◌, ◌<◌, ◌≤◌, Bool, true, false, List, [], ◌∷◌, length, get_or, drop, ℤ, pos, ◌+ℤ◌, ◌≤ℤ◌, ◌<ℤ◌, Some, None, refl, sym, ap, ◌∙◌, arith, ⊎_elim}
use Rattle.std.specs.List.{Contains}
use Rattle.std.specs.List.Sorted.{IsPermutation, IsSorted}
use Rattle.std.specs.Ordering.{int_cmp}
use Rattle.std.proofs.lemmas.Bool.{cases_lt, cases_eq}
use Rattle.std.proofs.lemmas.Int.{ints, by_lt_z}
use Rattle.std.proofs.lemmas.List.{get_or_default}
use Rattle.std.proofs.lemmas.List.Sorted.{Contains-permutation, IsPermutation-sym, length_permutation}
use Rattle.sfm_spec.specs.Bounds.{total_of}
use Rattle.sfm_spec.specs.Sets.{whole_set, size, sum_over}
use Rattle.sfm_spec.proofs.Where.{size-cons}
use Rattle.sfm_law.proofs.Totals.{total_of-drop, total_of-whole}
use Rattle.sfm_concave.specs.Counts.{IsFalling}
use Rattle.sfm_concave.specs.Rankings.{IsCut}
use Rattle.sfm_concave.specs.Thresholds.{above, above_with, slack, slack_from, Blocks, IsBar, IsLastTight, NoneTight}
use Rattle.sfm_concave.proofs.Above.{length-above, is_above, is_not_above}
use Rattle.sfm_concave.proofs.Bases.{none_short}
use Rattle.sfm_concave.proofs.Ranks.{ascends, cut_counts, size-permuted, sum-permuted, total_of-permuted}
use Rattle.sfm_concave.proofs.Shares.{same_put, in_share}

-- ---- all places but the first n

back : ℕ → List ℤ → List Bool
back n [] = []
back zero (a ∷ y) = true ∷ back zero y
back (suc n) (a ∷ y) = false ∷ back n y

length-back : (n : ℕ) (y : List ℤ) → length (back n y) ≡ length y
unfolding back
length-back n [] = refl
length-back zero (a ∷ y) = let r = length-back zero y in omega (arith, r)
length-back (suc n) (a ∷ y) = let r = length-back n y in omega (arith, r)

size-back : (n : ℕ) (y : List ℤ) → n ≤ length y → size (back n y) + n ≡ length y
unfolding back
size-back zero [] h = refl
size-back (suc n) [] h = absurd (omega arith)
size-back zero (a ∷ y) h = let c = size-cons true (back zero y) in let r = size-back zero y
    (omega arith) in omega (arith, c, r)
size-back (suc n) (a ∷ y) h = let c = size-cons false (back n y) in let r = size-back n y
    (omega (arith, h)) in omega (arith, c, r)

sum_over-back : (n : ℕ) (y : List ℤ) → n ≤ length y → sum_over (back n y) y ≡ total_of (drop n y)
unfolding back
sum_over-back zero [] h = refl
sum_over-back (suc n) [] h = absurd (omega arith)
sum_over-back zero (a ∷ y) h =
    let d : total_of (drop 0 (a ∷ y)) ≡ (a +ℤ total_of (drop 0 y)) = refl in
    let r = sum_over-back zero y (omega arith) in
    omega (arith, ints, d, r)
sum_over-back (suc n) (a ∷ y) h =
    let r = sum_over-back n y (omega (arith, h)) in omega (arith, ints, r)

-- ---- where an ascending list goes past a number

abbrev Ascends : List ℤ → Type 0
Ascends y = (i j : ℕ) (d : ℤ) → i ≤ j → j < length y → get_or y i d ≤ℤ get_or y j d

cut_at : (bar : ℤ) (y : List ℤ) → Ascends y → (n : ℕ) × IsCut bar y n
cut_at bar [] up = (
  0,
  record {
    in_range = omega arith;
    low = λ k d le lt. absurd (omega (arith, lt));
    high = λ k d le lt. absurd (omega (arith, lt));
  },
)
cut_at bar (a ∷ y) up = by_lt_z bar a
    (λ less. (
      0,
      record {
        in_range = omega arith;
        low = λ k d le lt. absurd (omega (arith, lt));
        high = λ k d le lt. (let m = up 0 k d (omega arith) lt in omega (arith, ints, m, less));
      },
    ))
    (λ more.
    let (n, cut) = cut_at bar y (λ i j d le lt. up (suc i) (suc j) d (omega (arith, le))
    (omega (arith, lt))) in (
      suc n,
      record {
        in_range = (let r = cut.in_range in omega (arith, r));
        low = lows n cut more;
        high = highs n cut;
      },
    )) where
      lows : (n : ℕ) → IsCut bar y n → a ≤ℤ bar → (k : ℕ) (d : ℤ) → 0 ≤ k → k < suc n
          → get_or (a ∷ y) k d ≤ℤ bar
      lows n cut more zero d le lt = more
      lows n cut more (suc k) d le lt = cut.low k d (omega arith) (omega (arith, lt))

      highs : (n : ℕ) → IsCut bar y n → (k : ℕ) (d : ℤ) → suc n ≤ k → k < length (a ∷ y)
          → bar <ℤ get_or (a ∷ y) k d
      highs n cut zero d le lt = absurd (omega (arith, le))
      highs n cut (suc k) d le lt = cut.high k d (omega (arith, le)) (omega (arith, lt))

-- ---- a place of the one list in the other

pub found : (x y : List ℤ) → IsPermutation x y → (w : ℕ) → w < length x → (p : ℕ) × (p < length y)
    × (get_or y p (pos 0) ≡ get_or x w (pos 0))
found x y same w kw =
    let a : ℤ = get_or x w (pos 0) in
    let here : Contains x a = (w, kw, get_or_default x w a (pos 0) kw) in
    let (p, kp, is) = Contains-permutation x y a same here in
    (p, kp, get_or_default y p (pos 0) a kp ∙ is)

module _ (h : ℕ → ℤ) (x y : List ℤ) (same : IsPermutation x y) (sorted : IsSorted int_cmp y)
    (falling : IsFalling (length x) h)
    (low : (s : List Bool) → length s ≡ length x → pos 0 ≤ℤ slack h x s)
    (total : h (length x) ≡ sum_over (whole_set (length x)) x) where
  kl : length y ≡ length x
  kl = length_permutation x y same

  up : Ascends y
  up = ascends y sorted

  -- ---- what the greatest places leave

  above_same : (bar : ℤ) → slack h y (above bar y) ≡ slack h x (above bar x)
  above_same bar =
      let n = ap h (size-permuted bar x y same) in
      let t = sum-permuted bar x y same in
      omega (arith, ints, n, t)

  total_same : h (length y) ≡ sum_over (whole_set (length y)) y
  total_same =
      let n = ap h kl in
      let a = total_of-whole x in
      let b = total_of-whole y in
      let t = total_of-permuted x y same in
      omega (arith, ints, n, a, b, t, total)

  low_from : (i : ℕ) → i ≤ length y → pos 0 ≤ℤ slack_from h y i
  low_from i le =
      let holds : (w : ℕ) → w < length y → pos 0 ≤ℤ slack h y (above (get_or y w (pos 0)) y) = λ w
      kw. (let z = low (above (get_or y w (pos 0)) x)
      (length-above (get_or y w (pos 0)) x) in let e = above_same
      (get_or y w (pos 0)) in omega (arith, ints, z, e)) in
      let z = none_short h y (rw kl falling) total_same holds (back i y) (length-back i y) in
      let n : size (back i y) ≡ length y - i = omega (arith, size-back i y le) in
      let e = ap h n in
      let t = sum_over-back i y le in
      omega (arith, ints, z, e, t)

  -- a 0 that none follows stands where the entries rise
  rises : (i : ℕ) → 0 < i → i < length y → slack_from h y i ≡ pos 0
      → (slack_from h y (i + 1) ≡ pos 0 → ⊥) → get_or y (i - 1) (pos 0) <ℤ get_or y i (pos 0)
  rises i some lt tight more = by_lt_z (get_or y (i - 1) (pos 0)) (get_or y i (pos 0))
      (λ less. less) (λ fine.
      let c : ℕ = length y - (i + 1) in
      let n0 : length y - (i - 1) ≡ suc (suc c) = omega (arith, some, lt) in
      let n1 : length y - i ≡ suc c = omega (arith, some, lt) in
      let f = falling.falls c (omega (arith, some, lt, kl)) in
      let e0 = ap h n0 in
      let e1 = ap h n1 in
      let d0 = total_of-drop y (i - 1) (omega (arith, some, lt)) in
      let next : i - 1 + 1 ≡ i = omega (arith, some) in
      let dn = ap (λ j. total_of (drop j y)) next in
      let d1 = total_of-drop y i lt in
      let before = low_from (i - 1) (omega (arith, lt)) in
      let after = low_from (i + 1) (omega (arith, lt)) in
      absurd (by_lt_z (pos 0) (slack_from h y (i + 1))
      (λ pos_after. omega (arith, ints, f, e0, e1, d0, dn, d1, before, pos_after, tight, fine))
      (λ none. more (omega (arith, ints, none, after)))))

  -- ---- the places above a number

  cut_slack : (bar : ℤ) (n : ℕ) → IsCut bar y n → slack h x (above bar x) ≡ slack_from h y n
  cut_slack bar n cut =
      let r = cut_counts bar y n cut.in_range (λ i lt. cut.low i (pos 0) (omega arith) lt)
      (λ i le lt. cut.high i (pos 0) le lt) in
      let m : size (above bar y) ≡ length y - n = omega (arith, r.0) in
      let e = ap h m in
      let s = above_same bar in
      omega (arith, ints, r.1, e, s)

  -- an entry that is at most the bar stands before the cut
  before_cut : (bar : ℤ) (n : ℕ) → IsCut bar y n → (p : ℕ) → p < length y
      → get_or y p (pos 0) ≤ℤ bar → p < n
  before_cut bar n cut p kp le =
      ⊎_elim (λ lt. lt)
      (λ ge. (let m = cut.high p (pos 0) ge kp in absurd (omega (arith, ints, m, le))))
      (cases_lt p n)

  -- and one that is more does not
  past_cut : (bar : ℤ) (n : ℕ) → IsCut bar y n → (p : ℕ) → bar <ℤ get_or y p (pos 0) → n ≤ p
  past_cut bar n cut p more = ⊎_elim
      (λ lt. (let m = cut.low p (pos 0) (omega arith) lt in absurd (omega (arith, ints, m, more))))
      (λ ge. ge) (cases_lt p n)

  with_above : (bar : ℤ) (u : ℕ) → u < length x → bar <ℤ get_or x u (pos 0)
      → slack h x (above_with bar x u) ≡ slack h x (above bar x)
  with_above bar u ku more =
      let share = same_put (size (above bar x)) (sum_over (above bar x) x) x (above bar x)
      (record { places = length-above bar x; counts = refl; sums = refl }) u ku true
      (is_above bar x u ku more) in
      let e = ap h share.counts in
      let t = share.sums in
      omega (arith, ints, e, t)

  -- ---- u's own entry

  module _ (u : ℕ) (ku : u < length x) (n : ℕ) (cut : IsCut (get_or x u (pos 0)) y n) where
    pub own_some : 0 < n
    own_some =
        let (p, kp, is) = found x y same u ku in
        let lt = before_cut (get_or x u (pos 0)) n cut p kp (omega (arith, ints, is)) in
        omega (arith, lt)

    own_last : get_or y (n - 1) (pos 0) ≡ get_or x u (pos 0)
    own_last =
        let some = own_some in
        let in_range = cut.in_range in
        let (p, kp, is) = found x y same u ku in
        let lt = before_cut (get_or x u (pos 0)) n cut p kp (omega (arith, ints, is)) in
        let m = up p (n - 1) (pos 0) (omega (arith, lt)) (omega (arith, some, in_range)) in
        let l = cut.low (n - 1) (pos 0) (omega arith) (omega (arith, some)) in
        omega (arith, ints, is, m, l)

    own_slack : slack h x (above_with (get_or x u (pos 0)) x u) ≡ slack_from h y (n - 1)
    own_slack =
        let bar : ℤ = get_or x u (pos 0) in
        let some = own_some in
        let in_range = cut.in_range in
        let share = in_share (size (above bar x)) (sum_over (above bar x) x) x (above bar x)
        (record { places = length-above bar x; counts = refl; sums = refl }) u ku
        (is_not_above bar x u ku (omega (arith, ints))) in
        let r = cut_counts bar y n cut.in_range (λ i lt. cut.low i (pos 0) (omega arith) lt)
        (λ i le lt. cut.high i (pos 0) le lt) in
        let counts = size-permuted bar x y same in
        let sums = sum-permuted bar x y same in
        let sc = share.counts in
        let st = share.sums in
        let m : size (above_with bar x u) ≡ length
        y - (n - 1) = omega (arith, r.0, counts, sc, some, in_range) in
        let e = ap h m in
        let d = total_of-drop y (n - 1) (omega (arith, some, in_range)) in
        let next : n - 1 + 1 ≡ n = omega (arith, some) in
        let dn = ap (λ j. total_of (drop j y)) next in
        let l = own_last in
        omega (arith, ints, e, d, dn, l, r.1, sums, st)

    -- u and what has more than u leave nothing
    pub own_bar : slack_from h y (n - 1) ≡ pos 0 → IsBar h x u (Some (get_or x u (pos 0)))
    own_bar tight a = (
      (λ over w b. let le = b.below in omega (arith, ints, over, le)),
      (λ all. all u (record {
        in_range = ku;
        below = omega (arith, ints);
        tight = own_slack ∙ tight;
      })),
    )

    module _ (loose : slack_from h y (n - 1) ≡ pos 0 → ⊥) where
      -- what blocks u is a 0 before u's own
      blocks_tight : (w : ℕ) → Blocks h x u w → (m : ℕ) × (0 < m) × (m < n - 1)
          × (slack_from h y m ≡ pos 0) × IsCut (get_or x w (pos 0)) y m
      blocks_tight w b =
          let bar : ℤ = get_or x w (pos 0) in
          let (m, cut_w) = cut_at bar y up in
          let less : bar <ℤ get_or x u (pos 0) = by_lt_z bar (get_or x u (pos 0)) (λ less. less)
          (λ more.
          let le = b.below in
          let e : bar ≡ get_or x u (pos 0) = omega (arith, ints, more, le) in
          absurd (loose (sym own_slack
          ∙ (ap (λ z. slack h x (above_with z x u)) (sym e) ∙ b.tight)))) in
          let tight : slack_from h y m ≡ pos 0 = sym (cut_slack bar m cut_w)
          ∙ (sym (with_above bar u ku less) ∙ b.tight) in
          let (p, kp, is) = found x y same w b.in_range in
          let some = before_cut bar m cut_w p kp (omega (arith, ints, is)) in
          let last = own_last in
          let far = past_cut bar m cut_w (n - 1) (omega (arith, ints, last, less)) in
          let ne : m ≡ n - 1 → ⊥ = λ e. loose (ap (λ j. slack_from h y j) (sym e) ∙ tight) in (
            m,
            omega (arith, some),
            ⊎_elim (λ e. absurd (ne e)) (λ d. omega (arith, far, d))
                (cases_eq m (n - 1)),
            tight,
            cut_w,
          )

      pub none_bar : NoneTight h y (n - 1) → IsBar h x u None
      none_bar none a = (
        (λ over w b. let (m, some, lt, tight, cut_w) = blocks_tight w
            b in absurd (none m some lt tight)),
        (λ all. tt),
      )

      module _ (i : ℕ) (is : IsLastTight h y (n - 1) i) where
        later_loose : slack_from h y (i + 1) ≡ pos 0 → ⊥
        later_loose e = ⊎_elim
            (λ own. loose (ap (λ j. slack_from h y j) (sym own) ∙ e))
            (λ other. is.last (i + 1) (omega arith) (let b = is.below in omega (arith, b, other)) e)
            (cases_eq (i + 1) (n - 1))

        rise : get_or y (i - 1) (pos 0) <ℤ get_or y i (pos 0)
        rise =
            let b = is.below in
            let r = cut.in_range in
            rises i is.some (omega (arith, b, r)) is.tight later_loose

        under_own : get_or y (i - 1) (pos 0) <ℤ get_or x u (pos 0)
        under_own =
            let b = is.below in
            let r = cut.in_range in
            let m = up i (n - 1) (pos 0) (omega (arith, b)) (omega (arith, b, r)) in
            let l = own_last in
            let k = rise in
            omega (arith, ints, m, l, k)

        cut_here : IsCut (get_or y (i - 1) (pos 0)) y i
        cut_here = record {
          in_range = (let b = is.below in let r = cut.in_range in omega (
            arith,
            b,
            r,
          ));
          low = lows;
          high = highs;
        } where
          lows : (k : ℕ) (d : ℤ) → 0 ≤ k → k < i → get_or y k d ≤ℤ get_or y (i - 1) (pos 0)
          lows k d le lt =
              let b = is.below in
              let r = cut.in_range in
              let m = up k (i - 1) (pos 0) (omega (arith, lt)) (omega (arith, b, r)) in
              let e = get_or_default y k d (pos 0) (omega (arith, lt, b, r)) in
              omega (arith, ints, m, e)

          highs : (k : ℕ) (d : ℤ) → i ≤ k → k < length y → get_or y (i - 1) (pos 0) <ℤ get_or y k d
          highs k d le lt =
              let m = up i k (pos 0) le lt in
              let e = get_or_default y k d (pos 0) lt in
              let s = rise in
              omega (arith, ints, m, e, s)

        pub tight_bar : IsBar h x u (Some (get_or y (i - 1) (pos 0)))
        tight_bar a = (to, from) where
          to : get_or y (i - 1) (pos 0) <ℤ a → (w : ℕ) → Blocks h x u w → get_or x w (pos 0) <ℤ a
          to over w b =
              let (m, some, lt, tight, cut_w) = blocks_tight w b in
              let (p, kp, e) = found x y same w b.in_range in
              let pm = before_cut (get_or x w (pos 0)) m cut_w p kp (omega (arith, ints, e)) in
              let mi : m ≤ i = ⊎_elim (λ far. absurd (is.last m far lt tight)) (λ fine. fine)
              (cases_lt i m) in
              let under = is.below in
              let r = cut.in_range in
              let s = up p (i - 1) (pos 0) (omega (arith, pm, mi)) (omega (arith, under, r)) in
              omega (arith, ints, s, e, over)

          from : ((w : ℕ) → Blocks h x u w → get_or x w (pos 0) <ℤ a)
              → get_or y (i - 1) (pos 0) <ℤ a
          from all =
              let under = is.below in
              let r = cut.in_range in
              let (w, kw, e) = found y x (IsPermutation-sym x y same) (i - 1)
              (omega (arith, under, r)) in
              let less = under_own in
              let t : slack h x (above_with (get_or x w (pos 0)) x u) ≡ pos
              0 = ap (λ z. slack h x (above_with z x u)) e
              ∙ (with_above (get_or y (i - 1) (pos 0)) u ku less
              ∙ (cut_slack (get_or y (i - 1) (pos 0)) i cut_here ∙ is.tight)) in
              let b = all w (record {
                in_range = kw;
                below = omega (arith, ints, e, less);
                tight = t;
              }) in
              omega (arith, ints, b, e)
