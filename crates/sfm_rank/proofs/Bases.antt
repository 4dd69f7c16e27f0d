-- Bases of a number times a rank, and how much can be exchanged at one, where what is within the
-- rank is told by tests of its entries: no entry is above a number, and each test is met. The tests
-- are left open here. Textbook: Fujishige, Submodular Functions and Optimization, section 4
-- (exchange capacities).
use Rattle.std.proofs.Common.{◌≡◌, ◌≢◌, ◌⊎◌, ◌↔◌, IsTrue, ℕ, suc, ◌<◌, Bool, true, false, List, [], ◌∷◌, length, get_or, set, ℤ, pos, ◌+ℤ◌, ◌-ℤ◌, ◌*ℤ◌, ◌≤ℤ◌, ◌<ℤ◌, Some, refl, sym, ap, ◌∙◌, arith, ⊎_elim, length-set, get_or-set_other, get_or-set_same}
use Rattle.std.proofs.lemmas.Bool.{both_ways, false≢true}
use Rattle.std.proofs.lemmas.Int.{ints}
use Rattle.std.proofs.lemmas.List.{get_or_default, length-replicate}
use Rattle.std.specs.List.{All}
use Rattle.sfm_spec.specs.Bounds.{total_of}
use Rattle.sfm_spec.specs.Sets.{Has, whole_set, sum_over}
use Rattle.sfm_spec.specs.Terms.{times, IsBase, IsCapacity, HasRoom, exchanged}
use Rattle.sfm_law.specs.Room.{IsCapacityUpto}
use Rattle.sfm_spec.proofs.Scaled.{times-mono, times-assoc}
use Rattle.sfm_spec.proofs.Search.{within_whole}
use Rattle.sfm_spec.proofs.Sums.{share, sum_over-set, length-exchanged, sum_over-exchanged}
use Rattle.sfm_spec.proofs.Sets.{Has-whole}
use Rattle.sfm_spec.proofs.Exchange.{base_between}
use Rattle.sfm_spec.proofs.MoveOrder.{exchanged-first, exchanged-second, exchanged-other}
use Rattle.sfm_law.proofs.Listing.{own_listing, base_from_leaves}
use Rattle.sfm_law.proofs.Monotone.{AreCounts, without, sum_over-without}
use Rattle.sfm_law.proofs.Places.{by_places, by_exchange}
use Rattle.sfm_law.proofs.Totals.{total_of-whole}
use Rattle.sfm_rank.specs.Matroids.{IsMatroid, AreRanks}
use Rattle.sfm_rank.specs.Terms.{rank_value}
use Rattle.sfm_rank.proofs.Members.{single, length-single, size-single, sum-single}
use Rattle.sfm_rank.proofs.Ranks.{rank-mono, rank-size}

pub sum_over-below : (s : List Bool) (x y : List ℤ) → length x ≡ length y
    → ((e : ℕ) → e < length x → get_or x e (pos 0) ≤ℤ get_or y e (pos 0))
    → sum_over s x ≤ℤ sum_over s y
sum_over-below [] x y same le = omega (arith, ints)
sum_over-below (b ∷ s) [] [] same le = omega (arith, ints)
sum_over-below (b ∷ s) [] (d ∷ y) same le = absurd (omega (arith, same))
sum_over-below (b ∷ s) (c ∷ x) [] same le = absurd (omega (arith, same))
sum_over-below (b ∷ s) (c ∷ x) (d ∷ y) same le =
    at b (le 0 (omega arith)) (sum_over-below s x y (omega arith)
    (λ e lt. le (suc e) (omega arith))) where
      at : (b : Bool) → c ≤ℤ d → sum_over s x ≤ℤ sum_over s y
          → sum_over (b ∷ s) (c ∷ x) ≤ℤ sum_over (b ∷ s) (d ∷ y)
      at true h r = omega (arith, ints, h, r)
      at false h r = omega (arith, ints, r)

-- no entry is above the factor of what is within the ranks
pub capped_by_rank : (k : ℕ) (IsIndependent : List Bool → Type 0) (rank : List Bool → ℕ)
    (matroid : IsMatroid k IsIndependent) (ranks : AreRanks k IsIndependent rank) (c : ℤ)
    → pos 0 ≤ℤ c → (x : List ℤ) → length x ≡ k
    → ((s : List Bool) → length s ≡ k → sum_over s x ≤ℤ (c *ℤ pos (rank s))) → (e : ℕ) → e < k
    → get_or x e (pos 0) ≤ℤ c
capped_by_rank k IsIndependent rank matroid ranks c low x sized within e lt =
    let h = within (single k e) (length-single k e) in
    let r = rank-size k IsIndependent rank matroid ranks (single k e) (length-single k e) in
    let z = size-single k e lt in
    let up = times-mono c (pos (rank (single k e))) (pos 1) low (omega (arith, ints, r, z)) in
    let one = once c in
    let sum = sum-single k e x sized lt in
    omega (arith, ints, h, up, one, sum) where
      once : (c : ℤ) → (c *ℤ pos 1) ≡ c
      once c = omega (arith, ints)

-- entries from 0 to a cap that add up to a whole, where the tests are met
pub record IsTold (cap whole : ℤ) (AreMet : Type 0) (x : List ℤ) : Type 0 where
  pub within : All (λ a. (pos 0 ≤ℤ a) × (a ≤ℤ cap)) x
  pub sum : total_of x ≡ whole
  pub met : AreMet

-- a test that goes through this: of the entries, and where it is passed of the rest
module _ (IsIt AreMet : Type 0) (cap whole : ℤ) (x : List ℤ)
    (told : IsIt → IsTold cap whole AreMet x) (back : IsTold cap whole AreMet x → IsIt)
    (even : Bool)
    (is : IsTrue even ↔ (All (λ a. (pos 0 ≤ℤ a) × (a ≤ℤ cap)) x × (total_of x ≡ whole))) where
  pub told_uneven : even ≡ false → IsTrue false ↔ IsIt
  told_uneven fails = (
    (λ t. absurd (false≢true t)),
    (λ h. absurd (both_ways even fails (is.1 ((told h).within, (told h).sum)))),
  )

  pub told_by : even ≡ true → (met : Bool) → IsTrue met ↔ AreMet → IsTrue met ↔ IsIt
  told_by holds met test = (
    (λ t. back (record { within = (is.0 holds).0; sum = (is.0 holds).1; met = test.0 t })),
    (λ h. test.1 (told h).met),
  )

module _ (k n : ℕ) (q w : ℤ) (low : pos 0 ≤ℤ (q *ℤ w)) (IsIndependent : List Bool → Type 0)
    (rank : List Bool → ℕ) (matroid : IsMatroid k IsIndependent)
    (ranks : AreRanks k IsIndependent rank) (Meets : ℕ → List ℤ → Type 0) where
  abbrev pub IsWithinRanks : List ℤ → Type 0
  IsWithinRanks x = (s : List Bool) → length s ≡ k → sum_over s x ≤ℤ ((q *ℤ w) *ℤ pos (rank s))

  -- no entry is above q·w, and each of n tests is met
  pub record PassesTests (x : List ℤ) : Type 0 where
    pub capped : (e : ℕ) → e < k → get_or x e (pos 0) ≤ℤ (q *ℤ w)
    pub met : (a : ℕ) → a < n → Meets a x

  -- the tests tell what is within the ranks, and stay met where entries fall
  pub record AreTests : Type 0 where
    pub needed : (x : List ℤ) → length x ≡ k → AreCounts x → IsWithinRanks x → PassesTests x
    pub enough : (x : List ℤ) → length x ≡ k → AreCounts x → PassesTests x → IsWithinRanks x
    pub smaller : (a : ℕ) (x y : List ℤ) → a < n → length x ≡ k → length y ≡ k → AreCounts x
        → ((e : ℕ) → e < k → get_or x e (pos 0) ≤ℤ get_or y e (pos 0)) → Meets a y → Meets a x

  value-is : (s : List Bool) → times q (rank_value w rank) s ≡ Some ((q *ℤ w) *ℤ pos (rank s))
  value-is s = ap Some (sym (times-assoc q w (pos (rank s))))

  pub base_within : (x : List ℤ) → length x ≡ k → IsBase (times q (rank_value w rank)) x
      → IsWithinRanks x
  base_within x sized base s ks = base.within s ((q *ℤ w) *ℤ pos (rank s)) (ks ∙ sym sized)
      (value-is s)

  pub base_total : (x : List ℤ) → length x ≡ k → IsBase (times q (rank_value w rank)) x
      → sum_over (whole_set k) x ≡ ((q *ℤ w) *ℤ pos (rank (whole_set k)))
  base_total x sized base = let t = rw sized at base.total in let e : Some
      ((q *ℤ w) *ℤ pos (rank (whole_set k))) ≡ Some (sum_over (whole_set k) x) =
      sym (value-is (whole_set k)) ∙ t in sym (some_same e) where
        some_same : {a b : ℤ} → Some a ≡ Some b → a ≡ b
        some_same h = cc

  pub base_from : (x : List ℤ) → length x ≡ k → IsWithinRanks x
      → sum_over (whole_set k) x ≡ ((q *ℤ w) *ℤ pos (rank (whole_set k)))
      → IsBase (times q (rank_value w rank)) x
  base_from x sized within total = record {
    within = λ s a h e. let f : ((q *ℤ w) *ℤ pos (rank s)) ≡ a = some_same
        (sym (value-is s) ∙ e) in let r = within s (h ∙ sized) in omega (arith, ints, r, f);
    total = rw sized (value-is (whole_set k) ∙ ap Some (sym total));
  } where
    some_same : {a b : ℤ} → Some a ≡ Some b → a ≡ b
    some_same h = cc

  -- no entry of a base is negative
  pub base_counts : (x : List ℤ) → length x ≡ k → IsBase (times q (rank_value w rank)) x
      → AreCounts x
  base_counts x sized base e h =
      let lt : e < k = omega (arith, h, sized) in
      let kw : length (without k e) ≡ k = length-set (whole_set k) e false
      ∙ length-replicate k true in
      let part = base_within x sized base (without k e) kw in
      let all = base_total x sized base in
      let sum = sum_over-without k e x sized lt in
      let r = rank-mono k IsIndependent rank matroid ranks (without k e) (whole_set k) kw
      (length-replicate k true) (within_whole k (without k e) kw) in
      let up = times-mono (q *ℤ w) (pos (rank (without k e))) (pos (rank (whole_set k))) low
      (omega (arith, ints, r)) in
      omega (arith, ints, part, all, sum, up)

  module _ (tests : AreTests) where
    -- a base, told by the tests
    pub base_passes : (x : List ℤ) → length x ≡ k → IsBase (times q (rank_value w rank)) x
        → PassesTests x
    base_passes x sized base = tests.needed x sized (base_counts x sized base)
        (base_within x sized base)

    pub passes_base : (x : List ℤ) → length x ≡ k → AreCounts x → PassesTests x
        → sum_over (whole_set k) x ≡ ((q *ℤ w) *ℤ pos (rank (whole_set k)))
        → IsBase (times q (rank_value w rank)) x
    passes_base x sized counts passes total =
        base_from x sized (tests.enough x sized counts passes) total

    -- the same of its entries as the code tells them
    module _ (x : List ℤ) (sized : length x ≡ k) where
      whole-is : total_of x ≡ sum_over (whole_set k) x
      whole-is = total_of-whole x ∙ ap (λ m. sum_over (whole_set m) x) sized

      pub base_told : IsBase (times q (rank_value w rank)) x
          → IsTold (q *ℤ w) (q *ℤ (w *ℤ pos (rank (whole_set k)))) ((a : ℕ) → a < n → Meets a x) x
      base_told base =
          let counts = base_counts x sized base in
          let p = base_passes x sized base in
          record {
            within = λ e d lt. rw (get_or_default x e d (pos 0) lt)
                (counts e lt, p.capped e (omega (arith, lt, sized)));
            sum = whole-is ∙ (base_total x sized base ∙ times-assoc q w (pos (rank (whole_set k))));
            met = p.met;
          }

      pub told_base : IsTold (q *ℤ w) (q *ℤ (w *ℤ pos (rank (whole_set k))))
          ((a : ℕ) → a < n → Meets a x) x → IsBase (times q (rank_value w rank)) x
      told_base told = passes_base x sized (λ e lt. (told.within e (pos 0) lt).0)
          (record {
            capped = λ e lt. (told.within e (pos 0) (omega (arith, lt, sized))).1;
            met = told.met;
          })
          (sym whole-is ∙ (told.sum ∙ sym (times-assoc q w (pos (rank (whole_set k))))))

    module _ (x : List ℤ) (sized : length x ≡ k) (base : IsBase (times q (rank_value w rank)) x)
        (u v : ℕ) (ku : u < k) (kv : v < k) (ne : u ≢ v) where
      -- x with u at r and nothing at v
      abbrev pub raised : ℤ → List ℤ
      raised r = set (set x v (pos 0)) u r

      -- the most at u with which a test is met, with nothing at v
      pub record IsMostAt (a : ℕ) (r : ℤ) : Type 0 where
        pub reached : Meets a (raised r)
        pub greatest : (b : ℤ) → Meets a (raised b) → b ≤ℤ r

      -- the least of a limit, what v has, what u lacks of q·w, and what u lacks of the most of each
      -- test
      pub record IsLeastRoom (limit a : ℤ) : Type 0 where
        pub under_limit : a ≤ℤ limit
        pub under_v : a ≤ℤ get_or x v (pos 0)
        pub under_cap : a ≤ℤ ((q *ℤ w) -ℤ get_or x u (pos 0))
        pub under_most : (t : ℕ) → t < n → (r : ℤ) × Meets t (raised r)
            × (a ≤ℤ (r -ℤ get_or x u (pos 0)))
        pub reached : (a ≡ limit) ⊎ ((a ≡ get_or x v (pos 0))
            ⊎ ((a ≡ ((q *ℤ w) -ℤ get_or x u (pos 0)))
            ⊎ ((t : ℕ) × (t < n) × (r : ℤ) × IsMostAt t r × (a ≡ (r -ℤ get_or x u (pos 0))))))

      pub raised-places : (r : ℤ) → length (raised r) ≡ k
      raised-places r = length-set (set x v (pos 0)) u r ∙ (length-set x v (pos 0) ∙ sized)

      raised-u : (r : ℤ) → get_or (raised r) u (pos 0) ≡ r
      raised-u r = get_or-set_same (set x v (pos 0)) u r (pos 0)
          (let l = length-set x v (pos 0) in omega (arith, l, sized, ku))

      raised-v : (r : ℤ) → get_or (raised r) v (pos 0) ≡ pos 0
      raised-v r = get_or-set_other (set x v (pos 0)) u v r (pos 0) (λ e. ne (sym e))
          ∙ get_or-set_same x v (pos 0) (pos 0) (omega (arith, sized, kv))

      raised-other : (r : ℤ) (e : ℕ) → e ≢ u → e ≢ v
          → get_or (raised r) e (pos 0) ≡ get_or x e (pos 0)
      raised-other r e eu ev = get_or-set_other (set x v (pos 0)) u e r (pos 0) eu
          ∙ get_or-set_other x v e (pos 0) (pos 0) ev

      moved-u : (a : ℤ) → get_or (exchanged x u v a) u (pos 0) ≡ (get_or x u (pos 0) +ℤ a)
      moved-u a = exchanged-first x u v a (omega (arith, sized, ku)) ne

      moved-v : (a : ℤ) → get_or (exchanged x u v a) v (pos 0) ≡ (get_or x v (pos 0) -ℤ a)
      moved-v a = exchanged-second x u v a (omega (arith, sized, kv))

      moved-other : (a : ℤ) (e : ℕ) → e ≢ u → e ≢ v
          → get_or (exchanged x u v a) e (pos 0) ≡ get_or x e (pos 0)
      moved-other a e eu ev = exchanged-other x u v e a eu ev

      pub counts : AreCounts x
      counts = base_counts x sized base

      passes : PassesTests x
      passes = base_passes x sized base

      -- a fact of each entry of x with u at r and nothing at v
      by_place : (r : ℤ) (P : ℕ → ℤ → Type 0) → P u r → P v (pos 0)
          → ((e : ℕ) → e ≢ u → e ≢ v → P e (get_or x e (pos 0))) → (e : ℕ)
          → P e (get_or (raised r) e (pos 0))
      by_place r P atu atv others =
          by_places u v (λ e. P e (get_or (raised r) e (pos 0))) (rw (raised-u r) atu)
          (rw (raised-v r) atv) (λ e eu ev. rw (raised-other r e eu ev) (others e eu ev))

      pub raised-counts : (r : ℤ) → pos 0 ≤ℤ r → AreCounts (raised r)
      raised-counts r hr e h = by_place r (λ e y. e < k → pos 0 ≤ℤ y) (λ l. hr)
          (λ l. omega (arith, ints)) (λ e eu ev l. counts e (omega (arith, l, sized))) e
          (let p = raised-places r in omega (arith, h, p))

      -- what is met with more at u is met with less
      pub lower : (t : ℕ) (r b : ℤ) → t < n → pos 0 ≤ℤ r → r ≤ℤ b → Meets t (raised b)
          → Meets t (raised r)
      lower t r b lt hr le met = tests.smaller t (raised r) (raised b) lt (raised-places r)
          (raised-places b) (raised-counts r hr)
          (λ e h. by_place r (λ e y. y ≤ℤ get_or (raised b) e (pos 0)) (rw (raised-u b) le)
          (rw (raised-v b) (omega (arith, ints)))
          (λ e eu ev. rw (raised-other b e eu ev) (omega (arith, ints))) e) met

      -- a base with u raised by a meets the tests with nothing at v
      met_raised : (t : ℕ) (a : ℤ) → t < n
          → IsBase (times q (rank_value w rank)) (exchanged x u v a)
          → Meets t (raised (get_or x u (pos 0) +ℤ a))
      met_raised t a lt moved =
          let km = length-exchanged x u v a ∙ sized in
          let low' = base_counts (exchanged x u v a) km moved in
          let p = base_passes (exchanged x u v a) km moved in
          let hu = low' u (omega (arith, km, ku)) in
          let hv = low' v (omega (arith, km, kv)) in
          let mu = moved-u a in
          tests.smaller t (raised (get_or x u (pos 0) +ℤ a)) (exchanged x u v a) lt
          (raised-places (get_or x u (pos 0) +ℤ a)) km
          (raised-counts (get_or x u (pos 0) +ℤ a) (omega (arith, ints, hu, mu)))
          (λ e h. by_place (get_or x u (pos 0) +ℤ a)
          (λ e y. y ≤ℤ get_or (exchanged x u v a) e (pos 0)) (omega (arith, ints, mu)) hv
          (λ e eu ev. let m = moved-other a e eu ev in omega (arith, ints, m)) e)
          (p.met t lt)

      -- x itself meets them
      pub met_now : (t : ℕ) → t < n → Meets t (raised (get_or x u (pos 0)))
      met_now t lt = tests.smaller t (raised (get_or x u (pos 0))) x lt
          (raised-places (get_or x u (pos 0))) sized
          (raised-counts (get_or x u (pos 0)) (counts u (omega (arith, sized, ku))))
          (λ e h. by_place (get_or x u (pos 0)) (λ e y. y ≤ℤ get_or x e (pos 0))
          (omega (arith, ints)) (counts v (omega (arith, sized, kv)))
          (λ e eu ev. omega (arith, ints)) e) (passes.met t lt)

      -- and with nothing at u too
      pub met_nothing : (t : ℕ) → t < n → Meets t (raised (pos 0))
      met_nothing t lt = lower t (pos 0) (get_or x u (pos 0)) lt (omega (arith, ints))
          (counts u (omega (arith, sized, ku))) (met_now t lt)

      least-low : (limit a : ℤ) → pos 0 ≤ℤ limit → IsLeastRoom limit a → pos 0 ≤ℤ a
      least-low limit a some least = ⊎_elim
          (λ e. omega (arith, ints, e, some))
          (λ others. ⊎_elim
          (λ e. let h = counts v (omega (arith, sized, kv)) in omega (arith, ints, e, h))
          (λ rest. ⊎_elim
          (λ e. let h = passes.capped u ku in omega (arith, ints, e, h))
          (λ (t, lt, r, most, e). let h = most.greatest (get_or x u (pos 0))
          (met_now t lt) in omega (arith, ints, e, h))
          rest)
          others)
          least.reached

      sum-raised : (s : List Bool) (a : ℤ) → length s ≡ k → Has s u → get_or s v false ≡ false
          → sum_over s (raised (get_or x u (pos 0) +ℤ a)) ≡ (sum_over s x +ℤ a)
      sum-raised s a ks hu ov =
          let lv = length-set x v (pos 0) in
          let first = rw ov at (sum_over-set s x v (pos 0) (ks ∙ sym sized)
          (omega (arith, sized, kv))) in
          let here = get_or-set_other x v u (pos 0) (pos 0) ne in
          let second = rw (hu, here) at
          (sum_over-set s (set x v (pos 0)) u (get_or x u (pos 0) +ℤ a) (ks ∙ sym (lv ∙ sized))
          (omega (arith, lv, sized, ku))) in
          omega (arith, ints, first, second)

      leaves : (limit a : ℤ) → pos 0 ≤ℤ limit → IsLeastRoom limit a → (s : List Bool) → length s ≡ k
          → Has s u → get_or s v false ≡ false → (sum_over s x +ℤ a) ≤ℤ ((q *ℤ w) *ℤ pos (rank s))
      leaves limit a some least s ks hu ov =
          let la = least-low limit a some least in
          let cu = counts u (omega (arith, sized, ku)) in
          let r = get_or x u (pos 0) +ℤ a in
          let under = least.under_cap in
          let pass : PassesTests (raised r) = record {
            capped = λ e h. by_place r (λ e y. e < k → y ≤ℤ (q *ℤ w))
                (λ l. omega (arith, ints, under)) (λ l. low) (λ e eu ev l. passes.capped e l) e h;
            met = λ t lt. let (b, met, le) = least.under_most t lt in lower t r b lt
                (omega (arith, ints, la, cu)) (omega (arith, ints, le)) met;
          } in
          let w' = tests.enough (raised r) (raised-places r)
          (raised-counts r (omega (arith, ints, la, cu))) pass s ks in
          let e = sum-raised s a ks hu ov in
          omega (arith, ints, w', e)

      -- the room of (u, v), up to the limit
      pub least_capacity : (limit a : ℤ) → pos 0 ≤ℤ limit → IsLeastRoom limit a
          → IsCapacityUpto (times q (rank_value w rank)) x u v limit a
      least_capacity limit a some least = record {
        low = least-low limit a some least;
        high = least.under_limit;
        reached = base_from_leaves (times q (rank_value w rank)) k
            (λ s b. (length s ≡ k) × (times q (rank_value w rank) s ≡ Some b))
            ((q *ℤ w) *ℤ pos (rank (whole_set k)))
            (own_listing (times q (rank_value w rank)) k ((q *ℤ w) *ℤ pos (rank (whole_set k)))
            (value-is (whole_set k)))
            x sized base u v ku kv ne a (least-low limit a some least)
            (λ s b h hu ov. let f : ((q *ℤ w) *ℤ pos (rank s)) ≡ b = some_same
            (sym (value-is s) ∙ h.1) in let l = leaves limit a some least s h.0 hu
            ov in omega (arith, ints, l, f));
        greatest = λ b lb moved.
            let km = length-exchanged x u v b ∙ sized in
            let low' = base_counts (exchanged x u v b) km moved in
            let p = base_passes (exchanged x u v b) km moved in
            ⊎_elim
            (λ e. omega (arith, ints, e, lb))
            (λ others. ⊎_elim
            (λ e. let h = low' v (omega (arith, km, kv)) in let mv = moved-v
            b in omega (arith, ints, e, h, mv))
            (λ rest. ⊎_elim
            (λ e. let h = p.capped u ku in let mu = moved-u b in omega (arith, ints, e, h, mu))
            (λ (t, lt, r, most, e). let h = most.greatest (get_or x u (pos 0) +ℤ b)
            (met_raised t b lt moved) in omega (arith, ints, e, h))
            rest)
            others)
            least.reached;
      } where
        some_same : {a b : ℤ} → Some a ≡ Some b → a ≡ b
        some_same h = cc

      -- which is the room, up to what v has
      pub whole_capacity : (a : ℤ) → IsCapacityUpto (times q (rank_value w rank)) x u v
          (get_or x v (pos 0)) a → IsCapacity (times q (rank_value w rank)) x u v a
      whole_capacity a most = record {
        reached = most.reached;
        greatest = λ b moved.
            let km = length-exchanged x u v b ∙ sized in
            let h = base_counts (exchanged x u v b) km moved v (omega (arith, km, kv)) in
            let mv = moved-v b in
            most.greatest b (omega (arith, ints, h, mv)) moved;
      }

      pub own_capacity : (a : ℤ) → IsLeastRoom (get_or x v (pos 0)) a
          → IsCapacity (times q (rank_value w rank)) x u v a
      own_capacity a least = whole_capacity a
          (least_capacity (get_or x v (pos 0)) a (counts v (omega (arith, sized, kv))) least)

      -- ---- what v can give to u

      exchanged-places : (a : ℤ) → length (exchanged x u v a) ≡ k
      exchanged-places a = length-exchanged x u v a ∙ sized

      -- a fact of each entry of x once v gave one to u
      once_given : (P : ℕ → ℤ → Type 0) → P u (get_or x u (pos 0) +ℤ pos 1)
          → P v (get_or x v (pos 0) -ℤ pos 1) → ((e : ℕ) → e ≢ u → e ≢ v → P e (get_or x e (pos 0)))
          → (e : ℕ) → P e (get_or (exchanged x u v (pos 1)) e (pos 0))
      once_given = by_exchange x u v (pos 1) (omega (arith, sized, ku)) (omega (arith, sized, kv))
          ne

      pub given-counts : pos 1 ≤ℤ get_or x v (pos 0) → AreCounts (exchanged x u v (pos 1))
      given-counts has e h = once_given (λ e y. e < k → pos 0 ≤ℤ y)
          (λ l. let c = counts u (omega (arith, sized, ku)) in omega (arith, ints, c))
          (λ l. omega (arith, ints, has)) (λ e eu ev l. counts e (omega (arith, l, sized))) e
          (let p = exchanged-places (pos 1) in omega (arith, h, p))

      -- u has less than q·w, v has something, and each test is met once v gave one to u
      pub record CanGive : Type 0 where
        pub under_cap : get_or x u (pos 0) <ℤ (q *ℤ w)
        pub has : pos 1 ≤ℤ get_or x v (pos 0)
        pub met : (t : ℕ) → t < n → Meets t (exchanged x u v (pos 1))

      pub gives_room : CanGive → HasRoom (times q (rank_value w rank)) x u v
      gives_room give = (
        pos 1,
        omega (arith, ints),
        passes_base (exchanged x u v (pos 1)) (exchanged-places (pos 1)) (given-counts give.has)
            pass total,
      ) where
        pass : PassesTests (exchanged x u v (pos 1))
        pass = record {
          capped = λ e lt. once_given (λ e y. e < k → y ≤ℤ (q *ℤ w))
              (λ l. let c = give.under_cap in omega (arith, ints, c))
              (λ l. let p = passes.capped v l in omega (arith, ints, p))
              (λ e eu ev l. passes.capped e l) e lt;
          met = give.met;
        }

        total : sum_over (whole_set k)
            (exchanged x u v (pos 1)) ≡ ((q *ℤ w) *ℤ pos (rank (whole_set k)))
        total =
            let hu : share (whole_set k) u (pos 1) ≡ pos 1 = rw (Has-whole k u ku) refl in
            let hv : share (whole_set k) v (pos 1) ≡ pos 1 = rw (Has-whole k v kv) refl in
            let e = sum_over-exchanged (whole_set k) x u v (pos 1)
            (length-replicate k true ∙ sym sized) (omega (arith, sized, ku))
            (omega (arith, sized, kv)) ne in
            let t = base_total x sized base in
            omega (arith, ints, hu, hv, e, t)

      pub room_gives : HasRoom (times q (rank_value w rank)) x u v → CanGive
      room_gives (a, one, moved) =
          let lu : u < length x = omega (arith, sized, ku) in
          let lv : v < length x = omega (arith, sized, kv) in
          let next = base_between base lu lv ne (pos 1) a (omega (arith, ints)) one moved in
          let km = exchanged-places (pos 1) in
          let p = base_passes (exchanged x u v (pos 1)) km next in
          let c = base_counts (exchanged x u v (pos 1)) km next v (omega (arith, km, kv)) in
          let h = p.capped u ku in
          let mu = moved-u (pos 1) in
          let mv = moved-v (pos 1) in
          record {
            under_cap = omega (arith, ints, h, mu);
            has = omega (arith, ints, c, mv);
            met = p.met;
          }
