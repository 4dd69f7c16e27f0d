-- Bases of a weighted rank of a uniform matroid, and the exchanges at them.
use Rattle.std.proofs.Common.{◌≡◌, ◌≢◌, ◌↔◌, ℕ, suc, ◌<◌, ◌≤◌, Bool, true, false, List, [], ◌∷◌, length, get_or, set, ℤ, pos, ◌+ℤ◌, ◌-ℤ◌, ◌*ℤ◌, ◌≤ℤ◌, ◌<ℤ◌, Some, refl, sym, ap, ◌∙◌, arith, length-set}
use Rattle.std.proofs.Math.IntN.{*ℤ-zero}
use Rattle.std.proofs.lemmas.Int.{ints, clamps, by_lt_z}
use Rattle.std.specs.List.{All}
use Rattle.std.proofs.lemmas.List.{get_or_default, length-replicate, get_or-replicate}
use Rattle.std.proofs.lemmas.List.Elements.{All-get_or}
use Rattle.sfm_spec.specs.Bounds.{total_of}
use Rattle.sfm_spec.specs.Sets.{Has, empty_set, whole_set, size, sum_over, IsWithin}
use Rattle.sfm_spec.specs.Terms.{times, IsBase, IsCapacity, HasRoom, exchanged}
use Rattle.sfm_spec.specs.Kinds.{uniform_value}
use Rattle.sfm_spec.proofs.Lattice.{none_in_empty}
use Rattle.sfm_spec.proofs.MoveOrder.{exchanged-first, exchanged-second}
use Rattle.sfm_spec.proofs.Where.{size-cons}
use Rattle.sfm_spec.proofs.Scaled.{times-mono, times-add, times-assoc}
use Rattle.sfm_spec.proofs.Sets.{Has-whole}
use Rattle.sfm_spec.proofs.Sizes.{size-whole, size-empty, size_below_length, weight-empty}
use Rattle.sfm_spec.proofs.Sums.{length-exchanged}
use Rattle.sfm_spec.proofs.Walks.{has_below}
use Rattle.sfm_law.proofs.Places.{by_exchange, whole-exchanged}
use Rattle.sfm_law.proofs.Monotone.{AreCounts, sum_over-mono, sum_over-without, without}
use Rattle.sfm_law.proofs.Totals.{total_of-whole}
use Rattle.sfm_law.specs.Room.{IsReach}
use Rattle.sfm_concave.specs.Counts.{size-in, sum_over-in}
use Rattle.sfm_concave.specs.UniformLaws.{rank_of, IsUniformRoom}

-- what a base is: entries from 0 to q·w, and q times the whole value in all
pub record IsUniformBase (q w cap : ℤ) (x : List ℤ) : Type 0 where
  pub counts : AreCounts x
  pub capped : (e : ℕ) → e < length x → get_or x e (pos 0) ≤ℤ (q *ℤ w)
  pub sum : sum_over (whole_set (length x)) x ≡ (q *ℤ (w *ℤ rank_of cap (length x)))

-- entries of at most m have at most m for each place
sum_over-capped : (m : ℤ) (s : List Bool) (x : List ℤ) → pos 0 ≤ℤ m
    → ((e : ℕ) → e < length x → get_or x e (pos 0) ≤ℤ m) → sum_over s x ≤ℤ (m *ℤ pos (size s))
sum_over-capped m [] x low small = let z = *ℤ-zero m in omega (arith, ints, z)
sum_over-capped m (b ∷ s) [] low small =
    let z = *ℤ-zero m in
    let up = times-mono m (pos 0) (pos (size (b ∷ s))) low (omega (arith, ints)) in
    omega (arith, ints, z, up)
sum_over-capped m (true ∷ s) (y ∷ x) low small =
    let r = sum_over-capped m s x low (λ e h. small (suc e) (omega arith)) in
    let c = size-cons true s in
    let one : pos (size (true ∷ s)) ≡ (pos (size s) +ℤ pos 1) = omega (arith, ints, c) in
    let p = ap (λ a. m *ℤ a) one ∙ times-add m (pos (size s)) (pos 1) in
    let first = small 0 (omega arith) in
    omega (arith, ints, r, p, first)
sum_over-capped m (false ∷ s) (y ∷ x) low small =
    let r = sum_over-capped m s x low (λ e h. small (suc e) (omega arith)) in
    let c = size-cons false s in
    let one : pos (size (false ∷ s)) ≡ pos (size s) = omega (arith, ints, c) in
    let p = ap (λ a. m *ℤ a) one in
    omega (arith, ints, r, p)

pub uniform_base : (q w cap : ℤ) (x : List ℤ) → pos 1 ≤ℤ q → pos 0 ≤ℤ w → IsUniformBase q w cap x
    → IsBase (times q (uniform_value w cap)) x
uniform_base q w cap x hq hw h = record { within = within; total = total } where
  valued : List Bool → ℤ
  valued s = q *ℤ (w *ℤ rank_of cap (size s))

  total : times q (uniform_value w cap) (whole_set (length x)) ≡ Some
      (sum_over (whole_set (length x)) x)
  total = ap Some (ap (λ c. q *ℤ (w *ℤ rank_of cap c)) (size-whole (length x)) ∙ sym h.sum)

  inside : (s : List Bool) → length s ≡ length x → IsWithin s (whole_set (length x))
  inside s same e has = let p = has_below s e has in Has-whole (length x) e (omega (arith, p, same))

  within : (s : List Bool) (a : ℤ) → length s ≡ length x → times q (uniform_value w cap) s ≡ Some a
      → sum_over s x ≤ℤ a
  within s a same e = let f : (q *ℤ (w *ℤ rank_of cap (size s))) ≡ a = cc in rw (← f)
      (by_lt_z cap (pos (size s)) past under) where
        under : pos (size s) ≤ℤ cap → sum_over s x ≤ℤ (q *ℤ (w *ℤ rank_of cap (size s)))
        under le =
            let low = times-mono q (pos 0) w (omega (arith, ints)) hw in
            let z = *ℤ-zero q in
            let c = sum_over-capped (q *ℤ w) s x (omega (arith, ints, low, z)) h.capped in
            let r : rank_of cap (size s) ≡ pos (size s) = omega (arith, ints, clamps, le) in
            let p = ap (λ a. q *ℤ (w *ℤ a)) r in
            let t = times-assoc q w (pos (size s)) in
            omega (arith, ints, c, p, t)

        past : cap <ℤ pos (size s) → sum_over s x ≤ℤ (q *ℤ (w *ℤ rank_of cap (size s)))
        past lt =
            let few = size_below_length s in
            let r : rank_of cap (size s) ≡ rank_of cap
            (length x) = omega (arith, ints, clamps, lt, few, same) in
            let p = ap (λ a. q *ℤ (w *ℤ a)) r in
            let m = sum_over-mono s (whole_set (length x)) x h.counts
            (same ∙ sym (length-replicate (length x) true)) (inside s same) in
            let t = h.sum in
            omega (arith, ints, p, m, t)

pub uniform_base_back : (q w cap : ℤ) (x : List ℤ) → pos 1 ≤ℤ q → pos 0 ≤ℤ w
    → IsBase (times q (uniform_value w cap)) x → IsUniformBase q w cap x
uniform_base_back q w cap x hq hw base =
    record { counts = counts; capped = capped; sum = sum } where
      grows : (c d : ℕ) → c ≤ d → (q *ℤ (w *ℤ rank_of cap c)) ≤ℤ (q *ℤ (w *ℤ rank_of cap d))
      grows c d le = times-mono q (w *ℤ rank_of cap c) (w *ℤ rank_of cap d) (omega (arith, ints))
          (times-mono w (rank_of cap c) (rank_of cap d) hw (omega (arith, ints, clamps, le)))

      sum : sum_over (whole_set (length x)) x ≡ (q *ℤ (w *ℤ rank_of cap (length x)))
      sum =
          let f : (q *ℤ (w *ℤ rank_of cap (size (whole_set (length x))))) ≡ sum_over
          (whole_set (length x)) x = (let e = base.total in cc) in
          sym f ∙ ap (λ c. q *ℤ (w *ℤ rank_of cap c)) (size-whole (length x))

      counts : AreCounts x
      counts e lt =
          let s : List Bool = without (length x) e in
          let len : length s ≡ length x = length-set (whole_set (length x)) e false
          ∙ length-replicate (length x) true in
          let rest = base.within s (q *ℤ (w *ℤ rank_of cap (size s))) len refl in
          let few = size_below_length s in
          let high = grows (size s) (length x) (omega (arith, few, len)) in
          let all = sum in
          let parts = sum_over-without (length x) e x refl lt in
          omega (arith, ints, rest, high, all, parts)

      capped : (e : ℕ) → e < length x → get_or x e (pos 0) ≤ℤ (q *ℤ w)
      capped e lt =
          let none : List Bool = empty_set (length x) in
          let s : List Bool = set none e true in
          let kn : length none ≡ length x = length-replicate (length x) false in
          let len : length s ≡ length x = length-set none e true ∙ kn in
          let out : get_or none e false ≡ false = get_or-replicate (length x) e false false lt in
          let one = size-in none e (omega (arith, kn)) out in
          let n = size-empty (length x) in
          let few : size s ≤ 1 = omega (arith, one, n) in
          let all = base.within s (q *ℤ (w *ℤ rank_of cap (size s))) len refl in
          let t = sum_over-in none e x (omega (arith, kn)) kn out in
          let z = weight-empty (length x) x in
          let up = times-mono w (rank_of cap (size s)) (pos 1) hw
          (omega (arith, ints, clamps, few)) in
          let high = times-mono q (w *ℤ rank_of cap (size s)) w (omega (arith, ints))
          (omega (arith, ints, up)) in
          omega (arith, ints, all, t, z, high)

module _ (q w cap : ℤ) (hq : pos 1 ≤ℤ q) (hw : pos 0 ≤ℤ w) (x : List ℤ)
    (base : IsBase (times q (uniform_value w cap)) x) (u v : ℕ) (ku : u < length x)
    (kv : v < length x) (ne : u ≢ v) where
  is_base : IsUniformBase q w cap x
  is_base = uniform_base_back q w cap x hq hw base

  moved_base : (a : ℤ) → pos 0 ≤ℤ a → a ≤ℤ get_or x v (pos 0)
      → a ≤ℤ ((q *ℤ w) -ℤ get_or x u (pos 0))
      → IsBase (times q (uniform_value w cap)) (exchanged x u v a)
  moved_base a low high high' =
      let len = length-exchanged x u v a in
      uniform_base q w cap (exchanged x u v a) hq hw (record {
        counts = λ e lt. each (λ y. pos 0 ≤ℤ y)
            (let c = is_base.counts u ku in omega (arith, ints, c, low)) (omega (arith, ints, high))
            is_base.counts e (omega (arith, len, lt));
        capped = λ e lt. each (λ y. y ≤ℤ (q *ℤ w)) (omega (arith, ints, high'))
            (let c = is_base.capped v kv in omega (arith, ints, c, low)) is_base.capped e
            (omega (arith, len, lt));
        sum = sum;
      }) where
        each : (P : ℤ → Type 0) → P (get_or x u (pos 0) +ℤ a) → P (get_or x v (pos 0) -ℤ a)
            → ((e : ℕ) → e < length x → P (get_or x e (pos 0))) → (e : ℕ) → e < length x
            → P (get_or (exchanged x u v a) e (pos 0))
        each P from onto else = by_exchange x u v a ku kv ne (λ e y. e < length x → P y) (λ l. from)
            (λ l. onto) (λ e nu nv. else e)

        sum : sum_over (whole_set (length (exchanged x u v a)))
            (exchanged x u v a) ≡ (q *ℤ (w *ℤ rank_of cap (length (exchanged x u v a))))
        sum = whole-exchanged x u v a ku kv ne ∙ rw (length-exchanged x u v a) is_base.sum

  at_most : (b : ℤ) → IsBase (times q (uniform_value w cap)) (exchanged x u v b)
      → (b ≤ℤ get_or x v (pos 0)) × (b ≤ℤ ((q *ℤ w) -ℤ get_or x u (pos 0)))
  at_most b moved =
      let len = length-exchanged x u v b in
      let h = uniform_base_back q w cap (exchanged x u v b) hq hw moved in
      let c = h.counts v (omega (arith, len)) in
      let d = h.capped u (omega (arith, len)) in
      let e = exchanged-second x u v b kv in
      let f = exchanged-first x u v b ku ne in
      (omega (arith, ints, c, e), omega (arith, ints, d, f))

  pub uniform-capacity : (a : ℤ) → IsUniformRoom q w x u v a
      → IsCapacity (times q (uniform_value w cap)) x u v a
  uniform-capacity a is =
      let c = is_base.counts v kv in
      let d = is_base.capped u ku in
      record {
        reached = moved_base a (omega (arith, ints, clamps, is, c, d))
            (omega (arith, ints, clamps, is)) (omega (arith, ints, clamps, is));
        greatest = λ b moved. (let m = at_most b
            moved in omega (arith, ints, clamps, is, m.0, m.1));
      }

  pub uniform-room : HasRoom (times q (uniform_value w cap)) x u v
      ↔ ((get_or x u (pos 0) <ℤ (q *ℤ w)) × (pos 1 ≤ℤ get_or x v (pos 0)))
  uniform-room = (
    (λ (a, some, moved). let m = at_most a
        moved in (omega (arith, ints, m.1, some), omega (arith, ints, m.0, some))),
    (λ (lacks, some). (
      pos 1,
      omega (arith, ints),
      moved_base (pos 1) (omega (arith, ints)) some (omega (arith, ints, lacks)),
    )),
  )

pub uniform-reach : (q w cap : ℤ) → pos 1 ≤ℤ q → pos 0 ≤ℤ w → (x : List ℤ)
    → IsBase (times q (uniform_value w cap)) x → (u : ℕ) → u < length x → (to : List Bool)
    → length to ≡ length x
    → ((v : ℕ) → v < length x → Has to v
    ↔ ((v ≢ u) × (get_or x u (pos 0) <ℤ (q *ℤ w)) × (pos 1 ≤ℤ get_or x v (pos 0))))
    → IsReach (times q (uniform_value w cap)) x u to
uniform-reach q w cap hq hw x base u ku to same is = record {
  places = same;
  exact = λ v kv. (
    (λ h. let i = (is v kv).0 h in (
      i.0,
      (uniform-room q w cap hq hw x base u v ku kv (λ e. i.0 (sym e))).1 (i.1, i.2),
    )),
    (λ (ne, room). let r = (uniform-room q w cap hq hw x base u v ku kv (λ e. ne (sym e))).0
        room in (is v kv).1 (ne, r.0, r.1)),
  );
}

-- what the code tests, one after the other
pub uniform_tested : (q w cap : ℤ) (x : List ℤ) → pos 1 ≤ℤ q → pos 0 ≤ℤ w
    → IsBase (times q (uniform_value w cap)) x
    ↔ (All (λ a. (pos 0 ≤ℤ a) × (a ≤ℤ (q *ℤ w))) x
    × (total_of x ≡ (q *ℤ (w *ℤ rank_of cap (length x)))))
uniform_tested q w cap x hq hw = (
  (λ b. let h = uniform_base_back q w cap x hq hw
      b in (
        (λ e d lt. rw (get_or_default x e d (pos 0) lt) (h.counts e lt, h.capped e lt)),
        total_of-whole x ∙ h.sum,
      )),
  (λ (within, sum). uniform_base q w cap x hq hw (record {
    counts = λ e lt. (All-get_or (λ a. (pos 0 ≤ℤ a) × (a ≤ℤ (q *ℤ w))) x e (pos 0) lt within).0;
    capped = λ e lt. (All-get_or (λ a. (pos 0 ≤ℤ a) × (a ≤ℤ (q *ℤ w))) x e (pos 0) lt within).1;
    sum = sym (total_of-whole x) ∙ sum;
  })),
)

-- u lacks nothing
pub uniform-reach_none : (q w cap : ℤ) → pos 1 ≤ℤ q → pos 0 ≤ℤ w → (x : List ℤ)
    → IsBase (times q (uniform_value w cap)) x → (u : ℕ) → u < length x
    → (get_or x u (pos 0) <ℤ (q *ℤ w) → ⊥)
    → IsReach (times q (uniform_value w cap)) x u (empty_set (length x))
uniform-reach_none q w cap hq hw x base u ku never =
    uniform-reach q w cap hq hw x base u ku (empty_set (length x))
    (length-replicate (length x) false) (λ v kv. (
      (λ h. absurd (none_in_empty (length x) v h)),
      (λ (ne, less, some). absurd (never less)),
    ))

-- u lacks something: the others above 0
pub uniform-reach_over : (q w cap : ℤ) → pos 1 ≤ℤ q → pos 0 ≤ℤ w → (x : List ℤ)
    → IsBase (times q (uniform_value w cap)) x → (u : ℕ) → u < length x
    → get_or x u (pos 0) <ℤ (q *ℤ w) → (to : List Bool) → length to ≡ length x
    → ((v : ℕ) → v < length x → Has to v ↔ ((v ≢ u) × (pos 0 <ℤ get_or x v (pos 0))))
    → IsReach (times q (uniform_value w cap)) x u to
uniform-reach_over q w cap hq hw x base u ku lacks to same over =
    uniform-reach q w cap hq hw x base u ku to same (λ v kv. (
      (λ h. let o = (over v kv).0 h in (o.0, lacks, (let more = o.1 in omega (arith, ints, more)))),
      (λ (ne, less, some). (over v kv).1 (ne, omega (arith, ints, some))),
    ))
