-- The exchanges at a base of a cover: what a place has can be moved away from it.
use Rattle.std.proofs.Common.{◌≡◌, ◌≢◌, ◌↔◌, ℕ, ◌<◌, Bool, List, length, get_or, ℤ, pos, ◌*ℤ◌, ◌≤ℤ◌, ◌<ℤ◌, sym, ◌∙◌, arith}
use Rattle.std.proofs.lemmas.Int.{ints}
use Rattle.sfm_spec.specs.Sets.{Has, whole_set, sum_over}
use Rattle.sfm_spec.specs.Terms.{times, IsBase, IsCapacity, HasRoom, exchanged}
use Rattle.sfm_spec.specs.Kinds.{cover_value}
use Rattle.sfm_spec.proofs.MoveOrder.{exchanged-second}
use Rattle.sfm_spec.proofs.Sums.{length-exchanged}
use Rattle.sfm_law.proofs.Monotone.{AreCounts}
use Rattle.sfm_law.proofs.Places.{by_exchange, whole-exchanged}
use Rattle.sfm_law.specs.Room.{IsReach}
use Rattle.sfm_simple.specs.CoverLaws.{IsCoverBase, cover_base, cover_base_back}

module _ (q w : ℤ) (hq : pos 1 ≤ℤ q) (hw : pos 0 ≤ℤ w) (x : List ℤ)
    (base : IsBase (times q (cover_value w)) x) (u v : ℕ) (ku : u < length x) (kv : v < length x)
    (ne : u ≢ v) where
  is_base : IsCoverBase q w x
  is_base = cover_base_back q w x hq hw (omega arith) base

  moved_base : (a : ℤ) → pos 0 ≤ℤ a → a ≤ℤ get_or x v (pos 0)
      → IsBase (times q (cover_value w)) (exchanged x u v a)
  moved_base a low high =
      let len = length-exchanged x u v a in
      cover_base q w (exchanged x u v a) (omega (arith, len))
      (record { counts = counts; sum = sum }) where
        counts : AreCounts (exchanged x u v a)
        counts e h = by_exchange x u v a ku kv ne (λ e y. e < length x → pos 0 ≤ℤ y)
            (λ l. let c = is_base.counts u ku in omega (arith, ints, low, c))
            (λ l. omega (arith, ints, high))
            (λ e nu nv. is_base.counts e)
            e (let len = length-exchanged x u v a in omega (arith, len, h))

        sum : sum_over (whole_set (length (exchanged x u v a))) (exchanged x u v a) ≡ (q *ℤ w)
        sum = whole-exchanged x u v a ku kv ne ∙ is_base.sum

  at_most : (b : ℤ) → IsBase (times q (cover_value w)) (exchanged x u v b) → b ≤ℤ get_or x v (pos 0)
  at_most b moved =
      let len = length-exchanged x u v b in
      let h = cover_base_back q w (exchanged x u v b) hq hw (omega (arith, len)) moved in
      let c = h.counts v (omega (arith, len)) in
      let e = exchanged-second x u v b kv in
      omega (arith, ints, c, e)

  pub cover-capacity : IsCapacity (times q (cover_value w)) x u v (get_or x v (pos 0))
  cover-capacity = record {
    reached = moved_base (get_or x v (pos 0)) (is_base.counts v kv)
        (omega (arith, ints));
    greatest = at_most;
  }

  pub cover-room : HasRoom (times q (cover_value w)) x u v ↔ (pos 1 ≤ℤ get_or x v (pos 0))
  cover-room = (
    (λ (a, some, moved). let m = at_most a moved in omega (arith, ints, m, some)),
    (λ some. (pos 1, omega (arith, ints), moved_base (pos 1) (omega (arith, ints)) some)),
  )

pub cover-reach : (q w : ℤ) → pos 1 ≤ℤ q → pos 0 ≤ℤ w → (x : List ℤ)
    → IsBase (times q (cover_value w)) x → (u : ℕ) → u < length x → (to : List Bool)
    → length to ≡ length x
    → ((v : ℕ) → v < length x → Has to v ↔ ((v ≢ u) × (pos 0 <ℤ get_or x v (pos 0))))
    → IsReach (times q (cover_value w)) x u to
cover-reach q w hq hw x base u ku to same is = record {
  places = same;
  exact = λ v kv. (
    (λ h. let i = (is v kv).0 h in (
      i.0,
      (cover-room q w hq hw x base u v ku kv (λ e. i.0 (sym e))).1
          (let more = i.1 in omega (arith, ints, more)),
    )),
    (λ (ne, room). (is v kv).1 (
      ne,
      let some = (cover-room q w hq hw x base u v ku kv (λ e. ne (sym e))).0
          room in omega (arith, ints, some),
    )),
  );
}
