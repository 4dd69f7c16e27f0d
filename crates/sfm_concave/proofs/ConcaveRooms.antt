-- Bases of a concave function of the count, and the exchanges at them.
use Rattle.std.proofs.Common.{◌≡◌, ◌≢◌, ◌↔◌, ℕ, ◌<◌, Bool, false, List, length, get_or, set, ℤ, pos, ◌≤ℤ◌, ◌<ℤ◌, Option, Some, refl, sym, ap, ◌∙◌, arith}
use Rattle.std.proofs.lemmas.Int.{ints, by_lt_z}
use Rattle.sfm_spec.specs.Sets.{Has, whole_set, size, sum_over}
use Rattle.sfm_spec.specs.Terms.{times, IsBase, IsCapacity, HasRoom, exchanged}
use Rattle.sfm_spec.specs.Kinds.{concave_value}
use Rattle.sfm_spec.proofs.Sizes.{size-whole}
use Rattle.sfm_spec.proofs.Exchange.{base_moved, leaves_room}
use Rattle.sfm_law.specs.Room.{IsReach}
use Rattle.sfm_concave.specs.Counts.{IsFalling, falling-times}
use Rattle.sfm_concave.specs.ConcaveLaws.{scaled, number_of, NeverRises, falling}
use Rattle.sfm_concave.specs.Thresholds.{above, above_with, above_between, slack, Separates, IsLeastSlack, Blocks, IsBar}
use Rattle.sfm_law.specs.Values.{IsOver}
use Rattle.sfm_concave.proofs.Above.{with_split}
use Rattle.sfm_concave.proofs.Bases.{none_short, least_split, blocked}

pub scaled-falling : (q : ℤ) (g x : List ℤ) → pos 1 ≤ℤ q → length g ≡ length x → NeverRises g
    → IsFalling (length x) (scaled q g)
scaled-falling q g x low sized never =
    rw (← sized) (falling-times (length g) q (number_of g) (omega (arith, ints)) (falling g never))

-- x is a base of q times the function with the numbers g
pub record IsConcaveBase (q : ℤ) (g x : List ℤ) : Type 0 where
  pub low : pos 1 ≤ℤ q
  pub sized : length g ≡ length x
  pub never : NeverRises g
  pub base : IsBase (times q (concave_value g)) x

-- from what a call asks of a term with k places
pub concave_at : {q : ℤ} {g x : List ℤ} (k : ℕ) → pos 1 ≤ℤ q → length g ≡ k → length x ≡ k
    → NeverRises g → IsBase (times q (concave_value g)) x → IsConcaveBase q g x
concave_at k low counted entries never base =
    record { low = low; sized = counted ∙ sym entries; never = never; base = base }

pub base-falling : {q : ℤ} {g x : List ℤ} → IsConcaveBase q g x → IsFalling (length x) (scaled q g)
base-falling {q} {g} {x} here = scaled-falling q g x here.low here.sized here.never

-- ---- the bases

-- what each part leaves, and that the whole leaves nothing
pub concave_base : (q : ℤ) (g x : List ℤ) → scaled q g (length x) ≡ sum_over (whole_set (length x))
    x → ((s : List Bool) → length s ≡ length x → pos 0 ≤ℤ slack (scaled q g) x s)
    → IsBase (times q (concave_value g)) x
concave_base q g x sum holds = record {
  within = λ s a same e.
      let f : scaled q g (size s) ≡ a = cc in
      let low = holds s same in
      rw (← f) (omega (arith, ints, low));
  total = ap Some (ap (scaled q g) (size-whole (length x)) ∙ sum);
}

pub concave_slack : (q : ℤ) (g x : List ℤ) → IsBase (times q (concave_value g)) x → (s : List Bool)
    → length s ≡ length x → pos 0 ≤ℤ slack (scaled q g) x s
concave_slack q g x base s same =
    let w = base.within s (scaled q g (size s)) same refl in omega (arith, ints, w)

pub concave_total : (q : ℤ) (g x : List ℤ) → IsBase (times q (concave_value g)) x
    → scaled q g (length x) ≡ sum_over (whole_set (length x)) x
concave_total q g x base =
    let e = base.total in
    let f : scaled q g (size (whole_set (length x))) ≡ sum_over (whole_set (length x)) x = cc in
    sym (ap (scaled q g) (size-whole (length x))) ∙ f

module _ (q : ℤ) (g x : List ℤ) (low : pos 1 ≤ℤ q) (sized : length g ≡ length x)
    (never : NeverRises g) where
  pub base_by_thresholds : scaled q g (length x) ≡ sum_over (whole_set (length x)) x
      → ((w : ℕ) → w < length x → pos 0 ≤ℤ slack (scaled q g) x (above (get_or x w (pos 0)) x))
      → IsBase (times q (concave_value g)) x
  base_by_thresholds sum holds =
      concave_base q g x sum (none_short (scaled q g) x (scaled-falling q g x low sized never) sum
      holds)

  -- ---- the room

  pub concave_least : (u v : ℕ) (a : ℤ) → u < length x → v < length x → u ≢ v
      → a ≤ℤ slack (scaled q g) x (set (whole_set (length x)) v false)
      → ((w : ℕ) → w < length x → a ≤ℤ slack (scaled q g) x
      (above_between (get_or x w (pos 0)) x u v)) → (s : List Bool) × Separates x u v s
      × (a ≡ slack (scaled q g) x s) → IsLeastSlack (scaled q g) x u v a
  concave_least u v a ku kv ne rest holds reached =
      record {
        least = least_split (scaled q g) x (scaled-falling q g x low sized never) u v a ku kv
            ne rest holds;
        reached = reached;
      }

module _ {q : ℤ} {g x : List ℤ} (here : IsConcaveBase q g x) (u v : ℕ) (ku : u < length x)
    (kv : v < length x) (ne : u ≢ v) where
  -- what every set with u and not v leaves can be exchanged
  moved : (a : ℤ) → pos 0 ≤ℤ a → ((s : List Bool) → Separates x u v s → a ≤ℤ slack (scaled q g) x s)
      → IsBase (times q (concave_value g)) (exchanged x u v a)
  moved a some leaves = base_moved here.base ku kv ne a some (λ s c same e hu nv.
      let f : scaled q g (size s) ≡ c = cc in
      let l = leaves s (record { places = same; first_in = hu; second_out = nv }) in
      omega (arith, ints, f, l))

  -- and no more
  left : (a : ℤ) → IsBase (times q (concave_value g)) (exchanged x u v a) → (s : List Bool)
      → Separates x u v s → a ≤ℤ slack (scaled q g) x s
  left a moved s split = let l = leaves_room here.base ku kv ne a moved s (scaled q g (size s))
      split.places refl split.first_in split.second_out in omega (arith, ints, l)

  pub concave-capacity : (a : ℤ) → IsLeastSlack (scaled q g) x u v a
      → IsCapacity (times q (concave_value g)) x u v a
  concave-capacity a is =
      let (s, split, e) = is.reached in
      let some = concave_slack q g x here.base s split.places in
      record {
        reached = moved a (omega (arith, ints, some, e)) is.least;
        greatest = λ b to. (let l = left b to s split in omega (arith, ints, l, e));
      }

  -- there is room exactly where no place with at least the entry of v blocks
  pub concave-room : HasRoom (times q (concave_value g)) x u v
      ↔ ((w : ℕ) → Blocks (scaled q g) x u w → get_or x w (pos 0) <ℤ get_or x v (pos 0))
  concave-room = (to, from) where
    to : HasRoom (times q (concave_value g)) x u v → (w : ℕ) → Blocks (scaled q g) x u w
        → get_or x w (pos 0) <ℤ get_or x v (pos 0)
    to (a, some, base') w b = by_lt_z (get_or x w (pos 0)) (get_or x v (pos 0))
        (λ less. less)
        (λ more.
        let l = left a base' (above_with (get_or x w (pos 0)) x u)
        (with_split (get_or x w (pos 0)) x u v ku kv (λ e. ne (sym e)) more) in
        let t = b.tight in
        absurd (omega (arith, ints, l, t, some)))

    from : ((w : ℕ) → Blocks (scaled q g) x u w → get_or x w (pos 0) <ℤ get_or x v (pos 0))
        → HasRoom (times q (concave_value g)) x u v
    from over = (
      pos 1,
      omega (arith, ints),
      moved (pos 1) (omega (arith, ints)) (λ s split. by_lt_z (pos 0) (slack (scaled q g) x s)
          (λ some. omega (arith, ints, some))
          (λ none.
          let (w, b, le) = blocked (scaled q g) x (base-falling here) u v ku kv
          (concave_slack q g x here.base) s split none in
          let lt = over w b in
          absurd (omega (arith, ints, le, lt)))),
    )

pub concave-reach : {q : ℤ} {g x : List ℤ} → IsConcaveBase q g x → (u : ℕ) → u < length x
    → (to : List Bool) → length to ≡ length x
    → ((v : ℕ) → v < length x → Has to v
    ↔ ((v ≢ u) × ((w : ℕ) → Blocks (scaled q g) x u w
    → get_or x w (pos 0) <ℤ get_or x v (pos 0)))) → IsReach (times q (concave_value g)) x u to
concave-reach here u ku to same is = record {
  places = same;
  exact = λ v kv. (
    (λ h. let i = (is v kv).0 h in (i.0, (concave-room here u v ku kv (λ e. i.0 (sym e))).1 i.1)),
    (λ (ne, room). (is v kv).1 (ne, (concave-room here u v ku kv (λ e. ne (sym e))).0 room)),
  );
}

-- the places above the bar are those to which there is room
pub reach_by_bar : {q : ℤ} {g x : List ℤ} → IsConcaveBase q g x → (u : ℕ) → u < length x
    → (bar : Option ℤ) (to : List Bool) → length to ≡ length x
    → IsBar (scaled q g) x u bar → ((v : ℕ) → v < length x
    → Has to v ↔ ((v ≢ u) × IsOver bar (get_or x v (pos 0))))
    → IsReach (times q (concave_value g)) x u to
reach_by_bar {x = x} here u ku bar to same is over = concave-reach here u ku to same (λ v kv. (
  (λ h. let o = (over v kv).0 h in (o.0, (is (get_or x v (pos 0))).0 o.1)),
  (λ (ne, all). (over v kv).1 (ne, (is (get_or x v (pos 0))).1 all)),
))
