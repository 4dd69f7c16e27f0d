-- Bases of a transversal term by the test of its code, and how much can be exchanged at one: by the
-- most that an element gets besides in the test, without another element; and to whom an element
-- has room, by those that can lend to it.
use Rattle.std.proofs.Common.{◌≡◌, ◌≢◌, ◌↔◌, ℕ, ◌<◌, Bool, List, length, get_or, set, replicate, ℤ, pos, ◌+ℤ◌, ◌-ℤ◌, ◌*ℤ◌, ◌≤ℤ◌, ◌<ℤ◌, refl, sym, ap, ◌∙◌, arith, inr, get_or-set_other}
use Rattle.std.specs.Int.{int_min}
use Rattle.std.specs.List.{All}
use Rattle.std.proofs.lemmas.Int.{ints, clamps, by_lt_z}
use Rattle.std.proofs.lemmas.List.{set-get_or}
use Rattle.std.proofs.lemmas.List.Elements.{All-replicate}
use Rattle.sfm_spec.specs.Bounds.{IsFactor}
use Rattle.sfm_spec.specs.Terms.{times, IsBase, IsCapacity, HasRoom, exchanged}
use Rattle.sfm_spec.proofs.Sums.{length-exchanged}
use Rattle.sfm_law.specs.Room.{IsReach, IsCapacityUpto}
use Rattle.sfm_law.proofs.Fits.{product_low}
use Rattle.sfm_rank.proofs.Bases.{IsTold, base_counts, base_told, told_base, raised-places, raised-counts, met_now, lower, least_capacity, whole_capacity, given-counts, gives_room, room_gives}
use Rattle.sfm_matroid.specs.Givers.{IsGiver, IsRowIn}
use Rattle.sfm_matroid.proofs.Lending.{reach_row}
use Rattle.sfm_spec.specs.Kinds.{IsMatchable}
use Rattle.sfm_assign.specs.Splits as splits
use Rattle.sfm_assign.specs.Splits.{CanBeMet, Demands, IsAmount}
use Rattle.sfm_assign.specs.Lenders.{IsMostUpto}
use Rattle.sfm_matroid.specs.Amounts.{AreCapped, CanHold}
use Rattle.sfm_matroid.specs.Notes.{slot_demands}
use Rattle.sfm_matroid.specs.Matchings.{matching-matroid}
use Rattle.sfm_matroid.specs.Slots.{IsWithinSlots, transversal_rank, transversal_value, transversal_size}
use Rattle.sfm_matroid.specs.Transversals.{transversal-ranks}
use Rattle.sfm_matroid.specs.declared.transversal.Transversal.{Transversal}
use Rattle.sfm_matroid.proofs.Fits.{amounts_count, capped, limit_of}
use Rattle.sfm_matroid.proofs.Matched.{slots_each}
use Rattle.sfm_matroid.proofs.MatroidTests.{transversal_tests}
use Rattle.sfm_matroid.proofs.SplitTests.{split_within_slots, within_slots_split}

module _ (k : ℕ) (q w : ℤ) (entries : List (List ℕ)) (m : ℕ)
    (exist : All (All (λ v. v < m)) entries) (same : length entries ≡ k) (low : pos 0 ≤ℤ (q *ℤ w))
    (x : List ℤ) (kx : length x ≡ k) where
  sized : length x ≡ length entries
  sized = kx ∙ sym same

  -- a base by its entries, and back
  pub transversal_told : IsBase (times q (transversal_value w entries)) x
      → IsTold (q *ℤ w) (q *ℤ transversal_size w entries) (IsWithinSlots entries m (q *ℤ w) x) x
  transversal_told base = let told = base_told (length entries) 1 q w low (IsMatchable entries)
      (transversal_rank entries) (matching-matroid (length entries) entries)
      (transversal-ranks entries) (λ a x. IsWithinSlots entries m (q *ℤ w) x)
      (transversal_tests entries m (slots_each entries m exist) q w low) x sized
      base in record { within = told.within; sum = told.sum; met = told.met 0 (omega arith) }

  pub told_transversal : IsTold (q *ℤ w) (q *ℤ transversal_size w entries)
      (IsWithinSlots entries m (q *ℤ w) x) x → IsBase (times q (transversal_value w entries)) x
  told_transversal told = told_base (length entries) 1 q w low (IsMatchable entries)
      (transversal_rank entries) (matching-matroid (length entries) entries)
      (transversal-ranks entries) (λ a x. IsWithinSlots entries m (q *ℤ w) x)
      (transversal_tests entries m (slots_each entries m exist) q w low) x sized
      (record { within = told.within; sum = told.sum; met = λ a lt. told.met })

  pub base_within_cap : IsBase (times q (transversal_value w entries)) x
      → All (λ a. (pos 0 ≤ℤ a) × (a ≤ℤ (q *ℤ w))) x
  base_within_cap base = (transversal_told base).within

  pub base_held : IsBase (times q (transversal_value w entries)) x
      → IsWithinSlots entries m (q *ℤ w) x
  base_held base = (transversal_told base).met

  -- ---- how much can be exchanged

  module _ (base : IsBase (times q (transversal_value w entries)) x) (u v : ℕ) (xu : u < length x)
      (xv : v < length x) (ne : u ≢ v) where
    ku : u < length entries
    ku = let s = sized in omega (arith, xu, s)

    kv : v < length entries
    kv = let s = sized in omega (arith, xv, s)

    abbrev with_u : ℤ → List ℤ
    with_u r = set (set x v (pos 0)) u r

    places : (r : ℤ) → length (with_u r) ≡ length entries
    places r = raised-places (length entries) 1 q w low (IsMatchable entries)
        (transversal_rank entries) (matching-matroid (length entries) entries)
        (transversal-ranks entries) (λ a x. IsWithinSlots entries m (q *ℤ w) x)
        (transversal_tests entries m (slots_each entries m exist) q w low) x sized base u v ku kv ne
        r

    split : (r : ℤ) → pos 0 ≤ℤ r → IsWithinSlots entries m (q *ℤ w) (with_u r)
        → CanBeMet (with_u r) entries (replicate m (q *ℤ w))
    split r hr met = within_slots_split entries m exist (q *ℤ w) (with_u r) (places r) low
        (raised-counts (length entries) 1 q w low (IsMatchable entries) (transversal_rank entries)
        (matching-matroid (length entries) entries) (transversal-ranks entries)
        (λ a x. IsWithinSlots entries m (q *ℤ w) x)
        (transversal_tests entries m (slots_each entries m exist) q w low) x sized base u v ku
        kv ne r hr) met

    -- ---- by what u gets besides, once v has nothing

    -- x without what v has
    abbrev rest : Demands
    rest = slot_demands entries m (q *ℤ w) (set x v (pos 0))

    abbrev has_u : ℤ
    has_u = get_or x u (pos 0)

    rest_u : get_or (set x v (pos 0)) u (pos 0) ≡ has_u
    rest_u = get_or-set_other x v u (pos 0) (pos 0) ne

    has_u-low : pos 0 ≤ℤ has_u
    has_u-low = base_counts (length entries) 1 q w low (IsMatchable entries)
        (transversal_rank entries) (matching-matroid (length entries) entries)
        (transversal-ranks entries) (λ a x. IsWithinSlots entries m (q *ℤ w) x) x sized base u xu

    with_now : IsWithinSlots entries m (q *ℤ w) (with_u has_u)
    with_now = met_now (length entries) 1 q w low (IsMatchable entries) (transversal_rank entries)
        (matching-matroid (length entries) entries) (transversal-ranks entries)
        (λ a x. IsWithinSlots entries m (q *ℤ w) x)
        (transversal_tests entries m (slots_each entries m exist) q w low) x sized base u v ku kv ne
        0 (omega arith)

    -- what is left can be met
    pub rest_met : CanBeMet (set x v (pos 0)) entries (replicate m (q *ℤ w))
    rest_met =
        let e : with_u has_u ≡ set x v (pos 0) = ap (λ a. set (set x v (pos 0)) u a) (sym rest_u)
        ∙ set-get_or (set x v (pos 0)) u (pos 0) in
        rw e at (split has_u has_u-low with_now)

    -- where the most besides is below the limit, no more can be got at all
    got_most : (limit g : ℤ) → IsMostUpto rest u limit g → g <ℤ limit → (b : ℤ)
        → IsWithinSlots entries m (q *ℤ w) (with_u b) → b ≤ℤ (has_u +ℤ g)
    got_most limit g most less b met = by_lt_z (has_u +ℤ g) b
        (λ more.
        let gl = most.low in
        let hl = has_u-low in
        let one : (get_or (set x v (pos 0)) u (pos 0) +ℤ (g +ℤ pos 1))
        ≡ ((has_u +ℤ g) +ℤ pos 1) = let e = rest_u in omega (arith, ints, e) in
        let next : IsWithinSlots entries m (q *ℤ w) (with_u ((has_u +ℤ g) +ℤ pos 1)) = lower
        (length entries) 1 q w low (IsMatchable entries) (transversal_rank entries)
        (matching-matroid (length entries) entries) (transversal-ranks entries)
        (λ a x. IsWithinSlots entries m (q *ℤ w) x)
        (transversal_tests entries m (slots_each entries m exist) q w low) x sized base u v ku
        kv ne 0 ((has_u +ℤ g) +ℤ pos 1) b (omega arith) (omega (arith, ints, gl, hl))
        (omega (arith, ints, more)) met in
        let can : CanBeMet (with_u ((has_u +ℤ g) +ℤ pos 1)) entries (replicate m (q *ℤ w)) = split
        ((has_u +ℤ g) +ℤ pos 1) (omega (arith, ints, gl, hl)) next in
        let h = most.greatest (g +ℤ pos 1) (omega (arith, ints, gl)) (omega (arith, ints, less))
        (rw one can) in
        omega (arith, ints, h))
        (λ ge. omega (arith, ints, ge))

    pub grown_capacity : (wanted limit g : ℤ)
        → limit ≡ int_min wanted (int_min (get_or x v (pos 0)) ((q *ℤ w) -ℤ has_u))
        → IsMostUpto rest u limit g
        → IsCapacityUpto (times q (transversal_value w entries)) x u v wanted g
    grown_capacity wanted limit g is most =
        least_capacity (length entries) 1 q w low (IsMatchable entries) (transversal_rank entries)
        (matching-matroid (length entries) entries) (transversal-ranks entries)
        (λ a x. IsWithinSlots entries m (q *ℤ w) x)
        (transversal_tests entries m (slots_each entries m exist) q w low) x sized base u v ku kv ne
        wanted g (let l = most.low in let h = most.high in omega (arith, ints, clamps, is, l, h))
        (record {
          under_limit = let h = most.high in omega (arith, ints, clamps, is, h);
          under_v = let h = most.high in omega (arith, ints, clamps, is, h);
          under_cap = let h = most.high in omega (arith, ints, clamps, is, h);
          under_most = λ t lt. (has_u +ℤ g, met, omega (arith, ints));
          reached = by_lt_z g limit
              (λ less. inr
              (inr (inr (
                0,
                omega arith,
                has_u +ℤ g,
                record { reached = met; greatest = got_most limit g most less },
                omega (arith, ints),
              ))))
              (λ ge. let h = most.high in let e : g ≡ limit = omega (arith, ints, ge, h) in limit_of
              wanted (get_or x v (pos 0)) ((q *ℤ w) -ℤ has_u) g (e ∙ is) _);
        }) where
          met : IsWithinSlots entries m (q *ℤ w) (with_u (has_u +ℤ g))
          met = split_within_slots entries m exist (q *ℤ w) (with_u (has_u +ℤ g))
              (places (has_u +ℤ g))
              (rw rest_u at most.reached)

    -- up to what v has, this is the room
    pub split_room : (g : ℤ) → IsCapacityUpto (times q (transversal_value w entries)) x u v
        (get_or x v (pos 0)) g → IsCapacity (times q (transversal_value w entries)) x u v g
    split_room g most = whole_capacity (length entries) 1 q w low (IsMatchable entries)
        (transversal_rank entries) (matching-matroid (length entries) entries)
        (transversal-ranks entries) (λ a x. IsWithinSlots entries m (q *ℤ w) x)
        (transversal_tests entries m (slots_each entries m exist) q w low) x sized base u v ku kv ne
        g most

    -- nothing, where nothing is wanted, v has nothing or u has all that it may
    pub no_capacity : (wanted : ℤ)
        → int_min wanted (int_min (get_or x v (pos 0)) ((q *ℤ w) -ℤ has_u)) ≡ pos 0
        → IsCapacityUpto (times q (transversal_value w entries)) x u v wanted (pos 0)
    no_capacity wanted none = grown_capacity wanted (pos 0) (pos 0) (sym none) (record {
      low = omega (arith, ints);
      high = omega (arith, ints);
      reached = let e : (get_or (set x v (pos 0)) u (pos 0) +ℤ pos 0)
          ≡ has_u = let r = rest_u in omega (arith, ints, r) in rw e
          (split has_u has_u-low with_now);
      greatest = λ b l h met. h;
    })

    -- ---- what v can give to u

    exchanged-places : length (exchanged x u v (pos 1)) ≡ length entries
    exchanged-places = length-exchanged x u v (pos 1) ∙ sized

    giver_room : IsGiver x (q *ℤ w) u v
        → CanBeMet (exchanged x u v (pos 1)) entries (replicate m (q *ℤ w))
        → HasRoom (times q (transversal_value w entries)) x u v
    giver_room giver lend = gives_room (length entries) 1 q w low (IsMatchable entries)
        (transversal_rank entries) (matching-matroid (length entries) entries)
        (transversal-ranks entries) (λ a x. IsWithinSlots entries m (q *ℤ w) x)
        (transversal_tests entries m (slots_each entries m exist) q w low) x sized base u v ku kv ne
        (record {
          under_cap = giver.1;
          has = giver.2;
          met = λ t lt. split_within_slots entries m exist (q *ℤ w) (exchanged x u v (pos 1))
              exchanged-places lend;
        })

    room_giver : HasRoom (times q (transversal_value w entries)) x u v → IsGiver x (q *ℤ w) u v
        × CanBeMet (exchanged x u v (pos 1)) entries (replicate m (q *ℤ w))
    room_giver room =
        let give = room_gives (length entries) 1 q w low (IsMatchable entries)
        (transversal_rank entries) (matching-matroid (length entries) entries)
        (transversal-ranks entries) (λ a x. IsWithinSlots entries m (q *ℤ w) x)
        (transversal_tests entries m (slots_each entries m exist) q w low) x sized base u v ku
        kv ne room in
        let counts = given-counts (length entries) 1 q w low (IsMatchable entries)
        (transversal_rank entries) (matching-matroid (length entries) entries)
        (transversal-ranks entries) (λ a x. IsWithinSlots entries m (q *ℤ w) x)
        (transversal_tests entries m (slots_each entries m exist) q w low) x sized base u v ku
        kv ne give.has in (
          ((λ e. ne (sym e)), give.under_cap, give.has),
          within_slots_split entries m exist (q *ℤ w) (exchanged x u v (pos 1)) exchanged-places
              low counts (give.met 0 (omega arith)),
        )

  -- a base is split itself
  pub base_split : IsBase (times q (transversal_value w entries)) x
      → CanBeMet x entries (replicate m (q *ℤ w))
  base_split base = within_slots_split entries m exist (q *ℤ w) x sized low
      (base_counts (length entries) 1 q w low (IsMatchable entries) (transversal_rank entries)
      (matching-matroid (length entries) entries) (transversal-ranks entries)
      (λ a x. IsWithinSlots entries m (q *ℤ w) x) x sized base) (base_held base)

  -- a row in the split is the reach
  pub reach_slots : IsBase (times q (transversal_value w entries)) x → (u : ℕ) → u < length x
      → (to : List Bool) → length to ≡ length x
      → IsRowIn (slot_demands entries m (q *ℤ w) x) (q *ℤ w) u to
      → IsReach (times q (transversal_value w entries)) x u to
  reach_slots base u xu to places row =
      reach_row (times q (transversal_value w entries)) (slot_demands entries m (q *ℤ w) x) (q *ℤ w)
      u to places row (λ v xv ne. giver_room base u v xu xv ne)
      (λ v xv ne. room_giver base u v xu xv ne)

-- a base of a term by its entries
pub base_by_entries : (s : Transversal) (q : ℤ) (m : ℕ) → All (All (λ v. v < m)) s.entries
    → IsFactor q → (x : List ℤ) → length x ≡ length s.places
    → IsBase (times q (transversal_value s.w s.entries)) x
    ↔ IsTold (q *ℤ s.w) (q *ℤ transversal_size s.w s.entries)
    (IsWithinSlots s.entries m (q *ℤ s.w) x) x
base_by_entries s q m below factor x sized =
    let low = product_low q s.w factor s.low in (
      transversal_told (length s.places) q s.w s.entries m below s.same_count low x sized,
      told_transversal (length s.places) q s.w s.entries m below s.same_count low x sized,
    )

-- amounts pass the test exactly where they can be met
pub slots_tell : (s : Transversal) (m : ℕ) → All (All (λ v. v < m)) s.entries → (c : ℤ) → pos 0 ≤ℤ c
    → (x : List ℤ) → length x ≡ length s.places → All IsAmount x
    → CanBeMet x s.entries (replicate m c) ↔ IsWithinSlots s.entries m c x
slots_tell s m below c low x sized amounts =
    let even = sized ∙ sym s.same_count in (
      split_within_slots s.entries m below c x even,
      within_slots_split s.entries m below c x even low (amounts_count x amounts),
    )

-- ---- a base as demands that slots which hold c each can meet

pub record IsHeldBase (entries : List (List ℕ)) (m : ℕ) (c : ℤ) (x : List ℤ) : Type 0 where
  pub capped : AreCapped c x
  pub sized : length x ≡ length entries
  pub bounded : All splits.IsCapacity (replicate m c)
  pub met : CanBeMet x entries (replicate m c)

pub held_base : (s : Transversal) (q : ℤ) (m : ℕ) → All (All (λ v. v < m)) s.entries → IsFactor q
    → (x : List ℤ) → length x ≡ length s.places
    → IsBase (times q (transversal_value s.w s.entries)) x → IsHeldBase s.entries m (q *ℤ s.w) x
held_base s q m below factor x sized base =
    let low = product_low q s.w factor s.low in
    let all = capped q s.w factor s.low s.given x
    (base_within_cap (length s.places) q s.w s.entries m below s.same_count low x sized base) in
    record {
      capped = all;
      sized = sized ∙ sym s.same_count;
      bounded = All-replicate splits.IsCapacity m (q *ℤ s.w)
          (record { low = all.low; high = all.high });
      met = base_split (length s.places) q s.w s.entries m below s.same_count low x sized base;
    }

-- what stays without v is split, beside the split of a base
pub slots_hold : (s : Transversal) (q : ℤ) (m : ℕ) (below : All (All (λ v. v < m)) s.entries)
    → IsFactor q → (x : List ℤ) → length x ≡ length s.places
    → IsBase (times q (transversal_value s.w s.entries)) x → (u v : ℕ) → u < length x → v < length x
    → u ≢ v
    → CanHold (slot_demands s.entries m (q *ℤ s.w) x) x v (replicate m (q *ℤ s.w))
slots_hold s q m below factor x sized base u v xu xv ne =
    let all = held_base s q m below factor x sized base in
    record {
      sized = refl;
      slots = refl;
      bounded = all.bounded;
      met = rest_met (length s.places) q s.w s.entries m below s.same_count all.capped.low x sized
          base u v xu xv ne;
    }
