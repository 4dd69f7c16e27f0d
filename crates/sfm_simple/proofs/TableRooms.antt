-- The bases of a table by the slacks of its parts, and the exchanges at a base.
use Rattle.std.proofs.Common.{◌≡◌, ◌≢◌, ◌↔◌, ℕ, ◌+◌, ◌-◌, ◌<◌, ◌^◌, Bool, true, false, List, length, get_or, set, ℤ, pos, ◌+ℤ◌, ◌-ℤ◌, ◌*ℤ◌, ◌≤ℤ◌, Some, refl, sym, ap, ◌∙◌, arith, ⊎_elim, length-set, get_or-set_same, get_or-set_other}
use borrow.Author.Count.{below_more}
use Rattle.std.proofs.lemmas.Bool.{both_ways}
use Rattle.std.specs.Int.{int_min}
use Rattle.std.proofs.lemmas.Int.{ints, clamps, by_lt_z}
use Rattle.std.proofs.lemmas.List.{length-replicate, get_or-replicate}
use Rattle.sfm_spec.specs.Sets.{Has, empty_set, whole_set, intersection, sum_over}
use Rattle.sfm_spec.specs.Terms.{times, IsBase, IsCapacity, HasRoom}
use Rattle.sfm_spec.specs.Kinds.{binary, table_value}
use Rattle.sfm_spec.proofs.Sets.{has_or_not, in_both, in_first, in_second}
use Rattle.sfm_law.proofs.Greedy.{front-all}
use Rattle.sfm_law.proofs.Listing.{IsListing, own_listing, listed_capacity, listed_room, room_leaves}
use Rattle.sfm_law.specs.Room.{IsReach}
use Rattle.sfm_simple.specs.Breaches.{listed_at}
use Rattle.sfm_simple.specs.Subsets.{members, length-members, members-binary, binary-members, binary-lt, binary-set, binary-none, binary-front}
use Rattle.sfm_simple.specs.TableLaws.{slack_of, Separates, IsLeastSlack}

module _ (q : ℤ) (values x : List ℤ) (counted : length values ≡ 2 ^ length x) where
  -- a set's slack by its number
  slack-binary : (s : List Bool) → length s ≡ length x
      → slack_of q values x (binary s) ≡ ((q *ℤ listed_at values s) -ℤ sum_over s x)
  slack-binary s same =
      let is : members (length x) (binary s) ≡ s = rw (← same) (members-binary s) in
      ap (λ r. (q *ℤ listed_at values s) -ℤ sum_over r x) is

  number_below : (s : List Bool) → length s ≡ length x → binary s < length values
  number_below s same = rw (counted, ← same) (binary-lt s)

  whole_number : binary (whole_set (length x)) ≡ length values - 1
  whole_number =
      let b = binary-front (length x) (length x) (omega arith) in
      let e = ap binary (front-all (length x)) in
      omega (arith, b, e, counted)

  listed-members : (n : ℕ) → n < length values
      → listed_at values (members (length x) n) ≡ get_or values n (pos 0)
  listed-members n h = ap (λ i. get_or values i (pos 0))
      (binary-members (length x) n (omega (arith, h, counted)))

  table_base : ((n : ℕ) → n < length values → pos 0 ≤ℤ slack_of q values x n)
      → slack_of q values x (length values - 1) ≡ pos 0 → IsBase (times q (table_value values)) x
  table_base low tight = record { within = within; total = ap Some total } where
    within : (s : List Bool) (a : ℤ) → length s ≡ length x → times q (table_value values) s ≡ Some a
        → sum_over s x ≤ℤ a
    within s a same e =
        let f : (q *ℤ listed_at values s) ≡ a = cc in
        let l = low (binary s) (number_below s same) in
        let b = slack-binary s same in
        rw (← f) (omega (arith, ints, l, b))

    total : (q *ℤ listed_at values (whole_set (length x))) ≡ sum_over (whole_set (length x)) x
    total =
        let b = slack-binary (whole_set (length x)) (length-replicate (length x) true) in
        let c = rw whole_number at b in
        let plain = ap (λ i. q *ℤ get_or values i (pos 0)) whole_number in
        omega (arith, ints, c, tight, plain)

  pub slack_low : IsBase (times q (table_value values)) x → (n : ℕ) → n < length values
      → pos 0 ≤ℤ slack_of q values x n
  slack_low base n h =
      let w = base.within (members (length x) n) (q *ℤ listed_at values (members (length x) n))
      (length-members (length x) n) refl in
      let e = ap (λ a. q *ℤ a) (listed-members n h) in
      omega (arith, ints, w, e)

  slack_none : IsBase (times q (table_value values)) x
      → slack_of q values x (length values - 1) ≡ pos 0
  slack_none base =
      let f : (q *ℤ listed_at values (whole_set (length x))) ≡ sum_over (whole_set (length x))
      x = (let e = base.total in cc) in
      let b = slack-binary (whole_set (length x)) (length-replicate (length x) true) in
      let c = rw whole_number at b in
      let plain = ap (λ i. q *ℤ get_or values i (pos 0)) whole_number in
      omega (arith, ints, c, f, plain)

  -- what the code tests, one after the other
  pub table_tested : IsBase (times q (table_value values)) x
      ↔ (((n : ℕ) → n < length values → pos 0 ≤ℤ slack_of q values x n)
      × (slack_of q values x (length values - 1) ≡ pos 0))
  table_tested = ((λ b. (slack_low b, slack_none b)), (λ (low, tight). table_base low tight))

  module _ (base : IsBase (times q (table_value values)) x) (u v : ℕ) (ku : u < length x)
      (kv : v < length x) (ne : u ≢ v) where
    abbrev Lists : List Bool → ℤ → Type 0
    Lists s b = (length s ≡ length x) × (times q (table_value values) s ≡ Some b)

    abbrev most : ℤ
    most = q *ℤ listed_at values (whole_set (length x))

    listing : IsListing (times q (table_value values)) (length x) Lists most
    listing = own_listing (times q (table_value values)) (length x) most refl

    split_of : (s : List Bool) → length s ≡ length x → Has s u → get_or s v false ≡ false
        → Separates (length x) (binary s) u v
    split_of s same su sv =
        let is : members (length x) (binary s) ≡ s = rw (← same) (members-binary s) in
        record { first_in = rw is su; second_out = rw is sv }

    pub table-capacity : (a : ℤ) → IsLeastSlack q values x u v a
        → IsCapacity (times q (table_value values)) x u v a
    table-capacity a is = from is.reached where
      leaves : (s : List Bool) (b : ℤ) → Lists s b → Has s u → get_or s v false ≡ false
          → (sum_over s x +ℤ a) ≤ℤ b
      leaves s b h su sv =
          let e = h.1 in
          let f : (q *ℤ listed_at values s) ≡ b = cc in
          let l = is.least (binary s) (number_below s h.0) (split_of s h.0 su sv) in
          let n = slack-binary s h.0 in
          rw (← f) (omega (arith, ints, l, n))

      from : (n : ℕ) × (n < length values) × Separates (length x) n u v
          × (a ≡ slack_of q values x n) → IsCapacity (times q (table_value values)) x u v a
      from (n, lt, split, e) =
          let low = slack_low base n lt in
          let plain = ap (λ b. q *ℤ b) (listed-members n lt) in
          listed_capacity (times q (table_value values)) (length x) Lists most listing x refl base u
          v ku kv ne a (omega (arith, ints, low, e)) leaves
          (members (length x) n) (q *ℤ listed_at values (members (length x) n))
          (length-members (length x) n, refl) split.first_in split.second_out
          (omega (arith, ints, e, plain))

    -- there is room exactly where no part with u and not v has no slack
    pub room_from_slacks : ((n : ℕ) → n < length values → Has (members (length x) n) u
        → slack_of q values x n ≡ pos 0 → Has (members (length x) n) v)
        → HasRoom (times q (table_value values)) x u v
    room_from_slacks closed = listed_room (times q (table_value values)) (length x) Lists most
        listing x refl base u v ku kv ne leaves where
          leaves : (s : List Bool) (b : ℤ) → Lists s b → Has s u → get_or s v false ≡ false
              → (sum_over s x +ℤ pos 1) ≤ℤ b
          leaves s b h su sv =
              let e = h.1 in
              let f : (q *ℤ listed_at values s) ≡ b = cc in
              let split = split_of s h.0 su sv in
              let lt = number_below s h.0 in
              let low = slack_low base (binary s) lt in
              let some : slack_of q values x (binary s) ≢ pos
              0 = (λ z. both_ways _ split.second_out (closed (binary s) lt split.first_in z)) in
              let n = slack-binary s h.0 in
              let apart : ((q *ℤ listed_at values s) -ℤ sum_over s x) ≢ pos
              0 = (λ z. some (n ∙ z)) in
              rw (← f) (positive (q *ℤ listed_at values s) (sum_over s x)
              (omega (arith, ints, low, n))
              apart) where
                positive : (c d : ℤ) → d ≤ℤ c → (c -ℤ d) ≢ pos 0 → (d +ℤ pos 1) ≤ℤ c
                positive c d le ne = omega (arith, ints, le, ne)

    pub slacks_from_room : HasRoom (times q (table_value values)) x u v → (n : ℕ)
        → n < length values → Has (members (length x) n) u → slack_of q values x n ≡ pos 0
        → Has (members (length x) n) v
    slacks_from_room room n lt hu none =
        ⊎_elim (λ h. h) clash (has_or_not (members (length x) n) v) where
          clash : get_or (members (length x) n) v false ≡ false → Has (members (length x) n) v
          clash out =
              let l = room_leaves (times q (table_value values)) (length x) Lists most listing x
              refl
              base u v ku kv ne room
              (members (length x) n) (q *ℤ listed_at values (members (length x) n))
              (length-members (length x) n, refl) hu out in
              let plain = ap (λ b. q *ℤ b) (listed-members n lt) in
              absurd (omega (arith, ints, l, none, plain))

  pub table-reach : IsBase (times q (table_value values)) x → (u : ℕ) → u < length x
      → (others to : List Bool) → length to ≡ length x
      → ((v : ℕ) → v < length x → Has others v ↔ (v ≢ u))
      → ((v : ℕ) → Has to v ↔ (Has others v
      × ((n : ℕ) → n < length values → Has (members (length x) n) u
      → slack_of q values x n ≡ pos 0 → Has (members (length x) n) v)))
      → IsReach (times q (table_value values)) x u to
  table-reach base u ku others to same apart kept = record {
    places = same;
    exact = λ v kv. (
      (λ h. let k = (kept v).0 h in let ne = (apart v kv).0
          k.0 in (ne, room_from_slacks base u v ku kv (λ e. ne (sym e)) k.1)),
      (λ (ne, room). (kept v).1 (
        (apart v kv).1 ne,
        slacks_from_room base u v ku kv (λ e. ne (sym e)) room,
      )),
    );
  }

-- ---- one part after another

-- each part with u, of a number below n, that has no slack has v
abbrev pub IsClosed : ℤ → List ℤ → List ℤ → ℕ → ℕ → ℕ → Type 0
IsClosed q values x u m v = (n : ℕ) → n < m → Has (members (length x) n) u
    → slack_of q values x n ≡ pos 0 → Has (members (length x) n) v

pub closed_more : (q : ℤ) (values x : List ℤ) (u m v : ℕ) → IsClosed q values x u m v
    → (Has (members (length x) m) u → slack_of q values x m ≡ pos 0 → Has (members (length x) m) v)
    → IsClosed q values x u (m + 1) v
closed_more q values x u m v below here =
    below_more (λ n. Has (members (length x) n) u → slack_of q values x n ≡ pos 0
    → Has (members (length x) n) v) m below here

pub closed_less : (q : ℤ) (values x : List ℤ) (u m v : ℕ) → IsClosed q values x u (m + 1) v
    → IsClosed q values x u m v
closed_less q values x u m v closed n h = closed n (omega arith)

-- a tight part with u keeps what it has
pub kept_with : (q : ℤ) (values x : List ℤ) (u m v : ℕ) (old to : List Bool) → length to ≡ length x
    → Has to v ↔ (Has old v × IsClosed q values x u m v)
    → Has (members (length x) m) u → slack_of q values x m ≡ pos 0
    → Has (intersection to (members (length x) m)) v
    ↔ (Has old v × IsClosed q values x u (m + 1) v)
kept_with q values x u m v old to sized before hu none =
    let same : length to ≡ length (members (length x) m) = sized
    ∙ sym (length-members (length x) m) in (
      (λ h. let b = before.0 (in_first to (members (length x) m) v same h) in (
        b.0,
        closed_more q values x u m v b.1 (λ _ _. in_second to (members (length x) m) v same h),
      )),
      (λ (o, closed). in_both to (members (length x) m) v same
          (before.1 (o, closed_less q values x u m v closed)) (closed m (omega arith) hu none)),
    )

-- any other part changes nothing
pub kept_without : (q : ℤ) (values x : List ℤ) (u m v : ℕ) (old to : List Bool)
    → Has to v ↔ (Has old v × IsClosed q values x u m v)
    → (Has (members (length x) m) u → slack_of q values x m ≡ pos 0 → ⊥)
    → Has to v ↔ (Has old v × IsClosed q values x u (m + 1) v)
kept_without q values x u m v old to before other = (
  (λ h. let b = before.0 h in (
    b.0,
    closed_more q values x u m v b.1 (λ hu none. absurd (other hu none)),
  )),
  (λ (o, closed). before.1 (o, closed_less q values x u m v closed)),
)

-- the part that is u alone
pub unit_split : (k u v : ℕ) → u < k → v < k → u ≢ v → Separates k (2 ^ u) u v
unit_split k u v ku kv ne =
    record {
      first_in = rw is (get_or-set_same (empty_set k) u true false
          (omega (arith, length-replicate k false)));
      second_out = rw is out;
    } where
      is : members k (2 ^ u) ≡ set (empty_set k) u true
      is =
          let b = binary-set (empty_set k) u (omega (arith, length-replicate k false))
          (get_or-replicate k u false false ku) in
          let n : binary (set (empty_set k) u true) ≡ 2 ^ u = omega (arith, b, binary-none k) in
          let len : length (set (empty_set k) u true) ≡ k = length-set (empty_set k) u true
          ∙ length-replicate k false in
          let m = members-binary (set (empty_set k) u true) in
          rw (n, len) at m

      out : get_or (set (empty_set k) u true) v false ≡ false
      out = get_or-set_other (empty_set k) u v true false (λ e. ne (sym e))
          ∙ get_or-replicate k v false false kv

-- ---- the least slack so far

abbrev pub IsReached : ℤ → List ℤ → List ℤ → ℕ → ℕ → ℤ → Type 0
IsReached q values x u v a = (n : ℕ) × (n < length values) × Separates (length x) n u v
    × (a ≡ slack_of q values x n)

pub least_more : (q : ℤ) (values x : List ℤ) (u v m : ℕ) (a r : ℤ)
    → ((n : ℕ) → n < m → Separates (length x) n u v → a ≤ℤ slack_of q values x n) → r ≤ℤ a
    → (Separates (length x) m u v → r ≤ℤ slack_of q values x m) → (n : ℕ) → n < m + 1
    → Separates (length x) n u v → r ≤ℤ slack_of q values x n
least_more q values x u v m a r below less here =
    below_more (λ n. Separates (length x) n u v → r ≤ℤ slack_of q values x n) m
    (λ n h split. let b = below n h split in omega (arith, ints, b, less)) here

pub reached_min : (q : ℤ) (values x : List ℤ) (u v m : ℕ) (a b r : ℤ) → IsReached q values x u v a
    → m < length values → Separates (length x) m u v → b ≡ slack_of q values x m
    → r ≡ int_min a b → IsReached q values x u v r
reached_min q values x u v m a b r (n, lt, split, e) lt' split' e' is = by_lt_z a b
    (λ below. (n, lt, split, omega (arith, ints, clamps, is, below, e)))
    (λ above. (m, lt', split', omega (arith, ints, clamps, is, above, e')))
