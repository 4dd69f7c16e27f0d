-- Levels, found one after the other.
use Rattle.std.proofs.Common.{◌≡◌, ◌≢◌, ◌⊎◌, ◌↔◌, ℕ, ◌+◌, ◌<◌, ◌≤◌, List, [], ◌∷◌, ◌++◌, length, get_or, ℤ, pos, ◌<ℤ◌, ◌≤ℤ◌, refl, sym, ◌∙◌, arith, inl, inr, ⊎_elim}
use Rattle.std.proofs.lemmas.Bool.{cases_eq, cases_lt}
use Rattle.std.proofs.lemmas.Int.{ints, by_lt_z}
use Rattle.std.proofs.lemmas.List.{length-append}
use Rattle.std.proofs.Math.ListN.{get_or-append}
use Rattle.std.proofs.Math.Seq.{get_or-append_seam}
use Rattle.sfm_reach.specs.declared.bits.Bits.{Bits}
use Rattle.sfm_reach.specs.Bits.{bit_in, set_at, blank_bits}
use Rattle.sfm_exchange.specs.Levels.{LeadsInto, AreLevels, AreClosed, IsFirst, depth_of}
use Rattle.sfm_spec.specs.Progress.{sum_below}
use Rattle.sfm_spec.proofs.Counts.{sum_below-lt}
use Rattle.sfm_reach.proofs.Words.{bit_in-lt}
use Rattle.sfm_exchange.proofs.Following.{depth_has, depth_le}

-- of the first k places, those left that lead into the level
pub record IsNextTo (unions : List Bits) (level old left next : Bits) (k : ℕ) : Type 0 where
  pub parted : (e : ℕ) → bit_in left e + bit_in next e ≡ bit_in old e
  pub below : (e : ℕ) → bit_in next e ≡ 1 → e < k
  pub leads : (e : ℕ) → bit_in next e ≡ 1 → LeadsInto unions e level
  pub closed : (e : ℕ) → e < k → LeadsInto unions e level → bit_in left e ≡ 0

-- a bit that is not 1 is 0
pub no_bit : (s : Bits) (e : ℕ) → (bit_in s e ≡ 1 → ⊥) → bit_in s e ≡ 0
no_bit s e h = let l = bit_in-lt s e in ⊎_elim (λ one. absurd (h one)) (λ ne. omega (arith, l, ne))
    (cases_eq (bit_in s e) 1)

-- no bit of a set without places
pub no_bits_of : (s : Bits) → ((e : ℕ) → bit_in s e ≢ 1) → (e : ℕ) → bit_in s e ≡ 0
no_bits_of s h e = no_bit s e (h e)

-- some level has the place, or none has
pub level_or_none : (levels : List Bits) (e : ℕ)
    → ((k : ℕ) × (k < length levels) × (bit_in (set_at levels k) e ≡ 1))
    ⊎ ((k : ℕ) → k < length levels → bit_in (set_at levels k) e ≡ 0)
level_or_none levels e = ⊎_elim
    (λ l. inl (depth_of levels e, l, depth_has levels e l))
    (λ deep. inr (λ k l. no_bit (set_at levels k) e
    (λ one. let d = depth_le levels k e l one in omega (arith, d, deep, l))))
    (cases_lt (depth_of levels e) (length levels))

-- levels so far: the last of them, and the places left
pub record IsLevelling (n : ℕ) (unions : List Bits) (z : List ℤ) (levels : List Bits)
    (level left : Bits) : Type 0 where
  pub levelled : AreLevels n unions z levels
  pub top : (k : ℕ) → k + 1 ≡ length levels → set_at levels k ≡ level
  pub rest : (e : ℕ) → (bit_in left e ≡ 1)
      ↔ ((e < n) × ((k : ℕ) → k < length levels → bit_in (set_at levels k) e ≡ 0))
  pub above : (k e : ℕ) → k < length levels → bit_in (set_at levels k) e ≡ 1
      → get_or z e (pos 0) <ℤ pos 0 → ⊥

-- the level of the places with z > 0
pub first_level : (n : ℕ) (unions : List Bits) (z : List ℤ) (over left : Bits)
    → ((e : ℕ) → (bit_in over e ≡ 1) ↔ ((e < n) × (pos 0 <ℤ get_or z e (pos 0))))
    → ((e : ℕ) → (bit_in left e ≡ 1) ↔ ((e < n) × (get_or z e (pos 0) ≤ℤ pos 0)))
    → IsLevelling n unions z (over ∷ []) over left
first_level n unions z over left is others = record {
  levelled = record {
    some = omega arith;
    over = is;
    below = λ k e l h. ((is e).0 (rw (zero_of k l) at h)).0;
    apart = λ j k e lj lk hj hk. (zero_of j lj) ∙ sym (zero_of k lk);
    leads = λ k e l h. absurd (omega arith);
    closed = λ k e l le h. absurd (omega arith);
    above = λ k e l h. absurd (omega arith);
  };
  top = λ k e. rw (zero_of k (omega arith)) refl;
  rest = λ e. (
    (λ h. let p = (others e).0 h in (
      p.0,
      λ k l. rw (zero_of k l) (no_bit over e
          (λ one. let q = ((is e).0 one).1 in let r = p.1 in omega (arith, ints, q, r))),
    )),
    (λ p. (others e).1 (
      p.0,
      by_lt_z (pos 0) (get_or z e (pos 0))
          (λ lt. let b = p.1 0 (omega arith) in let one = (is e).1
          (p.0, lt) in absurd (omega (arith, b, one))) (λ ge. ge),
    )),
  );
  above = λ k e l h under. let q = ((is e).0 (rw (zero_of k l) at h)).1 in omega (
    arith,
    ints,
    q,
    under,
  );
} where
  zero_of : (k : ℕ) → k < 1 → k ≡ 0
  zero_of k l = omega arith

module _ {n : ℕ} {unions : List Bits} {z : List ℤ} {levels : List Bits}
    {level left left' next : Bits} (h : IsLevelling n unions z levels level left)
    (to : IsNextTo unions level left left' next n) where
  -- a place that leads into the last level is in a level, or in the next
  leads_next : (k e : ℕ) → k + 1 ≡ length levels → e < n → LeadsInto unions e (set_at levels k)
      → ((j : ℕ) × (j < length levels) × (bit_in (set_at levels j) e ≡ 1)) ⊎ (bit_in next e ≡ 1)
  leads_next k e is le into = at (level_or_none levels e) where
    at : ((k : ℕ) × (k < length levels) × (bit_in (set_at levels k) e ≡ 1))
        ⊎ ((k : ℕ) → k < length levels → bit_in (set_at levels k) e ≡ 0)
        → ((j : ℕ) × (j < length levels) × (bit_in (set_at levels j) e ≡ 1)) ⊎ (bit_in next e ≡ 1)
    at (inl some) = inl some
    at (inr none) =
        let has = (h.rest e).1 (le, none) in
        let out = to.closed e le (rw (h.top k is) at into) in
        let p = to.parted e in
        inr (omega (arith, has, out, p))

  -- where no place is next, the levels are closed
  pub levels_closed : ((e : ℕ) → bit_in next e ≢ 1) → AreClosed n unions z levels
  levels_closed none = record {
    levelled = h.levelled;
    closed = λ k e l le into. ⊎_elim
        (λ lt. let (j, lj, bit) = h.levelled.closed k e lt le
        into in (j, omega (arith, lj, lt), bit))
        (λ ge. ⊎_elim (λ some. some) (λ bit. absurd (none e bit))
        (leads_next k e (omega (arith, ge, l)) le into))
        (cases_lt (k + 1) (length levels));
    above = h.above;
  }

  abbrev more : List Bits
  more = levels ++ next ∷ []

  count : length (levels ++ next ∷ []) ≡ length levels + 1
  count = length-append levels (next ∷ [])

  old_at : (k : ℕ) → k < length levels → set_at (levels ++ next ∷ []) k ≡ set_at levels k
  old_at k l = get_or-append levels (next ∷ []) blank_bits k l

  new_at : (k : ℕ) → k ≡ length levels → set_at (levels ++ next ∷ []) k ≡ next
  new_at k is = rw is (get_or-append_seam levels next [] blank_bits)

  -- a place that is next is in no level so far
  next_apart : (k e : ℕ) → k < length levels → bit_in (set_at levels k) e ≡ 1 → bit_in next e ≡ 1
      → ⊥
  next_apart k e l one bit =
      let p = to.parted e in
      let o = bit_in-lt left e in
      let has : bit_in left e ≡ 1 = omega (arith, p, o, bit) in
      let zero' = ((h.rest e).0 has).1 k l in
      omega (arith, zero', one)

  pub more_levels : AreLevels n unions z (levels ++ next ∷ [])
  more_levels = record {
    some = omega (arith, count);
    over = rw (old_at 0 h.levelled.some) h.levelled.over;
    below = λ k e l bit. ⊎_elim (λ lt. h.levelled.below k e lt (rw (old_at k lt) at bit))
        (λ ge. to.below e (rw (new_at k (omega (arith, ge, l, count))) at bit))
        (cases_lt k (length levels));
    apart = apart;
    leads = λ k e l bit. ⊎_elim
        (λ lt. rw (old_at k (omega (arith, lt)))
        (h.levelled.leads k e lt (rw (old_at (k + 1) lt) at bit)))
        (λ ge. let is : k + 1 ≡ length
        levels = omega (arith, ge, l, count) in rw (old_at k (omega (arith, is)), h.top k is)
        (to.leads e (rw (new_at (k + 1) is) at bit)))
        (cases_lt (k + 1) (length levels));
    closed = closed;
    above = λ k e l bit. let lk : k < length levels = omega (arith, l, count) in h.above k e lk
        (rw (old_at k lk) at bit);
  } where
    apart : (j k e : ℕ) → j < length (levels ++ next ∷ []) → k < length (levels ++ next ∷ [])
        → bit_in (set_at (levels ++ next ∷ []) j) e ≡ 1
        → bit_in (set_at (levels ++ next ∷ []) k) e ≡ 1 → j ≡ k
    apart j k e lj lk bj bk = at (cases_lt j (length levels)) (cases_lt k (length levels)) where
      at : (j < length levels) ⊎ (length levels ≤ j) → (k < length levels) ⊎ (length levels ≤ k)
          → j ≡ k
      at (inl a) (inl b) = h.levelled.apart j k e a b (rw (old_at j a) at bj)
          (rw (old_at k b) at bk)
      at (inl a) (inr b) = absurd (next_apart j e a (rw (old_at j a) at bj)
          (rw (new_at k (omega (arith, b, lk, count))) at bk))
      at (inr a) (inl b) = absurd (next_apart k e b (rw (old_at k b) at bk)
          (rw (new_at j (omega (arith, a, lj, count))) at bj))
      at (inr a) (inr b) = omega (arith, a, b, lj, lk, count)

    closed : (k e : ℕ) → k + 1 < length (levels ++ next ∷ []) → e < n
        → LeadsInto unions e (set_at (levels ++ next ∷ []) k) → (j : ℕ) × (j ≤ k + 1)
        × (bit_in (set_at (levels ++ next ∷ []) j) e ≡ 1)
    closed k e l le into = at (cases_lt (k + 1) (length levels)) where
      lk : k < length levels
      lk = omega (arith, l, count)

      into' : LeadsInto unions e (set_at levels k)
      into' = rw (old_at k lk) at into

      at : (k + 1 < length levels) ⊎ (length levels ≤ k + 1) → (j : ℕ) × (j ≤ k + 1)
          × (bit_in (set_at (levels ++ next ∷ []) j) e ≡ 1)
      at (inl lt) = let (j, lj, bit) = h.levelled.closed k e lt le
          into' in (j, lj, rw (old_at j (omega (arith, lj, lt))) bit)
      at (inr ge) =
          let is : k + 1 ≡ length levels = omega (arith, ge, lk) in
          ⊎_elim
          (λ (j, lj, bit). (j, omega (arith, lj, is), rw (old_at j lj) bit))
          (λ bit. (k + 1, omega arith, rw (new_at (k + 1) is) bit))
          (leads_next k e is le into')

  -- the next level has a place with z < 0
  pub first_found : (first : ℕ) → bit_in next first ≡ 1 → get_or z first (pos 0) <ℤ pos 0
      → IsFirst n unions z (levels ++ next ∷ []) first
  first_found first bit under = record {
    levelled = more_levels;
    further = omega (arith, count, h.levelled.some);
    last = λ k is. rw (new_at k (omega (arith, is, count))) bit;
    under = under;
  }

  -- it has none
  pub levelling_more : ((e : ℕ) → bit_in next e ≡ 1 → get_or z e (pos 0) <ℤ pos 0 → ⊥)
      → IsLevelling n unions z (levels ++ next ∷ []) next left'
  levelling_more none = record {
    levelled = more_levels;
    top = λ k is. new_at k (omega (arith, is, count));
    rest = λ e. (to_rest e, of_rest e);
    above = λ k e l bit. ⊎_elim (λ lt. h.above k e lt (rw (old_at k lt) at bit))
        (λ ge. none e (rw (new_at k (omega (arith, ge, l, count))) at bit))
        (cases_lt k (length levels));
  } where
    to_rest : (e : ℕ) → bit_in left' e ≡ 1 → (e < n)
        × ((k : ℕ) → k < length (levels ++ next ∷ [])
        → bit_in (set_at (levels ++ next ∷ []) k) e ≡ 0)
    to_rest e one =
        let p = to.parted e in
        let o = bit_in-lt left e in
        let has : bit_in left e ≡ 1 = omega (arith, p, o, one) in
        let no' : bit_in next e ≡ 0 = omega (arith, p, o, one) in
        let r = (h.rest e).0 has in (
          r.0,
          λ k l. ⊎_elim (λ lt. rw (old_at k lt) (r.1 k lt))
              (λ ge. rw (new_at k (omega (arith, ge, l, count))) no') (cases_lt k (length levels)),
        )

    of_rest : (e : ℕ) → (e < n) × ((k : ℕ) → k < length (levels ++ next ∷ [])
        → bit_in (set_at (levels ++ next ∷ []) k) e ≡ 0) → bit_in left' e ≡ 1
    of_rest e r =
        let has = (h.rest e).1 (r.0, λ k l. rw (old_at k l) at (r.1 k (omega (arith, l, count)))) in
        let no' = rw (new_at (length levels) refl) at
        (r.1 (length levels) (omega (arith, count))) in
        let p = to.parted e in
        omega (arith, has, no', p)

  -- with a place in the next level fewer places are left
  pub fewer_left : (e : ℕ) → bit_in next e ≡ 1
      → sum_below n (bit_in left') < sum_below n (bit_in left)
  fewer_left e one = sum_below-lt n (bit_in left') (bit_in left) e
      (λ e l. let p = to.parted e in omega (arith, p)) (to.below e one)
      (let p = to.parted e in omega (arith, p, one))
