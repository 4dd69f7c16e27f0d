-- How many places a block and all that it needs have: as many as come along with its first place.
-- For each such place is in one block, which is the block itself or one that it needs.
use Rattle.std.proofs.Common.{◌≡◌, ◌≢◌, ◌⊎◌, inl, inr, ⊎_elim, ℕ, zero, suc, ◌+◌, ◌-◌, ◌<◌, ◌≤◌, Bool, true, false, List, [], ◌∷◌, length, get_or, if◌then◌else◌, sym, ap, ◌∙◌, arith, sum_by}
use Rattle.std.proofs.lemmas.Bool.{both_ways, cases_eq, cases_lt, cases_Bool}
use Rattle.std.proofs.lemmas.List.{length-replicate}
use Rattle.std.proofs.lemmas.List.Sums.{sum_by-append, sum_by-cons}
use Rattle.sfm_spec.specs.Sets.{Has, size, union, empty_set}
use Rattle.sfm_spec.specs.Blocks.{Block, block_at, size_with_needs}
use Rattle.sfm_spec.proofs.Sets.{same_sets, in_union, union_left, union_right}
use Rattle.sfm_spec.proofs.Sums.{length-union}
use Rattle.sfm_spec.proofs.Sizes.{size-empty}
use Rattle.sfm_spec.proofs.Lattice.{none_in_empty}
use Rattle.sfm_spec.proofs.Walks.{has_below}
use Rattle.sfm_extreme.specs.Pulls.{AreFirsts, AreGrouped, Pulls, needs_upto, pulled, row_of}
use Rattle.sfm_extreme.proofs.Classes.{IsPreorder, first_exists, first_same, needed, needed_is, needs_in, needs_out, pulled_below, size-disjoint}

module _ (rows : List (List Bool)) (pre : IsPreorder rows) (firsts : List ℕ)
    (all : AreFirsts rows firsts) (blocks : List Block)
    (grouped : AreGrouped rows firsts blocks) where
  -- the places of block k
  class : ℕ → List Bool
  class k = (block_at blocks k).members

  length-class : (k : ℕ) → k < length blocks → length (class k) ≡ length rows
  unfolding class
  length-class k l = (grouped.members k l).places

  in_class : (k d : ℕ) → k < length blocks → Has (class k) d → Pulls rows (get_or firsts k 0) d
      × Pulls rows d (get_or firsts k 0)
  unfolding class
  in_class k d l h = let m = grouped.members k
      l in (m.exact d (rw (← m.places) (has_below (class k) d h))).0 h

  to_class : (k d : ℕ) → k < length blocks → Pulls rows (get_or firsts k 0) d
      → Pulls rows d (get_or firsts k 0) → Has (class k) d
  unfolding class
  to_class k d l p q =
      ((grouped.members k l).exact d (pulled_below rows pre (get_or firsts k 0) d p)).1 (p, q)

  -- two blocks with a common place are one
  apart : (m k d : ℕ) → m < k → k < length blocks → Has (class m) d → Has (class k) d → ⊥
  apart m k d l lk hm hk =
      let lf : k < length firsts = rw (← grouped.count) lk in
      let pm = in_class m d (omega arith) hm in
      let pk = in_class k d lk hk in
      let same = first_same rows pre (get_or firsts m 0) (get_or firsts k 0)
      (all.first m (omega arith)) (all.first k lf)
      (pre.along (get_or firsts m 0) d (get_or firsts k 0) pm.0 pk.1)
      (pre.along (get_or firsts k 0) d (get_or firsts m 0) pk.0 pm.1) in
      let counts = ap (pulled rows) same in
      ⊎_elim (λ less. omega (arith, less, counts)) (λ (c, less). omega (arith, less, same))
      (all.ordered m k l lf)

  module _ (i : ℕ) where
    -- what is in the first k blocks of those that the block i needs, and in itself
    upto : ℕ → List Bool
    upto zero = empty_set (length rows)
    upto (suc k) = if get_or (row_of rows (get_or firsts i 0)) (get_or firsts k 0) false then union
        (upto k) (class k) else upto k

    upto_in : (k : ℕ) → Pulls rows (get_or firsts i 0) (get_or firsts k 0)
        → upto (suc k) ≡ union (upto k) (class k)
    unfolding upto
    upto_in k e = ap (λ b. if b then union (upto k) (class k) else upto k) e

    upto_out : (k : ℕ) → get_or (row_of rows (get_or firsts i 0)) (get_or firsts k 0) false ≡ false
        → upto (suc k) ≡ upto k
    unfolding upto
    upto_out k e = ap (λ b. if b then union (upto k) (class k) else upto k) e

    length-upto : (k : ℕ) → k ≤ length blocks → length (upto k) ≡ length rows
    unfolding upto
    length-upto zero l = length-replicate (length rows) false
    length-upto (suc k) l = at (length-upto k (omega arith))
        (cases_Bool (get_or (row_of rows (get_or firsts i 0)) (get_or firsts k 0) false)) where
          at : length (upto k) ≡ length rows → Pulls rows (get_or firsts i 0) (get_or firsts k 0)
              ⊎ (get_or (row_of rows (get_or firsts i 0)) (get_or firsts k 0) false ≡ false)
              → length (upto (suc k)) ≡ length rows
          at r (inl p) = ap length (upto_in k p)
              ∙ (length-union (upto k) (class k) (r ∙ sym (length-class k (omega arith))) ∙ r)
          at r (inr np) = ap length (upto_out k np) ∙ r

    same_length : (k : ℕ) → k < length blocks → length (upto k) ≡ length (class k)
    same_length k l = length-upto k (omega arith) ∙ sym (length-class k l)

    -- where a place of it is
    Where : ℕ → ℕ → Type 0
    Where k d = (m : ℕ) × (m < k) × Pulls rows (get_or firsts i 0) (get_or firsts m 0)
        × Has (class m) d

    upto_to : (k d : ℕ) → k ≤ length blocks → Has (upto k) d → Where k d
    unfolding Where upto
    upto_to zero d l h = absurd (none_in_empty (length rows) d h)
    upto_to (suc k) d l h = step (upto_to k d (omega arith))
        (cases_Bool (get_or (row_of rows (get_or firsts i 0)) (get_or firsts k 0) false)) where
          wider : Where k d → Where (suc k) d
          wider (m, lm, p, c) = (m, omega arith, p, c)

          step : (Has (upto k) d → Where k d) → Pulls rows (get_or firsts i 0) (get_or firsts k 0)
              ⊎ (get_or (row_of rows (get_or firsts i 0)) (get_or firsts k 0) false ≡ false)
              → Where (suc k) d
          step before (inl p) = ⊎_elim (λ old. wider (before old)) (λ new. (k, omega arith, p, new))
              (in_union (upto k) (class k) d (same_length k (omega arith)) (rw (upto_in k p) at h))
          step before (inr np) = wider (before (rw (upto_out k np) at h))

    upto_from : (k d : ℕ) → k ≤ length blocks → Where k d → Has (upto k) d
    unfolding Where upto
    upto_from zero d l (m, lm, p, c) = absurd (omega arith)
    upto_from (suc k) d l (m, lm, p, c) =
        at (upto_from k d (omega arith))
        (cases_Bool (get_or (row_of rows (get_or firsts i 0)) (get_or firsts k 0) false))
        (cases_lt m k) where
          at : (Where k d → Has (upto k) d) → Pulls rows (get_or firsts i 0) (get_or firsts k 0)
              ⊎ (get_or (row_of rows (get_or firsts i 0)) (get_or firsts k 0) false ≡ false)
              → (m < k)
              ⊎ (k ≤ m) → Has (upto (suc k)) d
          at before (inl q) (inl lt) = rw (upto_in k q)
              (union_left (upto k) (class k) d (same_length k (omega arith)) (before (m, lt, p, c)))
          at before (inl q) (inr ge) = let is : m ≡ k = omega arith in rw (upto_in k q)
              (union_right (upto k) (class k) d (same_length k (omega arith)) (rw (← is) c))
          at before (inr nq) (inl lt) = rw (upto_out k nq) (before (m, lt, p, c))
          at before (inr nq) (inr ge) =
              let is : m ≡ k = omega arith in absurd (both_ways
              (get_or (row_of rows (get_or firsts i 0)) (get_or firsts k 0) false) nq (rw (← is) p))

    -- how many places the needs so far have
    count : ℕ → ℕ
    count k = sum_by (λ j. size (block_at blocks (j - 1)).members) (needs_upto rows firsts i k)

    count_in : (k : ℕ) → needed rows firsts i k ≡ true → count (suc k) ≡ count k + size (class k)
    unfolding count class
    count_in k e =
        let g : ℕ → ℕ = λ j. size (block_at blocks (j - 1)).members in
        let back : suc k - 1 ≡ k = omega arith in
        let one : sum_by g (suc k ∷ []) ≡ size (block_at blocks (suc k - 1)).members
        + 0 = sum_by-cons g (suc k) [] in
        let at : size (block_at blocks (suc k - 1)).members ≡ size
        (block_at blocks k).members = ap (λ j. size (block_at blocks j).members) back in
        let sum = sum_by-append g (needs_upto rows firsts i k) (suc k ∷ []) in
        ap (sum_by g) (needs_in rows firsts i k e) ∙ omega (arith, sum, one, at)

    count_out : (k : ℕ) → needed rows firsts i k ≡ false → count (suc k) ≡ count k
    unfolding count
    count_out k e = ap (sum_by (λ j. size (block_at blocks (j - 1)).members))
        (needs_out rows firsts i k e)

    -- the count of what is in the blocks so far, before the block itself and after
    Total : ℕ → Type 0
    Total k = ((k ≤ i) × (size (upto k) ≡ count k))
        ⊎ ((i < k) × (size (upto k) ≡ count k + size (class i)))

    nothing : size (upto zero) ≡ count zero
    unfolding upto count
    nothing = size-empty (length rows)

    disjoint : (k : ℕ) → k < length blocks → size (union (upto k) (class k)) ≡ size (upto k) + size
        (class k)
    unfolding Where
    disjoint k l = size-disjoint (upto k) (class k) (same_length k l)
        (λ d hu hc. let (m, lm, p, hm) = upto_to k d (omega arith) hu in apart m k d lm l hm hc)

    total : (k : ℕ) → i < length blocks → k ≤ length blocks → Total k
    unfolding Total
    total zero li l = inl (omega arith, nothing)
    total (suc k) li l = at (total k li (omega arith)) (cases_Bool (needed rows firsts i k))
        (cases_Bool (get_or (row_of rows (get_or firsts i 0)) (get_or firsts k 0) false))
        (cases_eq k i) where
          lk : k < length blocks
          lk = omega arith

          at : Total k → (needed rows firsts i k ≡ true) ⊎ (needed rows firsts i k ≡ false)
              → Pulls rows (get_or firsts i 0) (get_or firsts k 0)
              ⊎ (get_or (row_of rows (get_or firsts i 0)) (get_or firsts k 0) false ≡ false)
              → (k ≡ i)
              ⊎ (k ≢ i) → Total (suc k)
          at before (inl does) p (inl is) = absurd (((needed_is rows firsts i k).0 does).0 is)
          at before (inl does) p (inr ne) =
              let q = ((needed_is rows firsts i k).0 does).1 in
              let a = ap size (upto_in k q) in
              let b = disjoint k lk in
              let c = count_in k does in
              ⊎_elim (λ (le, e). inl (omega arith, omega (arith, a, b, c, e)))
              (λ (lt, e). inr (omega arith, omega (arith, a, b, c, e))) before
          at before (inr no') (inl p) (inr ne) =
              absurd (both_ways (needed rows firsts i k) no'
              ((needed_is rows firsts i k).1 (ne, p)))
          at before (inr no') (inr np) (inr ne) =
              let a = ap size (upto_out k np) in
              let c = count_out k no' in
              ⊎_elim (λ (le, e). inl (omega arith, omega (arith, a, c, e)))
              (λ (lt, e). inr (omega arith, omega (arith, a, c, e))) before
          at before (inr no') (inr np) (inl is) =
              absurd (both_ways (get_or (row_of rows (get_or firsts i 0)) (get_or firsts k 0) false)
              np
              (rw is (all.first i (rw (← grouped.count) li)).here))
          at before (inr no') (inl p) (inl is) =
              let a = ap size (upto_in k p) in
              let b = disjoint k lk in
              let c = count_out k no' in
              let d = ap (λ j. size (class j)) is in
              ⊎_elim (λ (le, e). inr (omega arith, omega (arith, a, b, c, d, e)))
              (λ (lt, e). absurd (omega arith)) before

    -- what is in all of them is what comes along with the first place
    upto_all : i < length blocks → upto (length blocks) ≡ row_of rows (get_or firsts i 0)
    unfolding Where
    upto_all li = same_sets (upto (length blocks)) (row_of rows (get_or firsts i 0)) same to
        from where
          same : length (upto (length blocks)) ≡ length (row_of rows (get_or firsts i 0))
          same = length-upto (length blocks) (omega arith)
              ∙ sym (pre.square (get_or firsts i 0) (all.inside i (rw (← grouped.count) li)))

          to : (d : ℕ) → d < length (upto (length blocks)) → Has (upto (length blocks)) d
              → Has (row_of rows (get_or firsts i 0)) d
          to d ld h = let (m, lm, p, c) = upto_to (length blocks) d (omega arith) h in pre.along
              (get_or firsts i 0) (get_or firsts m 0) d p (in_class m d lm c).0

          from : (d : ℕ) → d < length (upto (length blocks))
              → Has (row_of rows (get_or firsts i 0)) d
              → Has (upto (length blocks)) d
          from d ld h =
              let (e, le, fe, ed, de) = first_exists rows pre d
              (pre.here (get_or firsts i 0) d h).1 in
              let (m, lm, is) = all.complete e le fe in
              let lb : m < length blocks = rw grouped.count lm in
              upto_from (length blocks) d (omega arith) (
                m,
                lb,
                pre.along (get_or firsts i 0) d (get_or firsts m 0) h (rw is de),
                to_class m d lb (rw is ed) (rw is de),
              )

    -- so the weight of the block is the count of what comes along with its first place
    pub weight_is : i < length blocks → size_with_needs blocks i ≡ pulled rows (get_or firsts i 0)
    unfolding Total count class
    weight_is li = at (total (length blocks) li (omega arith)) where
      needs : (block_at blocks i).needs ≡ needs_upto rows firsts i (length blocks)
      needs = grouped.needs i li ∙ ap (needs_upto rows firsts i) (sym grouped.count)

      at : Total (length blocks) → size_with_needs blocks i ≡ pulled rows (get_or firsts i 0)
      at (inl (le, e)) = absurd (omega arith)
      at (inr (lt, e)) =
          let a = ap size (upto_all li) in
          let b = ap (sum_by (λ j. size (block_at blocks (j - 1)).members)) needs in
          omega (arith, a, b, e)
