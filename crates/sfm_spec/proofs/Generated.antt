-- The blocks generate the minimisers: these are exactly the unions of the least one with the blocks
-- of a closed choice. A union is a minimiser since each of its places lies in a minimiser within
-- it: the least one that has the place, which has only what comes along with it. A minimiser is the
-- union with the blocks that it meets, since it has with each place all that comes along with it.
use Rattle.std.proofs.Common.{◌≡◌, ◌≢◌, ◌↔◌, ◌⊎◌, ℕ, zero, suc, ◌+◌, ◌<◌, Bool, true, false, ◌&&◌, ◌||◌, List, [], ◌∷◌, length, map, get_or, ℤ, pos, ◌≤ℤ◌, if◌then◌else◌, sym, ap, ◌∙◌, arith, inl, inr, ⊎_elim, Contains}
use Rattle.std.proofs.lemmas.Bool.{false≢true, both_ways, or_cases, or_left, or_right, and_from, and_parts, cases_lt, cases_eq}
use Rattle.std.proofs.lemmas.Int.{ints}
use Rattle.std.proofs.lemmas.List.{length-map, get_or-map}
use Rattle.sfm_spec.specs.Sets.{Has, size, union, intersection, IsWithin}
use Rattle.sfm_spec.specs.Families.{Meaning, AreTerms, IsMinimiser, IsLeast}
use Rattle.sfm_spec.specs.Blocks.{Block, PullsAlong, IsFree, AreBlocks, Generate, IsClosedChoice, IsUnionOf, block_at, no_block}
use Rattle.sfm_spec.proofs.Sets.{in_union, union_left, union_right, in_both, in_first, has_or_not, same_sets}
use Rattle.sfm_spec.proofs.Sums.{length-intersection}
use Rattle.sfm_spec.proofs.Sizes.{size_grows, size_below_length, within_by_intersection}
use Rattle.sfm_spec.proofs.Walks.{has_below}
use Rattle.sfm_spec.proofs.Lattice.{minimisers_lattice, best_minimiser}

-- a place below the next is below, or it is the place
at_or_below : (e k : ℕ) → e < suc k → (e < k) ⊎ (e ≡ k)
at_or_below e k l = ⊎_elim (λ less. inl less) (λ le. inr (omega arith)) (cases_lt e k)

-- ---- the blocks that a set meets

-- whether two sets share a place
meets : List Bool → List Bool → Bool
meets [] t = false
meets (a ∷ s) [] = false
meets (a ∷ s) (b ∷ t) = (a && b) || meets s t

meets_by : (s t : List Bool) (e : ℕ) → Has s e → Has t e → meets s t ≡ true
unfolding meets
meets_by [] t e hs ht = absurd (false≢true hs)
meets_by (a ∷ s) [] e hs ht = absurd (false≢true ht)
meets_by (a ∷ s) (b ∷ t) zero hs ht = or_left (a && b) (meets s t) (and_from a b hs ht)
meets_by (a ∷ s) (b ∷ t) (suc e) hs ht = or_right (a && b) (meets s t) (meets_by s t e hs ht)

meets_at : (s t : List Bool) → meets s t ≡ true → (e : ℕ) × Has s e × Has t e
unfolding meets
meets_at [] t h = absurd (false≢true h)
meets_at (a ∷ s) [] h = absurd (false≢true h)
meets_at (a ∷ s) (b ∷ t) h = at (or_cases (a && b) (meets s t) h) (λ k. meets_at s t k) where
  at : ((a && b) ≡ true) ⊎ (meets s t ≡ true) → (meets s t ≡ true → (e : ℕ) × Has s e × Has t e)
      → (e : ℕ) × Has (a ∷ s) e × Has (b ∷ t) e
  at (inl k) further = let (x, y) = and_parts a b k in (0, x, y)
  at (inr k) further = let (e, x, y) = further k in (suc e, x, y)

-- of each block whether the set meets it
met_by : List Bool → List Block → List Bool
met_by s blocks = map (λ block. meets s block.members) blocks

length-met_by : (s : List Bool) (blocks : List Block) → length (met_by s blocks) ≡ length blocks
unfolding met_by
length-met_by s blocks = length-map blocks (λ block. meets s block.members)

-- a block is met exactly where it has a place of the set
met_exactly : (s : List Bool) (blocks : List Block) (i : ℕ) → Has (met_by s blocks) i
    ↔ ((i < length blocks) × (e : ℕ) × Has s e × Has (block_at blocks i).members e)
unfolding met_by
met_exactly s blocks i = (to, from) where
  here : i < length blocks → get_or (met_by s blocks) i false ≡ meets s (block_at blocks i).members
  here l = get_or-map (λ block. meets s block.members) blocks i no_block false l

  to : Has (met_by s blocks) i → (i < length blocks) × (e : ℕ) × Has s e
      × Has (block_at blocks i).members e
  to h =
      let l : i < length blocks = let b = has_below (met_by s blocks) i h in let k = length-met_by s
      blocks in omega (arith, b, k) in
      let (e, x, y) = meets_at s (block_at blocks i).members (sym (here l) ∙ h) in
      (l, e, x, y)

  from : (i < length blocks) × (e : ℕ) × Has s e × Has (block_at blocks i).members e
      → Has (met_by s blocks) i
  from (l, e, x, y) = here l ∙ meets_by s (block_at blocks i).members e x y

module _ (terms : List Meaning) (n : ℕ) (q : ℤ) (shift : List ℤ) (low : pos 0 ≤ℤ q)
    (fit : AreTerms n terms) where
  -- ---- the least minimiser that has a place

  -- a minimiser that has the place, and no more than all that comes along with it
  abbrev OfPlace : ℕ → Type 0
  OfPlace e = (t : List Bool) × IsMinimiser terms n q shift t × Has t e
      × ((e' : ℕ) → Has t e' → PullsAlong terms n q shift e e')

  -- how large a set is that has the place; more than all, if it has it not
  size_with : ℕ → List Bool → ℤ
  size_with e s = if get_or s e false then pos (size s) else pos (suc n)

  size_with_place : (e : ℕ) (s : List Bool) → Has s e → size_with e s ≡ pos (size s)
  unfolding size_with
  size_with_place e s h = ap (λ b. if b then pos (size s) else pos (suc n)) h

  size_without : (e : ℕ) (s : List Bool) → get_or s e false ≡ false → size_with e s ≡ pos (suc n)
  unfolding size_with
  size_without e s h = ap (λ b. if b then pos (size s) else pos (suc n)) h

  of_place : (e : ℕ) (s : List Bool) → IsMinimiser terms n q shift s → Has s e → OfPlace e
  of_place e s hs has = from (best_minimiser terms n q shift low fit (size_with e)) where
    from : (t : List Bool) × IsMinimiser terms n q shift t
        × ((r : List Bool) → IsMinimiser terms n q shift r → size_with e t ≤ℤ size_with e r)
        → OfPlace e
    from (t, ht, best) = (t, ht, inside, pulled) where
      inside : Has t e
      inside = ⊎_elim (λ h. h) (λ none. absurd (clash none)) (has_or_not t e) where
        clash : get_or t e false ≡ false → ⊥
        clash none =
            let a = best s hs in
            let b = size_with_place e s has in
            let c = size_without e t none in
            let d = size_below_length s in
            let p = hs.places in
            omega (arith, ints, a, b, c, d, p)

      pulled : (e' : ℕ) → Has t e' → PullsAlong terms n q shift e e'
      pulled e' k r hr hold =
          let same : length t ≡ length r = ht.places ∙ sym hr.places in
          let both : Has (intersection t r) e = in_both t r e same inside hold in
          let few = best (intersection t r)
          (minimisers_lattice terms n q shift low fit t r ht hr).1 in
          let a = size_with_place e t inside in
          let b = size_with_place e (intersection t r) both in
          ⊎_elim (λ eq. within_by_intersection t r same eq e' k)
          (λ lt. absurd (omega (arith, ints, few, lt, a, b)))
          (size_grows (intersection t r) t (length-intersection t r same)
          (λ d. in_first t r d same))

  -- ---- a set of which each place lies in a minimiser within it

  -- a minimiser within the set that has the first k of its places
  abbrev AsFar : List Bool → ℕ → Type 0
  AsFar s k = (t : List Bool) × IsMinimiser terms n q shift t × IsWithin t s
      × ((e : ℕ) → e < k → Has s e → Has t e)

  module _ (s least : List Bool) (ls : length s ≡ n) (hl : IsMinimiser terms n q shift least)
      (inside : IsWithin least s)
      (each : (e : ℕ) → Has s e → (t : List Bool) × IsMinimiser terms n q shift t × IsWithin t s
      × Has t e) where
    as_far : (k : ℕ) → AsFar s k
    as_far zero = (least, hl, inside, λ e l has. absurd (omega arith))
    as_far (suc k) = from (as_far k) (has_or_not s k) where
      from : AsFar s k → Has s k ⊎ (get_or s k false ≡ false) → AsFar s (suc k)
      from (t, ht, within, far) (inr none) = (t, ht, within, reach) where
        reach : (e : ℕ) → e < suc k → Has s e → Has t e
        reach e l has = ⊎_elim (λ h. far e h has)
            (λ h. absurd (both_ways (get_or s k false) none (rw h at has))) (at_or_below e k l)
      from (t, ht, within, far) (inl has_k) = more (each k has_k) where
        more : (r : List Bool) × IsMinimiser terms n q shift r × IsWithin r s × Has r k
            → AsFar s (suc k)
        more (r, hr, within_r, there) =
            (union t r, (minimisers_lattice terms n q shift low fit t r ht hr).0, both, reach) where
              same : length t ≡ length r
              same = ht.places ∙ sym hr.places

              both : IsWithin (union t r) s
              both e has = ⊎_elim (within e) (within_r e) (in_union t r e same has)

              reach : (e : ℕ) → e < suc k → Has s e → Has (union t r) e
              reach e l has = ⊎_elim (λ h. union_left t r e same (far e h has))
                  (λ h. union_right t r e same (rw h there)) (at_or_below e k l)

    -- it is a minimiser
    joined : IsMinimiser terms n q shift s
    joined = from (as_far n) where
      from : AsFar s n → IsMinimiser terms n q shift s
      from (t, ht, within, far) = rw (← same_sets t s (ht.places ∙ sym ls) (λ e l. within e)
          (λ e l. far e (rw (← ht.places) l))) ht

  -- ---- blocks

  module _ (blocks : List Block) (are : AreBlocks terms n q shift blocks) (least s : List Bool)
      (hl : IsLeast terms n q shift least) (ls : length s ≡ n) where
    -- a place of a block is one of the n
    member_below : (i e : ℕ) → i < length blocks → Has (block_at blocks i).members e → e < n
    member_below i e l has = rw (← are.places i l) (has_below (block_at blocks i).members e has)

    -- a minimiser is the union with the blocks that it meets
    to : IsMinimiser terms n q shift s → (chosen : List Bool) × IsClosedChoice blocks chosen
        × IsUnionOf least blocks chosen s
    to m = (
      met_by s blocks,
      record { blocks_told = length-met_by s blocks; closed = closed },
      exact,
    ) where
      closed : (i j : ℕ) → Has (met_by s blocks) i → Contains (block_at blocks i).needs (j + 1)
          → Has (met_by s blocks) j
      closed i j h need =
          let (l, d, in_s, in_i) = (met_exactly s blocks i).0 h in
          let numbered = are.numbered i (j + 1) l need in
          let lj : j < length blocks = omega (arith, numbered.1) in
          let apart : i ≢ j = λ same. numbered.2 (ap (λ k. k + 1) (sym same)) in
          let (e, in_j) = are.some j lj in
          (met_exactly s blocks j).1 (
            lj,
            e,
            (are.needed i j d e l lj apart in_i in_j).0 need s m in_s,
            in_j,
          )

      exact : IsUnionOf least blocks (met_by s blocks) s
      exact e = (split, back) where
        split : Has s e → Has least e
            ⊎ ((i : ℕ) × Has (met_by s blocks) i × Has (block_at blocks i).members e)
        split has = ⊎_elim (λ h. inl h) (λ none. inr (block none)) (has_or_not least e) where
          block : get_or least e false ≡ false → (i : ℕ) × Has (met_by s blocks) i
              × Has (block_at blocks i).members e
          block none =
              let below : e < n = rw (← ls) (has_below s e has) in
              let free : IsFree terms n q shift
              e = record {
                is_in = (s, m, has);
                is_out = (least, hl.minimiser, both_ways (get_or least e false) none);
              } in
              let (i, l, member) = (are.covers e below).0 free in
              (i, (met_exactly s blocks i).1 (l, e, has, member), member)

        back : Has least e ⊎ ((i : ℕ) × Has (met_by s blocks) i × Has (block_at blocks i).members e)
            → Has s e
        back (inl h) = hl.within s m e h
        back (inr (i, met, member)) =
            let (l, d, in_s, in_i) = (met_exactly s blocks i).0 met in
            ((are.shared i d e l (member_below i d l in_i) (member_below i e l member) in_i).0
            member).0 s m in_s

    -- such a union is a minimiser
    from : (chosen : List Bool) × IsClosedChoice blocks chosen × IsUnionOf least blocks chosen s
        → IsMinimiser terms n q shift s
    from (chosen, choice, exact) = joined s least ls hl.minimiser (λ e h. (exact e).1 (inl h))
        each where
          each : (e : ℕ) → Has s e → (t : List Bool) × IsMinimiser terms n q shift t × IsWithin t s
              × Has t e
          each e has = at ((exact e).0 has) where
            at : Has least e ⊎ ((i : ℕ) × Has chosen i × Has (block_at blocks i).members e)
                → (t : List Bool) × IsMinimiser terms n q shift t × IsWithin t s × Has t e
            at (inl h) = (least, hl.minimiser, (λ d k. (exact d).1 (inl k)), h)
            at (inr (i, taken, member)) =
                with_least (of_place e free.is_in.0 free.is_in.1 free.is_in.2) where
                  l : i < length blocks
                  l = let b = has_below chosen i
                      taken in let k = choice.blocks_told in omega (arith, b, k)

                  free : IsFree terms n q shift e
                  free = (are.covers e (member_below i e l member)).1 (i, l, member)

                  with_least : OfPlace e → (t : List Bool) × IsMinimiser terms n q shift t
                      × IsWithin t s
                      × Has t e
                  with_least (t, ht, there, pulled) = (t, ht, within, there) where
                    within : IsWithin t s
                    within d k = (exact d).1 (⊎_elim (λ h. inl h) (λ none. inr (block none))
                        (has_or_not least d)) where
                          block : get_or least d false ≡ false → (j : ℕ) × Has chosen j
                              × Has (block_at blocks j).members d
                          block none =
                              let below : d < n = rw (← ht.places) (has_below t d k) in
                              let (j, lj, in_j) = (are.covers d below).0
                              (record {
                                is_in = (t, ht, k);
                                is_out = (
                                  least,
                                  hl.minimiser,
                                  both_ways (get_or least d false) none,
                                );
                              }) in (
                                j,
                                ⊎_elim (λ same. rw (← same) taken)
                                    (λ apart. choice.closed i j taken
                                    ((are.needed i j e d l lj apart member in_j).1 (pulled d k)))
                                    (cases_eq i j),
                                in_j,
                              )

  -- the blocks of the minimisers generate them
  pub blocks_generate : (blocks : List Block) → AreBlocks terms n q shift blocks
      → Generate terms n q shift blocks
  blocks_generate blocks are least s hl ls =
      (to blocks are least s hl ls, from blocks are least s hl ls)
