-- Two lists of the blocks of the same minimisers are one list.
use Rattle.std.proofs.Common.{◌≡◌, ◌≢◌, ⊎_elim, ℕ, zero, suc, ◌+◌, ◌<◌, ◌≤◌, Bool, List, length, ℤ, sym, ap, ◌∙◌, arith, subst}
use Rattle.std.specs.Prelude.{Contains}
use Rattle.std.proofs.lemmas.Bool.{cases_lt}
use Rattle.std.proofs.lemmas.List.{ext_get_or}
use Rattle.sfm_spec.specs.Sets.{Has, size}
use Rattle.sfm_spec.specs.Families.{Meaning}
use Rattle.sfm_spec.specs.Blocks.{AreBlocks, Block, IsFirst, block_at, no_block, size_with_needs}
use Rattle.sfm_spec.proofs.Sets.{same_sets}
use Rattle.sfm_spec.proofs.Walks.{has_below}
use Rattle.sfm_check.proofs.Differing.{increasing_same}
use Rattle.sfm_check.proofs.BlockOrder.{apart, below, class, first_place, joins, length-whole, size-whole, together, whole, whole_from, whole_to}

-- the block at i, of the list a, and the block at j, of the list b, have the same places
abbrev pub IsSameClass : List Block → List Block → ℕ → ℕ → Type 0
IsSameClass a b i j = (i < length a) × (j < length b)
    × ((block_at a i).members ≡ (block_at b j).members)

same_class_back : (a b : List Block) (i j : ℕ) → IsSameClass a b i j → IsSameClass b a j i
same_class_back a b i j (li, lj, e) = (lj, li, sym e)

module _ (terms : List Meaning) (n : ℕ) (q : ℤ) (shift : List ℤ) (a b : List Block)
    (ha : AreBlocks terms n q shift a) (hb : AreBlocks terms n q shift b) where
  within : (i j d : ℕ) → i < length a → j < length b → Has (block_at a i).members d
      → Has (block_at b j).members d → (e : ℕ) → Has (block_at a i).members e
      → Has (block_at b j).members e
  unfolding class
  within i j d li lj hi hj e he =
      joins terms n q shift b hb j d e lj (below terms n q shift a ha i e li he) hj
      (together terms n q shift a ha i d e li hi he) (together terms n q shift a ha i e d li he hi)

module _ (terms : List Meaning) (n : ℕ) (q : ℤ) (shift : List ℤ) (a b : List Block)
    (ha : AreBlocks terms n q shift a) (hb : AreBlocks terms n q shift b) where
  -- each block of the one list has its like in the other
  like : (i : ℕ) → i < length a → (j : ℕ) × IsSameClass a b i j
  unfolding class
  like i li =
      let (d, hd) = ha.some i li in
      let ld = below terms n q shift a ha i d li hd in
      let (j, lj, hj) = (hb.covers d ld).0 ((ha.covers d ld).1 (i, li, hd)) in (
        j,
        (
          li,
          lj,
          same_sets
              (block_at a i).members
              (block_at b j).members
              (ha.places i li ∙ sym (hb.places j lj))
              (λ e l he. within terms n q shift a b ha hb i j d li lj hd hj e he)
              (λ e l he. within terms n q shift b a hb ha j i d lj li hj hd e he),
        ),
      )

  whole_within : (i j e : ℕ) → IsSameClass a b i j → Has (whole terms n q shift a ha i) e
      → Has (whole terms n q shift b hb j) e
  unfolding class
  whole_within i j e (li, lj, same) has =
      let (d, hd) = ha.some i li in
      let t = whole_to terms n q shift a ha i d e li hd has in
      let le : e < n = rw (length-whole terms n q shift a ha i li) at
      (has_below (whole terms n q shift a ha i) e has) in
      whole_from terms n q shift b hb j d e lj le (subst (λ s. Has s d) same hd) t.0 t.1

module _ (terms : List Meaning) (n : ℕ) (q : ℤ) (shift : List ℤ) (a b : List Block)
    (ha : AreBlocks terms n q shift a) (hb : AreBlocks terms n q shift b) where
  same_weight : (i j : ℕ) → IsSameClass a b i j → size_with_needs a i ≡ size_with_needs b j
  same_weight i j c =
      let la = length-whole terms n q shift a ha i c.0 in
      let lb = length-whole terms n q shift b hb j c.1 in
      let same : whole terms n q shift a ha i ≡ whole terms n q shift b hb j = same_sets
      (whole terms n q shift a ha i) (whole terms n q shift b hb j) (la ∙ sym lb)
      (λ e l h. whole_within terms n q shift a b ha hb i j e c h)
      (λ e l h. whole_within terms n q shift b a hb ha j i e (same_class_back a b i j c) h) in
      sym (size-whole terms n q shift a ha i c.0)
      ∙ (ap size same ∙ size-whole terms n q shift b hb j c.1)

  -- likes stand in the same order
  same_order : (i j k m : ℕ) → IsSameClass a b i j → IsSameClass a b k m → i < k → j < m
  unfolding class
  same_order i j k m c d l =
      let (x, hx) = ha.some i c.0 in
      let (y, hy) = ha.some k d.0 in
      ⊎_elim
      (λ less. less)
      (λ ge. ⊎_elim
      (λ less. absurd (clash x hx y hy less))
      (λ le. let is : j ≡ m = omega arith in
      let one : (block_at a i).members ≡ (block_at a k).members = c.2
      ∙ (ap (λ z. (block_at b z).members) is ∙ sym d.2) in
      absurd (apart terms n q shift a ha i k x (λ e. omega arith) c.0 d.0 hx
      (subst (λ s. Has s x) one hx)))
      (cases_lt m j))
      (cases_lt j m) where
        clash : (x : ℕ) → Has (block_at a i).members x → (y : ℕ) → Has (block_at a k).members y
            → m < j → ⊥
        clash x hx y hy less =
            let wi = same_weight i j c in
            let wk = same_weight k m d in
            let (f, first) = first_place (block_at a i).members (x, hx) in
            let (g, second) = first_place (block_at a k).members (y, hy) in
            ⊎_elim
            (λ p. ⊎_elim (λ r. omega (arith, p, r, wi, wk))
            (λ (r, firsts). omega (arith, p, r, wi, wk)) (hb.ordered m j less c.1))
            (λ (p, order). ⊎_elim
            (λ r. omega (arith, p, r, wi, wk))
            (λ (r, back).
            let u = order f g first second in
            let v = back g f (subst (λ s. IsFirst s g) d.2 second)
            (subst (λ s. IsFirst s f) c.2 first) in
            omega (arith, u, v))
            (hb.ordered m j less c.1))
            (ha.ordered i k l d.0)

  not_before : (i j : ℕ) → IsSameClass a b i j → i ≤ j
  not_before zero j c = omega arith
  not_before (suc i) j c = at (λ m. not_before i m) where
    at : ((m : ℕ) → IsSameClass a b i m → i ≤ m) → suc i ≤ j
    at again =
        let (m, d) = like terms n q shift a b ha hb i (let l = c.0 in omega (arith, l)) in
        let l = again m d in
        let r = same_order i m (suc i) j d c (omega arith) in
        omega (arith, l, r)

module _ (terms : List Meaning) (n : ℕ) (q : ℤ) (shift : List ℤ) (a b : List Block)
    (ha : AreBlocks terms n q shift a) (hb : AreBlocks terms n q shift b) where
  -- the like of a block stands at the same place
  same_place : (i : ℕ) → i < length a → IsSameClass a b i i
  same_place i l =
      let (j, c) = like terms n q shift a b ha hb i l in
      let low = not_before terms n q shift a b ha hb i j c in
      let high = not_before terms n q shift b a hb ha j i (same_class_back a b i j c) in
      let is : j ≡ i = omega (arith, low, high) in
      subst (IsSameClass a b i) is c

  not_longer : length a ≤ length b
  not_longer = ⊎_elim (λ l. let c = same_place (length b)
      l in let k = c.1 in absurd (omega (arith, k))) (λ ge. ge) (cases_lt (length b) (length a))

module _ (terms : List Meaning) (n : ℕ) (q : ℤ) (shift : List ℤ) (a b : List Block)
    (ha : AreBlocks terms n q shift a) (hb : AreBlocks terms n q shift b) where
  needs_within : (i : ℕ) → i < length a → (x : ℕ) → Contains (block_at a i).needs x
      → Contains (block_at b i).needs x
  needs_within i li x c =
      let m = ha.numbered i x li c in
      let low = m.0 in
      let high = m.1 in
      let (k, lk, is) : (k : ℕ) × (k < length a) × (x ≡ k + 1) = less low high in
      let ci = same_place terms n q shift a b ha hb i li in
      let ck = same_place terms n q shift a b ha hb k lk in
      let (d, hd) = ha.some i li in
      let (e, he) = ha.some k lk in
      let ne : i ≢ k = (λ same. m.2 (omega (arith, same, is))) in
      let p = (ha.needed i k d e li lk ne hd he).0 (subst (Contains (block_at a i).needs) is c) in
      subst
      (Contains (block_at b i).needs)
      (sym is)
      ((hb.needed i k d e ci.1 ck.1 ne (subst (λ s. Has s d) ci.2 hd)
      (subst (λ s. Has s e) ck.2 he)).1 p) where
        less : 1 ≤ x → x ≤ length a → (k : ℕ) × (k < length a) × (x ≡ k + 1)
        less low high = at x low high where
          at : (y : ℕ) → 1 ≤ y → y ≤ length a → (k : ℕ) × (k < length a) × (y ≡ k + 1)
          at zero l r = absurd (omega arith)
          at (suc y) l r = (y, omega arith, omega arith)

same_block : (x y : Block) → x.members ≡ y.members → x.needs ≡ y.needs → x ≡ y
same_block x y p r =
    let f : List Bool → Block = λ m. record { members = m; needs = x.needs } in
    let g : List ℕ → Block = λ k. record { members = y.members; needs = k } in
    ap f p ∙ ap g r

-- the blocks of the minimisers are determined by them
pub one_blocks : (terms : List Meaning) (n : ℕ) (q : ℤ) (shift : List ℤ) (a b : List Block)
    → AreBlocks terms n q shift a → AreBlocks terms n q shift b → a ≡ b
one_blocks terms n q shift a b ha hb =
    ext_get_or no_block a b count
    (λ i l. same_block (block_at a i) (block_at b i) (same_place terms n q shift a b ha hb i l).2
    (needs i l)) where
      count : length a ≡ length b
      count = let p = not_longer terms n q shift a b ha hb in let r = not_longer terms n q shift b a
          hb
          ha in omega (arith, p, r)

      needs : (i : ℕ) → i < length a → (block_at a i).needs ≡ (block_at b i).needs
      needs i l =
          let lb : i < length b = omega (arith, count) in
          increasing_same
          (block_at a i).needs
          (block_at b i).needs
          (ha.ascending i l)
          (hb.ascending i lb)
          (needs_within terms n q shift a b ha hb i l)
          (needs_within terms n q shift b a hb ha i lb)
