-- The blocks that are read off from the table are those of the minimisers.
use Rattle.std.proofs.Common.{◌≡◌, ◌≢◌, ◌↔◌, inl, inr, ⊎_elim, ℕ, suc, ◌+◌, ◌<◌, Bool, List, length, get_or, ℤ, sym, ◌∙◌, arith}
use Rattle.std.specs.Prelude.{Contains}
use Rattle.std.proofs.lemmas.Bool.{cases_lt}
use Rattle.sfm_spec.specs.Sets.{Has}
use Rattle.sfm_spec.specs.Families.{Meaning}
use Rattle.sfm_spec.specs.Blocks.{Block, block_at, size_with_needs, AreBlocks, ComesBefore, IsFirst, IsFree, PullsAlong}
use Rattle.sfm_spec.proofs.Walks.{has_below}
use Rattle.sfm_extreme.specs.Pulls.{AreFirsts, AreGrouped, AreSquare, Before, Pulls, pulled}
use Rattle.sfm_extreme.proofs.Classes.{IsPreorder, first_exists, needs_ascending, needs_exact, pulled_below}
use Rattle.sfm_extreme.proofs.Weights.{weight_is}

-- what the table tells of the minimisers: between are the places that some have and some have not,
-- and of these it tells which come along with which
pub record TellsPulls (terms : List Meaning) (n : ℕ) (q : ℤ) (shift : List ℤ) (IsMid : ℕ → Type 0)
    (rows : List (List Bool)) : Type 0 where
  pub count : length rows ≡ n
  pub square : AreSquare rows
  pub free : (e : ℕ) → e < n → IsFree terms n q shift e ↔ IsMid e
  pub inside : (e d : ℕ) → Pulls rows e d → (e < n) × (d < n) × IsMid e × IsMid d
  pub exact : (e d : ℕ) → e < n → d < n → IsMid e → IsMid d → Pulls rows e d
      ↔ PullsAlong terms n q shift e d

module _ (terms : List Meaning) (n : ℕ) (q : ℤ) (shift : List ℤ) (IsMid : ℕ → Type 0)
    (rows : List (List Bool)) (tells : TellsPulls terms n q shift IsMid rows) where
  -- what comes along in the table comes along
  along_of : (e d : ℕ) → Pulls rows e d → PullsAlong terms n q shift e d
  along_of e d h = let (le, ld, me, md) = tells.inside e d h in (tells.exact e d le ld me md).0 h

  -- a place between comes along with itself
  self : (e : ℕ) → e < n → IsMid e → Pulls rows e e
  self e l m = (tells.exact e e l l m m).1 (λ s hs h. h)

  pub preorder : IsPreorder rows
  preorder = record {
    square = tells.square;
    here = λ e d h. let (le, ld, me, md) = tells.inside e d h in (self e le me, self d ld md);
    along = λ a b c h k.
        let (la, lb, ma, mb) = tells.inside a b h in
        let (lb', lc, mb', mc) = tells.inside b c k in
        (tells.exact a c la lc ma mc).1 (λ s hs x. along_of b c k s hs (along_of a b h s hs x));
  }

  -- places that come along both ways with one that some minimisers have and some have not, are such
  -- places too
  free_along : (d e : ℕ) → d < n → e < n → IsMid d → PullsAlong terms n q shift d e
      → PullsAlong terms n q shift e d → IsMid e
  free_along d e ld le m de ed =
      let free = (tells.free d ld).1 m in
      let (s, hs, has) = free.is_in in
      let (t, ht, lacks) = free.is_out in
      (tells.free e le).0
      (record { is_in = (s, hs, de s hs has); is_out = (t, ht, λ h. lacks (ed t ht h)) })

  module _ (firsts : List ℕ) (all : AreFirsts rows firsts) (blocks : List Block)
      (grouped : AreGrouped rows firsts blocks) where
    f : ℕ → ℕ
    f k = get_or firsts k 0

    in_firsts : (i : ℕ) → i < length blocks → i < length firsts
    in_firsts i l = rw (← grouped.count) l

    first_pulls : (i : ℕ) → i < length blocks → Pulls rows (get_or firsts i 0) (get_or firsts i 0)
    first_pulls i l = (all.first i (in_firsts i l)).here

    -- the places of a block and its first place come along with one another
    to_first : (i d : ℕ) → i < length blocks → Has (block_at blocks i).members d
        → Pulls rows (get_or firsts i 0) d × Pulls rows d (get_or firsts i 0)
    to_first i d l h = let m = grouped.members i
        l in (m.exact d (rw (← m.places) (has_below (block_at blocks i).members d h))).0 h

    from_first : (i d : ℕ) → i < length blocks → Pulls rows (get_or firsts i 0) d
        → Pulls rows d (get_or firsts i 0) → Has (block_at blocks i).members d
    from_first i d l p r =
        ((grouped.members i l).exact d (pulled_below rows preorder (get_or firsts i 0) d p)).1
        (p, r)

    has_first : (i : ℕ) → i < length blocks → Has (block_at blocks i).members (get_or firsts i 0)
    has_first i l = from_first i (get_or firsts i 0) l (first_pulls i l) (first_pulls i l)

    -- the first place of the block is its first place
    first_is : (i d : ℕ) → i < length blocks → IsFirst (block_at blocks i).members d
        → d ≡ get_or firsts i 0
    first_is i d l h =
        let le = h.least (get_or firsts i 0) (has_first i l) in
        let (p, r) = to_first i d l h.is_in in
        ⊎_elim (λ lt. absurd ((all.first i (in_firsts i l)).least d lt p r)) (λ ge. omega arith)
        (cases_lt d (get_or firsts i 0))

    covers : (e : ℕ) → e < n → IsFree terms n q shift e
        ↔ ((i : ℕ) × (i < length blocks) × Has (block_at blocks i).members e)
    covers e l = (to, from) where
      to : IsFree terms n q shift e → (i : ℕ) × (i < length blocks)
          × Has (block_at blocks i).members e
      to free =
          let (d, ld, fd, de, ed) = first_exists rows preorder e
          (self e l ((tells.free e l).0 free)) in
          let (i, li, is) = all.complete d ld fd in
          let lb : i < length blocks = rw grouped.count li in
          (i, lb, from_first i e lb (rw is de) (rw is ed))

      from : (i : ℕ) × (i < length blocks) × Has (block_at blocks i).members e
          → IsFree terms n q shift e
      from (i, li, h) = (tells.free e l).1
          (tells.inside (get_or firsts i 0) e (to_first i e li h).0).3

    shared : (i d e : ℕ) → i < length blocks → d < n → e < n → Has (block_at blocks i).members d
        → Has (block_at blocks i).members e
        ↔ (PullsAlong terms n q shift d e × PullsAlong terms n q shift e d)
    shared i d e li ld le hd = (to, from) where
      pd : Pulls rows (get_or firsts i 0) d × Pulls rows d (get_or firsts i 0)
      pd = to_first i d li hd

      to : Has (block_at blocks i).members e → PullsAlong terms n q shift d e
          × PullsAlong terms n q shift e d
      to he =
          let pe = to_first i e li he in (
            along_of d e (preorder.along d (get_or firsts i 0) e pd.1 pe.0),
            along_of e d (preorder.along e (get_or firsts i 0) d pe.1 pd.0),
          )

      from : PullsAlong terms n q shift d e × PullsAlong terms n q shift e d
          → Has (block_at blocks i).members e
      from (de, ed) =
          let md = (tells.inside (get_or firsts i 0) d pd.0).3 in
          let me = free_along d e ld le md de ed in
          let k = (tells.exact d e ld le md me).1 de in
          let r = (tells.exact e d le ld me md).1 ed in
          from_first i e li (preorder.along (get_or firsts i 0) d e pd.0 k)
          (preorder.along e d (get_or firsts i 0) r pd.1)

    -- what the needs of a block contain
    needs_are : (i j : ℕ) → i < length blocks → Contains (block_at blocks i).needs j
        ↔ ((m : ℕ) × (m < length firsts) × (j ≡ suc m) × (m ≢ i)
        × Pulls rows (get_or firsts i 0) (get_or firsts m 0))
    needs_are i j l = let x = needs_exact rows firsts i (length firsts)
        j in ((λ h. x.0 (rw (grouped.needs i l) at h)), (λ h. rw (grouped.needs i l) (x.1 h)))

    needed : (i j d e : ℕ) → i < length blocks → j < length blocks → i ≢ j
        → Has (block_at blocks i).members d → Has (block_at blocks j).members e
        → Contains (block_at blocks i).needs (j + 1) ↔ PullsAlong terms n q shift d e
    needed i j d e li lj ne hd he = (to, from) where
      pd : Pulls rows (get_or firsts i 0) d × Pulls rows d (get_or firsts i 0)
      pd = to_first i d li hd

      pe : Pulls rows (get_or firsts j 0) e × Pulls rows e (get_or firsts j 0)
      pe = to_first j e lj he

      to : Contains (block_at blocks i).needs (j + 1) → PullsAlong terms n q shift d e
      to h =
          let (m, lm, is, other, p) = (needs_are i (j + 1) li).0 h in
          let same : m ≡ j = omega (arith, is) in
          let q' : Pulls rows (get_or firsts i 0) (get_or firsts j 0) = rw (← same) p in
          along_of d e (preorder.along d (get_or firsts i 0) e pd.1
          (preorder.along (get_or firsts i 0) (get_or firsts j 0) e q' pe.0))

      from : PullsAlong terms n q shift d e → Contains (block_at blocks i).needs (j + 1)
      from de =
          let (li', ld, mi, md) = tells.inside (get_or firsts i 0) d pd.0 in
          let (lj', le, mj, me) = tells.inside (get_or firsts j 0) e pe.0 in
          let k = (tells.exact d e ld le md me).1 de in
          let p = preorder.along (get_or firsts i 0) d (get_or firsts j 0) pd.0
          (preorder.along d e (get_or firsts j 0) k pe.1) in
          (needs_are i (j + 1) li).1 (j, in_firsts j lj, omega arith, (λ s. ne (sym s)), p)

    ordered : (i j : ℕ) → i < j → j < length blocks → ComesBefore blocks i j
    ordered i j l lj = at (all.ordered i j l (in_firsts j lj)) where
      wi : size_with_needs blocks i ≡ pulled rows (get_or firsts i 0)
      wi = weight_is rows preorder firsts all blocks grouped i (omega arith)

      wj : size_with_needs blocks j ≡ pulled rows (get_or firsts j 0)
      wj = weight_is rows preorder firsts all blocks grouped j lj

      at : Before (pulled rows (get_or firsts i 0)) (get_or firsts i 0)
          (pulled rows (get_or firsts j 0)) (get_or firsts j 0) → ComesBefore blocks i j
      at (inl less) = inl (rw (wi, wj) less)
      at (inr (same, less)) = inr (
        wi ∙ (same ∙ sym wj),
        (λ d e hd he. let a = first_is i d (omega arith) hd in let b = first_is j e lj
            he in omega (arith, a, b, less)),
      )

    -- the blocks of the minimisers
    pub blocks_are : AreBlocks terms n q shift blocks
    blocks_are = record {
      places = λ i l. (grouped.members i l).places ∙ tells.count;
      some = λ i l. (get_or firsts i 0, has_first i l);
      covers = covers;
      shared = shared;
      needed = needed;
      numbered = λ i j l h. let (m, lm, is, other, p) = (needs_are i j l).0
          h in let c = grouped.count in (
            omega (arith, is),
            omega (arith, is, lm, c),
            (λ s. other (omega (arith, is, s))),
          );
      ascending = λ i l. rw (grouped.needs i l) (needs_ascending rows firsts i (length firsts));
      ordered = ordered;
    }
