-- The forests of a graph are the independent sets of a matroid, and edges taken one after another
-- find its ranks. Textbook: Schrijver, Combinatorial Optimization, sections 39 and 50.
use Rattle.std.proofs.Common.{◌≡◌, ◌≢◌, ◌⊎◌, ℕ, zero, suc, ◌<◌, ◌≤◌, Bool, true, false, not, List, [], ◌∷◌, ◌++◌, length, get_or, set, nat_eq, if◌then◌else◌, refl, sym, ap, ◌∙◌, arith, inl, inr, ⊎_elim}
use Rattle.std.proofs.lemmas.Bool.{false≢true, cases_eq, cases_Bool, cases_lt, eq-eqb, eqb-true, and_parts, not-true}
use Rattle.sfm_spec.specs.Sets.{Has, IsWithin, size}
use Rattle.sfm_spec.specs.Kinds.{Edge, Way, begin_of, end_of, IsForest}
use Rattle.sfm_spec.proofs.Sets.{same_sets}
use Rattle.sfm_rank.specs.Matroids.{AreRanks, IsMatroid}
use Rattle.sfm_rank.specs.Growth.{IsGrowth}
use Rattle.sfm_rank.proofs.Members.{has_or_out, has_place, nothing, set_has, set_here, set_within}
use Rattle.sfm_rank.proofs.Growing.{grown-rank}
use Rattle.sfm_graphic.specs.Graphs.{edge_at, graphic_rank, label, taken, takes}
use Rattle.sfm_matroid.specs.Counting.{count-into, eqb_apart}
use Rattle.sfm_graphic.specs.Runs.{above_ends, ends_below, label-blind, label-idle, label-joins, label-kept, label-moved, label-twice, label_below, taken-new, taken-places, taken-roots, taken_under, taken_within}
use Rattle.sfm_graphic.specs.Trails.{IsBlind, IsTrail, closed_from, forest_more, joined, never_on, with_edge}

module _ (edges : List Edge) (s : List Bool) (ks : length s ≡ length edges) where
  -- the ends of what is taken have one label
  taken-blind : (n : ℕ) → IsBlind edges (taken edges s n) (label edges s n)
  taken-blind n e h = label-joins edges s n e (taken_under edges s ks n e h)
      (taken_within edges s ks n e h)

  takes-parts : (n : ℕ) → takes edges s n ≡ true → Has s n
      × (label edges s n (edge_at edges n).tail ≢ label edges s n (edge_at edges n).head)
  takes-parts n h =
      let (has, apart) = and_parts (get_or s n false)
      (not (nat_eq (label edges s n (edge_at edges n).tail)
      (label edges s n (edge_at edges n).head))) h in
      (has, λ e. false≢true (sym (not-true _ apart) ∙ eq-eqb _ _ e))

  -- vertices with one label are joined by a trail of edges taken
  pub trail_between : (n : ℕ) → n ≤ length edges → (x y : ℕ) → label edges s n x ≡ label edges s n y
      → (ways : List Way) × IsTrail edges (taken edges s n) y x ways
  trail_between zero le x y same = ([], same)
  trail_between (suc n) le x y same =
      at (cases_Bool (takes edges s n)) (trail_between n (omega arith)) where
        t : List Bool
        t = taken edges s n

        Old : Type 0
        Old = (x y : ℕ) → label edges s n x ≡ label edges s n y → (ways : List Way)
            × IsTrail edges (taken edges s n) y x ways

        through : Old → takes edges s n ≡ true → (way : Way) → way.edge ≡ n
            → label edges s n x ≡ label edges s n (begin_of edges way)
            → label edges s n (end_of edges way) ≡ label edges s n y
            → label edges s n x ≢ label edges s n (end_of edges way)
            → (ways : List Way) × IsTrail edges (set (taken edges s n) n true) y x ways
        through old take way is begins ends apart =
            let (ways, first) = old x (begin_of edges way) begins in
            let (more, second) = old (end_of edges way) y ends in (
              ways ++ way ∷ more,
              joined edges (taken edges s n) n (label edges s n) (taken-blind n)
                  (let p = taken-places edges s ks n in omega (arith, p, le))
                  (taken-new edges s ks n) y x
                  way ways more is apart first second,
            )

        kept : Old → label edges s n x ≡ label edges s n y → (ways : List Way)
            × IsTrail edges (set (taken edges s n) n true) y x ways
        kept old e = let (ways, h) = old x y
            e in (ways, with_edge edges (taken edges s n) n y x ways h)

        by : Old → takes edges s n ≡ true → Has s n
            → label edges s n (edge_at edges n).tail ≢ label edges s n (edge_at edges n).head
            → (label edges s n x ≡ label edges s n (edge_at edges n).tail)
            ⊎ (label edges s n x ≢ label edges s n (edge_at edges n).tail)
            → (label edges s n y ≡ label edges s n (edge_at edges n).tail)
            ⊎ (label edges s n y ≢ label edges s n (edge_at edges n).tail)
            → (ways : List Way) × IsTrail edges (set (taken edges s n) n true) y x ways
        by old take has apart (inl ex) (inl ey) = kept old (ex ∙ sym ey)
        by old take has apart (inr nx) (inr ny) =
            kept old (sym (label-kept edges s n x has nx) ∙ (same ∙ label-kept edges s n y has ny))
        by old take has apart (inl ex) (inr ny) =
            through old take (record { edge = n; is_back = false }) refl ex
            (sym (label-moved edges s n x has ex) ∙ (same ∙ label-kept edges s n y has ny))
            (λ e. apart (sym ex ∙ e))
        by old take has apart (inr nx) (inl ey) =
            through old take (record { edge = n; is_back = true }) refl
            (sym (label-kept edges s n x has nx) ∙ (same ∙ label-moved edges s n y has ey)) (sym ey)
            nx

        at : (takes edges s n ≡ true) ⊎ (takes edges s n ≡ false) → Old → (ways : List Way)
            × IsTrail edges (taken edges s (suc n)) y x ways
        at (inl take) old = let (has, apart) = takes-parts n take in rw take
            (by old take has apart (cases_eq (label edges s n x)
            (label edges s n (edge_at edges n).tail))
            (cases_eq (label edges s n y) (label edges s n (edge_at edges n).tail)))
        at (inr idle) old =
            rw idle (old x y (sym (label-idle edges s n x idle)
            ∙ (same ∙ label-idle edges s n y idle)))

  -- an edge whose ends are joined already closes a trail
  pub closes : (n : ℕ) → n < length edges → Has s n → takes edges s n ≡ false
      → IsForest edges (set (taken edges s n) n true) → ⊥
  closes n lt has idle forest = ⊎_elim
      (λ (same : label edges s n (edge_at edges n).tail ≡ label edges s n (edge_at edges n).head).
      let (ways, h) = trail_between n (omega arith) (edge_at edges n).head (edge_at edges n).tail
      (sym same) in
      let way : Way = record { edge = n; is_back = false } in
      let l : n < length (taken edges s n) = (let p = taken-places edges s ks
      n in omega (arith, p, lt)) in
      forest way ways (closed_from edges (set (taken edges s n) n true) way ways (
        set_here (taken edges s n) n l,
        refl,
        never_on edges (taken edges s n) n (edge_at edges n).tail (edge_at edges n).head ways
            (taken-new edges s ks n) h,
        with_edge edges (taken edges s n) n (edge_at edges n).tail (edge_at edges n).head ways h,
      )))
      (λ apart. false≢true (sym idle
      ∙ rw (
        has,
        eqb_apart (label edges s n (edge_at edges n).tail)
            (label edges s n (edge_at edges n).head) apart,
      ) refl))
      (cases_eq (label edges s n (edge_at edges n).tail) (label edges s n (edge_at edges n).head))

  -- what is taken is a forest
  pub taken-forest : (n : ℕ) → n ≤ length edges → IsForest edges (taken edges s n)
  taken-forest zero le first ways closed =
      nothing (length edges) first.edge (closed.members 0 first (omega arith))
  taken-forest (suc n) le first ways closed =
      at (cases_Bool (takes edges s n)) (taken-forest n (omega arith)) first ways closed where
        at : (takes edges s n ≡ true) ⊎ (takes edges s n ≡ false) → IsForest edges (taken edges s n)
            → IsForest edges (taken edges s (suc n))
        at (inl take) old = let (has, apart) = takes-parts n take in rw take
            (forest_more edges (taken edges s n) n (label edges s n) (taken-blind n) apart old)
        at (inr idle) old = rw idle old

-- a part of a forest is a forest
pub forest_within : (edges : List Edge) (s t : List Bool) → IsWithin s t → IsForest edges t
    → IsForest edges s
forest_within edges s t within forest first ways closed =
    forest first ways
    (record {
      members = λ i d lt. within (get_or (first ∷ ways) i d).edge (closed.members i d lt);
      distinct = closed.distinct;
      closed = closed.closed;
    })

module _ (edges : List Edge) (s : List Bool) (ks : length s ≡ length edges) where
  -- of a forest all is taken
  takes-all : IsForest edges s → (n : ℕ) → n < length edges → Has s n → takes edges s n ≡ true
  takes-all forest n lt has = ⊎_elim
      (λ take. take)
      (λ idle. absurd (closes edges s ks n lt has idle
      (forest_within edges (set (taken edges s n) n true) s
      (set_within (taken edges s n) s n (taken_within edges s ks n) has) forest)))
      (cases_Bool (takes edges s n))

  taken_all : IsForest edges s → (n e : ℕ) → n ≤ length edges → e < n → Has s e
      → Has (taken edges s n) e
  taken_all forest zero e le lt has = absurd (omega arith)
  taken_all forest (suc n) e le lt has = ⊎_elim
      (λ (less : e < n). at (takes edges s n) (taken_all forest n e (omega arith) less has))
      (λ (ge : n ≤ e). let same : e ≡ n = omega arith in
      let take = takes-all forest n (omega arith) (let h = rw same at has in h) in
      rw (take, same) (set_here (taken edges s n) n
      (let p = taken-places edges s ks n in omega (arith, p, le))))
      (cases_lt e n) where
        at : (b : Bool) → Has (taken edges s n) e
            → Has (if b then set (taken edges s n) n true else taken edges s n) e
        at true h = set_has (taken edges s n) n e h
        at false h = h

  pub taken-all : IsForest edges s → taken edges s (length edges) ≡ s
  taken-all forest = same_sets (taken edges s (length edges)) s
      (taken-places edges s ks (length edges) ∙ sym ks)
      (λ e lt h. taken_within edges s ks (length edges) e h)
      (λ e lt h. let l = has_place s e h in taken_all forest (length edges) e (omega arith)
      (omega (arith, l, ks)) h)

-- a forest whose edges lie within what s joins has no more edges than are taken of s
pub fewer : (edges : List Edge) (s t : List Bool) → length s ≡ length edges
    → length t ≡ length edges → IsForest edges t → IsBlind edges t (label edges s (length edges))
    → size t ≤ size (taken edges s (length edges))
fewer edges s t ks kt forest blind =
    let k = length edges in
    let m = above_ends edges in
    let a = taken-roots edges s ks m (ends_below edges) k (omega arith) in
    let b = taken-roots edges t kt m (ends_below edges) k (omega arith) in
    let all = ap size (taken-all edges t kt forest) in
    let c = count-into m m (λ x. nat_eq (label edges s k x) x) (λ x. nat_eq (label edges t k x) x)
    (label edges t k) (label edges s k) (λ x lt h. (
      label_below edges t kt m (ends_below edges) k x (omega arith) lt,
      eq-eqb _ _ (label-twice edges t k x),
      label-blind edges t k (label edges s k) (λ e le has. blind e has) x ∙ eqb-true _ _ h,
    )) in
    omega (arith, a, b, all, c)

module _ (edges : List Edge) where
  -- g tells the ends of an edge of t apart, or of none
  tells_or_blind : (g : ℕ → ℕ) (t : List Bool) (n : ℕ)
      → ((e : ℕ) × Has t e × (g (edge_at edges e).tail ≢ g (edge_at edges e).head))
      ⊎ ((e : ℕ) → e < n → Has t e → g (edge_at edges e).tail ≡ g (edge_at edges e).head)
  tells_or_blind g t zero = inr (λ e lt. absurd (omega (arith, lt)))
  tells_or_blind g t (suc n) = at (tells_or_blind g t n) (cases_Bool (get_or t n false))
      (cases_eq (g (edge_at edges n).tail) (g (edge_at edges n).head)) where
        more : ((e : ℕ) → e < n → Has t e → g (edge_at edges e).tail ≡ g (edge_at edges e).head)
            → (Has t n → g (edge_at edges n).tail ≡ g (edge_at edges n).head) → (e : ℕ) → e < suc n
            → Has t e → g (edge_at edges e).tail ≡ g (edge_at edges e).head
        more old new e lt h = ⊎_elim (λ (less : e < n). old e less h)
            (λ (ge : n ≤ e). let same : e ≡ n = omega arith in rw same
            (new (let h' = rw same at h in h'))) (cases_lt e n)

        at : ((e : ℕ) × Has t e × (g (edge_at edges e).tail ≢ g (edge_at edges e).head))
            ⊎ ((e : ℕ) → e < n → Has t e → g (edge_at edges e).tail ≡ g (edge_at edges e).head)
            → Has t n ⊎ (get_or t n false ≡ false)
            → (g (edge_at edges n).tail ≡ g (edge_at edges n).head)
            ⊎ (g (edge_at edges n).tail ≢ g (edge_at edges n).head)
            → ((e : ℕ) × Has t e × (g (edge_at edges e).tail ≢ g (edge_at edges e).head))
            ⊎ ((e : ℕ) → e < suc n → Has t e → g (edge_at edges e).tail ≡ g (edge_at edges e).head)
        at (inl found) h c = inl found
        at (inr old) (inl h) (inr apart) = inl (n, h, apart)
        at (inr old) h (inl same) = inr (more old (λ h'. same))
        at (inr old) (inr out) c = inr (more old (λ h. absurd (false≢true (sym out ∙ h))))

  pub forest-matroid : IsMatroid (length edges) (IsForest edges)
  forest-matroid = record {
    empty = λ first ways closed. nothing (length edges) first.edge
        (closed.members 0 first (omega arith));
    parts = λ s t ks kt within forest. forest_within edges s t within forest;
    grows = λ s t ks kt fs ft less.
        let k = length edges in
        let all = ap size (taken-all edges s ks fs) in
        ⊎_elim
        (λ (e, has, apart). (
          e,
          has,
          has_or_out s e
              (λ h. apart (label-joins edges s k e (let l = has_place s e h in omega (arith, l, ks))
              h)),
          forest_more edges s e (label edges s k)
              (λ i h. label-joins edges s k i (let l = has_place s i h in omega (arith, l, ks)) h)
              apart fs,
        ))
        (λ blind. let f = fewer edges s t ks kt ft
        (λ e h. blind e (let l = has_place t e h in omega (arith, l, kt))
        h) in absurd (omega (arith, all, f, less)))
        (tells_or_blind (label edges s k) t k);
  }

  pub forest-growth : (s : List Bool) → length s ≡ length edges
      → IsGrowth (length edges) (IsForest edges) s (taken edges s)
  forest-growth s ks = record {
    begins = refl;
    steps = λ j lt state. ⊎_elim
        (λ take. let f = taken-forest edges s ks (suc j) (omega arith) in
        let is : taken edges s (suc j) ≡ set (taken edges s j) j true = rw take refl in
        inl (
          (and_parts (get_or s j false)
              (not (nat_eq (label edges s j (edge_at edges j).tail)
              (label edges s j (edge_at edges j).head))) take).0,
          is,
          (let f' = rw is at f in f'),
        ))
        (λ idle. inr (rw idle refl, λ has free. closes edges s ks j lt has idle free))
        (cases_Bool (takes edges s j));
  }

  pub graphic-ranks : AreRanks (length edges) (IsForest edges) (graphic_rank edges)
  graphic-ranks s ks = grown-rank (length edges) (IsForest edges) forest-matroid s (taken edges s)
      (forest-growth s ks) ks
