-- The greatest weight of an independent part is that of one which is greatest at each level: its
-- layers. Textbook: Schrijver, Combinatorial Optimization, section 40 (the greedy method).
use Rattle.std.proofs.Common.{◌≡◌, ℕ, zero, suc, ◌≤◌, Bool, true, false, List, [], ◌∷◌, length, Contains, ℤ, pos, ◌≤ℤ◌, ◌<ℤ◌, refl, sym, ap, ◌∙◌, arith}
use Rattle.std.specs.Int.Signed.{le_z}
use Rattle.std.proofs.lemmas.Int.{ints}
use Rattle.std.proofs.lemmas.Bool.{false≢true}
use Rattle.std.proofs.lemmas.List.{length-map, length-replicate}
use Rattle.sfm_spec.specs.Sets.{IsWithin, empty_set, sum_over, intersection, size}
use Rattle.sfm_spec.proofs.Sets.{in_both, in_first, in_second, same_sets}
use Rattle.sfm_spec.proofs.Sums.{length-intersection}
use Rattle.sfm_spec.proofs.Sizes.{size_within}
use Rattle.sfm_spec.proofs.Lattice.{none_in_empty}
use Rattle.sfm_rank.specs.Matroids.{IsMatroid, AreRanks}
use Rattle.sfm_rank.proofs.Ranks.{extend, rank-most}
use Rattle.sfm_layers.specs.Weights.{IsGreatestWeight, at_least}
use Rattle.sfm_layers.specs.Layers.{by_levels, layers_weight}
use Rattle.sfm_layers.proofs.Levels.{AreFalling, by_levels-mono, by_levels-same, weight-by-levels}

length-at_least : (v : ℤ) (weights : List ℤ) → length (at_least v weights) ≡ length weights
length-at_least v weights = length-map weights (λ a. le_z v a)

-- a lower level has the places of a higher one
lower_level : (u v : ℤ) (weights : List ℤ) → u ≤ℤ v
    → IsWithin (at_least v weights) (at_least u weights)
lower_level u v [] l e h = absurd (false≢true h)
lower_level u v (a ∷ weights) l zero h = at a h
  where
    at : (a : ℤ) → le_z v a ≡ true → le_z u a ≡ true
    at a t = grind (arith, ints, l, t)
lower_level u v (a ∷ weights) l (suc e) h = lower_level u v weights l e h

module _ (k : ℕ) (IsIndependent : List Bool → Type 0) (rank : List Bool → ℕ)
    (matroid : IsMatroid k IsIndependent) (ranks : AreRanks k IsIndependent rank) (weights : List ℤ)
    (each : length weights ≡ k) (s : List Bool) (ks : length s ≡ k) where
  -- the places of s of weight v or more
  abbrev from : ℤ → List Bool
  from v = intersection s (at_least v weights)

  length-from : (v : ℤ) → length (from v) ≡ k
  length-from v = length-intersection s (at_least v weights)
      (ks ∙ sym (length-at_least v weights ∙ each)) ∙ ks

  -- a part of a set has as many as the rank of each level
  abbrev IsFullAt : List Bool → ℤ → Type 0
  IsFullAt b v = size (intersection b (at_least v weights)) ≡ rank (from v)

  cut-independent : (b : List Bool) (v : ℤ) → length b ≡ k → IsIndependent b
      → IsIndependent (intersection b (at_least v weights))
  cut-independent b v kb free =
      let same = kb ∙ sym (length-at_least v weights ∙ each) in
      matroid.parts (intersection b (at_least v weights)) b
      (length-intersection b (at_least v weights) same ∙ kb) kb
      (λ e h. in_first b (at_least v weights) e same h) free

  cut-within : (b : List Bool) (v : ℤ) → length b ≡ k → IsWithin b s
      → IsWithin (intersection b (at_least v weights)) (from v)
  cut-within b v kb within e h =
      let same = kb ∙ sym (length-at_least v weights ∙ each) in
      in_both s (at_least v weights) e (ks ∙ sym (length-at_least v weights ∙ each))
      (within e (in_first b (at_least v weights) e same h))
      (in_second b (at_least v weights) e same h)

  -- no independent part of s has more than the rank at a level
  cut-most : (b : List Bool) (v : ℤ) → length b ≡ k → IsIndependent b → IsWithin b s
      → size (intersection b (at_least v weights)) ≤ rank (from v)
  cut-most b v kb free within =
      let same = kb ∙ sym (length-at_least v weights ∙ each) in
      rank-most k IsIndependent rank matroid ranks (intersection b (at_least v weights)) (from v)
      (length-intersection b (at_least v weights) same ∙ kb) (length-from v)
      (cut-within b v kb within) (cut-independent b v kb free)

  -- what is full at a level stays so in a wider independent part of s
  stays-full : (b c : List Bool) (v : ℤ) → length b ≡ k → length c ≡ k → IsWithin b c
      → IsIndependent c → IsWithin c s → IsFullAt b v → IsFullAt c v
  stays-full b c v kb kc wider free within full =
      let same_b = kb ∙ sym (length-at_least v weights ∙ each) in
      let same_c = kc ∙ sym (length-at_least v weights ∙ each) in
      let up = size_within (intersection b (at_least v weights))
      (intersection c (at_least v weights))
      (length-intersection b (at_least v weights) same_b
      ∙ (kb ∙ sym (length-intersection c (at_least v weights) same_c ∙ kc)))
      (λ e h. in_both c (at_least v weights) e same_c
      (wider e (in_first b (at_least v weights) e same_b h))
      (in_second b (at_least v weights) e same_b h)) in
      let most = cut-most c v kc free within in
      omega (arith, up, most, full)

  record IsFullPart (b : List Bool) (levels : List ℤ) (c : List Bool) : Type 0 where
    places : length c ≡ k
    wider : IsWithin b c
    within : IsWithin c s
    independent : IsIndependent c
    full : (v : ℤ) → Contains levels v → IsFullAt c v

  -- from an independent part on, level by level
  full-part : (levels : List ℤ) (b : List Bool) → AreFalling levels → length b ≡ k → IsIndependent b
      → IsWithin b s → ((v : ℤ) → Contains levels v → IsWithin b (at_least v weights))
      → (c : List Bool) × IsFullPart b levels c
  full-part [] b f kb free within below = (
    b,
    record {
      places = kb;
      wider = λ e h. h;
      within = within;
      independent = free;
      full = λ v (i, l, is). absurd (omega (arith, l));
    },
  )
  full-part (v ∷ levels) b f kb free within below =
      let same_s = ks ∙ sym (length-at_least v weights ∙ each) in
      let in_from : IsWithin b (from v) = λ e h. in_both s (at_least v weights) e same_s
      (within e h) (below v (0, omega arith, refl) e h) in
      let (c, h) = extend k IsIndependent rank matroid ranks b (from v) kb (length-from v) in_from
      free in
      let kc : length c ≡ k = h.places ∙ length-from v in
      let c_in_s : IsWithin c s = λ e he. in_first s (at_least v weights) e same_s
      (h.within e he) in
      let c_at : IsWithin c (at_least v weights) = λ e he. in_second s (at_least v weights) e same_s
      (h.within e he) in
      let next = full-part levels c f.2 kc h.independent c_in_s
      (λ u (i, l, is) e he. let less : u <ℤ v = rw is at (f.1 i u l) in lower_level u v weights
      (le_of u v less) e (c_at e he)) in
      let d = next.0 in
      let g = next.1 in
      let same_c = kc ∙ sym (length-at_least v weights ∙ each) in
      let whole : intersection c (at_least v weights) ≡ c = same_sets
      (intersection c (at_least v weights)) c
      (length-intersection c (at_least v weights) same_c)
      (λ e l he. in_first c (at_least v weights) e same_c he)
      (λ e l he. in_both c (at_least v weights) e same_c he (c_at e he)) in
      let full_c : IsFullAt c v = ap size whole ∙ h.full in (
        d,
        record {
          places = g.places;
          wider = λ e he. g.wider e (h.wider e he);
          within = g.within;
          independent = g.independent;
          full = each-full v levels d
              (stays-full c d v kc g.places g.wider g.independent g.within full_c) g.full;
        },
      )
    where
      le_of : (u v : ℤ) → u <ℤ v → u ≤ℤ v
      le_of u v l = omega (arith, ints, l)

      each-full : (v : ℤ) (levels : List ℤ) (d : List Bool) → IsFullAt d v
          → ((u : ℤ) → Contains levels u → IsFullAt d u) → (u : ℤ) → Contains (v ∷ levels) u
          → IsFullAt d u
      each-full v levels d here rest u (zero, l, is) = rw is at here
      each-full v levels d here rest u (suc i, l, is) = rest u (i, omega (arith, l), is)

  module _ (levels : List ℤ) (f : AreFalling levels)
      (all : (a : ℤ) → Contains weights a → Contains levels a) where
    weight : (t : List Bool) → length t ≡ k
        → sum_over t weights ≡ by_levels (λ v. pos (size (intersection t (at_least v weights))))
        levels
    weight t kt = weight-by-levels t weights levels (kt ∙ sym each) f all

    pub layers-weigh : IsGreatestWeight IsIndependent weights s
        (layers_weight rank weights s levels)
    layers-weigh =
        let (c, g) = full-part levels (empty_set k) f (length-replicate k false) matroid.empty
        (λ e h. absurd (none_in_empty k e h))
        (λ v in_levels e h. absurd (none_in_empty k e h)) in
        record {
          reached = (
            c,
            g.places ∙ sym ks,
            g.within,
            g.independent,
            weight c g.places ∙ by_levels-same
                (λ v. pos (size (intersection c (at_least v weights)))) (λ v. pos (rank (from v)))
                levels (λ v h. ap pos (g.full v h)),
          );
          greatest = λ t lt within free.
              let kt : length t ≡ k = lt ∙ ks in
              let w = weight t kt in
              let m = by_levels-mono (λ v. pos (size (intersection t (at_least v weights))))
              (λ v. pos (rank (from v))) levels f
              (λ v. let c = cut-most t v kt free within in omega (arith, ints, c)) in
              omega (arith, ints, w, m);
        }
