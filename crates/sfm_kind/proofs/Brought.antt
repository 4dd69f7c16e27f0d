-- What the layers of a line bring: their places and sizes in all, which the line tells of itself;
-- so they fit an instance where these do.
use Rattle.std.proofs.Common.{◌≡◌, ℕ, zero, suc, ◌+◌, ◌<◌, ◌≤◌, ◌^◌, Bool, true, false, List, [], ◌∷◌, ◌++◌, length, get_or, map, sum, ℤ, pos, ◌+ℤ◌, ◌*ℤ◌, ◌≤ℤ◌, Some, unwrap_or, refl, sym, ap, subst, ◌∙◌, arith, ⊎_elim}
use Rattle.std.specs.List.{All, AllZip}
use Rattle.std.proofs.Math.IntN.{*ℤ-zero}
use Rattle.std.proofs.lemmas.Bool.{cases_lt}
use Rattle.std.proofs.lemmas.Int.{ints}
use Rattle.std.proofs.lemmas.List.{map-append, length-map, length-replicate, get_or_past}
use Rattle.std.proofs.lemmas.List.Elements.{All-append}
use Rattle.std.proofs.lemmas.List.Sums.{sum_by-cons}
use Rattle.std.proofs.lemmas.Bool.{false≢true}
use Rattle.sfm_spec.specs.Sets.{Has, IsPlaced, size, part, whole_set}
use Rattle.sfm_spec.specs.Families.{Meaning, IsAllowed, sum_at}
use Rattle.sfm_spec.proofs.Where.{size-cons}
use Rattle.sfm_layers.specs.Weights.{IsGreatestWeight, at_least, AreLevels, next_level}
use Rattle.sfm_layers.specs.Kept.{kept}
use Rattle.sfm_layers.specs.Layers.{by_levels}
use Rattle.sfm_layers.proofs.Layers.{layers-weigh}
use Rattle.sfm_layers.proofs.Ones.{greatest-one}
use Rattle.sfm_layers.proofs.Kept.{length-kept, kept-nth, nth_kept, nth-kept}
use Rattle.sfm_kind.specs.Meanings.{kind_places, IsIndependentIn, factor_of, IsMeaningOf}
use Rattle.sfm_kind.specs.Kinds.{kind_size}
use Rattle.sfm_kind.specs.Instance.{support_of}
use Rattle.sfm_kind.specs.Limits.{AreInBounds, total_size_of}
use Rattle.sfm_kind.specs.Layers.{IsRankKind, IsLayer, AreLayersAt, AreLayers, Brings}
use Rattle.sfm_kind.specs.declared.kind.Kind.{Kind}
use Rattle.sfm_kind.proofs.Bounds.{kind-elements}
use Rattle.sfm_kind.proofs.Meanings.{kind-size}
use Rattle.sfm_kind.proofs.Lined.{support-append, total_size-append}
use Rattle.sfm_kind.proofs.Ranked.{IsRanked, kind-ranked, rank-sized}
use Rattle.sfm_kind.proofs.Layered.{length-at_least, rank_from, layer_worth, layer-worth, more-worth, layers-worth}
use Rattle.sfm_kind.proofs.Levels.{levels-falling, levels-one}

-- ---- a rank with weights

-- what a line with weights asks of them
pub record AreWeightsOf (rank : Kind) (weights : List ℤ) : Type 0 where
  pub kind : IsRankKind rank
  pub each : length weights ≡ length (kind_places rank)
  pub positive : All (λ a. pos 1 ≤ℤ a) weights

pub ranked-by : (rank : Kind) (weights : List ℤ) → AreWeightsOf rank weights
    → IsRanked (length weights) (IsIndependentIn rank)
ranked-by rank weights h = subst (λ n. IsRanked n (IsIndependentIn rank)) (sym h.each)
    (kind-ranked rank h.kind)

-- the greatest weight by the levels
pub levels-weigh : (rank : Kind) (weights : List ℤ) (h : AreWeightsOf rank weights)
    (levels : List ℤ) → AreLevels weights levels → (s : List Bool) → length s ≡ length weights
    → IsGreatestWeight (IsIndependentIn rank) weights s
    (by_levels (rank_from rank weights h.each (ranked-by rank weights h) s) levels)
levels-weigh rank weights h levels are s ls =
    let ranked = ranked-by rank weights h in
    layers-weigh (length weights) (IsIndependentIn rank) ranked.rank ranked.matroid ranked.ranks
    weights refl s ls levels (levels-falling weights levels h.positive are) (λ a. (are.all a).0)

-- the layers together give each set what a greatest independent part weighs
pub layers-add : (rank : Kind) (weights : List ℤ) (layers : List Kind) → AreWeightsOf rank weights
    → AreLayers rank weights layers → (meant : List Meaning) → AllZip IsMeaningOf layers meant
    → (s : List Bool)
    → IsAllowed meant s × (r : ℤ)
    × IsGreatestWeight (IsIndependentIn rank) weights (part (kind_places rank) s) r
    × (sum_at meant s ≡ (factor_of rank *ℤ r))
layers-add rank weights layers h (levels, are, at) meant is s =
    let t = part (kind_places rank) s in
    let lt : length t ≡ length weights = length-map (kind_places rank) _ ∙ sym h.each in
    let (allowed, worth) = layers-worth rank weights h.each (ranked-by rank weights h) levels layers
    meant at is s in (
      allowed,
      by_levels (rank_from rank weights h.each (ranked-by rank weights h) t) levels,
      levels-weigh rank weights h levels are t lt,
      worth,
    )

-- ---- sizes

kept-whole : (keep : List Bool) → kept keep (whole_set (length keep)) ≡ whole_set (size keep)
kept-whole [] = refl
kept-whole (true ∷ keep) = ap (λ l. true ∷ l) (kept-whole keep)
    ∙ ap whole_set (let c = size-cons true keep in let e : suc (size keep) ≡ size
    (true ∷ keep) = omega (arith, c) in e)
kept-whole (false ∷ keep) = kept-whole keep
    ∙ ap whole_set (let c = size-cons false keep in let e : size keep ≡ size
    (false ∷ keep) = omega (arith, c) in e)

module _ (rank : Kind) (weights : List ℤ) (h : AreWeightsOf rank weights) where
  whole-length : length (whole_set (length weights)) ≡ length weights
  whole-length = length-replicate (length weights) true

  layer-size : (v next : ℤ) (layer : Kind) → IsLayer rank weights v next layer
      → kind_size layer ≡ layer_worth rank weights h.each (ranked-by rank weights h)
      (whole_set (length weights)) v next
  layer-size v next layer is =
      let keep = at_least v weights in
      let kw : length keep ≡ length weights = length-at_least v weights in
      let count : length (kind_places layer) ≡ size keep = ap length is.places
      ∙ length-kept keep (kind_places rank) (kw ∙ h.each) in
      let all : whole_set (length (kind_places layer)) ≡ kept keep
      (whole_set (length weights)) = ap whole_set count
      ∙ (sym (kept-whole keep) ∙ ap (λ n. kept keep (whole_set n)) kw) in
      let worth = layer-worth rank weights h.each (ranked-by rank weights h) v next layer is
      (whole_set (length weights)) whole-length in
      sym (kind-size layer is.value is.values)
      ∙ (rank-sized layer is.value is.kind
      ∙ ap (λ o. unwrap_or o (pos 0)) (ap is.value all ∙ worth))

  layers-size : (levels : List ℤ) (layers : List Kind) → AreLayersAt rank weights levels layers
      → total_size_of layers ≡ (factor_of rank *ℤ by_levels
      (rank_from rank weights h.each (ranked-by rank weights h) (whole_set (length weights)))
      levels)
  layers-size [] [] at = sym (*ℤ-zero (factor_of rank))
  layers-size [] (layer ∷ layers) at = absurd at
  layers-size (v ∷ levels) [] at = absurd at
  layers-size (v ∷ levels) (layer ∷ layers) (here, rest) =
      let one = layer-size v (next_level levels) layer here in
      let after = layers-size levels layers rest in
      let sum = more-worth rank weights h.each (ranked-by rank weights h)
      (whole_set (length weights)) v (next_level levels)
      (by_levels (rank_from rank weights h.each (ranked-by rank weights h)
      (whole_set (length weights))) levels) in
      omega (arith, ints, one, after, sum)

  -- ---- places

  layers-places : (levels : List ℤ) (layers : List Kind) → AreLayersAt rank weights levels layers
      → support_of layers ≡ sum (map (λ v. size (at_least v weights)) levels)
  layers-places [] [] at = refl
  layers-places [] (layer ∷ layers) at = absurd at
  layers-places (v ∷ levels) [] at = absurd at
  layers-places (v ∷ levels) (layer ∷ layers) (here, rest) =
      let keep = at_least v weights in
      let count : length (kind_places layer) ≡ size keep = ap length here.places
      ∙ length-kept keep (kind_places rank) (length-at_least v weights ∙ h.each) in
      let after = layers-places levels layers rest in
      let left = sum_by-cons (λ (n : ℕ). n) (length (kind_places layer))
      (map length (map kind_places layers)) in
      let right = sum_by-cons (λ (n : ℕ). n) (size keep)
      (map (λ v. size (at_least v weights)) levels) in
      omega (arith, count, after, left, right)

  -- ---- what a line brings

  -- a line brings so many places and so much, and no other
  pub brings-one : (p q : ℕ) (a b : ℤ) → Brings rank (Some weights) p a
      → Brings rank (Some weights) q b → (p ≡ q) × (a ≡ b)
  brings-one p q a b ((levels, are, places), (r, is, total))
      ((levels', are', places'), (r', is', total')) =
      let same : levels ≡ levels' = levels-one weights levels levels' h.positive are are' in
      let one : r ≡ r' = greatest-one (IsIndependentIn rank) weights (whole_set (length weights)) r
      r' is is' in (
        places ∙ (ap (λ l. sum (map (λ v. size (at_least v weights)) l)) same ∙ sym places'),
        total ∙ (ap (λ x. factor_of rank *ℤ x) one ∙ sym total'),
      )

  -- its layers have that
  pub layers-bring : (layers : List Kind) → AreLayers rank weights layers
      → Brings rank (Some weights) (support_of layers) (total_size_of layers)
  layers-bring layers (levels, are, at) = (
    (levels, are, layers-places levels layers at),
    (
      by_levels (rank_from rank weights h.each (ranked-by rank weights h)
          (whole_set (length weights))) levels,
      levels-weigh rank weights h levels are (whole_set (length weights)) whole-length,
      layers-size levels layers at,
    ),
  )

  pub layers-totals : (layers : List Kind) (places : ℕ) (total : ℤ) → AreLayers rank weights layers
      → Brings rank (Some weights) places total → (support_of layers ≡ places)
      × (total_size_of layers ≡ total)
  layers-totals layers places total are brings =
      brings-one (support_of layers) places (total_size_of layers) total (layers-bring layers are)
      brings

  -- ---- bounds

  layer-placed : (n : ℕ) (v next : ℤ) (layer : Kind) → All (λ e. e < n) (kind_places rank)
      → IsLayer rank weights v next layer → IsPlaced n (kind_places layer)
  layer-placed n v next layer below is =
      let keep = at_least v weights in
      let kp : length keep ≡ length (kind_places rank) = length-at_least v weights ∙ h.each in
      let count : length (kind_places layer) ≡ size keep = ap length is.places
      ∙ length-kept keep (kind_places rank) kp in
      record {
        below = λ j lt.
            let under : j < size keep = omega (arith, lt, count) in
            let at : get_or (kind_places layer) j 0 ≡ get_or (kind_places rank) (nth_kept keep j)
            0 = ap (λ l. get_or l j 0) is.places
            ∙ kept-nth keep (kind_places rank) j 0 kp under in
            let low = below (nth_kept keep j) 0
            (place-in keep (nth_kept keep j) (length (kind_places rank)) kp
            (nth-kept keep j under)) in
            omega (arith, at, low);
        distinct = (kind-elements layer).placed.distinct;
      }
    where
      place-in : (s : List Bool) (e k : ℕ) → length s ≡ k → Has s e → e < k
      place-in s e k same has = ⊎_elim (λ l. l)
          (λ ge. absurd (false≢true (sym (get_or_past s e false (omega (arith, same, ge))) ∙ has)))
          (cases_lt e k)

  layers-placed : (n : ℕ) (levels : List ℤ) (layers : List Kind)
      → All (λ e. e < n) (kind_places rank) → AreLayersAt rank weights levels layers
      → All (IsPlaced n) (map kind_places layers)
  layers-placed n [] [] below at k d lt = absurd (omega (arith, lt))
  layers-placed n [] (layer ∷ layers) below at k d lt = absurd at
  layers-placed n (v ∷ levels) [] below at k d lt = absurd at
  layers-placed n (v ∷ levels) (layer ∷ layers) below (here, rest) zero d lt =
      layer-placed n v (next_level levels) layer below here
  layers-placed n (v ∷ levels) (layer ∷ layers) below (here, rest) (suc k) d lt =
      layers-placed n levels layers below rest k d (omega (arith, lt))

  -- layers fit where there is room for what their line brings
  pub layers-fit : (n : ℕ) (terms layers : List Kind) (places : ℕ) (total : ℤ)
      → AreLayers rank weights layers → Brings rank (Some weights) places total
      → AreInBounds n terms → All (λ e. e < n) (kind_places rank)
      → support_of terms + places ≤ 16384 → (total_size_of terms +ℤ total) ≤ℤ pos (10 ^ 18)
      → AreInBounds n (terms ++ layers)
  layers-fit n terms layers places total are brings bounded below few small =
      let (support, sizes) = layers-totals layers places total are brings in
      let both = support-append terms layers in
      record {
        few = bounded.few;
        placed = rw (map-append kind_places terms layers)
            (All-append (IsPlaced n) (map kind_places terms) (map kind_places layers) bounded.placed
            (layers-placed n are.0 layers below are.2));
        few_terms = (let some = terms-few (terms ++ layers) in let c = length-map (terms ++ layers)
            kind_places in omega (arith, some, c, both, support, few));
        few_places = omega (arith, both, support, few);
        small = (let all = total_size-append terms
            layers in omega (arith, ints, all, sizes, small));
      }
    where
      -- each term has a place
      terms-few : (terms : List Kind) → length terms ≤ support_of terms
      terms-few [] = omega arith
      terms-few (term ∷ terms) =
          let some = (kind-elements term).some in
          let c = sum_by-cons (λ (n : ℕ). n) (length (kind_places term))
          (map length (map kind_places terms)) in
          let r = terms-few terms in
          omega (arith, some, c, r)
