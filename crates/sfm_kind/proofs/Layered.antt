-- A rank over the elements of a level or more is a layer, and all layers together are worth the
-- greatest weight of an independent part, times the rank's number. Textbook: Schrijver,
-- Combinatorial Optimization, section 40.
use Rattle.std.proofs.Common.{◌≡◌, inl, inr, Bool, true, false, ◌&&◌, List, [], ◌∷◌, length, ℤ, pos, ◌+ℤ◌, ◌-ℤ◌, ◌*ℤ◌, Option, Some, IsSome, unwrap_or, refl, sym, ap, subst, ◌∙◌, arith}
use Rattle.std.specs.List.{AllZip}
use Rattle.std.specs.Int.Signed.{le_z}
use Rattle.std.proofs.Math.IntN.{*ℤ-zero}
use Rattle.std.proofs.lemmas.Int.{ints}
use Rattle.std.proofs.lemmas.List.{length-map}
use Rattle.sfm_spec.specs.Sets.{intersection, size, part}
use Rattle.sfm_spec.specs.Families.{Meaning, IsAllowed, sum_at, value_at}
use Rattle.sfm_spec.specs.Laws.{ones}
use Rattle.sfm_spec.proofs.Ones.{ones-places, sum-ones}
use Rattle.sfm_spec.proofs.Scaled.{times-add, times-assoc}
use Rattle.sfm_layers.specs.Weights.{IsGreatestWeight, at_least, next_level}
use Rattle.sfm_layers.specs.Kept.{kept, spread}
use Rattle.sfm_layers.specs.Layers.{by_levels}
use Rattle.sfm_layers.proofs.Ones.{greatest-one, greatest-of-rank}
use Rattle.sfm_layers.proofs.Kept.{length-kept, length-spread, spread-has, spread-kept, part-kept, spread-greatest}
use Rattle.sfm_kind.specs.Meanings.{kind_places, IsIndependentIn, factor_of, IsMeaningOf}
use Rattle.sfm_kind.specs.Kinds.{kind_value}
use Rattle.sfm_kind.specs.Layers.{IsLayer, AreLayersAt}
use Rattle.sfm_kind.specs.Restricted.{IsRestricted, IsLayerFactor}
use Rattle.sfm_kind.specs.declared.kind.Kind.{Kind}
use Rattle.sfm_kind.proofs.Meanings.{kind-means, values-agree}
use Rattle.sfm_kind.proofs.Ranked.{IsRanked, rank-valued}

pub length-at_least : (v : ℤ) (weights : List ℤ) → length (at_least v weights) ≡ length weights
length-at_least v weights = length-map weights (λ a. le_z v a)

-- ---- one layer

-- where no kept element is independent, no part of them has one
none-independent : (IsIndependent : List Bool → Type 0) (keep s : List Bool) (r : ℤ)
    → IsGreatestWeight IsIndependent (ones (length keep)) keep (pos 0)
    → IsGreatestWeight IsIndependent (ones (length keep)) (spread keep s) r → r ≡ pos 0
none-independent IsIndependent keep s r none h =
    let (t, lt, wt, it, et) = h.reached in
    let kt : length t ≡ length keep = lt ∙ length-spread keep s in
    let most = none.greatest t kt (λ e has. (spread-has keep s e (wt e has)).0) it in
    let sum = sum-ones (length keep) t kt in
    omega (arith, ints, et, most, sum)

-- so it does not matter what each element counts there
factor-counts : (rank : Kind) (keep s : List Bool) (step w r : ℤ) → IsLayerFactor rank keep step w
    → IsGreatestWeight (IsIndependentIn rank) (ones (length keep)) (spread keep s) r
    → (w *ℤ r) ≡ ((factor_of rank *ℤ step) *ℤ r)
factor-counts rank keep s step w r (inl same) h = ap (λ a. a *ℤ r) same
factor-counts rank keep s step w r (inr (none_counts, none)) h =
    let z : r ≡ pos 0 = none-independent (IsIndependentIn rank) keep s r none h in
    ap (λ a. w *ℤ a) z ∙ (*ℤ-zero w
    ∙ (sym (*ℤ-zero (factor_of rank *ℤ step))
    ∙ ap (λ a. (factor_of rank *ℤ step) *ℤ a) (sym z)))

pub layer-is : (rank : Kind) (weights : List ℤ) (v next w : ℤ) (layer : Kind)
    → length weights ≡ length (kind_places rank)
    → IsLayerFactor rank (at_least v weights) (v -ℤ next) w
    → IsRestricted rank (at_least v weights) w layer → IsLayer rank weights v next layer
layer-is rank weights v next w layer each factor restricted =
    let keep = at_least v weights in
    let kw : length keep ≡ length weights = length-at_least v weights in
    let count : length (kind_places layer) ≡ size keep = ap length restricted.places
    ∙ length-kept keep (kind_places rank) (kw ∙ each) in
    record {
      kind = restricted.kind;
      places = restricted.places;
      value = kind_value layer;
      values = (kind-means layer).values;
      each = λ s ks.
          let (r, is, e) = rank-valued layer (kind_value layer) restricted.kind
          (kind-means layer).values s (ks ∙ sym (ones-places (length (kind_places layer)))) in
          let there : IsGreatestWeight (IsIndependentIn layer) (ones (size keep)) s
          r = subst (λ n. IsGreatestWeight (IsIndependentIn layer) (ones n) s r) count is in
          let all : IsGreatestWeight (IsIndependentIn rank) (ones (length keep)) (spread keep s)
          r = spread-greatest keep (IsIndependentIn rank) (IsIndependentIn layer)
          restricted.alike s (ks ∙ count) r there in (
            r,
            subst (λ n. IsGreatestWeight (IsIndependentIn rank) (ones n) (spread keep s) r) kw all,
            e ∙ ap (λ a. Some a) (ap (λ a. a *ℤ r) restricted.factor
                ∙ factor-counts rank keep s (v -ℤ next) w r factor all),
          );
    }

-- ---- what a layer is worth

swapped : (s t : List Bool) → intersection s t ≡ intersection t s
swapped [] [] = refl
swapped [] (b ∷ t) = refl
swapped (a ∷ s) [] = refl
swapped (a ∷ s) (b ∷ t) = both a b (swapped s t) where
  both : (a b : Bool) → intersection s t ≡ intersection t s
      → ((a && b) ∷ intersection s t) ≡ ((b && a) ∷ intersection t s)
  both true true r = ap (λ l. true ∷ l) r
  both true false r = ap (λ l. false ∷ l) r
  both false true r = ap (λ l. false ∷ l) r
  both false false r = ap (λ l. false ∷ l) r

length-layer : (rank : Kind) (weights : List ℤ) (v next : ℤ) (layer : Kind) (t : List Bool)
    → length weights ≡ length (kind_places rank) → IsLayer rank weights v next layer
    → length t ≡ length weights
    → length (kept (at_least v weights) t) ≡ length (kind_places layer)
length-layer rank weights v next layer t each h lt =
    let keep = at_least v weights in
    let kw = length-at_least v weights in
    length-kept keep t (kw ∙ sym lt)
    ∙ sym (ap length h.places ∙ length-kept keep (kind_places rank) (kw ∙ each))

module _ (rank : Kind) (weights : List ℤ) (each : length weights ≡ length (kind_places rank))
    (ranked : IsRanked (length weights) (IsIndependentIn rank)) where
  -- the rank of the elements of t of a level or more
  abbrev pub rank_from : List Bool → ℤ → ℤ
  rank_from t v = pos (ranked.rank (intersection t (at_least v weights)))

  -- the step to the next level times that, times the rank's number
  abbrev pub layer_worth : List Bool → ℤ → ℤ → ℤ
  layer_worth t v next = (factor_of rank *ℤ (v -ℤ next)) *ℤ rank_from t v

  pub layer-worth : (v next : ℤ) (layer : Kind) (h : IsLayer rank weights v next layer)
      (t : List Bool) → length t ≡ length weights
      → h.value (kept (at_least v weights) t) ≡ Some (layer_worth t v next)
  layer-worth v next layer h t lt =
      let keep = at_least v weights in
      let kt : length keep ≡ length t = length-at_least v weights ∙ sym lt in
      let (r, is, e) = h.each (kept keep t) (length-layer rank weights v next layer t each h lt) in
      let where_kept : spread keep (kept keep t) ≡ intersection t keep = spread-kept keep t kt
      ∙ swapped keep t in
      let there : IsGreatestWeight (IsIndependentIn rank) (ones (length weights))
      (intersection t keep) r = subst (λ s. IsGreatestWeight (IsIndependentIn rank)
      (ones (length weights)) s r) where_kept is in
      let li : length (intersection t keep) ≡ length weights = ap length (sym where_kept)
      ∙ (length-spread keep (kept keep t) ∙ length-at_least v weights) in
      let known = greatest-of-rank (length weights) (IsIndependentIn rank) (intersection t keep)
      (ranked.rank (intersection t keep)) li (ranked.ranks (intersection t keep) li) in
      let same : r ≡ rank_from t v = greatest-one (IsIndependentIn rank) (ones (length weights))
      (intersection t keep) r (rank_from t v) there known in
      e ∙ ap (λ a. Some ((factor_of rank *ℤ (v -ℤ next)) *ℤ a)) same

  -- one more layer
  pub more-worth : (t : List Bool) (v next rest : ℤ)
      → (layer_worth t v next +ℤ (factor_of rank *ℤ rest))
      ≡ (factor_of rank *ℤ (((v -ℤ next) *ℤ rank_from t v) +ℤ rest))
  more-worth t v next rest =
      let one = times-assoc (factor_of rank) (v -ℤ next) (rank_from t v) in
      let sum = times-add (factor_of rank) ((v -ℤ next) *ℤ rank_from t v) rest in
      omega (arith, ints, one, sum)

  -- ---- what layers are worth together at a set of the ground

  pub layers-worth : (levels : List ℤ) (layers : List Kind) (meant : List Meaning)
      → AreLayersAt rank weights levels layers → AllZip IsMeaningOf layers meant → (s : List Bool)
      → IsAllowed meant s
      × (sum_at meant s ≡ (factor_of rank *ℤ by_levels (rank_from (part (kind_places rank) s))
      levels))
  layers-worth [] [] [] h is s = (tt, sym (*ℤ-zero (factor_of rank)))
  layers-worth [] [] (m ∷ meant) h is s = absurd is
  layers-worth [] (layer ∷ layers) meant h is s = absurd h
  layers-worth (v ∷ levels) [] meant h is s = absurd h
  layers-worth (v ∷ levels) (layer ∷ layers) [] h is s = absurd is
  layers-worth (v ∷ levels) (layer ∷ layers) (m ∷ meant) (here, rest) (means, more) s =
      let keep = at_least v weights in
      let next = next_level levels in
      let t = part (kind_places rank) s in
      let lt : length t ≡ length weights = length-map (kind_places rank) _ ∙ sym each in
      let after = layers-worth levels layers meant rest more s in
      let cut : part m.places s ≡ kept keep t = ap (λ l. part l s) (means.places ∙ here.places)
      ∙ part-kept keep (kind_places rank) s in
      let at : value_at m s ≡ Some (layer_worth t v next) = ap m.value cut
      ∙ (values-agree layer m.value here.value means.values here.values (kept keep t)
      (length-layer rank weights v next layer t each here lt)
      ∙ layer-worth v next layer here t lt) in
      let one : unwrap_or (value_at m s) (pos 0) ≡ layer_worth t v
      next = ap (λ o. unwrap_or o (pos 0)) at in
      let sum = more-worth t v next (by_levels (rank_from t) levels) in
      let (allowed, total) = after in (
        (some-of (value_at m s) (layer_worth t v next) at, allowed),
        omega (arith, ints, one, total, sum),
      )
    where
      some-of : (o : Option ℤ) (a : ℤ) → o ≡ Some a → IsSome o
      some-of o a e = rw e refl
