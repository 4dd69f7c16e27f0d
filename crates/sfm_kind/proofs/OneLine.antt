-- The layers of ranks of the same places, the same number and the same independent parts are, one
-- by one, the same.
use Rattle.std.proofs.Common.{◌≡◌, ◌↔◌, ℕ, ◌+◌, ◌<◌, Bool, true, List, [], ◌∷◌, length, get_or, ℤ, pos, ◌-ℤ◌, ◌*ℤ◌, ◌≤ℤ◌, Some, unwrap_or, sym, ap, subst, ◌∙◌, arith}
use Rattle.std.specs.List.{All, AllZip}
use Rattle.std.proofs.lemmas.List.{length-replicate, ext_get_or}
use Rattle.sfm_spec.specs.Sets.{whole_set}
use Rattle.sfm_spec.specs.Laws.{ones}
use Rattle.sfm_spec.specs.Terms.{SetFunction, first_places, IsGreedy}
use Rattle.sfm_spec.specs.Families.{Meaning}
use Rattle.sfm_spec.proofs.Ones.{ones-places}
use Rattle.sfm_law.proofs.Greedy.{length-front, first_places-front}
use Rattle.sfm_layers.specs.Weights.{IsGreatestWeight, at_least, next_level}
use Rattle.sfm_layers.specs.Kept.{kept, spread}
use Rattle.sfm_layers.proofs.Ones.{greatest-one}
use Rattle.sfm_kind.specs.Meanings.{kind_places, IsIndependentIn, factor_of, IsValueOf, IsMeaningOf, IsStartOf, value_of_all}
use Rattle.sfm_kind.specs.Kinds.{kind_value, kind_size, kind_start}
use Rattle.sfm_kind.specs.Layers.{IsRankKind, IsLayer, AreLayersAt, AreLayers}
use Rattle.sfm_kind.specs.declared.kind.Kind.{Kind}
use Rattle.sfm_kind.specs.declared.kind.Kind.TheVariants.{Weight, Cut, Cover, Need, Table, Concave, Uniform, Laminar, Graphic, Transversal}
use Rattle.sfm_kind.proofs.Meanings.{kind-means, values-agree, kind-size, kind-start}
use Rattle.sfm_kind.proofs.Ranked.{rank-valued, valued-rank, rank-sized}
use Rattle.sfm_kind.proofs.Levels.{levels-one}

-- the two have the same places, the same number and the same independent parts
pub record AreOneRank (a b : Kind) : Type 0 where
  pub places : kind_places a ≡ kind_places b
  pub factor : factor_of a ≡ factor_of b
  pub alike : (t : List Bool) → IsIndependentIn a t ↔ IsIndependentIn b t

-- the two have the same places, the same value on each part of these, the same size and the same
-- first base at each factor; and each meaning and each first base by it of the one is one of the
-- other
pub record AreOneLayer (s t : Kind) : Type 0 where
  pub places : kind_places s ≡ kind_places t
  pub values : (u : List Bool) → length u ≡ length (kind_places s) → kind_value s u ≡ kind_value t u
  pub size : kind_size s ≡ kind_size t
  pub starts : (q : ℤ) → kind_start s q ≡ kind_start t q
  pub meanings : (meant : Meaning) → IsMeaningOf s meant ↔ IsMeaningOf t meant
  pub bases : (f : SetFunction) (q : ℤ) (x : List ℤ) → IsStartOf s f q x ↔ IsStartOf t f q x

-- ---- ranks with the same values

-- a rank has a value on each part of its places
rank-known : (kind : Kind) (f : SetFunction) → IsRankKind kind → IsValueOf kind f → (s : List Bool)
    → length s ≡ length (kind_places kind) → (a : ℤ) × (f s ≡ Some a)
rank-known kind f is values s ks =
    let (r, greatest, e) = rank-valued kind f is values s
    (ks ∙ sym (ones-places (length (kind_places kind)))) in
    (factor_of kind *ℤ r, e)

-- a first base of it is a greedy vector, and the other way round
greedy-alike : (kind : Kind) (f : SetFunction) (q : ℤ) (x : List ℤ) → IsRankKind kind
    → IsStartOf kind f q x ↔ IsGreedy q f (length (kind_places kind)) x
greedy-alike (Uniform term) f q x is = (λ h. h, λ h. h)
greedy-alike (Laminar term) f q x is = (λ h. h, λ h. h)
greedy-alike (Graphic term) f q x is = (λ h. h, λ h. h)
greedy-alike (Transversal term) f q x is = (λ h. h, λ h. h)
greedy-alike (Weight term) f q x is = absurd is
greedy-alike (Cut term) f q x is = absurd is
greedy-alike (Cover term) f q x is = absurd is
greedy-alike (Need term) f q x is = absurd is
greedy-alike (Table term) f q x is = absurd is
greedy-alike (Concave term) f q x is = absurd is

rank-greedy : (kind : Kind) (q : ℤ) → IsRankKind kind
    → IsGreedy q (kind_value kind) (length (kind_places kind)) (kind_start kind q)
rank-greedy kind q is = (greedy-alike kind (kind_value kind) q (kind_start kind q) is).0
    (kind-start kind (kind_value kind) q (kind-means kind).values)

-- of two functions that agree there is one greedy vector
greedy-one : (k : ℕ) (q : ℤ) (f g : SetFunction) (x y : List ℤ)
    → ((s : List Bool) → length s ≡ k → (a : ℤ) × (f s ≡ Some a))
    → ((s : List Bool) → length s ≡ k → f s ≡ g s) → IsGreedy q f k x → IsGreedy q g k y → x ≡ y
greedy-one k q f g x y known same h e =
    ext_get_or (pos 0) x y (h.places ∙ sym e.places)
    (λ i l. at i (omega (arith, l, h.places))) where
      at : (i : ℕ) → i < k → get_or x i (pos 0) ≡ get_or y i (pos 0)
      at i lt =
          let la : length (first_places k (i + 1)) ≡ k = ap length
          (first_places-front k (i + 1) (omega (arith, lt))) ∙ length-front k (i + 1) in
          let lb : length (first_places k i) ≡ k = ap length
          (first_places-front k i (omega (arith, lt))) ∙ length-front k i in
          let (a, fa) = known (first_places k (i + 1)) la in
          let (b, fb) = known (first_places k i) lb in
          h.gains i a b lt fa fb ∙ sym
          (e.gains i a b lt (sym (same (first_places k (i + 1)) la) ∙ fa)
          (sym (same (first_places k i) lb) ∙ fb))

module _ (s t : Kind) (ks : IsRankKind s) (kt : IsRankKind t)
    (places : kind_places s ≡ kind_places t)
    (values : (u : List Bool) → length u ≡ length (kind_places s)
    → kind_value s u ≡ kind_value t u) where
  start-one : (q : ℤ) → kind_start s q ≡ kind_start t q
  start-one q =
      let there = subst (λ n. IsGreedy q (kind_value t) n (kind_start t q)) (sym (ap length places))
      (rank-greedy t q kt) in
      greedy-one (length (kind_places s)) q (kind_value s) (kind_value t) (kind_start s q)
      (kind_start t q) (rank-known s (kind_value s) ks (kind-means s).values) values
      (rank-greedy s q ks) there

  base-one : (f : SetFunction) (q : ℤ) (x : List ℤ) → IsStartOf s f q x → IsStartOf t f q x
  base-one f q x h = (greedy-alike t f q x kt).1
      (subst (λ n. IsGreedy q f n x) (ap length places) ((greedy-alike s f q x ks).0 h))

  meaning-one : (meant : Meaning) → IsMeaningOf s meant → IsMeaningOf t meant
  meaning-one meant h = record {
    places = h.places ∙ places;
    values = valued-rank t meant.value kt (λ u lu.
        let lt : length u ≡ length (kind_places t) = lu ∙ ones-places (length (kind_places t)) in
        let ls : length u ≡ length (kind_places s) = lt ∙ sym (ap length places) in
        let (r, greatest, e) = rank-valued t (kind_value t) kt (kind-means t).values u lu in (
          r,
          greatest,
          values-agree s meant.value (kind_value s) h.values (kind-means s).values u ls
              ∙ (values u ls ∙ e),
        ));
  }

-- ---- layers

-- what weighs most among independent parts is told by which they are
pub greatest-alike : (I J : List Bool → Type 0) (weights : List ℤ) (s : List Bool) (r : ℤ)
    → ((t : List Bool) → I t ↔ J t) → IsGreatestWeight I weights s r
    → IsGreatestWeight J weights s r
greatest-alike I J weights s r alike h =
    let (t, lt, wt, it, et) = h.reached in
    record {
      reached = (t, lt, wt, (alike t).0 it, et);
      greatest = λ u lu wu ju. h.greatest u lu wu ((alike u).1 ju);
    }

layer-one : (a b : Kind) (weights : List ℤ) (v next : ℤ) (s t : Kind) → AreOneRank a b
    → IsLayer a weights v next s → IsLayer b weights v next t → AreOneLayer s t
layer-one a b weights v next s t same h g =
    let places : kind_places s ≡ kind_places t = h.places
    ∙ (ap (λ l. kept (at_least v weights) l) same.places ∙ sym g.places) in
    let values = value places in
    record {
      places = places;
      values = values;
      size = sym (kind-size s (kind_value s) (kind-means s).values)
          ∙ (rank-sized s (kind_value s) h.kind
          ∙ (ap (λ o. unwrap_or o (pos 0))
          (values (whole_set (length (kind_places s)))
          (length-replicate (length (kind_places s)) true))
          ∙ (ap (λ l. value_of_all (length l) (kind_value t)) places
          ∙ (sym (rank-sized t (kind_value t) g.kind)
          ∙ kind-size t (kind_value t) (kind-means t).values))));
      starts = start-one s t h.kind g.kind places values;
      meanings = λ meant. (
        meaning-one s t h.kind g.kind places values meant,
        meaning-one t s g.kind h.kind (sym places)
            (λ u lu. sym (values u (lu ∙ sym (ap length places)))) meant,
      );
      bases = λ f q x. (
        base-one s t h.kind g.kind places values f q x,
        base-one t s g.kind h.kind (sym places)
            (λ u lu. sym (values u (lu ∙ sym (ap length places)))) f q x,
      );
    }
  where
    value : kind_places s ≡ kind_places t → (u : List Bool) → length u ≡ length (kind_places s)
        → kind_value s u ≡ kind_value t u
    value places u lu =
        let lv : length u ≡ length (kind_places t) = lu ∙ ap length places in
        let (r, is, e) = h.each u lu in
        let (r', is', e') = g.each u lv in
        let there = greatest-alike (IsIndependentIn a) (IsIndependentIn b) (ones (length weights))
        (spread (at_least v weights) u) r same.alike is in
        let one : r ≡ r' = greatest-one (IsIndependentIn b) (ones (length weights))
        (spread (at_least v weights) u) r r' there is' in
        values-agree s (kind_value s) h.value (kind-means s).values h.values u lu
        ∙ (e ∙ (ap (λ x. Some ((x *ℤ (v -ℤ next)) *ℤ r)) same.factor
        ∙ (ap (λ x. Some ((factor_of b *ℤ (v -ℤ next)) *ℤ x)) one
        ∙ (sym e' ∙ sym (values-agree t (kind_value t) g.value (kind-means t).values g.values u
        lv)))))

layers-one-at : (a b : Kind) (weights levels : List ℤ) (xs ys : List Kind) → AreOneRank a b
    → AreLayersAt a weights levels xs → AreLayersAt b weights levels ys → AllZip AreOneLayer xs ys
layers-one-at a b weights [] [] [] same h g = tt
layers-one-at a b weights [] [] (y ∷ ys) same h g = absurd g
layers-one-at a b weights [] (x ∷ xs) ys same h g = absurd h
layers-one-at a b weights (v ∷ levels) [] ys same h g = absurd h
layers-one-at a b weights (v ∷ levels) (x ∷ xs) [] same h g = absurd g
layers-one-at a b weights (v ∷ levels) (x ∷ xs) (y ∷ ys) same (h, hs) (g, gs) = (
  layer-one a b weights v (next_level levels) x y same h g,
  layers-one-at a b weights levels xs ys same hs gs,
)

pub layers-one : (a b : Kind) (weights : List ℤ) (xs ys : List Kind) → AreOneRank a b
    → All (λ w. pos 1 ≤ℤ w) weights → AreLayers a weights xs → AreLayers b weights ys
    → AllZip AreOneLayer xs ys
layers-one a b weights xs ys same positive (levels, are, h) (levels', are', g) =
    let e : levels ≡ levels' = levels-one weights levels levels' positive are are' in
    layers-one-at a b weights levels xs ys same h
    (subst (λ l. AreLayersAt b weights l ys) (sym e) g)
