-- Two terms of one rank line are one term: a rank is told by its places, its number and its
-- independent parts.
use Rattle.std.proofs.Common.{◌≡◌, ℕ, zero, suc, ◌+◌, ◌<◌, Bool, true, List, [], ◌∷◌, length, get_or, replicate, Contains, ℤ, pos, ◌-ℤ◌, ◌*ℤ◌, ◌≤ℤ◌, Some, refl, sym, ap, subst, ◌∙◌, arith}
use Rattle.std.specs.List.{All}
use Rattle.std.proofs.lemmas.Int.{ints}
use Rattle.std.proofs.lemmas.List.{length-replicate, get_or-replicate}
use Rattle.std.proofs.lemmas.List.Elements.{All-nil, All-cons, All-replicate, All-contains, Contains-get_or}
use Rattle.sfm_spec.specs.Sets.{size as set_size}
use Rattle.sfm_spec.specs.Kinds.{Edge, IsForest}
use Rattle.sfm_spec.specs.Laws.{ones}
use Rattle.sfm_layers.specs.Weights.{IsGreatestWeight, AreLevels, at_least}
use Rattle.sfm_layers.specs.Kept.{kept, spread}
use Rattle.sfm_kind.specs.Layers.{IsRankKind, IsLayer, AreLayers}
use Rattle.sfm_kind.specs.Kinds.{kind_value}
use Rattle.sfm_kind.specs.Meanings.{kind_places, IsIndependentIn, factor_of}
use Rattle.sfm_kind.specs.declared.kind.Kind.{Kind}
use Rattle.sfm_kind.specs.declared.kind.Kind.TheVariants.{Uniform, Laminar, Graphic, Transversal}
use Rattle.sfm_kind.proofs.Bounds.{kind-elements}
use Rattle.sfm_kind.proofs.Meanings.{kind-means}
use Rattle.sfm_kind.proofs.OneLine.{AreOneRank, layers-one}
use Rattle.sfm_kind.proofs.Ranked.{rank-valued}
use Rattle.sfm_lines.specs.declared.word.RankKind.{RankKind}
use Rattle.sfm_lines.specs.declared.word.RankKind.TheVariants.{UniformRank, LaminarRank, GraphicRank, TransversalRank}
use Rattle.sfm_lines.specs.Parts.{LineParts}
use Rattle.sfm_lines.specs.RankLines.{IsRankMadeOf}
use Rattle.sfm_text.specs.OneTerm.{AreOneTerm}

pub same_both : (a b c d : ℤ) → a ∷ b ∷ [] ≡ c ∷ d ∷ [] → (a ≡ c) × (b ≡ d)
same_both a b c d e = let first : a ≡ c = cc in let second : b ≡ d = cc in (first, second)

pub rank-made : (rank : RankKind) (parts : LineParts) (values : List ℤ) (term : Kind)
    → IsRankMadeOf rank parts values term → IsRankKind term
rank-made UniformRank parts values (Uniform a) h = tt
rank-made LaminarRank parts values (Laminar a) h = tt
rank-made GraphicRank parts values (Graphic a) h = tt
rank-made TransversalRank parts values (Transversal a) h = tt
rank-made UniformRank parts values _ h = absurd h
rank-made LaminarRank parts values _ h = absurd h
rank-made GraphicRank parts values _ h = absurd h
rank-made TransversalRank parts values _ h = absurd h
rank-made _ parts values _ h = absurd h

-- a rank is told by its number and what it is made of
pub rank-alike : (rank : RankKind) (parts : LineParts) (values : List ℤ) (s t : Kind)
    → kind_places s ≡ kind_places t → IsRankMadeOf rank parts values s
    → IsRankMadeOf rank parts values t → AreOneRank s t
rank-alike UniformRank parts values (Uniform a) (Uniform b) same h g =
    let (number, cap) = same_both a.w a.cap b.w b.cap (h ∙ sym g) in
    record {
      places = same;
      factor = number;
      alike = λ t. (
        subst (λ (c : ℤ). pos (set_size t) ≤ℤ c) cap,
        subst (λ (c : ℤ). pos (set_size t) ≤ℤ c) (sym cap),
      );
    }
rank-alike LaminarRank parts values (Laminar a) (Laminar b) same h g =
    record {
      places = same;
      factor = h.0 ∙ sym g.0;
      alike = λ t. (λ u. (g.1 t).1 ((h.1 t).0 u), λ u. (h.1 t).1 ((g.1 t).0 u));
    }
rank-alike GraphicRank parts values (Graphic a) (Graphic b) same h g =
    let ends : a.ends ≡ b.ends = h.1 ∙ sym g.1 in
    record {
      places = same;
      factor = h.0 ∙ sym g.0;
      alike = λ t. (
        subst (λ (l : List Edge). IsForest l t) ends,
        subst (λ (l : List Edge). IsForest l t) (sym ends),
      );
    }
rank-alike TransversalRank parts values (Transversal a) (Transversal b) same h g =
    record {
      places = same;
      factor = h.0 ∙ sym g.0;
      alike = λ t. (λ u. (g.1 t).1 ((h.1 t).0 u), λ u. (h.1 t).1 ((g.1 t).0 u));
    }
rank-alike UniformRank parts values (Uniform a) _ same h g = absurd g
rank-alike LaminarRank parts values (Laminar a) _ same h g = absurd g
rank-alike GraphicRank parts values (Graphic a) _ same h g = absurd g
rank-alike TransversalRank parts values (Transversal a) _ same h g = absurd g
rank-alike _ parts values _ _ same h g = absurd h

-- ---- a rank is its own layer where each of its elements weighs 1

at_least-ones : (k : ℕ) → at_least (pos 1) (ones k) ≡ replicate k true
at_least-ones zero = refl
at_least-ones (suc k) = ap (λ (l : List Bool). true ∷ l) (at_least-ones k)

kept-all : {X : Type 0} (k : ℕ) (xs : List X) → length xs ≡ k → kept (replicate k true) xs ≡ xs
kept-all zero [] e = refl
kept-all zero (x ∷ xs) e = absurd (omega (arith, e))
kept-all (suc k) [] e = absurd (omega (arith, e))
kept-all (suc k) (x ∷ xs) e = ap (λ l. x ∷ l) (kept-all k xs (omega (arith, e)))

spread-all : (k : ℕ) (s : List Bool) → length s ≡ k → spread (replicate k true) s ≡ s
spread-all zero [] e = refl
spread-all zero (b ∷ s) e = absurd (omega (arith, e))
spread-all (suc k) [] e = absurd (omega (arith, e))
spread-all (suc k) (b ∷ s) e = ap (λ (l : List Bool). b ∷ l) (spread-all k s (omega (arith, e)))

one-level : (k : ℕ) → 0 < k → AreLevels (ones k) (pos 1 ∷ [])
one-level k some = record {
  falling = λ i j lt within. absurd (omega (arith, lt, within));
  all = λ v. (
    λ h. let e : v ≡ pos 1 = All-contains (λ w. w ≡ pos 1) (ones k) v
        (All-replicate (λ w. w ≡ pos 1) k (pos 1) refl) h in
        subst (λ w. Contains (pos 1 ∷ []) w) (sym e)
        (Contains-get_or (pos 1 ∷ []) 0 (pos 1) (omega arith)),
    λ h. let e : v ≡ pos 1 = All-contains (λ w. w ≡ pos 1) (pos 1 ∷ []) v
        (All-cons (λ w. w ≡ pos 1) (pos 1) [] refl (All-nil (λ w. w ≡ pos 1))) h in
        subst (λ w. Contains (ones k) w) (get_or-replicate k 0 (pos 1) (pos 1) some ∙ sym e)
        (Contains-get_or (ones k) 0 (pos 1) (omega (arith, some, length-replicate k (pos 1)))),
  );
}

own-layer : (rank : Kind) → IsRankKind rank
    → IsLayer rank (ones (length (kind_places rank))) (pos 1) (pos 0) rank
own-layer rank is =
    let k = length (kind_places rank) in
    let all : at_least (pos 1) (ones k) ≡ replicate k true = at_least-ones k in
    record {
      kind = is;
      places = sym (ap (λ (l : List Bool). kept l (kind_places rank)) all
          ∙ kept-all k (kind_places rank) refl);
      value = kind_value rank;
      values = (kind-means rank).values;
      each = λ s ls.
          let (r, greatest, e) = rank-valued rank (kind_value rank) is (kind-means rank).values s
          (ls ∙ sym (length-replicate k (pos 1))) in
          let whole : spread (at_least (pos 1) (ones k)) s ≡ s = ap (λ (l : List Bool). spread l s)
          all ∙ spread-all k s ls in
          let here : IsGreatestWeight (IsIndependentIn rank) (ones (length (ones k))) s
          r = subst (λ n. IsGreatestWeight (IsIndependentIn rank) (ones n) s r)
          (sym (length-replicate k (pos 1))) greatest in
          let factor : factor_of rank ≡ (factor_of rank *ℤ (pos 1 -ℤ pos 0)) = omega (
            arith,
            ints,
          ) in (
            r,
            subst (λ u. IsGreatestWeight (IsIndependentIn rank) (ones (length (ones k))) u r)
                (sym whole) here,
            e ∙ ap (λ f. Some (f *ℤ r)) factor,
          );
    }

rank-layers : (rank : Kind) → IsRankKind rank
    → AreLayers rank (ones (length (kind_places rank))) (rank ∷ [])
rank-layers rank is = (
  pos 1 ∷ [],
  one-level (length (kind_places rank)) (omega (arith, (kind-elements rank).some)),
  (own-layer rank is, tt),
)

-- so two that are one rank are one term
pub rank-one : (s t : Kind) → IsRankKind s → IsRankKind t → AreOneRank s t → AreOneTerm s t
rank-one s t ks kt same =
    let k = length (kind_places s) in
    let there : AreLayers t (ones k) (t ∷ []) = subst (λ n. AreLayers t (ones n) (t ∷ []))
    (sym (ap length same.places)) (rank-layers t kt) in
    let positive : All (λ w. pos 1 ≤ℤ w) (ones k) = All-replicate (λ w. pos 1 ≤ℤ w) k (pos 1)
    (omega (arith, ints)) in
    let one = (layers-one s t (ones k) (s ∷ []) (t ∷ []) same positive (rank-layers s ks)
    there).0 in
    record {
      places = one.places;
      values = one.values;
      size = one.size;
      starts = one.starts;
      meanings = one.meanings;
    }
