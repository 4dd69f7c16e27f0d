-- Two readings of one term line say one term and the same weights.
use Rattle.std.proofs.Common.{◌≡◌, ◌≢◌, inl, inr, ℕ, List, [], ◌∷◌, ◌++◌, length, AllPairs, Option, Some, None, ℤ, pos, ◌≤ℤ◌, refl, sym, ap, subst, ◌∙◌, arith}
use Rattle.std.specs.Prelude.{IsSome}
use Rattle.std.specs.List.{All, Any, AllZip}
use Rattle.std.proofs.lemmas.Int.{ints}
use Rattle.std.proofs.lemmas.Bool.{false≢true}
use Rattle.sfm_kind.specs.Layers.{AreTermsOf, Brings}
use Rattle.sfm_kind.proofs.OneLine.{AreOneRank, AreOneLayer, layers-one}
use Rattle.sfm_kind.specs.declared.kind.Kind.{Kind}
use Rattle.sfm_kind.specs.declared.version.Version.{Version}
use Rattle.sfm_lines.specs.declared.word.TermWord.{TermWord}
use Rattle.sfm_lines.specs.declared.word.TermWord.TheVariants.{RankWord}
use Rattle.sfm_lines.specs.Parts.{LineParts}
use Rattle.sfm_lines.specs.Words.{word_text, IsMadeOf}
use Rattle.sfm_lines.specs.RankLines.{IsRankMadeOf}
use Rattle.sfm_lines.specs.TermLines.{IsNumberFor, StandsFor}
use Rattle.sfm_lines.specs.Weights.{IsPlainLine, IsWeightText, AreWeights}
use Rattle.sfm_lines.specs.Reading.{Says}
use Rattle.sfm_lines.proofs.Matches.{AllZip-same, All-AllZip, length-AllZip}
use Rattle.sfm_lines.proofs.Numbers.{number-same, from-same}
use Rattle.sfm_lines.proofs.WordLines.{of-term-line, word_text-same}
use Rattle.sfm_weights.proofs.Lines.{plain-same}
use Rattle.sfm_text.specs.OneTerm.{AreOneTerm}
use Rattle.sfm_text.proofs.OneRanks.{rank-alike}
use Rattle.sfm_text.proofs.SameTerms.{stands-same}

weight-same : (entry : List ℕ × Option (List ℕ)) (a b : ℤ) → IsWeightText entry.1 a
    → IsWeightText entry.1 b → a ≡ b
weight-same (x, None) a b h g = h ∙ sym g
weight-same (x, Some text) a b h g = number-same text a b h.0 g.0

none-some : (entries : List (List ℕ × Option (List ℕ))) → All (λ entry. entry.1 ≡ None) entries
    → Any (λ entry. IsSome entry.1) entries → ⊥
none-some entries all (k, entry, lt, at, some) =
    let none : entry.1 ≡ None = subst (λ (e : List ℕ × Option (List ℕ)). e.1 ≡ None) at
    (all k entry lt) in
    false≢true (subst (λ (o : Option (List ℕ)). IsSome o) none some)

pub weights-same : (entries : List (List ℕ × Option (List ℕ))) (v w : Option (List ℤ))
    → AreWeights entries v → AreWeights entries w → v ≡ w
weights-same entries None None h g = refl
weights-same entries None (Some w) h g = absurd (none-some entries h g.0)
weights-same entries (Some v) None h g = absurd (none-some entries g h.0)
weights-same entries (Some v) (Some w) h g =
    ap (λ (l : List ℤ). Some l) (AllZip-same (λ entry. IsWeightText entry.1) weight-same entries v w
    h.1 g.1)

pub says-same : (version : Version) (names tokens : List (List ℕ)) (s t : Kind)
    (v w : Option (List ℤ)) → AllPairs (λ a b. a ≢ b) names
    → Says version names tokens s v → Says version names tokens t w → AreOneTerm s t × (v ≡ w)
says-same version names tokens s t v w distinct (p, a, are, stands, weights)
    (q, b, are', stands', weights') =
    let same = plain-same version tokens q p b a are' are in (
      stands-same version names p s t distinct stands
          (subst (λ (l : List (List ℕ)). StandsFor version names l t) same.0 stands'),
      weights-same a v w weights (subst (λ (l : List (List ℕ × Option (List ℕ))). AreWeights l w)
          same.1 weights'),
    )

-- a line without weights brings what its term does
pub brings-plain : (term : Kind) (weights : Option (List ℤ)) (places : ℕ) (total : ℤ)
    → None ≡ weights → Brings term weights places total → Brings term None places total
brings-plain term weights places total is h =
    subst (λ (w : Option (List ℤ)). Brings term w places total) (sym is) h

-- ---- and they have one list of terms

pub AllZip-append : {X Y : Type 0} (R : X → Y → Type 0) (xs more : List X) (ys rest : List Y)
    → AllZip R xs ys → AllZip R more rest → AllZip R (xs ++ more) (ys ++ rest)
AllZip-append R [] more [] rest h g = g
AllZip-append R [] more (y ∷ ys) rest h g = absurd h
AllZip-append R (x ∷ xs) more [] rest h g = absurd h
AllZip-append R (x ∷ xs) more (y ∷ ys) rest h g = (h.0, AllZip-append R xs more ys rest h.1 g)

-- a line whose elements have weights is that of a rank
pub weighed-word : (version : Version) (tokens plain : List (List ℕ))
    (entries : List (List ℕ × Option (List ℕ))) (weights : List ℤ) (word : TermWord)
    (rest : List (List ℕ)) → IsPlainLine version tokens plain entries
    → AreWeights entries (Some weights) → plain ≡ word_text word ∷ rest → word ≡ RankWord
weighed-word version tokens plain entries weights word rest (inl (behind, bare, second, cut, h, is))
    some e =
    let both : word_text word ∷ rest ≡ word_text RankWord ∷ bare = sym e ∙ is in
    let same : word_text word ≡ word_text RankWord = cc in
    word_text-same word RankWord same
weighed-word version tokens plain entries weights word rest (inr (none, is, empty))
    ((k, entry, lt, at, h), each) e = absurd (omega (arith, lt, ap length empty))

weight-low : (entry : List ℕ × Option (List ℕ)) (a : ℤ) → IsWeightText entry.1 a → pos 1 ≤ℤ a
weight-low (x, None) a h = let one : a ≡ pos 1 = h in omega (arith, ints, one)
weight-low (x, Some text) a h = h.1

-- two terms of one line without weights, of a rank, are one rank
stands-alike : (version : Version) (names plain : List (List ℕ)) (s t : Kind)
    → AllPairs (λ a b. a ≢ b) names → (h : StandsFor version names plain s)
    → StandsFor version names plain t → h.word ≡ RankWord → AreOneRank s t
stands-alike version names plain s t distinct h g rank =
    let P : TermWord → List (List ℕ) → LineParts → Type 0 = λ word rest parts. (values : List ℤ)
    × AllZip (IsNumberFor version word) parts.numbers values × IsMadeOf word parts values t in
    let (values, numbers, made) = of-term-line h.word plain h.rest h.parts P h.shaped.0 h.shaped.1
    (g.word, g.rest, g.parts, g.shaped, (g.values, g.numbers, g.made)) in
    let same : values ≡ h.values = AllZip-same (IsNumberFor version h.word)
    (from-same version h.word) h.parts.numbers values h.values numbers h.numbers in
    let mine : IsRankMadeOf h.parts.rank h.parts h.values
    s = subst (λ (w : TermWord). IsMadeOf w h.parts h.values s) rank h.made in
    let other : IsRankMadeOf h.parts.rank h.parts h.values
    t = subst (λ (w : TermWord). IsMadeOf w h.parts h.values t) rank
    (subst (λ (v : List ℤ). IsMadeOf h.word h.parts v t) same made) in
    rank-alike h.parts.rank h.parts h.values s t
    (stands-same version names plain s t distinct h g).places mine other

-- two terms that a line with weights says are one rank
pub says-alike : (version : Version) (names tokens : List (List ℕ)) (s t : Kind) (v : List ℤ)
    → AllPairs (λ a b. a ≢ b) names
    → Says version names tokens s (Some v) → Says version names tokens t (Some v) → AreOneRank s t
says-alike version names tokens s t v distinct (p, a, line, stands, weights)
    (q, b, line', stands', weights') =
    let same = plain-same version tokens q p b a line' line in
    let here : StandsFor version names p
    t = subst (λ (l : List (List ℕ)). StandsFor version names l t) same.0 stands' in
    let rank = weighed-word version tokens p a v stands.word stands.rest line weights
    stands.shaped.0 in
    stands-alike version names p s t distinct stands here rank

as-terms : (xs ys : List Kind) → AllZip AreOneLayer xs ys → AllZip AreOneTerm xs ys
as-terms [] [] h = tt
as-terms [] (y ∷ ys) h = absurd h
as-terms (x ∷ xs) [] h = absurd h
as-terms (x ∷ xs) (y ∷ ys) (h, more) = (
  record {
    places = h.places;
    values = h.values;
    size = h.size;
    starts = h.starts;
    meanings = h.meanings;
  },
  as-terms xs ys more,
)

terms-same : (version : Version) (names tokens : List (List ℕ)) (s t : Kind) (v : Option (List ℤ))
    (xs ys : List Kind) → AllPairs (λ a b. a ≢ b) names
    → Says version names tokens s v → Says version names tokens t v → AreTermsOf s v xs
    → AreTermsOf t v ys → AllZip AreOneTerm xs ys
terms-same version names tokens s t None xs ys distinct h g are are' =
    rw (are, are') ((says-same version names tokens s t None None distinct h g).0, tt)
terms-same version names tokens s t (Some v) xs ys distinct h g are are' =
    let (p, a, line, stands, weights) = h in
    let positive : All (λ w. pos 1 ≤ℤ w) v = All-AllZip (λ entry. IsWeightText entry.1)
    (λ w. pos 1 ≤ℤ w) weight-low a v weights.1 in
    as-terms xs ys (layers-one s t v xs ys (says-alike version names tokens s t v distinct h g)
    positive are are')

pub lines-same : (version : Version) (names tokens : List (List ℕ)) (s t : Kind)
    (v w : Option (List ℤ)) (xs ys : List Kind) → AllPairs (λ a b. a ≢ b) names
    → Says version names tokens s v → Says version names tokens t w → AreTermsOf s v xs
    → AreTermsOf t w ys → AllZip AreOneTerm xs ys × (v ≡ w) × (length xs ≡ length ys)
lines-same version names tokens s t v w xs ys distinct h g are are' =
    let same : v ≡ w = (says-same version names tokens s t v w distinct h g).1 in
    let one = terms-same version names tokens s t v xs ys distinct h
    (subst (λ (o : Option (List ℤ)). Says version names tokens t o) (sym same) g) are
    (subst (λ (o : Option (List ℤ)). AreTermsOf t o ys) (sym same) are') in
    (one, same, sym (length-AllZip AreOneTerm xs ys one))
