-- Two terms that one line stands for are one: a line tells all that a term says of itself.
use Rattle.std.proofs.Common.{◌≡◌, ◌≢◌, ◌↔◌, ℕ, ◌+◌, ◌<◌, ◌≤◌, inl, inr, List, [], ◌∷◌, ◌++◌, length, get_or, AllPairs, None, ℤ, ◌+ℤ◌, refl, sym, ap, subst, ◌∙◌, arith}
use Rattle.std.specs.List.{AllZip}
use Rattle.std.proofs.lemmas.Int.{ints, by_lt_z}
use Rattle.std.proofs.lemmas.Bool.{cases_lt}
use Rattle.std.proofs.lemmas.Option.{slice_get_within}
use mathlib.Core.Logic.{⊎_elim}
use Rattle.sfm_spec.specs.Sets.{IsPlaced}
use Rattle.sfm_spec.specs.Terms.{SetFunction}
use Rattle.sfm_spec.specs.Families.{Meaning}
use Rattle.sfm_kind.specs.Meanings.{kind_places, IsValueOf, IsMeaningOf}
use Rattle.sfm_kind.specs.Instance.{support_of}
use Rattle.sfm_kind.specs.Kinds.{kind_size}
use Rattle.sfm_kind.specs.Layers.{Brings}
use Rattle.sfm_kind.specs.Limits.{AreInBounds, total_size_of}
use Rattle.sfm_kind.specs.declared.kind.Kind.{Kind}
use Rattle.sfm_kind.specs.declared.version.Version.{Version}
use Rattle.sfm_kind.specs.declared.kind.Kind.TheVariants.{Weight, Cut, Need, Cover, Table, Concave}
use Rattle.sfm_kind.proofs.Bounds.{kind-elements, in_bounds-push}
use Rattle.sfm_lines.specs.Parts.{LineParts}
use Rattle.sfm_lines.specs.Versions.{most_size}
use Rattle.sfm_lines.specs.Words.{IsMadeOf}
use Rattle.sfm_lines.specs.ReadParts.{IsTermOf}
use Rattle.sfm_lines.specs.TermLines.{IsNumberFor, IsElement, StandsFor}
use Rattle.sfm_lines.specs.Reading.{AreTooMuch}
use Rattle.sfm_text.specs.OneTerm.{AreOneTerm}
use Rattle.sfm_lines.specs.declared.word.TermWord.{TermWord}
use Rattle.sfm_lines.specs.declared.word.TermWord.TheVariants.{WeightWord, CutWord, NeedWord, CoverWord, TableWord, ConcaveWord, RankWord}
use Rattle.sfm_lines.proofs.WordLines.{of-term-line}
use Rattle.sfm_lines.proofs.Matches.{AllZip-same, AllZip-both, length-AllZip}
use Rattle.sfm_lines.proofs.Numbers.{from-same}
use Rattle.sfm_lines.proofs.TermReasons.{place-same}
use Rattle.sfm_text.proofs.OneRanks.{rank-made, rank-alike, rank-one}
use Rattle.sfm_text.proofs.TooMuch.{brings-same, most_size-high, terms-few, much-by-total}

same_first : (a b : ℤ) → a ∷ [] ≡ b ∷ [] → a ≡ b
same_first a b e = cc

-- the meanings of two terms of the same places, by the values of each
meanings-by : (s t : Kind) → kind_places s ≡ kind_places t
    → ((f : SetFunction) → IsValueOf s f → IsValueOf t f)
    → ((f : SetFunction) → IsValueOf t f → IsValueOf s f) → (meant : Meaning)
    → IsMeaningOf s meant ↔ IsMeaningOf t meant
meanings-by s t same forth back meant = (
  λ h. record { places = h.places ∙ same; values = forth meant.value h.values },
  λ h. record { places = h.places ∙ sym same; values = back meant.value h.values },
)

-- and a term of each word by its places and its numbers
made-one : (word : TermWord) (parts : LineParts) (values : List ℤ) (s t : Kind)
    → kind_places s ≡ kind_places t → IsMadeOf word parts values s → IsMadeOf word parts values t
    → AreOneTerm s t
made-one RankWord parts values s t same h g =
    rank-one s t (rank-made parts.rank parts values s h) (rank-made parts.rank parts values t g)
    (rank-alike parts.rank parts values s t same h g)
made-one WeightWord parts values (Weight a) (Weight b) same h g =
    let weights : a.weights ≡ b.weights = h ∙ sym g in
    record {
      places = same;
      values = λ part len. rw weights refl;
      size = rw weights refl;
      starts = λ q. rw weights refl;
      meanings = meanings-by (Weight a) (Weight b) same (λ f is. rw weights at is)
          (λ f is. rw (← weights) at is);
    }
made-one CutWord parts values (Cut a) (Cut b) same h g =
    let number : a.c ≡ b.c = same_first a.c b.c (h ∙ sym g) in
    record {
      places = same;
      values = λ part len. rw number refl;
      size = number;
      starts = λ q. rw number refl;
      meanings = meanings-by (Cut a) (Cut b) same (λ f is. rw number at is)
          (λ f is. rw (← number) at is);
    }
made-one NeedWord parts values (Need a) (Need b) same h g = record {
  places = same;
  values = λ part len. refl;
  size = refl;
  starts = λ q. refl;
  meanings = meanings-by (Need a) (Need b) same (λ f is. is) (λ f is. is);
}
made-one CoverWord parts values (Cover a) (Cover b) same h g =
    let number : a.w ≡ b.w = same_first a.w b.w (h ∙ sym g) in
    let places : a.places ≡ b.places = same in
    record {
      places = same;
      values = λ part len. rw number refl;
      size = number;
      starts = λ q. rw (number, places) refl;
      meanings = meanings-by (Cover a) (Cover b) same (λ f is. rw number at is)
          (λ f is. rw (← number) at is);
    }
made-one TableWord parts values (Table a) (Table b) same h g =
    let listed : a.values ≡ b.values = h ∙ sym g in
    let places : a.places ≡ b.places = same in
    record {
      places = same;
      values = λ part len. rw listed refl;
      size = rw listed refl;
      starts = λ q. rw (listed, places) refl;
      meanings = meanings-by (Table a) (Table b) same (λ f is. rw listed at is)
          (λ f is. rw (← listed) at is);
    }
made-one ConcaveWord parts values (Concave a) (Concave b) same h g =
    let listed : a.values ≡ b.values = h ∙ sym g in
    let places : a.places ≡ b.places = same in
    record {
      places = same;
      values = λ part len. rw listed refl;
      size = rw listed refl;
      starts = λ q. rw (listed, places) refl;
      meanings = meanings-by (Concave a) (Concave b) same (λ f is. rw listed at is)
          (λ f is. rw (← listed) at is);
    }
made-one WeightWord parts values (Weight a) _ same h g = absurd g
made-one CutWord parts values (Cut a) _ same h g = absurd g
made-one NeedWord parts values (Need a) _ same h g = absurd g
made-one CoverWord parts values (Cover a) _ same h g = absurd g
made-one TableWord parts values (Table a) _ same h g = absurd g
made-one ConcaveWord parts values (Concave a) _ same h g = absurd g
made-one _ parts values _ _ same h g = absurd h

pub stands-same : (version : Version) (names tokens : List (List ℕ)) (s t : Kind)
    → AllPairs (λ a b. a ≢ b) names
    → StandsFor version names tokens s → StandsFor version names tokens t → AreOneTerm s t
stands-same version names tokens s t distinct h g =
    let P : TermWord → List (List ℕ) → LineParts → Type 0 = λ word rest parts. (values : List ℤ)
    × (places : List ℕ) × AllZip (IsNumberFor version word) parts.numbers values
    × AllZip (IsElement names) parts.elements places × IsTermOf word parts values places t in
    let (values, places, numbers, elements, made) = of-term-line h.word tokens h.rest h.parts P
    h.shaped.0 h.shaped.1 (
      g.word,
      g.rest,
      g.parts,
      g.shaped,
      (
        g.values,
        g.places,
        g.numbers,
        g.elements,
        record { same_places = g.same_places; made = g.made },
      ),
    ) in
    let same_values : values ≡ h.values = AllZip-same (IsNumberFor version h.word)
    (from-same version h.word) h.parts.numbers values h.values numbers h.numbers in
    let same_places : places ≡ h.places = AllZip-same (IsElement names) (place-same names distinct)
    h.parts.elements places h.places elements h.elements in
    let made' : IsTermOf h.word h.parts h.values h.places t = rw (same_values, same_places) at
    made in
    made-one h.word h.parts h.values s t (h.same_places ∙ sym made'.same_places) h.made made'.made

-- so there is too much with the one where there is with the other
pub much-same : (version : Version) (lines : List ℕ) (terms : List Kind) (s t : Kind) (places : ℕ)
    (total : ℤ) → AreOneTerm s t → Brings t None places total
    → AreTooMuch version lines terms places total
    → AreTooMuch version lines terms (length (kind_places s)) (kind_size s)
much-same version lines terms s t places total same brings much =
    let b = brings-same t places total brings in
    let count : places ≡ length (kind_places s) = b.0 ∙ sym (ap length same.places) in
    let size : total ≡ kind_size s = b.1 ∙ sym same.size in
    subst (λ (z : ℤ). AreTooMuch version lines terms (length (kind_places s)) z) size
    (subst (λ (n : ℕ). AreTooMuch version lines terms n total) count much)

-- the places of the term are places of the ground
pub stands-placed : (version : Version) (names tokens : List (List ℕ)) (term : Kind)
    → StandsFor version names tokens term
    → IsPlaced (length names) (kind_places term)
stands-placed version names tokens term h =
    let is : kind_places term ≡ h.places = h.same_places in
    let n = length-AllZip (IsElement names) h.parts.elements h.places h.elements in
    record {
      below = λ j lt.
          let within : j < length h.places = omega (arith, lt, ap length is) in
          let at : get_or (kind_places term) j 0 ≡ get_or h.places j
          0 = ap (λ (l : List ℕ). get_or l j 0) is in
          rw at (slice_get_within names (get_or h.places j 0) (get_or h.parts.elements j [])
          (AllZip-both (IsElement names) h.parts.elements h.places j [] 0 h.elements
          (omega (arith, within, n))));
      distinct = ((kind-elements term).placed).distinct;
    }

-- a term that is not too much keeps the bounds
pub bounded-more : (n : ℕ) (version : Version) (lines : List ℕ) (terms : List Kind) (term : Kind)
    → AreInBounds n terms
    → IsPlaced n (kind_places term)
    → (AreTooMuch version lines terms (length (kind_places term)) (kind_size term) → ⊥)
    → AreInBounds n (terms ++ term ∷ [])
bounded-more n version lines terms term h placed few =
    let all : support_of terms + length (kind_places term) ≤ 16384 = ⊎_elim
    (λ (lt : 16384 < support_of terms + length (kind_places term)). absurd (few (inr (inl lt))))
    (λ (le : support_of terms + length (kind_places term) ≤ 16384). le)
    (cases_lt 16384 (support_of terms + length (kind_places term))) in
    let one = (kind-elements term).some in
    let each = terms-few terms in
    let most = most_size-high version in
    in_bounds-push n terms term h placed (record {
      few_terms = omega (arith, all, one, each);
      few_places = all;
      small = by_lt_z (most_size version) (total_size_of terms +ℤ kind_size term)
          (λ lt. absurd (few (much-by-total version lines terms (length (kind_places term))
          (kind_size term) lt))) (λ le. omega (arith, ints, le, most));
    })
