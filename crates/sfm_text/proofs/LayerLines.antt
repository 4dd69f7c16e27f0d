-- What a rank line with weights gives to those that make its layers, and that its layers keep the
-- bounds.
use Rattle.std.proofs.Common.{◌≡◌, ◌≢◌, ◌⊎◌, inl, inr, ⊎_elim, ℕ, ◌+◌, ◌<◌, ◌≤◌, ◌^◌, List, [], ◌∷◌, ◌++◌, length, map, codes, AllPairs, Option, Some, None, ℤ, pos, ◌+ℤ◌, ◌*ℤ◌, ◌≤ℤ◌, refl, sym, ap, subst, ◌∙◌, arith}
use Rattle.std.specs.List.{All, AllZip, flat_map}
use Rattle.std.proofs.lemmas.Bool.{cases_lt}
use Rattle.std.proofs.lemmas.Int.{ints, by_lt_z}
use Rattle.std.proofs.lemmas.List.{length-map, append-nil}
use Rattle.std.proofs.lemmas.List.Elements.{All-nil, All-cons, All-head, All-tail, All-from_get_or}
use Rattle.sfm_spec.specs.Sets.{whole_set}
use Rattle.sfm_layers.specs.Weights.{IsGreatestWeight}
use Rattle.sfm_kind.specs.Instance.{support_of}
use Rattle.sfm_kind.specs.Layers.{IsRankKind, AreLayers, Brings, IsWeight}
use Rattle.sfm_kind.specs.Limits.{AreInBounds, total_size_of}
use Rattle.sfm_kind.specs.Meanings.{kind_places, IsIndependentIn, factor_of}
use Rattle.sfm_kind.specs.declared.kind.Kind.{Kind}
use Rattle.sfm_kind.specs.declared.kind.Kind.TheVariants.{Uniform, Laminar, Graphic, Transversal}
use Rattle.sfm_kind.specs.declared.version.Version.{Version}
use Rattle.sfm_kind.proofs.Bounds.{total_size-low}
use Rattle.sfm_kind.proofs.Brought.{AreWeightsOf, brings-one, layers-fit}
use Rattle.sfm_kind.proofs.OneLine.{AreOneRank, greatest-alike}
use Rattle.sfm_lines.specs.declared.word.RankKind.{RankKind}
use Rattle.sfm_lines.specs.declared.word.RankKind.TheVariants.{GraphicRank, TransversalRank}
use Rattle.sfm_lines.specs.declared.word.TermWord.TheVariants.{RankWord}
use Rattle.sfm_lines.specs.Parts.{LineParts, IsSeparator, HaveNoSeparator, IsLabelToken, IsUniformLine, IsLaminarLine, IsLabelledLine}
use Rattle.sfm_lines.specs.RankLines.{IsRankMadeOf}
use Rattle.sfm_lines.specs.Reading.{AreTooMuch, Says}
use Rattle.sfm_lines.specs.TermLines.{IsElement}
use Rattle.sfm_lines.specs.Versions.{most_size}
use Rattle.sfm_lines.specs.Weights.{IsUnweighed, IsWeightText}
use Rattle.sfm_lines.specs.Words.{word_text, HasParts, IsMadeOf}
use Rattle.sfm_lines.proofs.Colons.{no-colon}
use Rattle.sfm_lines.proofs.Cutting.{front-same, uncut}
use Rattle.sfm_lines.proofs.Matches.{length-AllZip, All-AllZip}
use Rattle.sfm_weights.specs.Plain.{IsEntryOf}
use Rattle.sfm_weights.proofs.Entries.{IsEnd}
use Rattle.sfm_text.proofs.OneRanks.{rank-made}
use Rattle.sfm_text.proofs.SameLines.{says-same, says-alike, weighed-word}
use Rattle.sfm_text.proofs.SameTerms.{stands-placed}
use Rattle.sfm_text.proofs.TooMuch.{most_size-high, much-by-total}

-- ---- the line has a weight for each of its elements

-- elements without marks end where a mark stands
unmarked-count : (xs ys a b : List (List ℕ)) → HaveNoSeparator xs → HaveNoSeparator ys → IsEnd a
    → IsEnd b → xs ++ a ≡ ys ++ b
    → length xs ≡ length ys
unmarked-count [] [] a b hx hy ha hb e = refl
unmarked-count (x ∷ xs) (y ∷ ys) a b hx hy ha hb e =
    let more : xs ++ a ≡ ys ++ b = cc in
    let rest = unmarked-count xs ys a b (All-tail (λ t. IsSeparator t → ⊥) x xs hx)
    (All-tail (λ t. IsSeparator t → ⊥) y ys hy) ha hb more in
    omega (arith, rest)
unmarked-count [] (y ∷ ys) a b hx hy (inl none) hb e =
    absurd (omega (arith, ap length (sym e ∙ none)))
unmarked-count [] (y ∷ ys) a b hx hy (inr (rest, is)) hb e =
    let both : y ∷ (ys ++ b) ≡ codes ";" ∷ rest = sym e ∙ is in
    let same : y ≡ codes ";" = cc in
    absurd (All-head (λ t. IsSeparator t → ⊥) y ys hy (inr same))
unmarked-count (x ∷ xs) [] a b hx hy ha (inl none) e = absurd (omega (arith, ap length (e ∙ none)))
unmarked-count (x ∷ xs) [] a b hx hy ha (inr (rest, is)) e =
    let both : x ∷ (xs ++ a) ≡ codes ";" ∷ rest = e ∙ is in
    let same : x ≡ codes ";" = cc in
    absurd (All-head (λ t. IsSeparator t → ⊥) x xs hx (inr same))

entries-unmarked : (marked : List (List ℕ)) (entries : List (List ℕ × Option (List ℕ)))
    → AllZip IsEntryOf marked entries
    → HaveNoSeparator (map (λ entry. entry.0) entries)
entries-unmarked [] [] h = All-nil (λ t. IsSeparator t → ⊥)
entries-unmarked [] (entry ∷ entries) h = absurd h
entries-unmarked (token ∷ marked) [] h = absurd h
entries-unmarked (token ∷ marked) (entry ∷ entries) (is, h) =
    All-cons (λ t. IsSeparator t → ⊥) entry.0 (map (λ entry. entry.0) entries) is.1
    (entries-unmarked marked entries h)

-- a number, or another token that is no mark, and a word are no colons
head-plain : (number word : List ℕ) → (IsSeparator number → ⊥) → word ≢ codes ":"
    → All (λ token. token ≢ codes ":") (number ∷ word ∷ [])
head-plain number word no_separator other = All-cons (λ token. token ≢ codes ":") number (word ∷ [])
    (λ e. no_separator (inl e)) (All-cons (λ token. token ≢ codes ":") word [] other
    (All-nil (λ token. token ≢ codes ":")))

equals-free : All (λ c. c ≢ 61) (codes ";")
equals-free = All-cons (λ c. c ≢ 61) 59 [] (λ e. omega (arith, e)) (All-nil (λ c. c ≢ 61))

-- a token with labels is no semicolon
labelled-end : (rank : RankKind) (xs behind all : List (List ℕ))
    (entries : List (List ℕ × List (List ℕ))) → AllZip (IsLabelToken rank) all entries
    → IsEnd behind → xs ++ behind ≡ all → length xs ≡ length all
labelled-end rank [] behind [] entries each end e = refl
labelled-end rank [] behind (t ∷ all) [] each end e = absurd each
labelled-end rank [] behind (t ∷ all) (entry ∷ entries) each (inl none) e =
    absurd (omega (arith, ap length (sym e ∙ none)))
labelled-end rank [] behind (t ∷ all) (entry ∷ entries) (is, each) (inr (rest, from)) e =
    let both : t ∷ all ≡ codes ";" ∷ rest = sym e ∙ from in
    let same : t ≡ codes ";" = cc in
    absurd (uncut 61 t entry.0 is.behind
    (subst (λ (l : List ℕ). All (λ c. c ≢ 61) l) (sym same) equals-free) is.named)
labelled-end rank (x ∷ xs) behind [] entries each end e = absurd (omega (arith, ap length e))
labelled-end rank (x ∷ xs) behind (t ∷ all) [] each end e = absurd each
labelled-end rank (x ∷ xs) behind (t ∷ all) (entry ∷ entries) (is, each) end e =
    let more : xs ++ behind ≡ all = cc in
    let rest = labelled-end rank xs behind all entries each end more in
    omega (arith, rest)

groups-end : (groups : List (List ℕ × List (List ℕ)))
    → IsEnd (flat_map (λ group. codes ";" ∷ group.0 ∷ group.1) groups)
groups-end [] = inl refl
groups-end (group ∷ groups) = inr
    (group.0 ∷ (group.1 ++ flat_map (λ group. codes ";" ∷ group.0 ∷ group.1) groups), refl)

module _ (rest plain : List (List ℕ)) (entries : List (List ℕ × Option (List ℕ)))
    (h : IsUnweighed rest plain entries) where
  elements-behind : (head behind : List (List ℕ)) → All (λ token. token ≢ codes ":") head
      → plain ≡ head ++ codes ":" ∷ behind
      → map (λ entry. entry.0) entries ++ h.behind ≡ behind
  elements-behind head behind none cut =
      (front-same (codes ":") h.head (map (λ entry. entry.0) entries ++ h.behind) head behind
      h.no_colon none (sym h.plain_are ∙ cut)).1

  unmarked : HaveNoSeparator (map (λ entry. entry.0) entries)
  unmarked = entries-unmarked h.marked entries h.each

  count-uniform : (parts : LineParts) → IsUniformLine plain parts
      → length entries ≡ length parts.elements
  count-uniform parts line =
      let e = elements-behind (line.number ∷ codes "uniform" ∷ line.cap ∷ []) line.elements
      (no-colon (line.number ∷ codes "uniform" ∷ line.cap ∷ []) line.cut.unmarked_before)
      line.cut.cut in
      let n = unmarked-count (map (λ entry. entry.0) entries) line.elements h.behind [] unmarked
      line.cut.unmarked_behind h.ends (inl refl) (e ∙ sym (append-nil line.elements)) in
      sym (length-map entries (λ entry. entry.0))
      ∙ (n ∙ sym (ap (λ (p : LineParts). length p.elements) line.parts_are))

  count-laminar : (parts : LineParts) → IsLaminarLine plain parts
      → length entries ≡ length parts.elements
  count-laminar parts line =
      let e = elements-behind (line.number ∷ codes "laminar" ∷ []) _
      (head-plain line.number (codes "laminar") line.head.no_separator
      (λ e. absurd (omega (arith, ap length e)))) line.head.tokens_are in
      let n = unmarked-count (map (λ entry. entry.0) entries) line.elements h.behind
      (flat_map (λ group. codes ";" ∷ group.0 ∷ group.1) line.groups) unmarked line.unmarked
      h.ends (groups-end line.groups) e in
      sym (length-map entries (λ entry. entry.0))
      ∙ (n ∙ sym (ap (λ (p : LineParts). length p.elements) line.parts_are))

  count-labelled : (rank : RankKind) (word : List ℕ) (parts : LineParts) → word ≢ codes ":"
      → IsLabelledLine rank word plain parts
      → length entries ≡ length parts.elements
  count-labelled rank word parts other line =
      let e = elements-behind (line.number ∷ word ∷ []) line.behind
      (head-plain line.number word line.head.no_separator other) line.head.tokens_are in
      let n = labelled-end rank (map (λ entry. entry.0) entries) h.behind line.behind line.entries
      line.each h.ends e in
      let m = length-AllZip (IsLabelToken rank) line.behind line.entries line.each in
      sym (length-map entries (λ entry. entry.0))
      ∙ (n ∙ (sym m ∙ (sym (length-map line.entries (λ entry. entry.0))
      ∙ sym (ap (λ (p : LineParts). length p.elements) line.parts_are))))

  count-elements : (parts : LineParts) → HasParts RankWord plain parts
      → length entries ≡ length parts.elements
  count-elements parts (inl line) = count-uniform parts line
  count-elements parts (inr (inl line)) = count-laminar parts line
  count-elements parts (inr (inr (inl line))) =
      count-labelled GraphicRank (codes "graphic") parts (λ e. absurd (omega (arith, ap length e)))
      line
  count-elements parts (inr (inr (inr line))) =
      count-labelled TransversalRank (codes "transversal") parts
      (λ e. absurd (omega (arith, ap length e))) line

weight-in : (entry : List ℕ × Option (List ℕ)) (a : ℤ) → IsWeightText entry.1 a
    → IsWeight (10 ^ 15) a
weight-in (x, None) a h = let one : a ≡ pos
    1 = h in (omega (arith, ints, one), omega (arith, ints, one))
weight-in (x, Some text) a h = (h.1, h.2)

-- a rank with a weight for each of its elements, which are places of a ground of n
pub record IsWeighedRank (n : ℕ) (term : Kind) (weights : List ℤ) : Type 0 where
  pub kind : IsRankKind term
  pub each : length weights ≡ length (kind_places term)
  pub bounds : All (IsWeight (10 ^ 15)) weights
  pub below : All (λ e. e < n) (kind_places term)

pub weighed-rank : (version : Version) (names tokens : List (List ℕ)) (term : Kind)
    (weights : List ℤ)
    → Says version names tokens term (Some weights) → IsWeighedRank (length names) term weights
weighed-rank version names tokens term weights
    (plain, entries, inr (none, is, empty), stands, ((k, entry, lt, at, some), each)) =
    absurd (omega (arith, lt, ap length empty))
weighed-rank version names tokens term weights
    (plain, entries, inl (rest, bare, second, cut, h, is), stands, (some, each)) =
    let rank : stands.word ≡ RankWord = weighed-word version tokens plain entries weights
    stands.word stands.rest (inl (rest, bare, second, cut, h, is)) (some, each)
    stands.shaped.0 in
    let made : IsRankMadeOf stands.parts.rank stands.parts stands.values
    term = subst (λ w. IsMadeOf w stands.parts stands.values term) rank stands.made in
    let first : word_text stands.word ≡ word_text RankWord = ap word_text rank in
    let both : word_text stands.word ∷ stands.rest ≡ word_text RankWord ∷ bare = sym stands.shaped.0
    ∙ is in
    let behind : stands.rest ≡ bare = cc in
    let parts : HasParts RankWord bare stands.parts = subst (λ t. HasParts RankWord t stands.parts)
    behind (subst (λ w. HasParts w stands.rest stands.parts) rank stands.shaped.1) in
    let count = count-elements rest bare entries h stands.parts parts in
    let weighed = length-AllZip (λ entry. IsWeightText entry.1) entries weights each in
    let placed = length-AllZip (IsElement names) stands.parts.elements stands.places
    stands.elements in
    record {
      kind = rank-made stands.parts.rank stands.parts stands.values term made;
      each = weighed ∙ (count ∙ (sym placed ∙ sym (ap length stands.same_places)));
      bounds = All-AllZip (λ entry. IsWeightText entry.1) (IsWeight (10 ^ 15)) weight-in entries
          weights each;
      below = All-from_get_or (λ e. e < length names) (kind_places term) 0
          (stands-placed version names plain term stands).below;
    }

-- ---- its layers keep the bounds

module _ (n : ℕ) (term : Kind) (weights : List ℤ) (is : IsWeighedRank n term weights) where
  weights-of : AreWeightsOf term weights
  weights-of = record { kind = is.kind; each = is.each; positive = λ k d lt. (is.bounds k d lt).0 }

  module _ (version : Version) (lines : List ℕ) (terms : List Kind) (places : ℕ) (total : ℤ)
      (brings : Brings term (Some weights) places total)
      (few : AreTooMuch version lines terms places total → ⊥) where
    room : support_of terms + places ≤ 16384
    room = ⊎_elim
        (λ (lt : 16384 < support_of terms + places). absurd (few (inr (inl lt))))
        (λ (le : support_of terms + places ≤ 16384). le)
        (cases_lt 16384 (support_of terms + places))

    small : (total_size_of terms +ℤ total) ≤ℤ pos (10 ^ 18)
    small =
        let most = most_size-high version in
        by_lt_z (most_size version) (total_size_of terms +ℤ total)
        (λ lt. absurd (few (much-by-total version lines terms places total lt)))
        (λ le. omega (arith, ints, le, most))

    -- they are worth no more than a text may have in all
    pub layers-small : (r : ℤ) → IsGreatestWeight (IsIndependentIn term) weights
        (whole_set (length weights)) r → (factor_of term *ℤ r) ≤ℤ pos (10 ^ 18)
    layers-small r greatest =
        let one = brings-one term weights weights-of places places total (factor_of term *ℤ r)
        brings (brings.0, (r, greatest, refl)) in
        let low = total_size-low terms in
        let all = small in
        omega (arith, ints, one.1, low, all)

    pub layers-bounded : (layers : List Kind) → AreLayers term weights layers → AreInBounds n terms
        → AreInBounds n (terms ++ layers)
    layers-bounded layers are bounded = layers-fit term weights weights-of n terms layers places
        total are brings bounded is.below room small

-- ---- a line brings one number of places and one size

brings-alike : (s t : Kind) (weights : List ℤ) (places : ℕ) (total : ℤ) → AreOneRank s t
    → Brings s (Some weights) places total
    → Brings t (Some weights) places total
brings-alike s t weights places total one (levels, (r, greatest, is)) = (
  levels,
  (
    r,
    greatest-alike (IsIndependentIn s) (IsIndependentIn t) weights
        (whole_set (length weights)) r one.alike greatest,
    is ∙ ap (λ (f : ℤ). f *ℤ r) one.factor,
  ),
)

-- so there is too much with the one reading of a line where there is with another
pub much-layered : (version : Version) (names tokens : List (List ℕ)) (s t : Kind)
    (weights : List ℤ) (more : Option (List ℤ)) (lines : List ℕ) (terms : List Kind) (p q : ℕ)
    (a b : ℤ)
    → AllPairs (λ a b. a ≢ b) names → Says version names tokens s (Some weights)
    → Says version names tokens t more
    → Brings s (Some weights) p a → Brings t more q b → AreTooMuch version lines terms q b
    → AreTooMuch version lines terms p a
much-layered version names tokens s t weights more lines terms p q a b distinct said says brings
    other much =
    let same : Some weights ≡ more = (says-same version names tokens s t (Some weights) more
    distinct said says).1 in
    let here : Says version names tokens t
    (Some weights) = subst (λ (o : Option (List ℤ)). Says version names tokens t o) (sym same)
    says in
    let back : Brings t (Some weights) q b = subst (λ (o : Option (List ℤ)). Brings t o q b)
    (sym same) other in
    let one = says-alike version names tokens t s weights distinct here said in
    let is = weighed-rank version names tokens s weights said in
    let e = brings-one s weights (weights-of (length names) s weights is) p q a b brings
    (brings-alike t s weights q b one back) in
    subst (λ (z : ℤ). AreTooMuch version lines terms p z) (sym e.1)
    (subst (λ (m : ℕ). AreTooMuch version lines terms m b) (sym e.0) much)
