-- The first reason of a line of elements with labels, from what passes over its tokens tell.
use Rattle.std.proofs.Common.{◌≡◌, ◌≢◌, ◌↔◌, IsTrue, inl, inr, ◌<◌, ℕ, Bool, true, false, MatchBool, List, [], ◌∷◌, ◌++◌, length, get_or, map, codes, refl, sym, ap, ◌∙◌, arith}
use Rattle.std.specs.List.{All, Any, AllWithin, HoldsAt, AllZip}
use Rattle.std.proofs.lemmas.Bool.{false≢true}
use Rattle.std.proofs.lemmas.List.{get_or_default, length-map}
use Rattle.std.proofs.lemmas.List.Elements.{All-cons, All-nil, All-from_all_within}
use Rattle.sfm_spec.specs.Names.{IsName}
use Rattle.sfm_kind.specs.Names.{AreElementNames}
use Rattle.sfm_kind.specs.Instance.{InstanceData}
use Rattle.sfm_lines.specs.declared.reason.Reason.TheVariants.{Shape, Number, Name, Twice}
use Rattle.sfm_passes.specs.declared.token_test.TokenTest.TheVariants.{Labelled, LabelledElement, NamedLabels}
use Rattle.sfm_lines.specs.declared.word.RankKind.{RankKind}
use Rattle.sfm_lines.specs.declared.word.RankKind.TheVariants.{GraphicRank, TransversalRank}
use Rattle.sfm_lines.specs.declared.word.TermWord.TheVariants.{RankWord}
use Rattle.sfm_lines.specs.Parts.{LineParts, IsSeparator, IsCutAt, IsLabelToken, IsLabelledLine, IsRankLine, AreLabelsOf}
use Rattle.sfm_lines.specs.CutParts.{labelled_parts_of}
use Rattle.sfm_lines.specs.TermLines.{IsElement}
use Rattle.sfm_lines.specs.Reading.{HasSlotTwice}
use Rattle.sfm_passes.specs.Passes.{Holds, Fails, IsReasonOf, label_word, HasLabels, AreGoodEntries}
use Rattle.sfm_lines.specs.ReadParts.{IsNumberOf, IsKnown}
use Rattle.sfm_lines.proofs.GroupCuts.{group_tokens}
use Rattle.sfm_passes.proofs.LongReasons.{AreNumbers, AreKnown, long-shape, long-number, long-name, long-label, long-twice, long-slot}
use Rattle.sfm_lines.proofs.Matches.{AllZip-at, length-AllZip}
use Rattle.sfm_passes.proofs.Passed.{any-here, any-behind, all-matched, matched-each, matched-one, matched-all}
use Rattle.sfm_lines.proofs.Ranks.{cut-same, token-same}
use Rattle.sfm_passes.proofs.LongRanks.{other-word}

-- ---- a token and its labels

pub label-token : (rank : RankKind) (token element text : List ℕ) (labels : List (List ℕ))
    → IsCutAt 61 token element text → AreLabelsOf rank text labels
    → IsLabelToken rank token (element, labels)
label-token rank token element text labels cut h = record { behind = text; named = cut; labels = h }

pub label-cut : (rank : RankKind) (token : List ℕ) (entry : List ℕ × List (List ℕ))
    → IsLabelToken rank token entry → (text : List ℕ) × IsCutAt 61 token entry.0 text
    × AreLabelsOf rank text entry.1
label-cut rank token entry h = (h.behind, h.named, h.labels)

pub no-entry : (rank : RankKind) (token : List ℕ)
    → ((before behind : List ℕ) → IsCutAt 61 token before behind → ⊥)
    → (entry : List ℕ × List (List ℕ)) → IsLabelToken rank token entry → ⊥
no-entry rank token none entry h =
    let (text, cut, labels) = label-cut rank token entry h in
    none entry.0 text cut

pub no-labels : (rank : RankKind) (token element text : List ℕ) → IsCutAt 61 token element text
    → ((labels : List (List ℕ)) → AreLabelsOf rank text labels → ⊥)
    → (entry : List ℕ × List (List ℕ)) → IsLabelToken rank token entry → ⊥
no-labels rank token element text cut none entry h =
    let (other, cut', labels) = label-cut rank token entry h in
    let same = (cut-same 61 token entry.0 other element text cut' cut).1 in
    none entry.1 (rw same at labels)

-- what is told of the one entry of a token is told of the token
pub element-by : (rank : RankKind) (token element : List ℕ) (labels : List (List ℕ))
    → IsLabelToken rank token (element, labels) → (P : List ℕ → Type 0) (b : Bool)
    → MatchBool b (P element) (P element → ⊥)
    → MatchBool b ((entry : List ℕ × List (List ℕ)) × IsLabelToken rank token entry × P entry.0)
    (((entry : List ℕ × List (List ℕ)) × IsLabelToken rank token entry × P entry.0) → ⊥)
element-by rank token element labels is P true h = ((element, labels), is, h)
element-by rank token element labels is P false h = λ (entry, g, p).
    let same : entry ≡ (element, labels) = token-same rank token entry (element, labels) g is in
    h (rw (ap (λ (e : List ℕ × List (List ℕ)). e.0) same) at p)

pub labels-by : (rank : RankKind) (token element : List ℕ) (labels : List (List ℕ))
    → IsLabelToken rank token (element, labels) → (b : Bool)
    → MatchBool b (All IsName labels) (Any (λ text. IsName text → ⊥) labels)
    → MatchBool b ((entry : List ℕ × List (List ℕ)) × IsLabelToken rank token entry
    × All IsName entry.1) ((entry : List ℕ × List (List ℕ)) → IsLabelToken rank token entry
    → Any (λ text. IsName text → ⊥) entry.1)
labels-by rank token element labels is true h = ((element, labels), is, h)
labels-by rank token element labels is false h = λ entry g.
    let same : entry ≡ (element, labels) = token-same rank token entry (element, labels) g is in
    let labels' : entry.1 ≡ labels = ap (λ (e : List ℕ × List (List ℕ)). e.1) same in
    rw labels' h

-- ---- labels that are names

pub edge-by : (text : List ℕ) (b : Bool)
    → MatchBool b ((before : List ℕ) × (behind : List ℕ) × IsCutAt 45 text before behind)
    ((before behind : List ℕ) → IsCutAt 45 text before behind → ⊥)
    → MatchBool b ((labels : List (List ℕ)) × AreLabelsOf GraphicRank text labels)
    ((labels : List (List ℕ)) → AreLabelsOf GraphicRank text labels → ⊥)
edge-by text true (tail, head, cut) = (tail ∷ head ∷ [], (tail, head, cut, refl))
edge-by text false none = λ labels (tail, head, cut, is). none tail head cut

pub first-wrong : (tail head : List ℕ) → (IsName tail → ⊥)
    → Any (λ t. IsName t → ⊥) (tail ∷ head ∷ [])
first-wrong tail head none = any-here (λ t. IsName t → ⊥) tail (head ∷ []) _ refl none

pub second-by : (tail head : List ℕ) → IsName tail → (b : Bool) → (IsTrue b ↔ IsName head)
    → MatchBool b (All IsName (tail ∷ head ∷ [])) (Any (λ t. IsName t → ⊥) (tail ∷ head ∷ []))
second-by tail head is true both =
    All-cons IsName tail (head ∷ []) is (All-cons IsName head [] (both.0 refl) (All-nil IsName))
second-by tail head is false both =
    any-behind (λ t. IsName t → ⊥) tail (head ∷ []) _ refl
    (any-here (λ t. IsName t → ⊥) head [] _ refl (λ h. false≢true (both.1 h)))

pub no-edge : (text : List ℕ) → ((before behind : List ℕ) → IsCutAt 45 text before behind → ⊥)
    → (labels : List (List ℕ)) → AreLabelsOf GraphicRank text labels → ⊥
no-edge text none labels (tail, head, cut, is) = none tail head cut

pub edge-names : (text tail head : List ℕ) → IsCutAt 45 text tail head → (b : Bool)
    → MatchBool b (All IsName (tail ∷ head ∷ [])) (Any (λ t. IsName t → ⊥) (tail ∷ head ∷ []))
    → (labels : List (List ℕ)) → AreLabelsOf GraphicRank text labels
    → MatchBool b (All IsName labels) (Any (λ t. IsName t → ⊥) labels)
edge-names text tail head cut b h labels (tail', head', ends, is) =
    let same = cut-same 45 text tail' head' tail head ends cut in
    let is' : labels ≡ tail ∷ head ∷ [] = is ∙ (rw (same.0, same.1) refl) in
    rw is' h

pub slots-by : (texts : List (List ℕ)) (b : Bool)
    → MatchBool b (AllWithin IsName texts 0 (length texts))
    ((k : ℕ) × (k < length texts) × HoldsAt (λ t. IsName t → ⊥) texts k)
    → MatchBool b (All IsName texts) (Any (λ t. IsName t → ⊥) texts)
slots-by texts true h = All-from_all_within IsName texts h
slots-by texts false (k, lt, h) =
    (k, get_or texts k [], lt, sym (get_or_default texts k [] (get_or texts k []) lt), h [])

-- ---- a line

-- a line of a rank with such a word is one of it
pub labelled-here : (rank : RankKind) → HasLabels rank
    → (number : List ℕ) (more : List (List ℕ)) (parts : LineParts)
    → IsRankLine (number ∷ label_word rank ∷ more) parts
    → IsLabelledLine rank (label_word rank) (number ∷ label_word rank ∷ more) parts
labelled-here GraphicRank has number more parts (inl h) =
    absurd (other-word (codes "graphic") number h.number (codes "uniform") more
    (h.cap ∷ codes ":" ∷ h.elements) h.cut.cut (λ e. omega (arith, e)))
labelled-here GraphicRank has number more parts (inr (inl h)) =
    absurd (other-word (codes "graphic") number h.number (codes "laminar") more
    (codes ":" ∷ (h.elements ++ group_tokens h.groups)) h.head.tokens_are (λ e. omega (arith, e)))
labelled-here GraphicRank has number more parts (inr (inr (inl h))) = h
labelled-here GraphicRank has number more parts (inr (inr (inr h))) =
    absurd (other-word (codes "graphic") number h.number (codes "transversal") more
    (codes ":" ∷ h.behind) h.head.tokens_are (λ e. omega (arith, e)))
labelled-here TransversalRank has number more parts (inl h) =
    absurd (other-word (codes "transversal") number h.number (codes "uniform") more
    (h.cap ∷ codes ":" ∷ h.elements) h.cut.cut (λ e. omega (arith, e)))
labelled-here TransversalRank has number more parts (inr (inl h)) =
    absurd (other-word (codes "transversal") number h.number (codes "laminar") more
    (codes ":" ∷ (h.elements ++ group_tokens h.groups)) h.head.tokens_are (λ e. omega (arith, e)))
labelled-here TransversalRank has number more parts (inr (inr (inl h))) =
    absurd (other-word (codes "transversal") number h.number (codes "graphic") more
    (codes ":" ∷ h.behind) h.head.tokens_are (λ e. omega (arith, e)))
labelled-here TransversalRank has number more parts (inr (inr (inr h))) = h
labelled-here _ has number more parts h = absurd has

labelled-there : (rank : RankKind) → HasLabels rank → (tokens : List (List ℕ)) (parts : LineParts)
    → IsLabelledLine rank (label_word rank) tokens parts → IsRankLine tokens parts
labelled-there GraphicRank has tokens parts h = inr (inr (inl h))
labelled-there TransversalRank has tokens parts h = inr (inr (inr h))
labelled-there _ has tokens parts h = absurd has

-- some token is none of an element with labels
entry-none : (rank : RankKind) (tokens behind : List (List ℕ))
    (entries : List (List ℕ × List (List ℕ))) → tokens ≡ behind
    → AllZip (IsLabelToken rank) behind entries
    → Any (λ token. ((entry : List ℕ × List (List ℕ)) × IsLabelToken rank token entry) → ⊥) tokens
    → ⊥
entry-none rank tokens behind entries same each (k, token, lt, e, none) =
    let each' : AllZip (IsLabelToken rank) tokens entries = rw same each in
    let (entry, p) = AllZip-at (IsLabelToken rank) tokens entries k token each' lt in
    none (entry, rw e at p)

module _ (i : InstanceData) (rank : RankKind) (has : HasLabels rank) (number colon : List ℕ)
    (tokens more : List (List ℕ)) (is : more ≡ colon ∷ tokens) where
  labelled-same : (parts : LineParts) → IsRankLine (number ∷ label_word rank ∷ more) parts
      → (h : IsLabelledLine rank (label_word rank) (number ∷ label_word rank ∷ more) parts)
      × ((number ≡ h.number) × (colon ≡ codes ":") × (tokens ≡ h.behind))
  labelled-same parts h =
      let l = labelled-here rank has number more parts h in
      let e : number ∷ label_word rank ∷ colon ∷ tokens ≡ l.number ∷ label_word rank ∷ codes
      ":" ∷ l.behind = sym (ap (λ (m : List (List ℕ)). number ∷ label_word rank ∷ m) is)
      ∙ l.head.tokens_are in
      (l, (cc, cc, cc))

  pub labelled-mark : IsSeparator number → IsReasonOf i RankWord (number ∷ label_word rank ∷ more)
      Shape
  labelled-mark m = long-shape i RankWord (number ∷ label_word rank ∷ more)
      (λ parts h. let (l, same) = labelled-same parts h in l.head.no_separator (rw (same.0) at m))

  pub labelled-colon : (colon ≢ codes ":") → IsReasonOf i RankWord (number ∷ label_word rank ∷ more)
      Shape
  labelled-colon other = long-shape i RankWord (number ∷ label_word rank ∷ more)
      (λ parts h. let (l, same) = labelled-same parts h in other same.1)

  pub labelled-entry : Any (λ token. Holds i (Labelled rank) token → ⊥) tokens
      → IsReasonOf i RankWord (number ∷ label_word rank ∷ more) Shape
  labelled-entry any = long-shape i RankWord (number ∷ label_word rank ∷ more)
      (λ parts h. let (l, same) = labelled-same parts h in entry-none rank tokens l.behind l.entries
      same.2 l.each any)

  module _ (some : 0 < length tokens) (no_separator : IsSeparator number → ⊥)
      (is_colon : colon ≡ codes ":") (entries : List (List ℕ × List (List ℕ)))
      (each : AllZip (IsLabelToken rank) tokens entries) where
    abbrev pub labelled-parts : LineParts
    labelled-parts = labelled_parts_of rank number entries

    pub labelled-line : IsRankLine (number ∷ label_word rank ∷ more) labelled-parts
    labelled-line = labelled-there rank has (number ∷ label_word rank ∷ more) labelled-parts
        (record {
          number = number;
          behind = tokens;
          entries = entries;
          head = record {
            tokens_are = ap (λ (l : List (List ℕ)). number ∷ label_word rank ∷ l)
                (is ∙ ap (λ (t : List ℕ). t ∷ tokens) is_colon);
            no_separator = no_separator;
          };
          some = omega (arith, some);
          each = each;
          parts_are = refl;
        })

    pub labelled-number : (IsNumberOf i.version RankWord number → ⊥)
        → IsReasonOf i RankWord (number ∷ label_word rank ∷ more) Number
    labelled-number none = long-number i RankWord (number ∷ label_word rank ∷ more) labelled-parts
        labelled-line (any-here (λ text. IsNumberOf i.version RankWord text → ⊥) number [] _ refl
        none)

    module _ (good : IsNumberOf i.version RankWord number) where
      labelled-values : AreNumbers i.version RankWord (number ∷ [])
      labelled-values = (good.0 ∷ [], (good.1, tt))

      pub labelled-name : Any (λ token. Holds i (LabelledElement rank) token → ⊥) tokens
          → IsReasonOf i RankWord (number ∷ label_word rank ∷ more) Name
      labelled-name any = long-name i RankWord (number ∷ label_word rank ∷ more) labelled-parts
          labelled-line labelled-values
          (matched-one (IsLabelToken rank) (λ token. Holds i (LabelledElement rank) token → ⊥)
          (λ (entry : List ℕ × List (List ℕ)). entry.0) (λ text. IsKnown i.names text → ⊥)
          (λ token entry p none known. none (entry, p, known)) tokens entries each any)

      pub labelled-label : Any (Fails i (NamedLabels rank)) tokens
          → IsReasonOf i RankWord (number ∷ label_word rank ∷ more) Name
      labelled-label any = long-label i RankWord (number ∷ label_word rank ∷ more) labelled-parts
          labelled-line labelled-values
          (matched-one (IsLabelToken rank) (Fails i (NamedLabels rank))
          (λ (entry : List ℕ × List (List ℕ)). entry.1)
          (λ texts. Any (λ text. IsName text → ⊥) texts) (λ token entry p wrong. wrong entry p)
          tokens entries each any)

      module _ (named : AreElementNames i.names)
          (known : All (Holds i (LabelledElement rank)) tokens)
          (names : All (Holds i (NamedLabels rank)) tokens) where
        elements-known : AreKnown i.names (map (λ entry. entry.0) entries)
        elements-known = matched-each (IsLabelToken rank) (Holds i (LabelledElement rank))
            (λ (entry : List ℕ × List (List ℕ)). entry.0) (IsElement i.names)
            (λ token entry p (other, q, element). let same : other ≡ entry = token-same rank token
            other entry q p in rw same at element) tokens entries each known

        pub labels-named : All (λ texts. All IsName texts) (map (λ entry. entry.1) entries)
        labels-named = matched-all (IsLabelToken rank) (Holds i (NamedLabels rank))
            (λ (entry : List ℕ × List (List ℕ)). entry.1) (λ texts. All IsName texts)
            (λ token entry p (other, q, good). let same : other ≡ entry = token-same rank token
            other entry q p in rw same at good) tokens entries each names

        pub labelled-twice : 256 < length tokens
            → IsReasonOf i RankWord (number ∷ label_word rank ∷ more) Twice
        labelled-twice many = long-twice i RankWord (number ∷ label_word rank ∷ more) labelled-parts
            labelled-line labelled-values named elements-known refl labels-named
            (omega (
              arith,
              many,
              length-map entries (λ (entry : List ℕ × List (List ℕ)). entry.0),
              length-AllZip (IsLabelToken rank) tokens entries each,
            ))

        pub labelled-slot : HasSlotTwice rank (map (λ entry. entry.1) entries)
            → IsReasonOf i RankWord (number ∷ label_word rank ∷ more) Twice
        labelled-slot again = long-slot i RankWord (number ∷ label_word rank ∷ more) labelled-parts
            labelled-line labelled-values named elements-known refl labels-named again

-- elements with labels that have no reason before that something stands twice
module _ (i : InstanceData) (rank : RankKind) (has : HasLabels rank) (number colon : List ℕ)
    (tokens more : List (List ℕ)) (is : more ≡ colon ∷ tokens) (some : 0 < length tokens)
    (named : AreElementNames i.names) (good : AreGoodEntries i rank number colon tokens) where
  pub many-entries : 256 < length tokens → IsReasonOf i RankWord (number ∷ label_word rank ∷ more)
      Twice
  many-entries many =
      let (entries, each) = all-matched (IsLabelToken rank) tokens good.each in
      labelled-twice i rank has number colon tokens more is some good.no_separator good.is_colon
      entries each good.is_number named good.known good.named many
