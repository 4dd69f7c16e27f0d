-- Lines of a transversal rank: which tokens are those of none, the first reason of one, and its
-- term, which keeps of each entry as many of its first slots as the line has elements.
use Rattle.std.proofs.Common.{◌≡◌, ◌≢◌, ◌<◌, ◌≤◌, ◌*◌, ◌^◌, ℕ, List, [], ◌∷◌, length, take, map, codes, ℤ, Option, Some, None, Result, Ok, Err, refl, sym, ap, ◌∙◌, length-append, length-take, arith}
use Rattle.std.specs.List.{All, Any, AllZip}
use Rattle.std.proofs.lemmas.List.{length-map}
use Rattle.std.proofs.lemmas.List.Elements.{All-nil}
use Rattle.std.proofs.lemmas.Simd.{map-map}
use Rattle.sfm_spec.specs.Bounds.{AreElements}
use Rattle.sfm_spec.specs.Names.{IsName}
use Rattle.sfm_kind.specs.Names.{AreElementNames}
use Rattle.sfm_kind.specs.Instance.{InstanceData}
use Rattle.sfm_kind.specs.declared.kind.Kind.{Kind}
use Rattle.sfm_kind.specs.declared.kind.Kind.TheVariants.{Transversal}
use Rattle.sfm_lines.specs.declared.line_fault.LineEnd.{LineEnd}
use Rattle.sfm_matroid.specs.declared.transversal.Transversal as transversals
use Rattle.sfm_lines.specs.declared.reason.Reason.TheVariants.{Shape, Twice}
use Rattle.sfm_passes.specs.declared.token_test.TokenTest.TheVariants.{Element, LabelledElement}
use Rattle.sfm_lines.specs.declared.word.RankKind.TheVariants.{TransversalRank}
use Rattle.sfm_lines.specs.declared.word.TermWord.{TermWord}
use Rattle.sfm_lines.specs.declared.word.TermWord.TheVariants.{RankWord}
use Rattle.sfm_lines.specs.Parts.{LineParts, IsLabelToken, IsRankLine}
use Rattle.sfm_lines.specs.CutParts.{labelled_parts_of}
use Rattle.sfm_lines.specs.LabelTerms.{numbers_of}
use Rattle.sfm_lines.proofs.FirstSlots.{cut-whole, whole-cut}
use Rattle.sfm_lines.specs.TermLines.{IsNumberFor, IsElement, StandsTwice}
use Rattle.sfm_lines.specs.ReadParts.{IsTermRead, joined, IsKnown, IsEntryLine}
use Rattle.sfm_passes.specs.Passes.{Holds, IsReasonOf, RepeatsSlot, AreGoodEntries, AreFewEntries}
use Rattle.sfm_passes.specs.GroupPasses.{IsToldBy}
use Rattle.sfm_lines.proofs.Colons.{none-any}
use Rattle.sfm_passes.proofs.LongLabels.{labelled-here, labelled-line, labels-named, labelled-slot}
use Rattle.sfm_passes.proofs.LongRanks.{second}
use Rattle.sfm_passes.proofs.LongReasons.{long-shape}
use Rattle.sfm_lines.proofs.Matches.{length-AllZip}
use Rattle.sfm_passes.proofs.Passed.{all-matched, matched-all, matched-one}
use Rattle.sfm_lines.proofs.Ranks.{token-same}
use Rattle.sfm_lines.proofs.TermReasons.{at-twice, elements-placed, none-total}

-- ---- tokens of no such line

pub few-tokens : (tokens : List (List ℕ)) → length tokens ≤ 2 → IsEntryLine RankWord tokens → ⊥
few-tokens tokens few (parts, h) = omega (arith, few, ap length h.head.tokens_are)

pub other-kind : (number kind : List ℕ) (more tokens : List (List ℕ))
    → tokens ≡ number ∷ kind ∷ more → kind ≢ codes "transversal" → IsEntryLine RankWord tokens → ⊥
other-kind number kind more tokens is other (parts, h) =
    other (second number kind h.number (codes "transversal") more (codes ":" ∷ h.behind)
    (sym is ∙ h.head.tokens_are))

-- a line that is told where nothing else holds of it is told where something does
pub told-other : (i : InstanceData) (tokens : List (List ℕ)) (Other : Type 0) → Other
    → (r : Result (Option Kind) LineEnd) → IsToldBy i RankWord tokens (Unit {0}) r
    → IsToldBy i RankWord tokens Other r
told-other i tokens Other other (Ok None) h = other
told-other i tokens Other other (Ok (Some term)) h = h
told-other i tokens Other other (Err end) h = h

pub not-rank : (word : TermWord) (tokens : List (List ℕ)) → word ≢ RankWord
    → IsEntryLine word tokens → ⊥
not-rank RankWord tokens other h = other refl
not-rank _ tokens other h = h

-- ---- the first reason

-- behind the word stand a colon and at least one entry
pub entry-short : (i : InstanceData) (number : List ℕ) (behind : List (List ℕ)) → length behind ≤ 1
    → IsReasonOf i RankWord (number ∷ codes "transversal" ∷ behind) Shape
entry-short i number behind few = long-shape i RankWord (number ∷ codes "transversal" ∷ behind)
    (λ parts line.
    let h = labelled-here TransversalRank tt number behind parts line in
    omega (arith, few, ap length h.head.tokens_are, h.some))

-- a slot stands twice in some entry
pub entry-again : (i : InstanceData) (number colon : List ℕ) (tokens : List (List ℕ))
    → 0 < length tokens → AreElementNames i.names
    → AreGoodEntries i TransversalRank number colon tokens → Any RepeatsSlot tokens
    → IsReasonOf i RankWord (number ∷ codes "transversal" ∷ colon ∷ tokens) Twice
entry-again i number colon tokens some named good again =
    let (entries, each) = all-matched (IsLabelToken TransversalRank) tokens good.each in
    labelled-slot i TransversalRank tt number colon tokens (colon ∷ tokens) refl some
    good.no_separator good.is_colon entries each good.is_number named good.known good.named
    (matched-one (IsLabelToken TransversalRank) RepeatsSlot
    (λ (entry : List ℕ × List (List ℕ)). entry.1) (λ slots. StandsTwice slots)
    (λ token entry p (other, q, twice). let same : other ≡ entry = token-same TransversalRank token
    other entry q p in rw same at twice) tokens entries each again)

-- ---- the first slots

joined-front : (count : ℕ) (entries : List (List ℕ × List (List ℕ))) → count ≤ 256
    → length (joined (map (λ entry. take count entry.1) entries)) ≤ 256 * length entries
joined-front count [] few = omega arith
joined-front count (entry ∷ entries) few =
    let rest = joined-front count entries few in
    omega (
      arith,
      few,
      rest,
      length-append (take count entry.1)
          (joined (map (λ e. take count e.1) entries)),
      length-take count entry.1,
    )

-- of entries that are as many as the slots that are kept
fronts : (count : ℕ) (entries : List (List ℕ × List (List ℕ))) → count ≡ length entries
    → map (λ entry. take count entry.1) entries ≡ map
    (take (length (map (λ entry. entry.1) entries))) (map (λ entry. entry.1) entries)
fronts count entries is =
    let len : length (map (λ (entry : List ℕ × List (List ℕ)). entry.1) entries)
    ≡ count = length-map entries (λ (entry : List ℕ × List (List ℕ)). entry.1) ∙ sym is in
    rw len (sym (map-map (take count) (λ (entry : List ℕ × List (List ℕ)). entry.1) entries))

-- ---- the term

module _ (i : InstanceData) (number colon : List ℕ) (tokens : List (List ℕ))
    (some : 0 < length tokens) (named : AreElementNames i.names)
    (good : AreFewEntries i number colon tokens)
    (entries : List (List ℕ × List (List ℕ)))
    (each : AllZip (IsLabelToken TransversalRank) tokens entries) where
  abbrev parts : LineParts
  parts = labelled_parts_of TransversalRank number entries

  shape : IsRankLine (number ∷ codes "transversal" ∷ colon ∷ tokens) parts
  shape = labelled-line i TransversalRank tt number colon tokens (colon ∷ tokens) refl some
      good.good.no_separator good.good.is_colon entries each

  labels : All (λ texts. All IsName texts) (map (λ entry. entry.1) entries)
  labels = labels-named i TransversalRank tt number colon tokens (colon ∷ tokens) refl some
      good.good.no_separator good.good.is_colon entries each good.good.is_number named
      good.good.known good.good.named

  slots-each : All (λ slots. StandsTwice slots → ⊥) (map (λ entry. entry.1) entries)
  slots-each = matched-all (IsLabelToken TransversalRank) (λ token. RepeatsSlot token → ⊥)
      (λ (entry : List ℕ × List (List ℕ)). entry.1) (λ slots. StandsTwice slots → ⊥)
      (λ token entry p once twice. once (entry, p, twice)) tokens entries each good.once

  slots-once : Any (λ slots. StandsTwice slots) (map (λ entry. entry.1) entries) → ⊥
  slots-once any = none-any (λ slots. StandsTwice slots) (map (λ entry. entry.1) entries) slots-each
      any

  -- each element is one of the ground
  pub entry-known : All (IsKnown i.names) (map (λ entry. entry.0) entries)
  entry-known =
      matched-all (IsLabelToken TransversalRank) (Holds i (LabelledElement TransversalRank))
      (λ (entry : List ℕ × List (List ℕ)). entry.0) (Holds i Element)
      (λ token entry p (other, q, element). let same : other ≡ entry = token-same TransversalRank
      token other entry q p in rw same at element) tokens entries each good.good.known

  pub entry-count : length entries ≡ length tokens
  entry-count = length-AllZip (IsLabelToken TransversalRank) tokens entries each

  pub entry-few : (count : ℕ) → count ≡ length tokens
      → length (joined (map (λ entry. take count entry.1) entries)) < 2 ^ 24
  entry-few count is = omega (
    arith,
    is,
    good.few,
    entry-count,
    joined-front count entries (omega (arith, is, good.few)),
  )

  module _ (w : ℤ) (w_is : IsNumberFor i.version RankWord number w) (places : List ℕ)
      (known : AllZip (IsElement i.names) (map (λ entry. entry.0) entries) places) where
    pub entry-places : length places ≡ length tokens
    entry-places = length-AllZip (IsElement i.names) (map (λ entry. entry.0) entries) places known
        ∙ (length-map entries (λ (entry : List ℕ × List (List ℕ)). entry.0) ∙ entry-count)

    pub entry-twice : StandsTwice places
        → IsReasonOf i RankWord (number ∷ codes "transversal" ∷ colon ∷ tokens) Twice
    entry-twice twice = λ line of.
        at-twice i RankWord (number ∷ codes "transversal" ∷ colon ∷ tokens) line of parts shape
        (w ∷ []) (w_is, tt) places named known (All-nil _) labels twice

    module _ (once : StandsTwice places → ⊥) where
      pub entry-elements : AreElements places
      entry-elements = record {
        some = omega (arith, some, entry-places);
        placed = elements-placed i.names (map (λ entry. entry.0) entries) places named.few known
            once;
      }

      pub entry-read : (l : transversals.Transversal) (count : ℕ) → count ≡ length tokens
          → l.places ≡ places → l.w ≡ w
          → l.entries ≡ numbers_of (map (λ entry. take count entry.1) entries)
          → IsTermRead i RankWord (number ∷ codes "transversal" ∷ colon ∷ tokens) (Transversal l)
      entry-read l count is same_places same_w same_entries = record {
        stands = record {
          word = RankWord;
          rest = number ∷ codes "transversal" ∷ colon ∷ tokens;
          parts = parts;
          values = w ∷ [];
          places = places;
          shaped = (refl, shape);
          numbers = (w_is, tt);
          elements = known;
          same_places = same_places;
          made = (
            same_w,
            λ t.
                let slots = map (λ (entry : List ℕ × List (List ℕ)). entry.1) entries in
                rw (same_entries ∙ ap numbers_of (fronts count entries (is ∙ sym entry-count)))
                (cut-whole slots t, whole-cut slots t slots-each),
          );
        };
        good = λ line reason of. none-total i RankWord
            (number ∷ codes "transversal" ∷ colon ∷ tokens) line of parts shape (w ∷ []) (w_is, tt)
            places named known (All-nil _) labels once (All-nil _) slots-once (λ broken. broken)
            reason;
      }
