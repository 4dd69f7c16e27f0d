-- The reasons that a term line does not have, as its parts are read one kind after another.
use Rattle.std.proofs.Common.{◌≡◌, ◌≢◌, ◌⊎◌, inl, inr, ℕ, ◌<◌, ◌≤◌, Bool, true, false, List, [], ◌∷◌, length, get_or, slice_get, Some, Contains, AllPairs, ℤ, refl, sym, ap, ◌∙◌, true≢false, arith}
use Rattle.std.specs.List.{All, Any, AllZip}
use Rattle.std.proofs.lemmas.Option.{slice_get-get_or, slice_get_within, same_Some}
use Rattle.std.proofs.lemmas.List.Elements.{All-get_or}
use Rattle.std.proofs.lemmas.Bool.{cases_lt}
use mathlib.Core.Logic.{⊎_elim}
use Rattle.sfm_spec.specs.Names.{IsName}
use Rattle.sfm_spec.specs.Sets.{IsPlaced}
use Rattle.sfm_kind.specs.Names.{IsNewName, AreElementNames}
use Rattle.sfm_kind.specs.Instance.{InstanceData}
use Rattle.sfm_lines.specs.declared.reason.Reason.{Reason}
use Rattle.sfm_lines.specs.declared.reason.Reason.TheVariants.{Long, Bytes, Word, Shape, Number, Name, Twice, Law, Total, Short}
use Rattle.sfm_lines.specs.declared.stage.Stage.TheVariants.{Terms}
use Rattle.sfm_lines.specs.declared.word.RankKind.{RankKind}
use Rattle.sfm_lines.specs.declared.word.RankKind.TheVariants.{NoRank, UniformRank, LaminarRank, GraphicRank, TransversalRank}
use Rattle.sfm_lines.specs.declared.word.TermWord.{TermWord}
use Rattle.sfm_lines.specs.declared.word.TermWord.TheVariants.{WeightWord, CutWord, NeedWord, CoverWord, TableWord, ConcaveWord, RankWord}
use Rattle.sfm_lines.specs.Lines.{tokens_of}
use Rattle.sfm_lines.specs.Parts.{LineParts}
use Rattle.sfm_lines.specs.Words.{word_text, HasParts, BreaksLaw}
use Rattle.sfm_lines.specs.TermLines.{IsNumberFor, IsElement, StandsTwice}
use Rattle.sfm_lines.specs.Reading.{State, HasStranger, HasWrongLabel, HasSlotTwice, reason_order}
use Rattle.sfm_lines.specs.PlainLines.{HasPlainly, FirstPlain}
use Rattle.sfm_lines.specs.ReadParts.{state_at, IsPartsReason, IsLineOf, IsKnown, IsEntryLine}
use Rattle.sfm_lines.proofs.WordLines.{of-term-line, shaped-here}
use Rattle.sfm_lines.proofs.Matches.{AllZip-at, AllZip-both, AllZip-same, length-AllZip}
use Rattle.sfm_lines.proofs.Numbers.{from-same}
use Rattle.sfm_lines.proofs.Colons.{none-any}
use Rattle.sfm_lines.proofs.Repeats.{twice-at, twice-same}

-- none of the reasons below the k-th, of what has no reason Long or Short
pub none-before : (Has : Reason → Type 0) (k : ℕ) → (Has Long → ⊥) → (1 < k → Has Bytes → ⊥)
    → (2 < k → Has Word → ⊥) → (3 < k → Has Shape → ⊥) → (4 < k → Has Number → ⊥)
    → (5 < k → Has Name → ⊥) → (6 < k → Has Twice → ⊥) → (7 < k → Has Law → ⊥)
    → (8 < k → Has Total → ⊥) → (Has Short → ⊥) → (reason : Reason) → reason_order reason < k
    → Has reason → ⊥
none-before Has k long bytes word shape number name twice law total short Long lt h = long h
none-before Has k long bytes word shape number name twice law total short Bytes lt h = bytes lt h
none-before Has k long bytes word shape number name twice law total short Word lt h = word lt h
none-before Has k long bytes word shape number name twice law total short Shape lt h = shape lt h
none-before Has k long bytes word shape number name twice law total short Number lt h = number lt h
none-before Has k long bytes word shape number name twice law total short Name lt h = name lt h
none-before Has k long bytes word shape number name twice law total short Twice lt h = twice lt h
none-before Has k long bytes word shape number name twice law total short Law lt h = law lt h
none-before Has k long bytes word shape number name twice law total short Total lt h = total lt h
none-before Has k long bytes word shape number name twice law total short Short lt h = short h

pub none-below : (s : State) (line : List ℕ) (k : ℕ) → (1 < k → HasPlainly s line Bytes → ⊥)
    → (2 < k → HasPlainly s line Word → ⊥) → (3 < k → HasPlainly s line Shape → ⊥)
    → (4 < k → HasPlainly s line Number → ⊥) → (5 < k → HasPlainly s line Name → ⊥)
    → (6 < k → HasPlainly s line Twice → ⊥) → (7 < k → HasPlainly s line Law → ⊥)
    → (8 < k → HasPlainly s line Total → ⊥) → (reason : Reason) → reason_order reason < k
    → HasPlainly s line reason → ⊥
none-below s line k bytes word shape number name twice law total =
    none-before (HasPlainly s line) k (λ h. h) bytes word shape number name twice law total (λ h. h)

-- a name stands at one place
pub place-same : (names : List (List ℕ)) → AllPairs (λ a b. a ≢ b) names → (text : List ℕ) (a b : ℕ)
    → IsElement names text a → IsElement names text b → a ≡ b
place-same names distinct text a b h g =
    let lt_a = slice_get_within names a text h in
    let lt_b = slice_get_within names b text g in
    let at_a : get_or names a text ≡ text = same_Some (get_or names a text) text
    (sym (slice_get-get_or names a text lt_a) ∙ h) in
    let at_b : get_or names b text ≡ text = same_Some (get_or names b text) text
    (sym (slice_get-get_or names b text lt_b) ∙ g) in
    ⊎_elim
    (λ (lt : a < b). absurd (distinct a b text lt lt_b (at_a ∙ sym at_b)))
    (λ (le : b ≤ a). ⊎_elim
    (λ (lt : b < a). absurd (distinct b a text lt lt_a (at_b ∙ sym at_a)))
    (λ (le' : a ≤ b). omega arith)
    (cases_lt b a))
    (cases_lt a b)

-- an element stands twice exactly where its place does
pub twice-places : (names texts : List (List ℕ)) (places : List ℕ)
    → AllZip (IsElement names) texts places → StandsTwice places → StandsTwice texts
twice-places names texts places h t =
    let len = length-AllZip (IsElement names) texts places h in
    let lt : t.0 < length texts = omega (arith, len, t.2, t.3) in
    let lt' : t.1 < length texts = omega (arith, len, t.3) in
    let a = AllZip-both (IsElement names) texts places t.0 [] 0 h lt in
    let b = AllZip-both (IsElement names) texts places t.1 [] 0 h lt' in
    let same : get_or places t.0 0 ≡ get_or places t.1 0 = twice-same places 0 t in
    twice-at texts t.0 t.1 [] t.2 lt'
    (same_Some (get_or texts t.0 []) (get_or texts t.1 [])
    (sym a ∙ (ap (λ e. slice_get names e) same ∙ b)))

pub twice-texts : (names texts : List (List ℕ)) (places : List ℕ) → AllPairs (λ a b. a ≢ b) names
    → AllZip (IsElement names) texts places → StandsTwice texts → StandsTwice places
twice-texts names texts places distinct h t =
    let len = length-AllZip (IsElement names) texts places h in
    let lt : t.0 < length texts = omega (arith, t.2, t.3) in
    let a = AllZip-both (IsElement names) texts places t.0 [] 0 h lt in
    let b = AllZip-both (IsElement names) texts places t.1 [] 0 h t.3 in
    let same : get_or texts t.0 [] ≡ get_or texts t.1 [] = twice-same texts [] t in
    let a' : IsElement names (get_or texts t.1 []) (get_or places t.0 0) = a
    ∙ ap (λ (l : List ℕ). Some l) same in
    twice-at places t.0 t.1 0 t.2 (omega (arith, len, t.3))
    (place-same names distinct (get_or texts t.1 []) (get_or places t.0 0) (get_or places t.1 0)
    a' b)

-- places of elements that do not stand twice
pub elements-placed : (names texts : List (List ℕ)) (places : List ℕ) → length names ≤ 256
    → AllZip (IsElement names) texts places → (StandsTwice places → ⊥) → IsPlaced 256 places
elements-placed names texts places few h once = record {
  below = λ j lt. omega (
    arith,
    few,
    slice_get_within names (get_or places j 0) (get_or texts j [])
        (AllZip-both (IsElement names) texts places j [] 0 h
        (omega (arith, lt, length-AllZip (IsElement names) texts places h))),
  );
  distinct = λ i j lt_i lt_j same. ⊎_elim
      (λ (lt : i < j). absurd (once (twice-at places i j 0 lt lt_j same)))
      (λ (le : j ≤ i). ⊎_elim
      (λ (lt : j < i). absurd (once (twice-at places j i 0 lt lt_i (sym same))))
      (λ (le' : i ≤ j). omega arith)
      (cases_lt j i))
      (cases_lt i j);
}

module _ (instance : InstanceData) (word : TermWord) (rest : List (List ℕ)) (line : List ℕ)
    (is : IsLineOf line (word_text word ∷ rest)) where
  -- the word is known
  pub none-shape : (reason : Reason) → reason_order reason < 3
      → HasPlainly (state_at Terms instance) line reason → ⊥
  none-shape = none-below (state_at Terms instance) line 3 (λ lt h. is.good_bytes h) (λ lt h. h)
      (λ lt. absurd (omega arith)) (λ lt. absurd (omega arith)) (λ lt. absurd (omega arith))
      (λ lt. absurd (omega arith)) (λ lt. absurd (omega arith)) (λ lt. absurd (omega arith))

  pub at-shape : ((parts : LineParts) → HasParts word rest parts → ⊥)
      → FirstPlain (state_at Terms instance) line Shape
  at-shape none = record {
    holds = λ word' rest' parts shaped.
        none parts (shaped-here word (tokens_of line) rest word' rest' parts is.tokens_are shaped);
    first = none-shape;
  }

  module _ (parts : LineParts) (shape : HasParts word rest parts) where
    -- the line has these parts
    pub none-number : (reason : Reason) → reason_order reason < 4
        → HasPlainly (state_at Terms instance) line reason → ⊥
    none-number = none-below (state_at Terms instance) line 4 (λ lt h. is.good_bytes h) (λ lt h. h)
        (λ lt h. h word rest parts (is.tokens_are, shape)) (λ lt. absurd (omega arith))
        (λ lt. absurd (omega arith)) (λ lt. absurd (omega arith)) (λ lt. absurd (omega arith))
        (λ lt. absurd (omega arith))

    pub at-number : Any (λ text. (value : ℤ) → IsNumberFor instance.version word text value → ⊥)
        parts.numbers → FirstPlain (state_at Terms instance) line Number
    at-number any = record {
      holds = (word, rest, parts, (is.tokens_are, shape), any);
      first = none-number;
    }

    module _ (values : List ℤ) (numbers : AllZip (IsNumberFor instance.version word) parts.numbers
        values) where
      no-number : HasPlainly (state_at Terms instance) line Number → ⊥
      no-number h =
          let (k, text, lt, e, wrong) = of-term-line word (tokens_of line) rest parts
          (λ word' rest' parts'. Any
          (λ text. (value : ℤ) → IsNumberFor instance.version word' text value → ⊥)
          parts'.numbers) is.tokens_are shape h in
          let (value, n) = AllZip-at (IsNumberFor instance.version word) parts.numbers values k text
          numbers lt in
          wrong value (rw e at n)

      -- the numbers are good
      pub none-name : (reason : Reason) → reason_order reason < 5
          → HasPlainly (state_at Terms instance) line reason → ⊥
      none-name = none-below (state_at Terms instance) line 5 (λ lt h. is.good_bytes h) (λ lt h. h)
          (λ lt h. h word rest parts (is.tokens_are, shape)) (λ lt h. no-number h)
          (λ lt. absurd (omega arith)) (λ lt. absurd (omega arith)) (λ lt. absurd (omega arith))
          (λ lt. absurd (omega arith))

      pub at-name : Any (IsNewName instance.names) parts.elements
          → FirstPlain (state_at Terms instance) line Name
      at-name (k, text, lt, e, new) = record {
        holds = (
          word,
          rest,
          parts,
          (is.tokens_are, shape),
          inl (k, text, lt, e, λ form (j, within, same). new j text within same),
        );
        first = none-name;
      }

      pub at-stranger : HasStranger parts → FirstPlain (state_at Terms instance) line Name
      at-stranger stranger = record {
        holds = (word, rest, parts, (is.tokens_are, shape), inr (inl stranger));
        first = none-name;
      }

      pub at-label : HasWrongLabel parts → FirstPlain (state_at Terms instance) line Name
      at-label wrong = record {
        holds = (word, rest, parts, (is.tokens_are, shape), inr (inr wrong));
        first = none-name;
      }

      module _ (places : List ℕ) (named : AreElementNames instance.names)
          (elements : AllZip (IsElement instance.names) parts.elements places)
          (members : All (λ names. All (Contains parts.elements) names) parts.groups)
          (labels : All (λ texts. All IsName texts) parts.labels) where
        no-stranger : HasStranger parts → ⊥
        no-stranger (k, names, lt, e, (j, text, within, f, out)) =
            let all : All (Contains parts.elements) names = rw e at (members k names lt) in
            out (rw f at (all j text within))

        no-label : HasWrongLabel parts → ⊥
        no-label (k, texts, lt, e, (j, text, within, f, out)) =
            let all : All IsName texts = rw e at (labels k texts lt) in
            out (rw f at (all j text within))

        no-name : HasPlainly (state_at Terms instance) line Name → ⊥
        no-name h = at (of-term-line word (tokens_of line) rest parts
            (λ word' rest' parts'. Any (λ text. IsName text → Contains instance.names text → ⊥)
            parts'.elements ⊎ HasStranger parts' ⊎ HasWrongLabel parts') is.tokens_are shape h)
          where
            at : Any (λ text. IsName text → Contains instance.names text → ⊥) parts.elements
                ⊎ HasStranger parts ⊎ HasWrongLabel parts → ⊥
            at (inr (inl stranger)) = no-stranger stranger
            at (inr (inr wrong)) = no-label wrong
            at (inl (k, text, lt, e, wrong)) =
                let (place, found) = AllZip-at (IsElement instance.names) parts.elements places k
                text elements lt in
                let here : IsElement instance.names text place = rw e at found in
                let within = slice_get_within instance.names place text here in
                let there : get_or instance.names place text ≡ text = same_Some
                (get_or instance.names place text) text
                (sym (slice_get-get_or instance.names place text within) ∙ here) in
                let form : IsName (get_or instance.names place text) = All-get_or IsName
                instance.names place text within named.forms in
                wrong (rw there at form) (place, within, there)

        -- the elements are names of the ground, the members are elements, and the labels have the
        -- form of names
        pub none-twice : (reason : Reason) → reason_order reason < 6
            → HasPlainly (state_at Terms instance) line reason → ⊥
        none-twice = none-below (state_at Terms instance) line 6 (λ lt h. is.good_bytes h)
            (λ lt h. h) (λ lt h. h word rest parts (is.tokens_are, shape)) (λ lt h. no-number h)
            (λ lt h. no-name h) (λ lt. absurd (omega arith)) (λ lt. absurd (omega arith))
            (λ lt. absurd (omega arith))

        pub at-twice : StandsTwice places → FirstPlain (state_at Terms instance) line Twice
        at-twice t = record {
          holds = (
            word,
            rest,
            parts,
            (is.tokens_are, shape),
            inl (twice-places instance.names parts.elements places elements t),
          );
          first = none-twice;
        }

        pub at-member-twice : Any (λ names. StandsTwice names) parts.groups
            → FirstPlain (state_at Terms instance) line Twice
        at-member-twice any = record {
          holds = (word, rest, parts, (is.tokens_are, shape), inr (inl any));
          first = none-twice;
        }

        pub at-slot-twice : HasSlotTwice parts.rank parts.labels
            → FirstPlain (state_at Terms instance) line Twice
        at-slot-twice twice = record {
          holds = (word, rest, parts, (is.tokens_are, shape), inr (inr twice));
          first = none-twice;
        }

        module _ (once : StandsTwice places → ⊥)
            (members_once : All (λ names. StandsTwice names → ⊥) parts.groups)
            (slots_once : HasSlotTwice parts.rank parts.labels → ⊥) where
          no-twice : HasPlainly (state_at Terms instance) line Twice → ⊥
          no-twice h = at (of-term-line word (tokens_of line) rest parts
              (λ word' rest' parts'. StandsTwice parts'.elements
              ⊎ Any (λ names. StandsTwice names) parts'.groups
              ⊎ HasSlotTwice parts'.rank parts'.labels) is.tokens_are shape h)
            where
              at : StandsTwice parts.elements ⊎ Any (λ names. StandsTwice names) parts.groups
                  ⊎ HasSlotTwice parts.rank parts.labels → ⊥
              at (inl twice) = once (twice-texts instance.names parts.elements places named.distinct
                  elements twice)
              at (inr (inl any)) = none-any (λ names. StandsTwice names) parts.groups members_once
                  any
              at (inr (inr twice)) = slots_once twice

          -- no element stands twice
          pub none-law : (reason : Reason) → reason_order reason < 7
              → HasPlainly (state_at Terms instance) line reason → ⊥
          none-law = none-below (state_at Terms instance) line 7 (λ lt h. is.good_bytes h)
              (λ lt h. h) (λ lt h. h word rest parts (is.tokens_are, shape)) (λ lt h. no-number h)
              (λ lt h. no-name h) (λ lt h. no-twice h) (λ lt. absurd (omega arith))
              (λ lt. absurd (omega arith))

          pub at-law : BreaksLaw word parts values → FirstPlain (state_at Terms instance) line Law
          at-law breaks = record {
            holds = (word, rest, parts, (is.tokens_are, shape), (values, numbers, breaks));
            first = none-law;
          }

          module _ (lawful : BreaksLaw word parts values → ⊥) where
            no-law : HasPlainly (state_at Terms instance) line Law → ⊥
            no-law h =
                let (values', numbers', breaks) = of-term-line word (tokens_of line) rest parts
                (λ word' rest' parts'. (vs : List ℤ)
                × AllZip (IsNumberFor instance.version word') parts'.numbers vs
                × BreaksLaw word' parts' vs) is.tokens_are shape h in
                let same : values' ≡ values = AllZip-same (IsNumberFor instance.version word)
                (from-same instance.version word) parts.numbers values' values numbers'
                numbers in
                lawful (rw same at breaks)

            -- the law is kept
            pub none-total : (reason : Reason) → reason_order reason < 8
                → HasPlainly (state_at Terms instance) line reason → ⊥
            none-total = none-below (state_at Terms instance) line 8 (λ lt h. is.good_bytes h)
                (λ lt h. h) (λ lt h. h word rest parts (is.tokens_are, shape)) (λ lt h. no-number h)
                (λ lt h. no-name h) (λ lt h. no-twice h) (λ lt h. no-law h)
                (λ lt. absurd (omega arith))

      -- what is wrong with groups, labels and places
      pub at-parts : (places : List ℕ) → AreElementNames instance.names
          → AllZip (IsElement instance.names) parts.elements places → (reason : Reason)
          → IsPartsReason parts places reason → FirstPlain (state_at Terms instance) line reason
      at-parts places named elements Name (inl stranger) = at-stranger stranger
      at-parts places named elements Name (inr wrong) = at-label wrong
      at-parts places named elements Twice (forms, inl twice) =
          at-twice places named elements forms.members forms.labels twice
      at-parts places named elements Twice (forms, inr any) =
          at-member-twice places named elements forms.members forms.labels any
      at-parts places named elements Long h = absurd h
      at-parts places named elements Bytes h = absurd h
      at-parts places named elements Word h = absurd h
      at-parts places named elements Shape h = absurd h
      at-parts places named elements Number h = absurd h
      at-parts places named elements Law h = absurd h
      at-parts places named elements Total h = absurd h
      at-parts places named elements Short h = absurd h

-- ---- names

-- elements that are known are not new
pub known-old : (names texts : List (List ℕ)) → All (IsKnown names) texts
    → Any (IsNewName names) texts → ⊥
known-old names texts known (k, text, lt, e, new) =
    let (place, found) = known k text lt in
    let here : IsElement names text place = rw e at found in
    let within = slice_get_within names place text here in
    let there : get_or names place text ≡ text = same_Some (get_or names place text) text
    (sym (slice_get-get_or names place text within) ∙ here) in
    new place text within there

-- ---- lines of other ranks

abbrev has_entries : RankKind → Bool
has_entries TransversalRank = true
has_entries _ = false

rank-other : (parts : LineParts) (rank : RankKind) → parts.rank ≡ rank → has_entries rank ≡ false
    → parts.rank ≢ TransversalRank
rank-other parts rank is none same = true≢false (ap has_entries (sym same ∙ is) ∙ none)

-- the parts of another line are those of another rank
pub not-entries : (word : TermWord) (tokens : List (List ℕ)) (parts : LineParts)
    → HasParts word tokens parts → (IsEntryLine word tokens → ⊥) → parts.rank ≢ TransversalRank
not-entries WeightWord tokens parts h none =
    rank-other parts NoRank (ap (λ (p : LineParts). p.rank) h.parts_are) refl
not-entries CutWord tokens parts h none =
    rank-other parts NoRank (ap (λ (p : LineParts). p.rank) h.1.parts_are) refl
not-entries NeedWord tokens parts h none =
    rank-other parts NoRank (ap (λ (p : LineParts). p.rank) h.1.parts_are) refl
not-entries CoverWord tokens parts h none =
    rank-other parts NoRank (ap (λ (p : LineParts). p.rank) h.1.parts_are) refl
not-entries TableWord tokens parts h none =
    rank-other parts NoRank (ap (λ (p : LineParts). p.rank) h.4) refl
not-entries ConcaveWord tokens parts h none =
    rank-other parts NoRank (ap (λ (p : LineParts). p.rank) h.4) refl
not-entries RankWord tokens parts (inl h) none =
    rank-other parts UniformRank (ap (λ (p : LineParts). p.rank) h.parts_are) refl
not-entries RankWord tokens parts (inr (inl h)) none =
    rank-other parts LaminarRank (ap (λ (p : LineParts). p.rank) h.parts_are) refl
not-entries RankWord tokens parts (inr (inr (inl h))) none =
    rank-other parts GraphicRank (ap (λ (p : LineParts). p.rank) h.parts_are) refl
not-entries RankWord tokens parts (inr (inr (inr h))) none = λ same. none (parts, h)

-- and no slot stands twice in it
pub slots-other : (rank : RankKind) (labels : List (List (List ℕ))) → rank ≢ TransversalRank
    → HasSlotTwice rank labels → ⊥
slots-other TransversalRank labels other h = other refl
slots-other _ labels other h = h
