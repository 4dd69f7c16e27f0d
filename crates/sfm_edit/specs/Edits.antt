-- The text of edits of an instance: term lines are taken out by their numbers, and new ones added behind the others.
use Rattle.std.specs.Prelude.{◌≡◌, ◌≢◌, ◌⊎◌, ℕ, ◌+◌, ◌<◌, List, [], ◌∷◌, ◌++◌, length, map, suc, take, drop, replicate, ◌-◌, codes, Option, Some, None, pos}
use Rattle.std.specs.List.{remove, range_with_len}
use Rattle.sfm_base.specs.NumberText.{IsNumber}
use Rattle.sfm_kind.specs.Instance.{InstanceData, terms_in}
use Rattle.sfm_lines.specs.declared.reason.Reason.{Reason}
use Rattle.sfm_lines.specs.declared.reason.Reason.TheVariants.{Word, Shape, Number}
use Rattle.sfm_lines.specs.declared.stage.Stage.TheVariants.{Terms}
use Rattle.sfm_lines.specs.declared.word.TermWord.{TermWord}
use Rattle.sfm_lines.specs.Parts.{IsSeparator}
use Rattle.sfm_lines.specs.Words.{word_text}
use Rattle.sfm_lines.specs.Reading.{HasTermReason, AddsTerm}
use Rattle.sfm_lines.specs.ReadParts.{state_at}
use Rattle.sfm_side.specs.Side.{SideForm}

-- an instance under edits, and for each of its terms its place among the terms before the first edit, None where it was
-- added
pub record Editing : Type 0 where
  pub instance : InstanceData
  pub kept : List (Option ℕ)

-- what is left of a list with an item for each term when those of line i are taken out
abbrev pub without_terms : {X : Type 0} → List ℕ → ℕ → List X → List X
without_terms lines i items = take (terms_in (take i lines)) items ++ drop (terms_in (take (suc i) lines)) items

-- without term line i, counted from 0: its terms are gone, and those behind them close up
abbrev pub without_line : Editing → ℕ → Editing
without_line e i = record {
  instance = record e.instance { terms = without_terms e.instance.lines i e.instance.terms; lines = remove e.instance.lines i };
  kept = without_terms e.instance.lines i e.kept;
}

-- the tokens are `drop` and one more, which is no separator
abbrev pub IsDrop : List (List ℕ) → List ℕ → Type 0
IsDrop tokens text = (tokens ≡ codes "drop" ∷ text ∷ []) × (IsSeparator text → ⊥)

-- the text is the number of line i of so many, counted from 1
abbrev pub IsLineNumber : ℕ → List ℕ → ℕ → Type 0
IsLineNumber count text i = (i < count) × IsNumber text (pos (i + 1))

-- the tokens behind `add` have that reason as a term line behind those of the instance
abbrev pub HasAdded : InstanceData → List (List ℕ) → Reason → Type 0
HasAdded instance tokens reason = (rest : List (List ℕ)) × (tokens ≡ codes "add" ∷ rest)
    × HasTermReason (state_at Terms instance) rest reason

-- the reasons of a line. Word: neither `drop` nor `add` and the word of a term line. Shape and Number also: those of
-- `drop`, whose number is that of a term line in the list as it is. The others are those of the term line behind `add`
abbrev pub HasEdit : Editing → List (List ℕ) → Reason → Type 0
HasEdit e tokens Word = ((rest : List (List ℕ)) → tokens ≢ codes "drop" ∷ rest)
    × ((word : TermWord) (rest : List (List ℕ)) → tokens ≢ codes "add" ∷ word_text word ∷ rest)
HasEdit e tokens Shape = ((rest : List (List ℕ)) × (tokens ≡ codes "drop" ∷ rest)
    × ((text : List ℕ) → IsDrop tokens text → ⊥)) ⊎ HasAdded e.instance tokens Shape
HasEdit e tokens Number = ((text : List ℕ) × IsDrop tokens text
    × ((i : ℕ) → IsLineNumber (length e.instance.lines) text i → ⊥))
    ⊎ HasAdded e.instance tokens Number
HasEdit e tokens reason = HasAdded e.instance tokens reason

-- `drop N` takes term line N out, counted from 1 in the list as it is then
abbrev pub Drops : Editing → List (List ℕ) → Editing → Type 0
Drops e tokens f = (text : List ℕ) × (i : ℕ) × IsDrop tokens text
    × IsLineNumber (length e.instance.lines) text i × (f ≡ without_line e i)

-- `add` and a term line adds its terms behind the others
abbrev pub AddsLine : Editing → List (List ℕ) → Editing → Type 0
AddsLine e tokens f = (rest : List (List ℕ)) × (tokens ≡ codes "add" ∷ rest)
    × AddsTerm (state_at Terms e.instance) rest (state_at Terms f.instance)
    × (f.kept ≡ e.kept ++ replicate (length f.instance.terms - length e.instance.terms) None)

-- the texts of edits of an instance, all of whose terms are at their old places before the first edit
abbrev pub edits_form : InstanceData → SideForm Editing
edits_form instance = record {
  word = codes "edits";
  nothing = record { instance = instance; kept = map (λ i. Some i) (range_with_len 0 (length instance.terms)) };
  HasIn = HasEdit;
  Says = λ e tokens f. Drops e tokens f ⊎ AddsLine e tokens f;
}
