-- Texts beside an instance: a header, lines of one form, and the end. What the forms have in common.
use Rattle.std.specs.Prelude.{◌≡◌, ◌≢◌, ◌⊎◌, ℕ, List, [], ◌∷◌, Any, codes}
use Rattle.sfm_lines.specs.declared.reason.Reason.{Reason}
use Rattle.sfm_lines.specs.declared.reason.Reason.TheVariants.{Long, Bytes, Word, Shape, Short}
use Rattle.sfm_lines.specs.Lines.{tokens_of}
use Rattle.sfm_lines.specs.Reading.{IsBadByte}
use Rattle.sfm_text.specs.Language.{Language, IsFirstOf}

-- which line of such a text is due, with what the lines before it said
pub data SideState (D : Type 0) : Type 0 where
  header : SideState D
  lines : D → SideState D
  ended : D → SideState D

-- what such a text says: the word of its header, what is said before its first line, the reasons that the tokens of a
-- line have, and what they add
pub record SideForm (D : Type 0) : Type 1 where
  pub word : List ℕ
  pub nothing : D
  pub HasIn : D → List (List ℕ) → Reason → Type 0
  pub Says : D → List (List ℕ) → D → Type 0

-- the reasons of the tokens of a line. Word: the header has another first token; a later line begins with none of the
-- words; a line stands behind the end. Shape: the header has another rest, the end has one, or the tokens do not fit
-- the line
abbrev pub HasSideAt : {D : Type 0} → SideForm D → SideState D → List (List ℕ) → Reason → Type 0
HasSideAt form header tokens Word = (rest : List (List ℕ)) → tokens ≢ form.word ∷ rest
HasSideAt form header tokens Shape = tokens ≢ form.word ∷ codes "1" ∷ []
HasSideAt form (lines d) tokens Word =
    ((rest : List (List ℕ)) → tokens ≢ codes "end" ∷ rest) × form.HasIn d tokens Word
HasSideAt form (lines d) tokens Shape = (tokens ≢ codes "end" ∷ [])
    × (((rest : List (List ℕ)) × (tokens ≡ codes "end" ∷ rest)) ⊎ form.HasIn d tokens Shape)
HasSideAt form (lines d) tokens reason = form.HasIn d tokens reason
HasSideAt form (ended d) tokens Word = Unit {0}
HasSideAt form _ tokens reason = ⊥

-- the same of a line, with its bytes
abbrev pub HasSide : {D : Type 0} → SideForm D → SideState D → List ℕ → Reason → Type 0
HasSide form s line Long = ⊥
HasSide form s line Short = ⊥
HasSide form s line Bytes = Any IsBadByte line
HasSide form s line reason = HasSideAt form s (tokens_of line) reason

-- what a good line leads to
abbrev pub AddsSide : {D : Type 0} → SideForm D → SideState D → List ℕ → SideState D → Type 0
AddsSide form header line t = t ≡ lines form.nothing
AddsSide {D} form (lines d) line t = ((tokens_of line ≡ codes "end" ∷ []) × (t ≡ ended d))
    ⊎ ((said : D) × form.Says d (tokens_of line) said × (t ≡ lines said))
AddsSide form (ended d) line t = ⊥

-- the texts of a form, as a language
abbrev pub side_language : {D : Type 0} → SideForm D → Language (SideState D)
side_language {D} form = record {
  start = header;
  Takes = λ s line t. ((reason : Reason) → HasSide form s line reason → ⊥) × AddsSide form s line t;
  IsFirst = λ s line reason. IsFirstOf (HasSide form s line) reason;
  IsEnd = λ s. (d : D) × (s ≡ ended d);
}
