-- Which texts are of a form, by the lines of what they say, and the first line at which a text stops being the beginning of one.
use Rattle.std.specs.Prelude.{◌≡◌, ◌≢◌, ℕ, ◌+◌, List, [], ◌∷◌, ◌++◌, length}
use Rattle.std.specs.List.{All}
use Rattle.sfm_cert.specs.Answer.{text_of}

-- the longest answer text
abbrev pub answer_limit : ℕ
answer_limit = 268435456

-- the text is the lines of this, which has the form
pub record IsTextBy {A : Type 0} (Formed : A → Type 0) (lines_by : A → List (List ℕ)) (text : List ℕ) (a : A) : Type 0 where
  pub formed : Formed a
  pub written : text ≡ text_of (lines_by a)

-- the lines are the first ones of some text of good form
abbrev pub BeginsOne : {A : Type 0} → (A → Type 0) → (A → List (List ℕ)) → List (List ℕ) → Type 0
BeginsOne {A} formed lines_by lines = (a : A) × (rest : List (List ℕ)) × formed a × (lines_by a ≡ lines ++ rest)

-- a line holds no line feed
abbrev pub IsLine : List ℕ → Type 0
IsLine line = All (λ c. c ≢ 10) line

-- the lines before that number are the first ones of a text of good form. The text does not end with them as a whole one, and with the
-- next line, where there is one with a line feed behind it, they are no longer the first ones of such a text
pub record IsBadLineOf {A : Type 0} (formed : A → Type 0) (lines_by : A → List (List ℕ)) (text : List ℕ) (number : ℕ) : Type 0 where
  pub before : List (List ℕ)
  pub behind : List ℕ
  pub are_lines : All IsLine before
  pub cut : text ≡ text_of before ++ behind
  pub counted : number ≡ length before + 1
  pub good : BeginsOne formed lines_by before
  pub bad : (line rest : List ℕ) → IsLine line → behind ≡ line ++ (10 ∷ rest) → BeginsOne formed lines_by (before ++ line ∷ []) → ⊥
  pub unfinished : (a : A) → formed a → text ≡ text_of (lines_by a) → ⊥
