-- Where a token ends, and what is cut off a line with its first token.
use Rattle.std.specs.Prelude.{◌≡◌, ◌⊎◌, ℕ, ◌==◌, ◌||◌, Bool, List, [], ◌∷◌, ◌++◌}
use Rattle.sfm_lines.specs.Lines.{tokens_of}

-- a space or a tab
abbrev pub is_blank : ℕ → Bool
is_blank c = (c == 32) || (c == 9)

-- the front of a line is cut into tokens by itself, whatever stands behind it
abbrev pub IsClosed : List ℕ → Type 0
IsClosed front = (rest : List ℕ) → tokens_of (front ++ rest) ≡ tokens_of front ++ tokens_of rest

-- a line is a front with one token, and what stands behind it
pub record IsFirstCut (line token behind : List ℕ) : Type 0 where
  pub front : List ℕ
  pub cut : line ≡ front ++ behind
  pub one : tokens_of front ≡ token ∷ []
  pub ends : (behind ≡ []) ⊎ IsClosed front
