-- How the tokens of a rank line are cut as the weights of its elements are taken away.
use Rattle.std.specs.Prelude.{◌≡◌, ◌≢◌, ◌⊎◌, ℕ, ◌<◌, Bool, false, List, [], ◌∷◌, ◌++◌, length, codes, Option, Some, None}
use Rattle.std.specs.Borrow.{Bor}
use Rattle.std.specs.List.{All, AllZip}
use Rattle.sfm_lines.specs.Parts.{IsSeparator}
use Rattle.sfm_lines.specs.Tokens.{is_blank}
use Rattle.sfm_lines.specs.Weights.{IsWeighed}

-- at least one byte, and neither a space nor a tab
pub record IsToken (token : List ℕ) : Type 0 where
  pub some : 0 < length token
  pub clean : All (λ c. is_blank c ≡ false) token

-- tokens before and behind the first colon alone
pub record IsHeadCut (tokens head behind : List (List ℕ)) : Type 0 where
  pub cut : tokens ≡ head ++ codes ":" ∷ behind
  pub no_colon : All (λ token. token ≢ codes ":") head

-- the token is that of an element, which is no separator, with or without a weight
abbrev pub IsEntryOf : List ℕ → List ℕ × Option (List ℕ) → Type 0
IsEntryOf token entry = IsWeighed token entry × (IsSeparator entry.0 → ⊥)

-- the elements of the tokens before the first semicolon alone, and the tokens from it on
pub record AreEntriesOf (tokens : List (List ℕ)) (entries : List (List ℕ × Option (List ℕ)))
    (behind : List (List ℕ)) : Type 0 where
  pub marked : List (List ℕ)
  pub cut : tokens ≡ marked ++ behind
  pub each : AllZip IsEntryOf marked entries
  pub ends : (behind ≡ []) ⊎ ((rest : List (List ℕ)) × (behind ≡ codes ";" ∷ rest))

-- the text that something points to, if there is one
abbrev pub text_at : Option (Bor (List ℕ)) → Option (List ℕ)
text_at None = None
text_at (Some text) = Some text.now
