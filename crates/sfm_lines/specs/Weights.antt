-- The weights of elements in a rank line of the second version: without them it is a line of the first, and is judged as one.
use Rattle.std.specs.Prelude.{◌≡◌, ◌≢◌, ◌⊎◌, ℕ, ◌^◌, List, [], ◌∷◌, ◌++◌, length, map, codes, nat_eq, if◌then◌else◌, Option, Some, None, IsSome, Any, ℤ, pos, ◌≤ℤ◌}
use Rattle.std.specs.List.{All, AllZip}
use Rattle.sfm_base.specs.NumberText.{IsNumber}
use Rattle.sfm_kind.specs.declared.version.Version.{Version}
use Rattle.sfm_kind.specs.declared.version.Version.TheVariants.{Second}
use Rattle.sfm_lines.specs.declared.word.TermWord.TheVariants.{RankWord}
use Rattle.sfm_lines.specs.Parts.{IsSeparator, IsCutAt}
use Rattle.sfm_lines.specs.Words.{word_text}

-- the token is an element alone, or what stands for one, its one star and the text of its weight: where nothing is before the star, the
-- star stands for the element, which is no name
abbrev pub IsWeighed : List ℕ → List ℕ × Option (List ℕ) → Type 0
IsWeighed token (element, None) = (token ≡ element) × All (λ c. c ≢ 42) token
IsWeighed token (element, Some weight) = (front : List ℕ) × IsCutAt 42 token front weight × (element ≡ (if nat_eq (length front) 0 then codes "*" else front))

-- the tokens behind the word of a rank line, and the same without the weights of the elements, which stand behind its first colon and
-- before the first semicolon behind that
pub record IsUnweighed (tokens plain : List (List ℕ)) (entries : List (List ℕ × Option (List ℕ))) : Type 0 where
  pub head : List (List ℕ)
  pub marked : List (List ℕ)
  pub behind : List (List ℕ)
  pub cut : tokens ≡ head ++ codes ":" ∷ (marked ++ behind)
  pub no_colon : All (λ token. token ≢ codes ":") head
  pub each : AllZip (λ token entry. IsWeighed token entry × (IsSeparator entry.0 → ⊥)) marked entries
  pub ends : (behind ≡ []) ⊎ ((rest : List (List ℕ)) × (behind ≡ codes ";" ∷ rest))
  pub plain_are : plain ≡ head ++ codes ":" ∷ (map (λ entry. entry.0) entries ++ behind)

-- the tokens of a term line without the weights of its elements, and these elements with the texts of their weights; in no line but the
-- rank lines of the second version may elements have weights
abbrev pub IsPlainLine : Version → List (List ℕ) → List (List ℕ) → List (List ℕ × Option (List ℕ)) → Type 0
IsPlainLine version tokens plain entries = ((rest : List (List ℕ)) × (bare : List (List ℕ)) × (version ≡ Second) × (tokens ≡ word_text RankWord ∷ rest) × IsUnweighed rest bare entries × (plain ≡ word_text RankWord ∷ bare))
    ⊎ (((rest : List (List ℕ)) → version ≡ Second → tokens ≢ word_text RankWord ∷ rest) × (plain ≡ tokens) × (entries ≡ []))

-- the text of a weight, from 1 to 10^15; an element without one weighs 1
abbrev pub IsWeightText : Option (List ℕ) → ℤ → Type 0
IsWeightText None value = value ≡ pos 1
IsWeightText (Some text) value = IsNumber text value × (pos 1 ≤ℤ value) × (value ≤ℤ pos (10 ^ 15))

-- the weights of a line of which some element has one, and none of any other line
abbrev pub AreWeights : List (List ℕ × Option (List ℕ)) → Option (List ℤ) → Type 0
AreWeights entries None = All (λ entry. entry.1 ≡ None) entries
AreWeights entries (Some weights) = Any (λ entry. IsSome entry.1) entries × AllZip (λ entry. IsWeightText entry.1) entries weights
