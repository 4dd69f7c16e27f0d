-- What a piece of a line tells of a group, by its first token and those behind it.
use Rattle.std.proofs.Common.{◌≡◌, ℕ, ◌<◌, ◌≤◌, Bool, true, false, MatchBool, List, [], ◌∷◌, length, Contains, sym, ap, ◌∙◌, arith}
use Rattle.std.specs.List.{All, Any}
use Rattle.sfm_kind.specs.declared.version.Version.{Version}
use Rattle.sfm_lines.specs.declared.word.TermWord.TheVariants.{RankWord}
use Rattle.sfm_passes.specs.declared.group_test.GroupTest.TheVariants.{Cap}
use Rattle.sfm_lines.specs.Parts.{IsSeparator, HaveNoSeparator}
use Rattle.sfm_lines.specs.ReadParts.{IsNumberOf}
use Rattle.sfm_passes.specs.GroupPasses.{IsWhole, HasCap, GroupFails, OfGroup, HasMembers, LacksMember}
use Rattle.sfm_lines.proofs.Colons.{none-any}

-- what holds of a cap and names holds of the piece that they are
pub of-group : (P : List ℕ → List (List ℕ) → Type 0) (piece : List (List ℕ)) (cap : List ℕ)
    (names : List (List ℕ)) → piece ≡ cap ∷ names → P cap names → OfGroup P piece
of-group P piece cap names is p = λ other others e.
    let both : other ∷ others ≡ cap ∷ names = sym e ∙ is in
    let first : other ≡ cap = cc in
    let rest : others ≡ names = cc in
    rw (first, rest) p

pub of-none : (P : List ℕ → List (List ℕ) → Type 0) (piece : List (List ℕ)) → piece ≡ []
    → OfGroup P piece
of-none P piece none = λ cap names e. absurd (omega (arith, ap length (sym none ∙ e)))

-- ---- a cap and names

pub whole-none : (piece : List (List ℕ)) → piece ≡ [] → IsWhole piece → ⊥
whole-none piece none = λ (group, h). omega (arith, ap length (sym none ∙ h.cut))

pub whole-few : (piece : List (List ℕ)) (cap : List ℕ) (names : List (List ℕ)) → piece ≡ cap ∷ names
    → length names ≤ 0 → IsWhole piece → ⊥
whole-few piece cap names is few =
    λ (group, h). omega (arith, few, h.some, ap length (sym is ∙ h.cut))

pub whole-marked : (piece : List (List ℕ)) → Any IsSeparator piece → IsWhole piece → ⊥
whole-marked piece any = λ (group, h). none-any IsSeparator piece h.unmarked any

pub whole-made : (piece : List (List ℕ)) (cap : List ℕ) (names : List (List ℕ))
    → piece ≡ cap ∷ names → 0 < length names → HaveNoSeparator piece → IsWhole piece
whole-made piece cap names is some unmarked =
    ((cap, names), record { cut = is; some = omega (arith, some); unmarked = unmarked })

-- ---- a cap

pub cap-by : (version : Version) (piece : List (List ℕ)) (cap : List ℕ) (names : List (List ℕ))
    → piece ≡ cap ∷ names → (b : Bool)
    → MatchBool b (IsNumberOf version RankWord cap) (IsNumberOf version RankWord cap → ⊥)
    → MatchBool b (HasCap version piece) (GroupFails version Cap piece)
cap-by version piece cap names is true h = of-group (λ c n. IsNumberOf version RankWord c) piece cap
    names is h
cap-by version piece cap names is false h = (cap, names, is, h)

-- ---- members

pub members-by : (elements piece : List (List ℕ)) (cap : List ℕ) (names : List (List ℕ))
    → piece ≡ cap ∷ names → (b : Bool)
    → MatchBool b (All (Contains elements) names) (Any (λ name. Contains elements name → ⊥) names)
    → MatchBool b (HasMembers elements piece) (LacksMember elements piece)
members-by elements piece cap names is true h =
    of-group (λ c n. All (Contains elements) n) piece cap names is h
members-by elements piece cap names is false h = (cap, names, is, h)
