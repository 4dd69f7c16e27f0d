-- What the reading of a line comes to: the state that it leads to, or its first reason.
use Rattle.std.specs.Prelude.{◌≡◌, ℕ, ◌≤◌, Bool, true, false, List, ◌∷◌, length, codes, Result, MatchResult}
use Rattle.std.specs.List.{All}
use Rattle.sfm_spec.specs.Names.{IsName}
use Rattle.sfm_lines.specs.declared.line_fault.LineEnd.{LineEnd}
use Rattle.sfm_lines.specs.Lines.{tokens_of, are_skipped}
use Rattle.sfm_lines.specs.Parts.{HaveNoSeparator}
use Rattle.sfm_lines.specs.TermLines.{StandsTwice}
use Rattle.sfm_lines.specs.Reading.{State, Takes, IsLineRefusal}
use Rattle.sfm_lines.specs.ReadParts.{state_at, IsLineOf}
use Rattle.sfm_text.specs.declared.reading.Reading.{Reading}

abbrev pub state_of : Reading → State
state_of reading = state_at reading.stage reading.instance

-- a line with these tokens was taken in the state s and led to t, or is refused for its first
-- reason
abbrev pub IsOutcome : State → List (List ℕ) → Result (Unit {0}) LineEnd → State → Type 0
IsOutcome s tokens result t = (line : List ℕ) → IsLineOf line tokens
    → MatchResult result (λ _. Takes s line t) (IsLineRefusal s line)

-- the names of a ground line have no reason
pub record AreGroundNames (names : List (List ℕ)) : Type 0 where
  pub unmarked : HaveNoSeparator names
  pub forms : All IsName names
  pub distinct : StandsTwice names → ⊥
  pub few : length names ≤ 256

-- the first token is `end`
abbrev pub BeginsEnd : List (List ℕ) → Type 0
BeginsEnd tokens = (rest : List (List ℕ)) × (tokens ≡ codes "end" ∷ rest)

-- a line that counts is taken, and another changes nothing
abbrev pub Passes : Bool → State → List ℕ → State → Type 0
Passes true s line t = (are_skipped (tokens_of line) ≡ false) × Takes s line t
Passes false s line t = (are_skipped (tokens_of line) ≡ true) × (t ≡ s)

-- the line counts, and is refused
abbrev pub Fails : State → List ℕ → LineEnd → Type 0
Fails s line end = (are_skipped (tokens_of line) ≡ false) × IsLineRefusal s line end
