-- Breakpoints that were found, once they have bases.
use Rattle.std.specs.Prelude.{◌≡◌, ◌++◌, List, length, map, ℤ}
use Rattle.std.specs.List.{All}
use Rattle.sfm_law.specs.declared.term.Term.{Ghosts}
use Rattle.sfm_law.specs.declared.breaks.Break.{Break}
use Rattle.sfm_spec.specs.Families.{meanings}
use Rattle.sfm_slope.specs.declared.turn.Breakpoint.{Breakpoint}
use Rattle.sfm_slope.specs.Marks.{HasBasesBy, mark_of}
use Rattle.sfm_slope.specs.Points.{found_mark}

-- the bases are such of the terms, reached from their first bases
abbrev pub HasSection : {X N : Type 0} → Ghosts X N → List X → List ℤ → Break → Type 0
HasSection T terms sizes = HasBasesBy (meanings T.places T.value_of terms)
    (λ q. map (λ term. T.start_of term q) terms) (length sizes) sizes

-- a breakpoint with such bases
pub record IsSectionOf {X N : Type 0} (T : Ghosts X N) (terms : List X) (sizes : List ℤ)
    (point : Breakpoint) (b : Break) : Type 0 where
  pub mark : mark_of b ≡ found_mark point
  pub bases : HasSection T terms sizes b

-- some breakpoints stand with such bases behind those that were there
pub record AreBehind {X N : Type 0} (T : Ghosts X N) (terms : List X) (sizes : List ℤ)
    (found : List Breakpoint) (before after : List Break) : Type 0 where
  pub marks : map mark_of after ≡ map mark_of before ++ map found_mark found
  pub bases : All (HasSection T terms sizes) after
