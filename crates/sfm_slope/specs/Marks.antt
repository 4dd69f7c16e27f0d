-- Breakpoints as the program keeps them.
use Rattle.std.specs.Prelude.{ℕ, List, ℤ, pos, ◌≤ℤ◌}
use Rattle.std.specs.List.{All}
use Rattle.sfm_spec.specs.Bounds.{IsEntry, total_of}
use Rattle.sfm_spec.specs.Families.{Meaning, AreBases, Prove, even_shift, sized_shift}
use Rattle.sfm_spec.specs.Laws.{Mark}
use Rattle.sfm_spec.specs.Walks.{IsFewWalks}
use Rattle.sfm_law.specs.declared.breaks.Break.{Break}

-- the slope and the set of a breakpoint
abbrev pub mark_of : Break → Mark
mark_of b = record { num = b.slope.num; den = b.slope.den; members = b.set }

-- the bases of a breakpoint are bases with small entries, and prove at the shift of its numerator;
-- few walks there lead to them from the first bases, which are told for each denominator; the
-- denominator is at most `most`
pub record HasBasesAt (terms : List Meaning) (firsts : ℤ → List (List ℤ)) (n : ℕ)
    (shift : ℤ → List ℤ) (most : ℤ) (b : Break) : Type 0 where
  pub bases : AreBases b.slope.den terms b.bases
  pub small : All (λ x. All IsEntry x) b.bases
  pub proves : Prove terms n b.slope.den (shift b.slope.num) b.bases
  pub reached : IsFewWalks terms n b.slope.den (shift b.slope.num) (firsts b.slope.den) b.bases
  pub few : b.slope.den ≤ℤ most

-- the bases prove by these sizes, and the denominator is at most all sizes together
abbrev pub HasBasesBy : List Meaning → (ℤ → List (List ℤ)) → ℕ → List ℤ → Break → Type 0
HasBasesBy terms firsts n sizes = HasBasesAt terms firsts n (sized_shift sizes) (total_of sizes)

-- the bases prove where each element counts one, and the denominator is at most n
abbrev pub HasBases : List Meaning → (ℤ → List (List ℤ)) → ℕ → Break → Type 0
HasBases terms firsts n = HasBasesAt terms firsts n (even_shift n) (pos n)
