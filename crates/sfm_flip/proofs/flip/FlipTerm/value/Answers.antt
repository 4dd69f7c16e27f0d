-- The value of the rest less that of the whole, which fits.
use Rattle.std.proofs.Common.{arith, ◌≡◌, ◌*◌, ◌^◌, ◌≤ℤ◌, ◌-ℤ◌, pos, length, Some, ◌∙◌, sym, FitsSigned}
use Rattle.std.proofs.lemmas.Int.{ints, to_z-of_z}
use Rattle.std.proofs.lemmas.List.{length-replicate}
use mir.Syntax.{w128}
use Rattle.sfm_spec.specs.Sets.{complement, whole_set}
use Rattle.sfm_spec.proofs.Extremes.{length-complement}
use Rattle.sfm_kind.specs.Meanings.{kind_places}
use Rattle.sfm_kind.specs.Kinds.{kind_value, kind_size, kind-bounded}
use Rattle.sfm_flip.proofs.Turning.{flipped-some}
use Rattle.sfm_flip.proofs.flip.FlipTerm.value.Goals as goal
use Rattle.sfm_flip.proofs.flip.FlipTerm.value.Goals.{In-Some-2}

-- what the two values are, and that they and their difference fit
worths : (c : In-Some-2) → let t = c.args.self.now in let whole = c.in-Some.all in let rest =
    c.in-Some-2.value in
    (kind_value t (whole_set (length (kind_places t))) ≡ Some whole)
    × (kind_value t (complement c.args.s.now) ≡ Some rest)
    × FitsSigned w128 whole × FitsSigned w128 rest × FitsSigned w128 (rest -ℤ whole)
worths c =
    let t = c.args.self.now in
    let v : c.self.inside.term ≡ t = c.self.view_is in
    let one = rw (v, c.in_ok-whole.ensures, c.len.ensures, c.requires) at
    (sym c.in_ok-all.ensures.value ∙ c.in-Some.is) in
    let two = rw (v, c.in_ok-rest.ensures) at (sym c.in_ok-value.ensures.value ∙ c.in-Some-2.is) in
    let b1 = kind-bounded t (whole_set (length (kind_places t))) c.in-Some.all
    (length-replicate _ _) one in
    let b2 = kind-bounded t (complement c.args.s.now) c.in-Some-2.value
    (length-complement c.args.s.now ∙ c.requires) two in
    let i : kind_size t ≤ℤ pos (5 * 10 ^ 17) = rw v at c.self.invariant in (
      one,
      two,
      omega (arith, ints, b1, i),
      omega (arith, ints, b2, i),
      omega (arith, ints, b1, b2, i),
    )

pub overflow_sub-result : goal.overflow_sub-result
overflow_sub-result c =
    let (one, two, f1, f2, f3) = worths (goal.at.overflow_sub-result c).In-Some-2 in
    simp to_z-of_z f3

pub returns-in-Some-2-clause-value : goal.returns-in-Some-2-clause-value
returns-in-Some-2-clause-value c =
    let (one, two, f1, f2, f3) = worths (goal.at.returns-in-Some-2-clause-value c).In-Some-2 in
    simp to_z-of_z
    (sym (flipped-some _ (kind_value c.args.self.now) c.args.s.now c.in-Some-2.value
    c.in-Some.all two one))
