-- The size is not negative, and at most half of what there is room for.
use Rattle.std.proofs.Common.{arith, pos, ◌*ℤ◌, length, FitsSigned, ap, ◌∙◌}
use Rattle.std.proofs.lemmas.Int.{ints, to_z-of_z}
use Rattle.std.proofs.lemmas.List.{length-replicate}
use mir.Syntax.{w128}
use Rattle.sfm_spec.specs.Sets.{empty_set}
use Rattle.sfm_kind.specs.Meanings.{kind_places}
use Rattle.sfm_kind.specs.Kinds.{kind_size, kind-submodular, kind-bounded}
use Rattle.sfm_flip.proofs.flip.FlipTerm.size.Goals as goal
use Rattle.sfm_flip.proofs.flip.FlipTerm.size.Goals.{After-size}

fits : (c : After-size) → FitsSigned w128 (pos 2 *ℤ c.size.result)
fits c =
    let s = c.self.inside.term in
    let k = length (kind_places s) in
    let b = kind-bounded s (empty_set k) (pos 0) (length-replicate k _)
    (kind-submodular s).at_empty in
    let i = c.self.invariant in
    let e = c.size.ensures in
    omega (arith, ints, b, i, e)

pub overflow_mul-result : goal.overflow_mul-result
overflow_mul-result c =
    let fm : FitsSigned w128 c.size.result = record { sfits = c.size.type_inv } in
    simp to_z-of_z (fits c)

pub returns : goal.returns
returns c =
    let fm : FitsSigned w128 c.size.result = record { sfits = c.size.type_inv } in
    let f = fits c in
    simp to_z-of_z (ap (λ z. pos 2 *ℤ z) (c.size.ensures ∙ ap kind_size c.self.view_is))
