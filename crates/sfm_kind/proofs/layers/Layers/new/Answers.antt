-- The layers of all levels.
use Rattle.std.proofs.Common.{◌≡◌, length, arith, ◌∙◌}
use Rattle.sfm_kind.proofs.Bounds.{kind-elements}
use Rattle.sfm_kind.proofs.Stepped.{layers-at, levels-some}
use Rattle.sfm_kind.proofs.layers.Layers.new.Goals as goal

pub invariant_of-result : goal.invariant_of-result
invariant_of-result c =
    let places = (kind-elements c.args.rank).some in
    let some = levels-some c.args.weights.now c.in_ok-levels.levels.items c.in_ok-levels.ensures
    (omega (arith, places, c.requires.each)) in
    omega (arith, some, c.loop-j.invariant.count_is, c.loop-j-test.false, c.in_ok-levels.levels.ok)

pub returns : goal.returns
returns c =
    let levels = c.in_ok-levels.levels.items in
    let inv = c.loop-j.invariant in
    let all : c.loop-j.j ≡ length
    levels = omega (arith, c.loop-j-test.false, c.loop-j.auto, c.in_ok-levels.levels.ok) in (
      levels,
      c.in_ok-levels.ensures,
      layers-at c.args.rank c.args.weights.now levels c.loop-j.parts.items (inv.count_is ∙ all)
          (λ j layer lt is. inv.each j layer (omega (arith, lt, all)) is),
    )
