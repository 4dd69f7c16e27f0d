-- The layer of a level: the step down to the next, the kept places, and the number.
use Rattle.std.proofs.Common.{◌≡◌, ◌∙◌, get_or, pos, ◌-ℤ◌, FitsSigned, arith}
use Rattle.std.proofs.lemmas.Int.{ints, to_z-of_z}
use mir.Syntax.{w128}
use Rattle.sfm_kind.specs.Restricted.{level_behind}
use Rattle.sfm_layers.specs.Weights.{at_least}
use Rattle.sfm_kind.proofs.Stepped.{step-is, level-kept}
use Rattle.std.proofs.Common.{IfOk, rules}
use Rattle.std.proofs.lemmas.Result.{IfOk-weaker}
use Rattle.sfm_kind.specs.Layers.{IsLayer}
use Rattle.sfm_kind.specs.Restricted.{IsRankOver, IsKeptPart}
use Rattle.sfm_kind.proofs.Layered.{length-at_least, layer-is}
use Rattle.sfm_kind.proofs.Parted.{IsNumber, layer-number, part-restricted}
use Rattle.sfm_kind.proofs.kind.Kind.layer_at.Goals as goal
use Rattle.sfm_kind.proofs.kind.Kind.layer_at.Goals.{After-layer_factor}

-- what each element of the layer counts
numbered : (c : After-layer_factor)
    → IsNumber c.args.self.now (at_least (get_or c.args.levels.now c.args.j (pos 0))
    c.args.weights.now) (get_or c.args.levels.now c.args.j (pos 0) -ℤ level_behind c.args.levels.now
    c.args.j) c.layer_factor.result
numbered c =
    let levels = c.args.levels.now in
    let v = get_or levels c.args.j (pos 0) in
    let is = step-is c.args.weights.now levels c.args.j c.requires.weights c.requires.levels
    c.requires.within in
    let (fv, fn, fs) = is.fits in
    let fr : FitsSigned w128 c.in_ok-rank.rank = search rules in
    let keep : c.in_ok-keep.keep ≡ at_least v c.args.weights.now = simp to_z-of_z at
    c.in_ok-keep.ensures in
    let over : IsRankOver c.args.self.now (at_least v c.args.weights.now)
    c.in_ok-rank.rank = rw keep at c.in_ok-rank.ensures in
    let choice = simp to_z-of_z at (rw c.next_level.ensures at c.layer_factor.ensures) in
    layer-number c.args.self.now c.args.weights.now levels c.args.j c.in_ok-rank.rank
    c.layer_factor.result c.requires.rank c.requires.each c.requires.weights c.requires.levels
    c.requires.within c.requires.small over choice

pub overflow_sub-step : goal.overflow_sub-step
overflow_sub-step c =
    let is = step-is c.args.weights.now c.args.levels.now c.args.j c.requires.weights
    c.requires.levels c.requires.within in
    let (fv, fn, fs) = is.fits in
    rw c.next_level.ensures (simp to_z-of_z
    (omega (arith, ints, is.low, is.high, is.next_low, is.step_low)))

pub layer_factor-requires-clause-low : goal.layer_factor-requires-clause-low
layer_factor-requires-clause-low c =
    let is = step-is c.args.weights.now c.args.levels.now c.args.j c.requires.weights
    c.requires.levels c.requires.within in
    let (fv, fn, fs) = is.fits in
    rw c.next_level.ensures (simp to_z-of_z (omega (arith, ints, is.step_low)))

pub layer_factor-requires-clause-high : goal.layer_factor-requires-clause-high
layer_factor-requires-clause-high c =
    let is = step-is c.args.weights.now c.args.levels.now c.args.j c.requires.weights
    c.requires.levels c.requires.within in
    let (fv, fn, fs) = is.fits in
    rw c.next_level.ensures (simp to_z-of_z (omega (arith, ints, is.high, is.next_low)))

pub restricted-requires-clause-some : goal.restricted-requires-clause-some
restricted-requires-clause-some c =
    let levels = c.args.levels.now in
    let v = get_or levels c.args.j (pos 0) in
    let is = step-is c.args.weights.now levels c.args.j c.requires.weights c.requires.levels
    c.requires.within in
    let (fv, fn, fs) = is.fits in
    let keep : c.in_ok-keep.keep ≡ at_least v c.args.weights.now = simp to_z-of_z at
    c.in_ok-keep.ensures in
    rw keep (level-kept c.args.weights.now v is.level)

pub restricted-requires-clause-low : goal.restricted-requires-clause-low
restricted-requires-clause-low c =
    let number = numbered (goal.at.restricted-requires-clause-low c).After-layer_factor in
    let fw : FitsSigned w128 c.layer_factor.result = record { sfits = c.layer_factor.type_inv } in
    simp to_z-of_z number.low

pub restricted-requires-clause-given : goal.restricted-requires-clause-given
restricted-requires-clause-given c =
    let number = numbered (goal.at.restricted-requires-clause-given c).After-layer_factor in
    let fw : FitsSigned w128 c.layer_factor.result = record { sfits = c.layer_factor.type_inv } in
    simp to_z-of_z number.given

pub returns : goal.returns
returns c =
    let number = numbered (goal.at.returns c).After-layer_factor in
    let levels = c.args.levels.now in
    let v = get_or levels c.args.j (pos 0) in
    let is = step-is c.args.weights.now levels c.args.j c.requires.weights c.requires.levels
    c.requires.within in
    let (fv, fn, fs) = is.fits in
    let fw : FitsSigned w128 c.layer_factor.result = record { sfits = c.layer_factor.type_inv } in
    let keep : c.in_ok-keep.keep ≡ at_least v c.args.weights.now = simp to_z-of_z at
    c.in_ok-keep.ensures in
    let part : IfOk c.restricted.result
    (λ r. IsKeptPart c.args.self.now (at_least v c.args.weights.now) c.layer_factor.result r) =
    simp to_z-of_z at (rw keep at c.restricted.ensures) in
    IfOk-weaker c.restricted.result
    (λ r. IsKeptPart c.args.self.now (at_least v c.args.weights.now) c.layer_factor.result r)
    (λ r. IsLayer c.args.self.now c.args.weights.now v (level_behind levels c.args.j) r)
    (λ r h. layer-is c.args.self.now c.args.weights.now v (level_behind levels c.args.j)
    c.layer_factor.result r c.requires.each number.factor
    (part-restricted c.args.self.now (at_least v c.args.weights.now) c.layer_factor.result r
    (length-at_least v c.args.weights.now ∙ c.requires.each) h)) part
