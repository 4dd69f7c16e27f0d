-- What one level more brings, and what all bring.
use Rattle.std.proofs.Common.{rules, ◌+◌, ◌<◌, length, get_or, pos, ◌+ℤ◌, FitsSigned, to_z, arith}
use Rattle.std.proofs.lemmas.Int.{ints, to_z-of_z}
use mir.Syntax.{w128}
use Rattle.sfm_kind.specs.Restricted.{IsLevelWeighed, level_behind}
use Rattle.sfm_kind.proofs.Weighing.{IsWeighedOn, weighed-next, weighed-all}
use Rattle.sfm_kind.proofs.kind.Kind.weigh.Goals as goal
use Rattle.sfm_kind.proofs.kind.Kind.weigh.Goals.{In_ok-level}

level-more : (c : In_ok-level)
    → IsWeighedOn c.args.self.now c.args.weights.now c.in_ok-levels.levels.items (c.loop-j.j + 1)
    (c.loop-j.places + c.in_ok-level.level.places)
    (to_z w128 c.loop-j.size-bits +ℤ c.in_ok-level.level.size)
level-more c =
    let levels = c.in_ok-levels.levels.items in
    let lt : c.loop-j.j < length levels = omega (
      arith,
      c.loop-j-test.true,
      c.loop-j.auto,
      c.in_ok-levels.levels.ok,
    ) in
    let level : IsLevelWeighed c.args.self.now c.args.weights.now (get_or levels c.loop-j.j (pos 0))
    (level_behind levels c.loop-j.j) c.in_ok-level.level.places c.in_ok-level.level.size =
    rw c.deref.ensures.value at c.in_ok-level.ensures in
    weighed-next c.args.self.now c.args.weights.now levels c.requires.rank c.requires.each
    c.requires.weights c.in_ok-levels.ensures c.loop-j.j c.loop-j.places
    c.in_ok-level.level.places (to_z w128 c.loop-j.size-bits) c.in_ok-level.level.size lt
    c.loop-j.invariant level

pub overflow_add-places : goal.overflow_add-places
overflow_add-places c =
    let n = level-more (goal.at.overflow_add-places c).In_ok-level in
    omega (arith, n.few)

pub overflow_add-size : goal.overflow_add-size
overflow_add-size c =
    let n = level-more (goal.at.overflow_add-size c).In_ok-level in
    let fx : FitsSigned w128 c.in_ok-level.level.size = search rules in
    simp to_z-of_z (omega (arith, ints, n.low, n.high))

pub loop-j-preserved : goal.loop-j-preserved
loop-j-preserved c =
    let n = level-more (goal.at.loop-j-preserved c).In_ok-level in
    let fx : FitsSigned w128 c.in_ok-level.level.size = search rules in
    let fs : FitsSigned w128 (to_z w128 c.loop-j.size-bits +ℤ c.in_ok-level.level.size) =
    omega (arith, ints, n.low, n.high) in
    simp to_z-of_z n.next

pub returns : goal.returns
returns c =
    weighed-all c.args.self.now c.args.weights.now c.in_ok-levels.levels.items c.requires.rank
    c.requires.each c.requires.weights c.in_ok-levels.ensures c.loop-j.j c.loop-j.places
    (to_z w128 c.loop-j.size-bits)
    (omega (arith, c.loop-j-test.false, c.loop-j.auto, c.in_ok-levels.levels.ok)) c.loop-j.invariant
