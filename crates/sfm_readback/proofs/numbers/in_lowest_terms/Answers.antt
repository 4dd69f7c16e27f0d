-- a slope in lowest terms is the only one of its value
use Rattle.std.proofs.Common.{of_z, FitsSigned, sym, ap}
use Rattle.std.proofs.lemmas.Int.{to_z-of_z}
use mir.Syntax.{w128}
use Rattle.sfm_spec.specs.Slopes.{IsSameSlope}
use Rattle.sfm_spec.proofs.Lowest.{lowest_unique}
use Rattle.sfm_readback.proofs.numbers.in_lowest_terms.Goals as goal
use Rattle.sfm_readback.proofs.numbers.in_lowest_terms.Goals.{else-slope-p-via-then-slope-p+else-slope-q, else-slope-p-via-else-slope-p}

pub returns-else-slope-p : goal.returns-else-slope-p
returns-else-slope-p c = λ low factor.
    let fp : FitsSigned w128 c.args.p = c.ranges.p in
    let fq : FitsSigned w128 c.args.q = c.ranges.q in
    let s : IsSameSlope c.args.p c.args.q c.new-slope.result.num
    c.new-slope.result.den = simp to_z-of_z at c.new-slope.ensures.same in
    let same = lowest_unique c.args.p c.args.q c.new-slope.result.num c.new-slope.result.den low
    c.new-slope.ensures.lowest s in
    elim c.else-slope-p.branch [
      | else-slope-p-via-then-slope-p+else-slope-q w ↦ w.if-slope-q.false
          (ap (of_z w128) (sym same.1))
      | else-slope-p-via-else-slope-p w ↦ w.if-slope-p.false (ap (of_z w128) (sym same.0))
    ]
