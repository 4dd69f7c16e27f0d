use Rattle.std.proofs.Common.{map, FitsSigned}
use Rattle.std.proofs.lemmas.Int.{to_z-of_z}
use Rattle.std.proofs.lemmas.Result.{IfOk-weaker}
use mir.Syntax.{w128}
use Rattle.sfm_spec.specs.Families.{meanings, even_shift}
use Rattle.sfm_spec.specs.Walks.{IsFewWalks}
use Rattle.sfm_walk.specs.Counted.{IsCounted}
use Rattle.sfm_walk.proofs.optimum.minimise.Goals as goal

pub returns-clause-optimum : goal.returns-clause-optimum
returns-clause-optimum g c =
    let fq : FitsSigned w128 c.args.q = c.ranges.q in
    let fp : FitsSigned w128 c.args.p = c.ranges.p in
    simp to_z-of_z at c.minimise_counted.ensures.optimum

pub returns-clause-few : goal.returns-clause-few
returns-clause-few g c =
    let fq : FitsSigned w128 c.args.q = c.ranges.q in
    let fp : FitsSigned w128 c.args.p = c.ranges.p in
    let t = g.T.Term in
    let ts = meanings t.places t.value_of c.args.terms.now in
    let n = c.args.n in
    let q = c.args.q in
    let shift = even_shift n c.args.p in
    let starts = map (λ x. t.start_of x q) c.args.terms.now in
    let h = simp to_z-of_z at c.minimise_counted.ensures.counted in
    IfOk-weaker c.minimise_counted.result
    (λ r. IsCounted ts n q shift starts r.bases c.new-steps.result c.minimise_counted.new.steps)
    (λ r. IsFewWalks ts n q shift starts r.bases) (λ r k. (k.0, k.1, k.2)) h

pub returns-clause-plain : goal.returns-clause-plain
returns-clause-plain g c =
    let fq : FitsSigned w128 c.args.q = c.ranges.q in
    let fp : FitsSigned w128 c.args.p = c.ranges.p in
    simp to_z-of_z at c.minimise_counted.ensures.plain
