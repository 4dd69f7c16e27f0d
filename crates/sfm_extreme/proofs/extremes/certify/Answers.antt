use Rattle.std.proofs.Common.{◌≡◌, replicate, rules, FitsSigned}
use Rattle.std.proofs.lemmas.Int.{to_z-of_z}
use Rattle.std.proofs.lemmas.List.{length-replicate}
use mir.Syntax.{w128}
use Rattle.sfm_extreme.proofs.Deficits.{even_small}
use Rattle.sfm_extreme.proofs.extremes.certify.Goals as goal

pub certify_at-requires-clause-each : goal.certify_at-requires-clause-each
certify_at-requires-clause-each g c =
    let same : c.deref.result.now ≡ replicate c.args.n c.args.p = search rules in
    rw same (length-replicate c.args.n c.args.p)

pub certify_at-requires-clause-shifts : goal.certify_at-requires-clause-shifts
certify_at-requires-clause-shifts g c =
    even_small c.deref.result.now c.args.n c.args.p c.requires.entry c.requires.bounded.few
    (search rules)

pub returns-clause-answer : goal.returns-clause-answer
returns-clause-answer g c =
    let fq : FitsSigned w128 c.args.q = c.ranges.q in
    let same : c.deref.result.now ≡ replicate c.args.n c.args.p = search rules in
    rw same at (simp to_z-of_z at c.certify_at.ensures.answer)

pub returns-clause-exact : goal.returns-clause-exact
returns-clause-exact g c =
    let fq : FitsSigned w128 c.args.q = c.ranges.q in
    let same : c.deref.result.now ≡ replicate c.args.n c.args.p = search rules in
    rw same at (simp to_z-of_z at c.certify_at.ensures.exact)
