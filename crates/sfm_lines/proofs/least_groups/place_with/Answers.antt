use Rattle.std.proofs.Common.{ap, ◌∙◌}
use Rattle.std.proofs.lemmas.Bool.{false≢true}
use Rattle.std.proofs.lemmas.Slice.Eq.{bytes_eq-Decides}
use Rattle.sfm_spec.specs.Kinds.{Group}
use Rattle.sfm_lines.proofs.LeastGroups.{apart-more, apart-all}
use Rattle.sfm_lines.proofs.least_groups.place_with.Goals as goal

pub loop-i-preserved : goal.loop-i-preserved
loop-i-preserved c = apart-more c.args.members.now c.args.groups.now c.loop-i.i
    c.index-groups-i.result c.loop-i-test.true c.loop-i.invariant
    (λ same. false≢true (c.if-eq.ensures
    ∙ (bytes_eq-Decides c.members.result.now c.args.members.now).1
    (c.members.ensures ∙ (ap (λ (g : Group). g.members) c.index-groups-i.is ∙ same))))

pub returns : goal.returns
returns c = apart-all c.args.members.now c.args.groups.now c.loop-i.i c.loop-i-test.false
    c.loop-i.invariant
