use Rattle.std.proofs.Common.{length, arith}
use Rattle.sfm_laminar.specs.Crossing.{no_group, group_at}
use Rattle.sfm_laminar.proofs.Listed.{few_members}
use Rattle.sfm_laminar.proofs.laminar.Laminar.group.Goals as goal

pub returns-clause-few : goal.returns-clause-few
returns-clause-few c =
    let s = c.args.self.now in
    let few = few_members (length s.places) (group_at s.groups c.args.i) c.group.ensures.sound
    (s.grouped.below c.args.i no_group c.requires) in
    rw c.group.ensures.group (omega (arith, few, s.few))
