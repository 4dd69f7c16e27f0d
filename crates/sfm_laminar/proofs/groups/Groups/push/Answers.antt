use Rattle.std.proofs.Common.{FitsSigned}
use Rattle.std.proofs.lemmas.Int.{to_z-of_z}
use Rattle.std.proofs.lemmas.List.Elements.{All-push}
use mir.Syntax.{w128}
use Rattle.sfm_laminar.specs.Groups.{IsGroup}
use Rattle.sfm_laminar.proofs.groups.Groups.push.Goals as goal

pub invariant_of-self-2 : goal.invariant_of-self-2
invariant_of-self-2 c =
    let f : FitsSigned w128 c.args.cap = c.ranges.cap in
    let n = simp to_z-of_z at c.new.ensures in
    rw (c.in_ok-push.ensures.items, n)
    (All-push IsGroup _ _ c.self.invariant
    (record {
      low = c.requires.low;
      given = c.requires.given;
      ascending = c.requires.ascending;
    }))
