use Rattle.std.proofs.Common.{FitsSigned}
use Rattle.std.proofs.lemmas.Int.{to_z-of_z}
use mir.Syntax.{w128}
use Rattle.sfm_matroid.proofs.Multiples.{slots_multiply, slots_multiplied}
use Rattle.sfm_matroid.proofs.transversal.TransversalTerm.note_times.Goals as goal

pub times-requires : goal.times-requires
times-requires c =
    let fm : FitsSigned w128 c.args.m = c.ranges.m in
    let r = c.requires in
    let next = r.multiple in
    simp to_z-of_z (slots_multiply c.args.self.now c.args.m _ c.args._at.now.x.now c.args.note.now
    r.noted r.times next.factor next.entries next.base)

pub returns : goal.returns
returns c =
    let fm : FitsSigned w128 c.args.m = c.ranges.m in
    let made = c.in_ok-times.ensures in
    slots_multiplied c.args.self.now c.args.m _ c.args._at.now.x.now c.args.note.now _
    c.requires.noted (simp to_z-of_z at made.kept) made.holds made.spare made.near
