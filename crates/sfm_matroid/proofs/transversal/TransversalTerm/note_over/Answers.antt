use Rattle.std.proofs.Common.{FitsSigned}
use Rattle.std.proofs.lemmas.Int.{to_z-of_z}
use mir.Syntax.{w128}
use Rattle.sfm_matroid.proofs.Multiples.{slots_multiply, slots_multiplied}
use Rattle.sfm_matroid.proofs.transversal.TransversalTerm.note_over.Goals as goal

pub copy_times-requires-clause-multiple : goal.copy_times-requires-clause-multiple
copy_times-requires-clause-multiple c =
    let fm : FitsSigned w128 c.args.m = c.ranges.m in
    let r = c.requires in
    let next = r.multiple in
    simp to_z-of_z (slots_multiply c.args.self.now c.args.m _ c.args._at.now.x.now c.args.note.now
    r.noted r.times next.factor next.entries next.base)

pub returns : goal.returns
returns c = λ done.
    let fm : FitsSigned w128 c.args.m = c.ranges.m in
    let made = c.copy_times.ensures in
    slots_multiplied c.args.self.now c.args.m _ c.args._at.now.x.now c.args.note.now _
    c.requires.noted (simp to_z-of_z at made.kept) made.holds made.spare made.near
