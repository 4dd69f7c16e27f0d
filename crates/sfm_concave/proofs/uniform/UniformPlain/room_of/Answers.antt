use Rattle.std.proofs.Common.{FitsSigned}
use Rattle.std.proofs.lemmas.Int.{to_z-of_z}
use mir.Syntax.{w128}
use Rattle.sfm_law.proofs.Fits.{at_most_more, factor_fits, share_fits}
use Rattle.sfm_concave.proofs.UniformRooms.{uniform-capacity}
use Rattle.sfm_concave.proofs.uniform.UniformPlain.room_of.Goals as goal

pub returns : goal.returns
returns c =
    let r = c.requires in
    let s = c.args.self.now in
    let fq : FitsSigned w128 c.args.at.now.q = factor_fits _ c.requires.factor in
    let fm : FitsSigned w128 c.most.result = share_fits _ (at_most_more _ c.most.ensures.small) in
    let fl : FitsSigned w128 c.least_left.result = record { sfits = c.least_left.type_inv } in
    let most = simp to_z-of_z at c.most.ensures.value in
    let is = rw most at (simp to_z-of_z at c.least_left.ensures) in
    simp to_z-of_z (uniform-capacity c.args.at.now.q s.w s.cap r.factor.low s.low
    c.args.at.now.x.now r.base c.args.u c.args.v r.from r.onto r.apart c.least_left.result is)
