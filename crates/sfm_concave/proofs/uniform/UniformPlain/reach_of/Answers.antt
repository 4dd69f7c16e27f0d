use Rattle.std.proofs.Common.{◌∙◌, ◌*ℤ◌, ◌≤ℤ◌, ◌<ℤ◌, get_or, pos, arith, FitsSigned}
use Rattle.std.proofs.lemmas.Int.{ints, to_z-of_z}
use mir.Syntax.{w128}
use Rattle.sfm_law.proofs.Entries.{fits_at}
use Rattle.sfm_law.proofs.Fits.{factor_fits}
use Rattle.sfm_concave.proofs.UniformRooms.{uniform-reach_none, uniform-reach_over}
use Rattle.sfm_concave.proofs.uniform.UniformPlain.reach_of.Goals as goal
use Rattle.sfm_concave.proofs.uniform.UniformPlain.reach_of.Goals.{After-most}

-- the entry of u is a number of 128 bits
entry : (c : After-most) → FitsSigned w128 (get_or c.args.at.now.x.now c.args.u (pos 0))
entry c = fits_at c.args.at.now.x.now c.args.u c.requires.from c.requires.small

pub returns-then-at-u-clause-reached : goal.returns-then-at-u-clause-reached
returns-then-at-u-clause-reached c =
    let r = c.requires in
    let s = c.args.self.now in
    let fq : FitsSigned w128 c.args.at.now.q = factor_fits _ c.requires.factor in
    let fa = entry (goal.at.returns-then-at-u-clause-reached c).After-most in
    let fm : FitsSigned w128 c.most.result = record { sfits = c.most.type_inv } in
    let most = simp to_z-of_z at c.most.ensures.value in
    let h = simp to_z-of_z at c.if-at-u.true in
    let full : c.most.result ≤ℤ get_or c.args.at.now.x.now c.args.u
    (pos 0) = omega (arith, ints, h) in
    rw (c.clear.ensures, r.room_for_answer)
    (uniform-reach_none c.args.at.now.q s.w s.cap r.factor.low s.low c.args.at.now.x.now r.base
    c.args.u r.from (λ less. omega (arith, ints, full, most, less)))

pub returns-clause-reached : goal.returns-clause-reached
returns-clause-reached c =
    let r = c.requires in
    let s = c.args.self.now in
    let fq : FitsSigned w128 c.args.at.now.q = factor_fits _ c.requires.factor in
    let fa = entry (goal.at.returns-clause-reached c).After-most in
    let fm : FitsSigned w128 c.most.result = record { sfits = c.most.type_inv } in
    let most = simp to_z-of_z at c.most.ensures.value in
    let h = simp to_z-of_z at c.if-at-u.false in
    let lacks : get_or c.args.at.now.x.now c.args.u
    (pos 0) <ℤ (c.args.at.now.q *ℤ s.w) = omega (arith, ints, h, most) in
    uniform-reach_over c.args.at.now.q s.w s.cap r.factor.low s.low c.args.at.now.x.now r.base
    c.args.u r.from lacks c.put_others_over.new.to
    (c.put_others_over.ensures.places ∙ r.room_for_answer) c.put_others_over.ensures.over

pub returns-clause-places : goal.returns-clause-places
returns-clause-places c = c.put_others_over.ensures.places

pub put_others_over-requires-clause-small : goal.put_others_over-requires-clause-small
put_others_over-requires-clause-small c = c.requires.small

pub put_others_over-requires-clause-room_for_answer
    : goal.put_others_over-requires-clause-room_for_answer
put_others_over-requires-clause-room_for_answer c = c.requires.room_for_answer
