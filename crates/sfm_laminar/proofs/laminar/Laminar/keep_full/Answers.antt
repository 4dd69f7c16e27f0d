use Rattle.std.proofs.Common.{◌≡◌, length, arith}
use Rattle.sfm_laminar.proofs.Leasts.{kept_begin, kept_next, kept_all}
use Rattle.sfm_laminar.proofs.laminar.Laminar.keep_full.Goals as goal

pub loop-i-init : goal.loop-i-init
loop-i-init c =
    let s = c.args.self.now in
    kept_begin c.args.at.now.q s.w s.groups c.args.at.now.x.now c.holders-holders.result.now
    c.args.to.now

pub loop-i-preserved : goal.loop-i-preserved
loop-i-preserved c =
    let s = c.args.self.now in
    kept_next c.args.at.now.q s.w s.groups c.args.at.now.x.now c.holders-holders.result.now
    c.loop-i.i-index _ _ _ c.loop-i.invariant c.keep_full_group.ensures

pub returns : goal.returns
returns c =
    let s = c.args.self.now in
    let es = c.holders-holders.result.now in
    let end : c.loop-i.i-index ≡ length
    es = omega (arith, c.loop-i-test.false, c.loop-i.auto.i-index-end) in
    kept_all c.args.at.now.q s.w s.groups c.args.at.now.x.now es c.args.u c.loop-i.i-index _ _ end
    c.holders-holders.ensures c.loop-i.invariant
