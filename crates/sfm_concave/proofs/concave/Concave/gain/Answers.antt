use Rattle.std.proofs.Common.{◌≡◌, ◌-ℤ◌, sym, FitsSigned}
use Rattle.std.proofs.lemmas.Int.{to_z-of_z}
use mir.Syntax.{w128}
use Rattle.sfm_spec.proofs.Scaled.{times-sub}
use Rattle.sfm_concave.specs.ConcaveLaws.{gain_of}
use Rattle.sfm_law.proofs.Fits.{at_most_more, difference_fits, share_fits}
use Rattle.sfm_concave.proofs.concave.Concave.gain.Goals as goal

pub overflow_sub-result : goal.overflow_sub-result
overflow_sub-result c =
    let after = c.scaled.ensures.small in
    let before = at_most_more _ c.scaled-2.ensures.small in
    let fa : FitsSigned w128 c.scaled.result = share_fits _ (at_most_more _ after) in
    let fb : FitsSigned w128 c.scaled-2.result = share_fits _ before in
    simp to_z-of_z (difference_fits _ _ after before)

pub returns : goal.returns
returns c =
    let q = c.args.q in
    let after = c.scaled.ensures.small in
    let before = at_most_more _ c.scaled-2.ensures.small in
    let fq : FitsSigned w128 q = c.ranges.q in
    let fa : FitsSigned w128 c.scaled.result = share_fits _ (at_most_more _ after) in
    let fb : FitsSigned w128 c.scaled-2.result = share_fits _ before in
    let fd : FitsSigned w128 (c.scaled.result -ℤ c.scaled-2.result) = difference_fits _ _ after
    before in
    let va = simp to_z-of_z at c.scaled.ensures.value in
    let vb = simp to_z-of_z at c.scaled-2.ensures.value in
    let all : (c.scaled.result -ℤ c.scaled-2.result) ≡ gain_of q c.args.self.now.values
    c.args.j = rw (va, vb) (sym (times-sub q _ _)) in
    simp to_z-of_z all
