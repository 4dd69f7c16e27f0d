use Rattle.std.proofs.Common.{◌-ℤ◌, get_or, pos, rules, FitsSigned}
use Rattle.std.proofs.lemmas.Int.{to_z-of_z}
use Rattle.std.proofs.lemmas.List.Elements.{All-get_or}
use mir.Syntax.{w128}
use Rattle.sfm_spec.specs.Bounds.{IsEntry}
use Rattle.sfm_law.proofs.Fits.{at_most_more, less_fits}
use Rattle.sfm_law.proofs.Writes.{entry_fits}
use Rattle.sfm_law.proofs.numbers.least_left.Goals as goal

pub overflow_sub-left : goal.overflow_sub-left
overflow_sub-left c =
    let r = c.requires in
    let a : IsEntry (get_or c.args.x.now c.args.u (pos 0)) = All-get_or IsEntry c.args.x.now
    c.args.u (pos 0) r.from r.small in
    let fm : FitsSigned w128 c.args.most = c.ranges.most in
    let fa : FitsSigned w128 (get_or c.args.x.now c.args.u (pos 0)) = entry_fits _ a in
    simp to_z-of_z (less_fits _ _ (at_most_more _ r.most) a)

pub returns : goal.returns
returns c =
    let r = c.requires in
    let x = c.args.x.now in
    let a : IsEntry (get_or x c.args.u (pos 0)) = All-get_or IsEntry x c.args.u (pos 0) r.from
    r.small in
    let fm : FitsSigned w128 c.args.most = c.ranges.most in
    let fa : FitsSigned w128 (get_or x c.args.u (pos 0)) = entry_fits _ a in
    let fv : FitsSigned w128 (get_or x c.args.v (pos 0)) = entry_fits _
    (All-get_or IsEntry x c.args.v (pos 0) r.onto r.small) in
    let fd : FitsSigned w128 (c.args.most -ℤ get_or x c.args.u (pos 0)) = less_fits _ _
    (at_most_more _ r.most) a in
    let fr : FitsSigned w128 c.min.result = search rules in
    simp to_z-of_z (simp to_z-of_z at c.min.ensures.value)
