use Rattle.std.proofs.Common.{◌-ℤ◌, get_or, pos, rules, FitsSigned}
use Rattle.std.proofs.lemmas.Int.{to_z-of_z}
use Rattle.std.proofs.lemmas.List.Elements.{All-get_or}
use mir.Syntax.{w128}
use Rattle.sfm_assign.specs.Splits.{IsAmount}
use Rattle.sfm_matroid.proofs.Fits.{amount_fits, capped_amounts, left_fits, raise_upto}
use Rattle.sfm_matroid.proofs.room.pull_of.Goals as goal

pub returns-clause-limit : goal.returns-clause-limit
returns-clause-limit c =
    let r = c.requires in
    let x = c.args.x.now in
    let u = c.args.swap.now.u in
    let v = c.args.swap.now.v in
    let cap = c.args.cap in
    let amounts = capped_amounts cap x r.capped in
    let a : IsAmount (get_or x u (pos 0)) = All-get_or IsAmount x u (pos 0) r.pair.from amounts in
    let fc : FitsSigned w128 cap = c.ranges.cap in
    let fa : FitsSigned w128 (get_or x u (pos 0)) = amount_fits _ a in
    let fv : FitsSigned w128 (get_or x v (pos 0)) = amount_fits _
    (All-get_or IsAmount x v (pos 0) r.pair.onto amounts) in
    let fl : FitsSigned w128 (cap -ℤ get_or x u (pos 0)) = left_fits _ _ r.capped.low r.capped.high
    a in
    let ff : FitsSigned w128 c.min-limit.result = search rules in
    let fs : FitsSigned w128 c.args.swap.now.a = search rules in
    let fn : FitsSigned w128 c.min.result = search rules in
    let least = simp to_z-of_z at c.min.ensures.value in
    simp to_z-of_z (rw least at (simp to_z-of_z at c.min-limit.ensures.value))

pub returns-clause-raise : goal.returns-clause-raise
returns-clause-raise c = let r = c.requires in let p = r.pair in raise_upto c.args.cap c.args.x.now
    c.args.swap.now.u c.args.swap.now.v c.args.swap.now.a _ r.capped p.from p.onto p.apart r.wanted
    (returns-clause-limit c)
