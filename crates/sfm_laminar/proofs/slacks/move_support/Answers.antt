use Rattle.std.proofs.Common.{arith, FitsSigned}
use Rattle.std.proofs.lemmas.Int.{ints, to_z-of_z}
use mir.Syntax.{w128}
use Rattle.sfm_law.proofs.Writes.{exchange_fits}
use Rattle.sfm_laminar.proofs.Slacking.{support_moved}
use Rattle.sfm_laminar.proofs.slacks.move_support.Goals as goal

pub returns : goal.returns
returns c =
    let r = c.requires in
    let x = c.args.x.now in
    let u = c.args.swap.now.u in
    let v = c.args.swap.now.v in
    let fa : FitsSigned w128 c.args.swap.now.a = omega (arith, ints, r.low, r.high) in
    let (fu, fv, fs, fd) = exchange_fits x u v c.args.swap.now.a r.small r.from r.onto r.low
    r.high in
    let tu = simp to_z-of_z at c.is_some.ensures in
    let tv = simp to_z-of_z at c.is_some-2.ensures in
    rw (c.put-2.ensures, c.put.ensures)
    (support_moved x c.args.support.now u v c.args.swap.now.a c.is_some.result
    c.is_some-2.result r.from r.onto r.apart r.before tu tv)

pub overflow_add-x : goal.overflow_add-x
overflow_add-x c =
    let r = c.requires in
    let fa : FitsSigned w128 c.args.swap.now.a = omega (arith, ints, r.low, r.high) in
    let (fu, fv, fs, fd) = exchange_fits c.args.x.now c.args.swap.now.u c.args.swap.now.v
    c.args.swap.now.a r.small r.from r.onto r.low r.high in
    simp to_z-of_z fs

pub overflow_sub-x : goal.overflow_sub-x
overflow_sub-x c =
    let r = c.requires in
    let fa : FitsSigned w128 c.args.swap.now.a = omega (arith, ints, r.low, r.high) in
    let (fu, fv, fs, fd) = exchange_fits c.args.x.now c.args.swap.now.u c.args.swap.now.v
    c.args.swap.now.a r.small r.from r.onto r.low r.high in
    simp to_z-of_z fd
