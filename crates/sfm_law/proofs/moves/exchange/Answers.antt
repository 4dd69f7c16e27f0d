use Rattle.std.proofs.Common.{◌≢◌, sym, FitsSigned, get_or-set_other}
use Rattle.std.proofs.lemmas.Int.{to_z-of_z}
use mir.Syntax.{w128}
use Rattle.sfm_law.proofs.Rooms.{base_within_room}
use Rattle.sfm_law.proofs.Writes.{exchange_fits}
use Rattle.sfm_law.proofs.moves.exchange.Goals as goal

pub overflow_sub-x : goal.overflow_sub-x
overflow_sub-x g c =
    let r = c.requires in
    let (fu, fv, fs, fd) = exchange_fits c.args.x.now c.args.u c.args.v c.args.a r.small r.from
    r.onto r.low r.high in
    let fa : FitsSigned w128 c.args.a = c.ranges.a in
    let ne : c.args.v ≢ c.args.u = λ e. r.apart (sym e) in
    rw get_or-set_other (simp to_z-of_z fd)

pub returns-clause-moved : goal.returns-clause-moved
returns-clause-moved g c =
    let r = c.requires in
    let (fu, fv, fs, fd) = exchange_fits c.args.x.now c.args.u c.args.v c.args.a r.small r.from
    r.onto r.low r.high in
    let fa : FitsSigned w128 c.args.a = c.ranges.a in
    let ne : c.args.v ≢ c.args.u = λ e. r.apart (sym e) in
    rw get_or-set_other (simp to_z-of_z)

pub returns-clause-base : goal.returns-clause-base
returns-clause-base g c =
    let r = c.requires in
    rw (returns-clause-moved g c)
    (base_within_room c.args.a r.base r.from r.onto r.apart r.low r.room)
