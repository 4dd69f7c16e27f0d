use Rattle.std.proofs.Common.{length, ◌<◌, FitsSigned}
use Rattle.std.proofs.lemmas.Int.{to_z-of_z}
use mir.Syntax.{w128}
use Rattle.sfm_laminar.proofs.Exchanges.{laminar-capacity}
use Rattle.sfm_laminar.proofs.laminar.LaminarPlain.room_of.Goals as goal

pub returns : goal.returns
returns c =
    let r = c.requires in
    let s = c.args.self.now in
    let fl : FitsSigned w128 c.least_left.result = record { sfits = c.least_left.type_inv } in
    let ku : c.args.u < length s.places = rw (← r.entries) r.from in
    let kv : c.args.v < length s.places = rw (← r.entries) r.onto in
    simp to_z-of_z (laminar-capacity (length s.places) c.args.at.now.q s.w s.groups r.factor.low
    s.low s.grouped c.args.at.now.x.now r.entries r.base c.args.u c.args.v ku kv r.apart
    c.least_left.result c.least_left.ensures)
