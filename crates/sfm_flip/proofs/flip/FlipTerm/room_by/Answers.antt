-- The room of (u, c.self.view_is) is that of (v, u) at the negated base, by what the term keeps
-- beside that.
use Rattle.std.proofs.Common.{◌∙◌, rules, FitsSigned}
use Rattle.std.proofs.lemmas.Int.{to_z-of_z}
use Rattle.std.proofs.lemmas.Result.{IfOk-weaker}
use mir.Syntax.{w128}
use Rattle.sfm_kind.proofs.Passed.{factor_kept}
use Rattle.sfm_flip.proofs.Bases.{based_from, capacity_to, pair_from}
use Rattle.sfm_flip.proofs.flip.FlipTerm.room_by.Goals as goal

pub room_by-requires-clause-based : goal.room_by-requires-clause-based
room_by-requires-clause-based c =
    let at = c.args.at.now in
    let r = c.requires in
    rw (factor_kept _ r.based.factor, c.as_slice-x.ensures ∙ r.noted.0, c.self.view_is)
    (based_from c.args.self.now at.q at.x.now r.based)

pub room_by-requires-clause-pair : goal.room_by-requires-clause-pair
room_by-requires-clause-pair c =
    let at = c.args.at.now in
    let swap = c.args.swap.now in
    let r = c.requires in
    rw (c.as_slice-x.ensures ∙ r.noted.0)
    (pair_from c.args.self.now at.q at.x.now r.based swap.u swap.v r.pair)

pub returns-clause-room : goal.returns-clause-room
returns-clause-room c =
    let s = c.args.self.now in
    let at = c.args.at.now in
    let swap = c.args.swap.now in
    let r = c.requires in
    let fa : FitsSigned w128 swap.a = search rules in
    let is = rw (factor_kept _ r.based.factor, c.as_slice-x.ensures ∙ r.noted.0, c.self.view_is) at
    (simp to_z-of_z at c.room_by.ensures.room) in
    IfOk-weaker c.room_by.result _ _
    (capacity_to s at.q at.x.now r.based swap.u swap.v r.pair swap.a) is
