-- The room of (u, c.self.view_is) is that of (v, u) at the negated base.
use Rattle.std.proofs.Common.{◌∙◌}
use Rattle.std.proofs.lemmas.Result.{IfOk-weaker}
use Rattle.sfm_kind.proofs.Passed.{factor_kept}
use Rattle.sfm_flip.proofs.Bases.{based_from, pair_from, room_to}
use Rattle.sfm_flip.proofs.flip.FlipTerm.room.Goals as goal

pub room-requires : goal.room-requires
room-requires c =
    let s = c.args.self.now in
    let at = c.args.at.now in
    let r = c.requires in
    rw (factor_kept _ r.based.factor, c.as_slice-x.ensures ∙ c.in_ok-base.ensures, c.self.view_is)
    (record {
      based = based_from s at.q at.x.now r.based;
      pair = pair_from s at.q at.x.now r.based c.args.u c.args.v r.pair;
    })

pub returns-clause-room : goal.returns-clause-room
returns-clause-room c =
    let s = c.args.self.now in
    let at = c.args.at.now in
    let r = c.requires in
    let is = rw (
      factor_kept _ r.based.factor,
      c.as_slice-x.ensures ∙ c.in_ok-base.ensures,
      c.self.view_is,
    ) at c.room.ensures.room in
    IfOk-weaker c.room.result _ _ (room_to s at.q at.x.now r.based c.args.u c.args.v r.pair) is
