use Rattle.std.proofs.Common.{◌*ℤ◌, FitsSigned}
use Rattle.std.proofs.lemmas.Int.{to_z-of_z}
use mir.Syntax.{w128}
use Rattle.sfm_matroid.proofs.AnyRank.{can_move, exchanged_base, exchanged_places}
use Rattle.sfm_graphic.proofs.GraphicBases.{capped_base, edges_sized}
use Rattle.sfm_graphic.specs.Numbered.{numbered, vertex_count}
use Rattle.sfm_graphic.proofs.Noted.{over_any}
use Rattle.sfm_matroid.proofs.Beside.{not_near}
use Rattle.sfm_matroid.proofs.Passed.{factor_fits}
use Rattle.sfm_graphic.proofs.graphic.GraphicTerm.moved.Goals as goal

pub moved-requires : goal.moved-requires
moved-requires c = let b = c.requires.based in can_move _ _ _
    (capped_base c.args.self.now c.args.at.now.q b.factor) c.args.at.now.x.now b.entries b.base _ _
    _ c.requires.can

-- the split that is kept is over the ends, whatever was brought to the exchange
pub take_spare-requires-clause-over : goal.take_spare-requires-clause-over
take_spare-requires-clause-over c =
    let r = c.requires in
    let s = c.args.self.now in
    let told = c.in_ok-exchange.ensures in
    let same = rw c.if-branch.false at told.kept in
    let over = over_any (numbered s.ends) (vertex_count s.ends) (c.args.at.now.q *ℤ s.w)
    c.args.at.now.x.now c.args.note.now (edges_sized s c.args.at.now.x.now r.based.entries)
    r.noted in
    record { kept = rw same over.kept; spare = told.spare }

pub exchange-requires-clause-can : goal.exchange-requires-clause-can
exchange-requires-clause-can c =
    let b = c.requires.based in
    rw c.requires.noted.split (can_move _ _ _ (capped_base c.args.self.now c.args.at.now.q b.factor)
    c.args.at.now.x.now b.entries b.base _ _ _ c.requires.can)

pub exchange-requires-clause-near : goal.exchange-requires-clause-near
exchange-requires-clause-near c = (_, c.requires.noted.near)

pub returns-then-branch : goal.returns-then-branch
returns-then-branch c =
    let n = c.requires.noted in
    let told = c.in_ok-exchange.ensures in
    record {
      split = rw c.swap.ensures.x_after
          (rw n.split at ((rw c.if-branch.true at told.kept) _ n.near));
      spare = told.spare;
      near = not_near c.exchange.new.self _ told.near;
    }

pub bring-requires-clause-base : goal.bring-requires-clause-base
bring-requires-clause-base c =
    let b = c.requires.based in
    let at = c.args.at.now in
    let fq : FitsSigned w128 at.q = factor_fits at.q b.factor in
    let capped = capped_base c.args.self.now at.q b.factor in
    rw (c.deref.ensures.value, c.in_ok-after.ensures) (simp to_z-of_z (record {
      factor = b.factor;
      sized = exchanged_places _ _ _ capped at.x.now b.entries b.base _ _ _ c.requires.can;
      base = exchanged_base _ _ _ capped at.x.now b.entries b.base _ _ _ c.requires.can;
    }))
