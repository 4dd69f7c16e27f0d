-- the rows so far; the note fits
use Rattle.sfm_spec.specs.Terms.{times}
use Rattle.sfm_reach.specs.Image.{IsImage}
use Rattle.sfm_exchange.specs.Renewed.{AreAsked}
use Rattle.sfm_exchange.proofs.renewing.ask_rows.Given as goal

abbrev pub invariant-loop-u : goal.invariant-loop-u
invariant-loop-u g l = let t = g.T.Term in AreAsked (t.places l.at.term.now)
    (times l.at.base.q (t.value_of l.at.term.now)) l.at.base.x.now l.changed l.anew l.u
    l.initial.rows l.rows
    × t.fits l.at.term.now l.note l.at.base.q l.at.base.x.now
    × IsImage (t.places l.at.term.now) l.image.part l.image.bits l.image.in_order
