-- the rows of the places asked for, in the second loop the first u among them; the note fits
use Rattle.std.proofs.Common.{◌≡◌, ℕ, ◌<◌, length}
use Rattle.sfm_spec.specs.Terms.{times}
use Rattle.sfm_reach.specs.Bits.{bit_in}
use Rattle.sfm_reach.specs.Reach.{AreRowsOf}
use Rattle.sfm_reach.proofs.reach.ask.Given as goal

abbrev pub invariant-loop-first : goal.invariant-loop-first
invariant-loop-first g l = let t = g.T.Term in (length l.rows ≡ length l.initial.rows)
    × AreRowsOf (t.places l.at.term.now) (times l.at.base.q (t.value_of l.at.term.now))
    l.at.base.x.now l.asked l.rows
    × t.fits l.at.term.now l.note l.at.base.q l.at.base.x.now

abbrev pub invariant-loop-u : goal.invariant-loop-u
invariant-loop-u g l = let t = g.T.Term in (length l.rows ≡ length l.initial.rows)
    × AreRowsOf (t.places l.at.term.now) (times l.at.base.q (t.value_of l.at.term.now))
    l.at.base.x.now l.asked l.rows
    × ((v : ℕ) → v < l.u → bit_in l.asked v ≡ 1)
    × t.fits l.at.term.now l.note l.at.base.q l.at.base.x.now
