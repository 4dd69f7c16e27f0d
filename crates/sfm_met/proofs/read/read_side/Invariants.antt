use Rattle.sfm_cert.specs.Solved.{form_of}
use Rattle.sfm_cert.specs.Spots.{StandsAt}
use Rattle.sfm_met.proofs.Reading.{RowsSoFar}
use Rattle.sfm_met.proofs.read.read_side.Given as goal

abbrev pub invariant-loop-term : goal.invariant-loop-term
invariant-loop-term l = RowsSoFar l.word (form_of l.instance) l.text l.initial.cursor l.cursor
    l.term-index l.rows × StandsAt l.instance.lines l.term-index l.spot
