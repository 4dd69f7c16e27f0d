use Rattle.sfm_cert.specs.Solved.{form_of}
use Rattle.sfm_cert.specs.Spots.{StandsAt}
use Rattle.sfm_readback.proofs.Parts.{RowsSoFar}
use Rattle.sfm_readback.proofs.read.read_rows.Given as goal

abbrev pub invariant-loop-term : goal.invariant-loop-term
invariant-loop-term l = RowsSoFar (form_of l.instance) l.text l.initial.cursor l.cursor l.term-index
    l.rows × StandsAt l.instance.lines l.term-index l.spot
