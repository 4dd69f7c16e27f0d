-- the vector is a base that the note fits, and keeps its length
use Rattle.std.proofs.Common.{◌≡◌, length}
use Rattle.sfm_law.specs.Based.{IsBased}
use Rattle.sfm_sides_tests.proofs.sides.tells_steps.Given as goal

abbrev pub invariant-loop-v : goal.invariant-loop-v
invariant-loop-v g l = record {
  count : length l.x.items ≡ length l.initial.x.items;
  based : IsBased g.T.Term.places g.T.Term.value_of g.T.Term.size_of l.term l.q l.x.items;
  noted : g.T.Term.fits l.term l.note l.q l.x.items;
}
