-- what the turns so far have left are bases with small entries
use Rattle.std.specs.List.{All}
use Rattle.sfm_spec.specs.Bounds.{IsEntry}
use Rattle.sfm_spec.specs.Families.{meanings, AreBases}
use Rattle.sfm_walk_tests.proofs.turns.are_taken.Given as goal

abbrev pub invariant-loop-turn : goal.invariant-loop-turn
invariant-loop-turn g l = let t = g.T.Term in record {
  bases : AreBases l.q (meanings t.places t.value_of l.terms) l.bases;
  small : All (λ x. All IsEntry x) l.bases;
}
