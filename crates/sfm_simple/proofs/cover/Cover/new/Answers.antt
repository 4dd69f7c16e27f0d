use Rattle.sfm_base.proofs.Elements.{placed_few}
use Rattle.sfm_simple.proofs.cover.Cover.new.Goals as goal

pub invariant_of-result-clause-few : goal.invariant_of-result-clause-few
invariant_of-result-clause-few c =
    rw c.in_ok-places.ensures (placed_few 256 c.args.elements.now c.requires.elements.placed)
