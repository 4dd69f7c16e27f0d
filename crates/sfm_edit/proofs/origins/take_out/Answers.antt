-- One more is taken out at the same place.
use Rattle.std.proofs.Common.{arith, remove, ap, ◌∙◌}
use Rattle.sfm_kind.proofs.Removed.{cut_out-more}
use Rattle.sfm_edit.proofs.origins.take_out.Goals as goal

pub loop-taken-preserved : goal.loop-taken-preserved
loop-taken-preserved c =
    c.remove.ensures.items
    ∙ (ap (λ l. remove l c.args.first) c.loop-taken.invariant
    ∙ cut_out-more c.args.places.now.items c.args.first c.loop-taken._taken
    (omega (arith, c.requires, c.loop-taken-test.true)))
