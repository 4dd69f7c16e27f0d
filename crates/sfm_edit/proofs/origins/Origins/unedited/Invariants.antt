use Rattle.std.proofs.Common.{◌≡◌}
use Rattle.sfm_edit.specs.Origins.{all_kept}
use Rattle.sfm_edit.proofs.origins.Origins.unedited.Given as goal

abbrev pub invariant-loop-i : goal.invariant-loop-i
invariant-loop-i l = l.places.items ≡ all_kept l.i
