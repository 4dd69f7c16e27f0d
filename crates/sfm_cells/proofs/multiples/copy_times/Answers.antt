use Rattle.std.proofs.Common.{FitsSigned}
use Rattle.std.proofs.lemmas.Int.{to_z-of_z}
use mir.Syntax.{w128}
use Rattle.sfm_cells.proofs.multiples.copy_times.Goals as goal

pub scale-requires : goal.scale-requires
scale-requires c =
    let fm : FitsSigned w128 c.args.m = c.ranges.m in
    rw c.copy_from_slice.ensures.after (simp to_z-of_z c.requires.amounts)
