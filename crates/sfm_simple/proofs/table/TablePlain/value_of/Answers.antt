use Rattle.std.proofs.Common.{arith}
use Rattle.sfm_simple.proofs.Places.{binary_below}
use Rattle.sfm_simple.proofs.table.TablePlain.value_of.Goals as goal

pub listed-requires : goal.listed-requires
listed-requires c =
    let low = binary_below _ c.args.s.now c.requires in
    omega (arith, low, c.number_of.ensures, c.args.self.now.counted)
