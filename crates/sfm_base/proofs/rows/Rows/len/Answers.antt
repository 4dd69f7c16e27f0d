use Rattle.std.proofs.Common.{length, ap, arith}
use Rattle.sfm_base.proofs.Rowing.{length-rows}
use Rattle.sfm_base.proofs.rows.Rows.len.Goals as goal

pub returns : goal.returns
returns c = omega (
  arith,
  c.len.ensures,
  c.self.inside.ends.ok.0,
  length-rows 0 c.self.inside.ends.items c.self.inside.numbers.items,
  ap length c.self.view_is,
)
