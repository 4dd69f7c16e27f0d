use Rattle.std.proofs.Common.{arith}
use Rattle.sfm_passes.proofs.long_rank.long_uniform_reason.Goals as goal

pub uniform_reason-requires-clause-long : goal.uniform_reason-requires-clause-long
uniform_reason-requires-clause-long c = omega (arith, c.if-not-has_token.ensures)
