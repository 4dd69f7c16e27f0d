use Rattle.std.proofs.Common.{arith}
use Rattle.sfm_text.proofs.Placed.{content-placed, count-placed}
use Rattle.sfm_text.proofs.lines.Lines.new.Goals as goal

pub invariant_of-result-clause-whole : goal.invariant_of-result-clause-whole
invariant_of-result-clause-whole c = omega (arith, count-placed c.args.text.now)

pub returns-clause-content : goal.returns-clause-content
returns-clause-content c = content-placed c.args.text.now
