use Rattle.std.proofs.Common.{length}
use Rattle.sfm_laminar.proofs.laminar.Laminar.holders.Goals as goal

pub returns : goal.returns
returns c = let s = c.args.self.now in c.of.ensures (length s.places) s.groups s.indexed
