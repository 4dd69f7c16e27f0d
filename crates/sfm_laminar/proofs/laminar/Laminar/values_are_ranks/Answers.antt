use Rattle.std.proofs.Common.{length}
use Rattle.sfm_laminar.specs.LaminarLaws.{laminar-function}
use Rattle.sfm_laminar.proofs.laminar.Laminar.values_are_ranks.Goals as goal

pub returns : goal.returns
returns c = let s = c.args.self.now in laminar-function (length s.places) s.w s.groups s.grouped
