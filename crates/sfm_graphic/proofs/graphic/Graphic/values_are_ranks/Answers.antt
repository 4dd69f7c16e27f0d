use Rattle.std.proofs.Common.{length}
use Rattle.sfm_graphic.specs.GraphicLaws.{graphic-function}
use Rattle.sfm_graphic.proofs.graphic.Graphic.values_are_ranks.Goals as goal

pub returns : goal.returns
returns c = let s = c.args.self.now in graphic-function (length s.places) s.w s.ends s.same_count
