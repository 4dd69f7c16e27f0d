use Rattle.std.proofs.Common.{ap, ◌∙◌}
use Rattle.sfm_demo.specs.Draws.{next, top}
use Rattle.sfm_demo.proofs.Pieces.{next-wrapping, top-lem}
use Rattle.sfm_demo.proofs.draws.Draws.draw.Goals as goal

pub returns-clause-value : goal.returns-clause-value
returns-clause-value c =
    top-lem c.args.k _ ∙ ap (top c.args.k)
    (next-wrapping c.self.inside.state ∙ ap next c.self.view_is)

pub returns-clause-after : goal.returns-clause-after
returns-clause-after c = next-wrapping c.self.inside.state ∙ ap next c.self.view_is
