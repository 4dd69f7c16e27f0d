use Rattle.std.proofs.Common.{◌∙◌}
use Rattle.sfm_spec.specs.Terms.{times}
use Rattle.sfm_spec.specs.Kinds.{cut_value}
use Rattle.sfm_simple.proofs.cut.CutPlain.reach_of.Goals as goal

pub returns-clause-reached : goal.returns-clause-reached
returns-clause-reached c =
    c.put_other.ensures.reached (times c.args.at.now.q (cut_value c.args.self.now.c))
    c.args.at.now.x.now (c.requires.entries ∙ c.args.self.now.two) c.room_of.ensures
