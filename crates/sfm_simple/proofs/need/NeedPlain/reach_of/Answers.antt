use Rattle.std.proofs.Common.{◌∙◌}
use Rattle.sfm_spec.specs.Terms.{times}
use Rattle.sfm_spec.specs.Kinds.{need_value}
use Rattle.sfm_simple.proofs.need.NeedPlain.reach_of.Goals as goal

pub returns-clause-reached : goal.returns-clause-reached
returns-clause-reached c =
    c.put_other.ensures.reached (times c.args.at.now.q need_value) c.args.at.now.x.now
    (c.requires.entries ∙ c.args.self.now.two) c.room_of.ensures
