use Rattle.std.proofs.Common.{◌∙◌}
use Rattle.sfm_simple.proofs.Pairs.{both_written}
use Rattle.sfm_simple.proofs.need.NeedPlain.start_of.Goals as goal

pub returns : goal.returns
returns c = record {
  start = both_written c.args.x.now _ _
      (c.requires.entries ∙ c.args.self.now.two);
}
