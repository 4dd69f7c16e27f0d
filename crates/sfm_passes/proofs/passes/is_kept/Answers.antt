use Rattle.sfm_passes.proofs.KeptTokens.{found-or-not}
use Rattle.sfm_passes.proofs.passes.is_kept.Goals as goal

pub returns : goal.returns
returns c = found-or-not c.args.kept.now.keys c.args.token.now c.contains.result c.contains.ensures
