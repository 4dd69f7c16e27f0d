use Rattle.sfm_run.proofs.Said.{says_all}
use Rattle.sfm_run.proofs.call.say.Goals as goal

pub returns : goal.returns
returns g c = says_all _ _ _ _ c.write_all.ensures
