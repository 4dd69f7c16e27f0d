use Rattle.sfm_edit.proofs.FirstBases.{old-bases}
use Rattle.sfm_edit.proofs.laws.old_bases_serve.Goals as goal

pub returns : goal.returns
returns c = old-bases
