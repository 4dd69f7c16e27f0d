use Rattle.sfm_split.proofs.Searches.{found_of}
use Rattle.sfm_split.proofs.nodes.is_found.Goals as goal

pub returns : goal.returns
returns c = rw c.is_some.ensures (found_of _)
