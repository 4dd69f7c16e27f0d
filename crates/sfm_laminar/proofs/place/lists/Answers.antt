use Rattle.sfm_laminar.proofs.Listed.{listed}
use Rattle.sfm_laminar.proofs.place.lists.Goals as goal

pub returns : goal.returns
returns c = rw (c.is_ok.ensures.value)
    (listed c.args.members.now c.args.e _ c.binary_search.ensures.position c.requires)
