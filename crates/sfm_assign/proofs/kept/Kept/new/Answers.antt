use Rattle.sfm_assign.proofs.kept.Kept.new.Goals as goal

pub around-requires : goal.around-requires
around-requires c = c.in_ok-shares.ensures.shares

pub returns : goal.returns
returns c = c.in_ok-kept.ensures
