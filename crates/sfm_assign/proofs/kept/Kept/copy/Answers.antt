use Rattle.sfm_assign.proofs.kept.Kept.copy.Goals as goal

pub around-requires : goal.around-requires
around-requires c =
    let s = c.in_ok-shares.ensures in
    rw (c.in_ok-demand.ensures, s.whos, s.slots, s.amounts) c.args.self.now.met

pub returns : goal.returns
returns c = rw c.in_ok-demand.ensures at c.around.ensures
