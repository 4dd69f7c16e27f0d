use Rattle.std.proofs.Common.{◌≡◌, replicate, rules}
use Rattle.sfm_laminar.proofs.Counted.{counts-none}
use Rattle.sfm_laminar.proofs.growing.zeros.Goals as goal

pub returns : goal.returns
returns c =
    let same : c.in_ok-counts.counts.items ≡ replicate c.len.result 0 = search rules in
    λ k. rw same (counts-none c.args.groups.now c.len.result k c.len.ensures)
