use Rattle.std.proofs.Common.{length, FitsSigned}
use Rattle.std.proofs.lemmas.Int.{to_z-of_z}
use mir.Syntax.{w128}
use Rattle.sfm_spec.specs.Sets.{whole_set}
use Rattle.sfm_spec.proofs.Sets.{Has-whole}
use Rattle.sfm_concave.proofs.Shares.{whole_share}
use Rattle.sfm_concave.proofs.share.share_without.Goals as goal

pub take_out-requires-clause-share : goal.take_out-requires-clause-share
take_out-requires-clause-share c =
    let x = c.args.x.now in
    let fs : FitsSigned w128 c.sum_of.result = record { sfits = c.sum_of.type_inv } in
    simp to_z-of_z (rw c.sum_of.ensures (whole_set (length x), whole_share x))

pub returns : goal.returns
returns c =
    let x = c.args.x.now in
    let fs : FitsSigned w128 c.sum_of.result = record { sfits = c.sum_of.type_inv } in
    c.take_out.ensures (whole_set (length x)) (simp to_z-of_z (rw c.sum_of.ensures (whole_share x)))
    (Has-whole (length x) c.args.v c.requires.onto)
