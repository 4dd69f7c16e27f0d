use Rattle.std.proofs.lemmas.Int.{to_z-of_z}
use Rattle.sfm_concave.proofs.Shares.{out_share, share_and_entry}
use Rattle.sfm_concave.proofs.share.take_out.Goals as goal

pub overflow_sub-result-2 : goal.overflow_sub-result-2
overflow_sub-result-2 c =
    let r = c.requires in
    let (fs, fa, more, less) = share_and_entry _ _ _ _ r.few r.small r.onto r.share in
    simp to_z-of_z less

pub returns : goal.returns
returns c s own has =
    let r = c.requires in
    let (fs, fa, more, less) = share_and_entry _ _ _ _ r.few r.small r.onto r.share in
    simp to_z-of_z (out_share _ _ _ s own c.args.v r.onto has)
