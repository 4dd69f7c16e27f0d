use Rattle.std.proofs.Common.{arith}
use Rattle.std.proofs.lemmas.Int.{to_z-of_z}
use Rattle.sfm_spec.proofs.Sizes.{size_below_length}
use Rattle.sfm_concave.proofs.Shares.{in_share, share_and_entry}
use Rattle.sfm_concave.proofs.share.put_in.Goals as goal

pub overflow_add-result : goal.overflow_add-result
overflow_add-result c =
    let (s, share) = c.requires.share in
    let few = size_below_length s in
    omega (arith, few, share.counts, share.places, c.requires.few)

pub overflow_add-result-2 : goal.overflow_add-result-2
overflow_add-result-2 c =
    let r = c.requires in
    let (fs, fa, more, less) = share_and_entry _ _ _ _ r.few r.small r.from r.share in
    simp to_z-of_z more

pub returns : goal.returns
returns c s own out =
    let r = c.requires in
    let (fs, fa, more, less) = share_and_entry _ _ _ _ r.few r.small r.from r.share in
    simp to_z-of_z (in_share _ _ _ s own c.args.u r.from out)
