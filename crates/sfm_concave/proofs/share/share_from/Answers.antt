use Rattle.std.proofs.lemmas.Int.{to_z-of_z}
use Rattle.sfm_law.proofs.Fits.{share_fits}
use Rattle.sfm_concave.proofs.Ranks.{ranked_parts}
use Rattle.sfm_concave.proofs.share.share_from.Goals as goal

pub overflow_sub-result-2 : goal.overflow_sub-result-2
overflow_sub-result-2 c =
    let parts = ranked_parts _ _ _ c.requires.ranked c.requires.few c.requires.small _
    c.requires.place in
    let fl = parts.whole in
    let fn = parts.first in
    simp to_z-of_z (share_fits _ parts.small)

pub returns-clause-sum : goal.returns-clause-sum
returns-clause-sum c =
    let parts = ranked_parts _ _ _ c.requires.ranked c.requires.few c.requires.small _
    c.requires.place in
    let fl = parts.whole in
    let fn = parts.first in
    let fd = share_fits _ parts.small in
    simp to_z-of_z (parts.value, parts.small)
