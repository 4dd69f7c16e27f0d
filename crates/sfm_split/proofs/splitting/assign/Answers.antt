use Rattle.std.proofs.Common.{length, ap, ◌∙◌}
use Rattle.sfm_cells.proofs.Rows.{length-owners}
use Rattle.sfm_cells.proofs.Outcomes.{split_from}
use Rattle.sfm_split.proofs.splitting.assign.Goals as goal

pub cut-requires : goal.cut-requires
cut-requires c =
    let d = c.args.demand.now in
    let k = c.in_ok-shares.ensures.shares in
    rw (c.deref.ensures.value, c.lists.ensures.value)
    (k.part.cells ∙ (ap length k.in_order ∙ length-owners 0 d.lists))

pub returns : goal.returns
returns c =
    let d = c.args.demand.now in
    let y = c.in_ok-shares.shares.y.items in
    let k = c.in_ok-shares.ensures.shares in
    let part = rw (k.in_order, k.in_lists) at k.part in
    let met = rw k.in_order at k.met in
    rw (c.in_ok-split.ensures, c.lists.ensures.value, c.deref.ensures.value)
    (split_from d y c.in_ok-shares.ensures.sound part met)
