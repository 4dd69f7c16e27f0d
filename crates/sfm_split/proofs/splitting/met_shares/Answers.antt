use Rattle.std.proofs.Common.{length, drop, ap, sym, ◌∙◌}
use Rattle.sfm_cells.specs.Cells.{joined, owners}
use Rattle.sfm_cells.proofs.Outcomes.{capacities_low, nothing_part, amounts_low}
use Rattle.sfm_cells.proofs.Written.{written}
use Rattle.sfm_split.proofs.splitting.met_shares.Goals as goal

pub raise_to-requires-clause-part : goal.raise_to-requires-clause-part
raise_to-requires-clause-part c =
    let d = c.args.demand.now in
    let sound = c.lists.ensures.sound in
    let w = c.in_ok-cells.ensures.whos ∙ ap (owners 0) c.lists.ensures.value in
    let s = c.in_ok-cells.ensures.slots ∙ ap joined c.lists.ensures.value in
    rw (c.deref_mut.ensures.value, c.in_ok-y.ensures, w, s)
    (nothing_part d.demands d.capacities (owners 0 d.lists) (joined d.lists)
    (amounts_low d sound) (capacities_low d sound))

pub returns-clause-shares : goal.returns-clause-shares
returns-clause-shares c =
    let y = c.in_ok-y.y in
    let z = c.raise_to.new.y in
    let q = written z (drop (length z) y.items) y.len
    (c.raise_to.auto.y ∙ (ap length c.deref_mut.ensures.value ∙ sym y.ok.0)) in
    let met = c.in_ok-raise_to.ensures.met in
    rw c.in_ok-cells-2.ensures (record {
      in_order = met.in_order;
      in_lists = met.in_lists;
      part = rw q met.part;
      met = rw q met.met;
    })
