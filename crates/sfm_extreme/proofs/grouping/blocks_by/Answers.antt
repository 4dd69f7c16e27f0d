use Rattle.std.proofs.Common.{map}
use Rattle.std.proofs.lemmas.Result.{IfOk-weaker}
use Rattle.sfm_extreme.specs.Blocks.{block_of}
use Rattle.sfm_extreme.specs.Pulls.{AreBlocksBy, AreFirsts, AreGrouped}
use Rattle.sfm_extreme.proofs.Tellings.{square_of}
use Rattle.sfm_extreme.proofs.grouping.blocks_by.Goals as goal

pub firsts_in_order-requires : goal.firsts_in_order-requires
firsts_in_order-requires c = record {
  square = rw c.deref.ensures.value
      (square_of c.in_ok-rows.ensures);
}

pub grouped-requires-clause-square : goal.grouped-requires-clause-square
grouped-requires-clause-square c = rw c.deref-2.ensures.value (square_of c.in_ok-rows.ensures)

pub grouped-requires-clause-inside : goal.grouped-requires-clause-inside
grouped-requires-clause-inside c =
    rw (c.deref-2.ensures.value, c.deref-3.ensures.value)
    (rw c.deref.ensures.value at c.in_ok-firsts.ensures).inside

pub returns : goal.returns
returns c =
    let rows = c.in_ok-rows.rows.items in
    let firsts : AreFirsts rows c.in_ok-firsts.firsts.items = rw c.deref.ensures.value at
    c.in_ok-firsts.ensures in
    IfOk-weaker c.grouped.result _
    (λ r. AreBlocksBy c.args.unions.now c.args.outside.now (map block_of r.items))
    (λ r (k : AreGrouped rows c.in_ok-firsts.firsts.items (map block_of r.items)).
    record {
      rows = rows;
      firsts = c.in_ok-firsts.firsts.items;
      pulls = c.in_ok-rows.ensures;
      are_firsts = firsts;
      grouped = k;
    })
    (rw (c.deref-2.ensures.value, c.deref-3.ensures.value) at c.grouped.ensures)
