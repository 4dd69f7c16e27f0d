use Rattle.std.proofs.Common.{ℕ, pos, ◌<ℤ◌, ◌∙◌, arith, length-set}
use Rattle.sfm_cells.specs.Splits.{amount_at}
use Rattle.sfm_split.proofs.Loans.{told_more}
use Rattle.sfm_assign.proofs.kept.write_asking.Goals as goal

pub loop-v-preserved : goal.loop-v-preserved
loop-v-preserved c =
    let demands = c.args.demands.now in
    let v = c.loop-v.v in
    let to = c.loop-v.to in
    let inv = c.loop-v.invariant in
    let places = inv.places in
    rw c.put.ensures (record {
      places = length-set to v c.asks.result ∙ places;
      asking = told_more (λ (w : ℕ). pos 0 <ℤ amount_at demands w) to v c.asks.result
          (omega (arith, places)) inv.asking c.asks.ensures;
    })
