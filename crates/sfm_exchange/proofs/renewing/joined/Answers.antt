use Rattle.sfm_exchange.proofs.RowsAfter.{joined_is}
use Rattle.sfm_exchange.proofs.renewing.joined.Goals as goal

pub returns : goal.returns
returns c = joined_is c.args.row.now c.args.more.now c.union_with.new.self c.insert.new.self
    c.remove.new.self c.args.to c.args.out c.union_with.ensures c.insert.ensures.put
    c.insert.ensures.others c.remove.ensures.out c.remove.ensures.others
