use Rattle.std.proofs.Common.{ap, ◌∙◌, length, length-set}
use Rattle.sfm_exchange.proofs.renewing.take_in_raised.Goals as goal

pub returns-clause-count : goal.returns-clause-count
returns-clause-count c = ap length c.set.ensures
    ∙ (length-set c.join_rows.new.rows c.args.raised.now.local c.args.raised.now.row
    ∙ c.join_rows.ensures.count)

pub returns-clause-taken : goal.returns-clause-taken
returns-clause-taken c = record {
  mid = c.join_rows.new.rows;
  joined = c.join_rows.ensures;
  put = c.set.ensures;
}
