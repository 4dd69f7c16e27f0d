use Rattle.std.proofs.Common.{arith, refl}
use Rattle.sfm_reach.proofs.Words.{bit_in-lt}
use Rattle.sfm_exchange.proofs.renewing.put_row.Goals as goal

pub returns-then-is_empty : goal.returns-then-is_empty
returns-then-is_empty c = (
  refl,
  λ e.
      let differ = rw c.as_slice.ensures at c.differing.ensures in
      let below = bit_in-lt c.differing.result e in
      let none = c.is_empty.ensures.empty c.if-is_empty.true e in
      (differ e).0 (omega (arith, below, none)),
)
