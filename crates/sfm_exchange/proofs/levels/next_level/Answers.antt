use Rattle.std.proofs.Common.{arith}
use Rattle.sfm_reach.proofs.Words.{bit_in-lt}
use Rattle.sfm_exchange.proofs.levels.next_level.Goals as goal

pub returns : goal.returns
returns c = record {
  parted = λ e. let n = c.meet_with.ensures e in let l = c.remove_all.ensures
      e in omega (arith, n, l);
  leads = λ e one.
      let n = c.meet_with.ensures e in
      let b = bit_in-lt c.leading_into-next.result e in
      (c.leading_into-next.ensures e).0 (omega (arith, n, b, one));
  closed = λ e led.
      let n = c.meet_with.ensures e in
      let l = c.remove_all.ensures e in
      let a = bit_in-lt c.args.left.now e in
      let one = (c.leading_into-next.ensures e).1 led in
      omega (arith, n, l, a, one);
}
