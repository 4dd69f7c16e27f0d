use Rattle.std.proofs.Common.{arith}
use Rattle.sfm_reach.proofs.Words.{bit_in-lt}
use Rattle.sfm_reach.proofs.reached.take_in.Goals as goal

pub returns : goal.returns
returns c = record {
  grown = λ e.
      let m = c.remove_all.ensures e in
      let g = c.union_with.ensures e in
      let l = bit_in-lt c.args.row.now e in
      let lf = bit_in-lt c.args.found.now e in
      omega (arith, m, g, l, lf);
  next = λ e. let m = c.remove_all.ensures e in let n = c.union_with-2.ensures
      e in omega (arith, m, n);
}
