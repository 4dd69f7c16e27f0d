use Rattle.std.proofs.Common.{get_or, length, nat_eq, sym, arith}
use Rattle.std.proofs.lemmas.Bool.{eq-eqb}
use Rattle.std.proofs.lemmas.List.Sums.{position_or_len_is}
use Rattle.sfm_graphic.proofs.graph.place.Goals as goal

pub returns-then-vertices-i : goal.returns-then-vertices-i
returns-then-vertices-i c =
    let test = c.loop-i-test.true in
    sym (position_or_len_is (λ u. nat_eq u c.args.v) c.args.vertices.now c.loop-i.i 0
    (omega (arith, test)) c.loop-i.invariant
    (λ lt. eq-eqb (get_or c.args.vertices.now c.loop-i.i 0) c.args.v c.if-vertices-i.true))

pub returns : goal.returns
returns c =
    let ends = c.loop-i-test.false in
    sym (position_or_len_is (λ u. nat_eq u c.args.v) c.args.vertices.now
    (length c.args.vertices.now) 0 (omega arith)
    (λ k lt. c.loop-i.invariant k (omega (arith, lt, ends))) (λ lt. absurd (omega (arith, lt))))
