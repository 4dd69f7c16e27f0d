use Rattle.std.proofs.Common.{◌≡◌, ◌≤◌, arith, ⊎_elim}
use Rattle.std.proofs.lemmas.Bool.{cases_lt}
use Rattle.sfm_laminar.proofs.crossing.first_crossing.Goals as goal

pub loop-second-preserved : goal.loop-second-preserved
loop-second-preserved c = λ i j lt x. ⊎_elim
    (λ l. c.loop-second.invariant i j l x)
    (λ (ge : c.loop-second.second ≤ j).
    let same : j ≡ c.loop-second.second = omega (arith, lt) in let y = rw same at
    x in c.in_default.ensures i y.order y)
    (cases_lt j c.loop-second.second)

pub returns : goal.returns
returns c = λ i j x. let l = x.in_range in c.loop-second.invariant i j
    (omega (arith, l, c.loop-second-test.false, c.len-second-end.ensures)) x
