use Rattle.std.proofs.Common.{arith, below_more}
use Rattle.std.proofs.lemmas.Bool.{both_ways}
use Rattle.sfm_laminar.proofs.crossing.first_before.Goals as goal

pub loop-first-preserved : goal.loop-first-preserved
loop-first-preserved c =
    let x = rw (c.group-a.ensures.group, c.group-b.ensures.group) at c.cross.ensures in
    below_more _ _ c.loop-first.invariant
    (λ h. both_ways c.cross.result c.if-cross.false (x.1 h.cross))

pub returns : goal.returns
returns c = λ i lt. c.loop-first.invariant i (omega (arith, lt, c.loop-first-test.false))

pub cross-requires-clause-first : goal.cross-requires-clause-first
cross-requires-clause-first c = rw c.group-a.ensures.group c.group-a.ensures.sound

pub cross-requires-clause-second : goal.cross-requires-clause-second
cross-requires-clause-second c = rw c.group-b.ensures.group c.group-b.ensures.sound

pub returns-then-cross : goal.returns-then-cross
returns-then-cross c =
    let x = rw (c.group-a.ensures.group, c.group-b.ensures.group) at c.cross.ensures in (
      record { order = c.loop-first-test.true; in_range = c.requires; cross = x.0 c.if-cross.true },
      c.loop-first.invariant,
    )
