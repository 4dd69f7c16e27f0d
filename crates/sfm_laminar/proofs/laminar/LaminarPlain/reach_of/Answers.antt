use Rattle.std.proofs.lemmas.Bool.{both_ways}
use Rattle.sfm_laminar.proofs.Exchanges.{reach_none, reach_held}
use Rattle.sfm_laminar.proofs.Slacking.{noted_support}
use Rattle.sfm_laminar.proofs.laminar.LaminarPlain.reach_of.Goals as goal

pub returns-then-not-lacks-clause-reached : goal.returns-then-not-lacks-clause-reached
returns-then-not-lacks-clause-reached c =
    let r = c.requires in
    let s = c.args.self.now in
    rw (c.clear.ensures, r.room_for_answer)
    (reach_none _ _ _ _ r.factor.low s.low s.grouped _ r.entries r.base _ r.from
    (λ less. both_ways c.lacks.result c.if-not-lacks.true (c.lacks.ensures.1 less)))

pub put_some-requires-clause-noted : goal.put_some-requires-clause-noted
put_some-requires-clause-noted c = noted_support _ _ _ _ c.requires.noted

pub returns-clause-reached : goal.returns-clause-reached
returns-clause-reached c =
    let r = c.requires in
    let s = c.args.self.now in
    let kept = rw c.remove.ensures at c.keep_full.ensures in
    reach_held _ _ _ _ r.factor.low s.low s.grouped _ r.entries r.base _ r.from
    (c.lacks.ensures.0 c.if-not-lacks.false) _ _ c.put_some.ensures kept
