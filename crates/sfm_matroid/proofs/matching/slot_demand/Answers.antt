use Rattle.std.proofs.Common.{◌≡◌, ◌∙◌, length, replicate, ap, arith, rules, FitsSigned}
use Rattle.std.proofs.lemmas.List.{length-replicate}
use mir.Syntax.{w128}
use Rattle.sfm_matroid.proofs.matching.slot_demand.Goals as goal
use Rattle.sfm_matroid.proofs.matching.slot_demand.Goals.{After-deref}

-- what each slot may hold
held : (c : After-deref) → c.deref.result.now ≡ replicate c.args.m c.args.most
held c =
    let fm : FitsSigned w128 c.args.most = c.ranges.most in
    let same : c.deref.result.now ≡ replicate c.args.m c.args.most = search rules in
    same

pub with_room-requires-clause-few : goal.with_room-requires-clause-few
with_room-requires-clause-few c =
    let l = ap length (held (goal.at.with_room-requires-clause-few c).After-deref)
    ∙ length-replicate c.args.m c.args.most in omega (arith, l, c.requires.few_slots)

pub push_slots-requires-clause-few : goal.push_slots-requires-clause-few
push_slots-requires-clause-few c = c.requires.few

pub push_slots-requires-clause-sized : goal.push_slots-requires-clause-sized
push_slots-requires-clause-sized c = c.requires.sized

pub push_slots-requires-clause-amounts : goal.push_slots-requires-clause-amounts
push_slots-requires-clause-amounts c = c.requires.amounts

pub push_slots-requires-clause-below : goal.push_slots-requires-clause-below
push_slots-requires-clause-below c =
    let caps = ap (λ d. d.capacities) c.in_ok-demand.ensures
    ∙ held (goal.at.push_slots-requires-clause-below c).After-deref in
    rw (caps, length-replicate c.args.m c.args.most) c.requires.below

pub push_slots-requires-clause-none : goal.push_slots-requires-clause-none
push_slots-requires-clause-none c =
    (ap (λ d. d.demands) c.in_ok-demand.ensures, ap (λ d. d.lists) c.in_ok-demand.ensures)

pub returns : goal.returns
returns c =
    let caps = ap (λ d. d.capacities) c.in_ok-demand.ensures
    ∙ held (goal.at.returns c).After-deref in
    rw caps at c.in_ok-push_slots.ensures
