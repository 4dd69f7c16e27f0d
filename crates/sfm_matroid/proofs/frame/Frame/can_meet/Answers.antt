use Rattle.std.proofs.Common.{◌≡◌, ◌∙◌, length, replicate, sym, rules, FitsSigned}
use Rattle.std.proofs.lemmas.List.{length-replicate}
use Rattle.std.proofs.lemmas.List.Elements.{All-replicate}
use mir.Syntax.{w128}
use Rattle.sfm_assign.specs.Splits.{IsCapacity}
use Rattle.sfm_matroid.specs.Notes.{IsFrame}
use Rattle.sfm_matroid.proofs.Frames.{frame_lists, frame_places}
use Rattle.sfm_matroid.proofs.frame.Frame.can_meet.Goals.{In_ok-capacities}
use Rattle.sfm_matroid.proofs.frame.Frame.can_meet.Goals as goal

framed : (c : In_ok-capacities) → IsFrame c.args.self.now c.none-none.result.now.demand
framed c = c.none-none.ensures.frame

held : (c : In_ok-capacities) → c.in_ok-capacities.capacities.items ≡ replicate
    (length c.none-none.result.now.demand.capacities) c.args.most
held c =
    let fm : FitsSigned w128 c.args.most = c.ranges.most in
    let h : c.in_ok-capacities.capacities.items ≡ replicate (length c.capacities-slots.result.now)
    c.args.most = search rules in
    rw (← c.capacities-slots.ensures) h

pub can_meet-requires : goal.can_meet-requires
can_meet-requires c =
    let at = (goal.at.can_meet-requires c).In_ok-capacities in
    let d = c.none-none.result.now.demand in
    let r = c.requires in
    rw (c.deref.ensures.value, held at) (record {
      sized = r.sized ∙ sym (frame_places c.args.self.now d (framed at));
      slots = length-replicate (length d.capacities) c.args.most;
      amounts = r.amounts;
      bounded = All-replicate IsCapacity (length d.capacities) c.args.most r.bounded;
    })

pub returns : goal.returns
returns c =
    let at = (goal.at.returns c).In_ok-capacities in
    let d = c.none-none.result.now.demand in
    let told = rw (frame_lists c.args.self.now d (framed at), c.deref.ensures.value, held at) at
    c.in_ok-can.ensures in
    (length d.capacities, (framed at).below, told)
