use Rattle.std.proofs.Common.{◌≡◌, ◌∙◌, length, replicate, sym, rules, FitsSigned}
use Rattle.std.proofs.lemmas.List.{length-replicate}
use Rattle.std.proofs.lemmas.List.Elements.{All-replicate}
use Rattle.std.proofs.lemmas.Option.{none-some}
use mir.Syntax.{w128}
use Rattle.sfm_assign.specs.Splits.{IsCapacity}
use Rattle.sfm_matroid.specs.Notes.{IsFrame}
use Rattle.sfm_matroid.proofs.Frames.{frame_lists, frame_places}
use Rattle.sfm_matroid.proofs.frame.Frame.split.Goals.{In_ok-kept}
use Rattle.sfm_matroid.proofs.frame.Frame.split.Goals as goal

-- the copy has the demands of the frame
framed : (c : In_ok-kept) → IsFrame c.args.self.now c.in_ok-kept.kept.demand
framed c = rw c.in_ok-kept.ensures c.none-none.ensures.frame

held : (c : In_ok-kept) → c.in_ok-capacities.capacities.items ≡ replicate
    (length c.in_ok-kept.kept.demand.capacities) c.args.most
held c =
    let fm : FitsSigned w128 c.args.most = c.ranges.most in
    let h : c.in_ok-capacities.capacities.items ≡ replicate (length c.capacities-slots.result.now)
    c.args.most = search rules in
    rw (c.in_ok-kept.ensures, ← c.capacities-slots.ensures) h

pub bring_split-requires : goal.bring_split-requires
bring_split-requires c =
    let at = (goal.at.bring_split-requires c).In_ok-kept in
    let d = c.in_ok-kept.kept.demand in
    let entries = c.args.self.now in
    let r = c.requires in
    rw (c.deref.ensures.value, held at) (record {
      sized = r.sized ∙ sym (frame_places entries d (framed at));
      slots = length-replicate (length d.capacities) c.args.most;
      amounts = r.amounts;
      bounded = All-replicate IsCapacity (length d.capacities) c.args.most r.bounded;
      met = rw (frame_lists entries d (framed at)) (r.met (length d.capacities) (framed at).below);
    })

pub returns : goal.returns
returns c =
    let at = (goal.at.returns c).In_ok-kept in
    let d = c.in_ok-kept.kept.demand in
    let is = rw (frame_lists c.args.self.now d (framed at), c.deref.ensures.value, held at) at
    c.in_ok-bring_split.ensures in
    record {
      m = length d.capacities;
      below = (framed at).below;
      holds = held at;
      split = is;
      spare = λ k some. absurd (none-some k some);
      near = λ n k e f. absurd (none-some n e);
    }
