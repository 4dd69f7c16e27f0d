use Rattle.std.proofs.Common.{◌≡◌, ◌∙◌, length, pos, refl, sym, subst, ap}
use Rattle.std.proofs.lemmas.List.{length-replicate}
use Rattle.sfm_spec.specs.Sets.{empty_set}
use Rattle.sfm_matroid.specs.Matched.{IsMatchedTo}
use Rattle.sfm_matroid.specs.Notes.{IsFrame, slot_demands}
use Rattle.sfm_matroid.proofs.Frames.{frame_lists}
use Rattle.sfm_matroid.proofs.Matched.{ones-none}
use Rattle.sfm_matroid.proofs.frame.Frame.matched.Goals.{In_ok-kept}
use Rattle.sfm_matroid.proofs.frame.Frame.matched.Goals as goal

-- the copy has the demands of the frame
framed : (c : In_ok-kept) → IsFrame c.args.self.now c.in_ok-kept.kept.demand
framed c = rw c.in_ok-kept.ensures c.none.ensures.frame

lists : (c : In_ok-kept) → c.in_ok-kept.kept.demand.lists ≡ c.args.self.now
lists c = frame_lists c.args.self.now c.in_ok-kept.kept.demand (framed c)

pub take_each-requires-clause-sized : goal.take_each-requires-clause-sized
take_each-requires-clause-sized c =
    rw (lists (goal.at.take_each-requires-clause-sized c).In_ok-kept) c.requires

pub take_each-requires-clause-none : goal.take_each-requires-clause-none
take_each-requires-clause-none c =
    let at = (goal.at.take_each-requires-clause-none c).In_ok-kept in
    let entries = c.args.self.now in
    let d = c.in_ok-kept.kept.demand in
    subst (λ ls. IsMatchedTo ls c.args.s.now 0 (empty_set (length ls)) d) (sym (lists at)) (record {
      m = length d.capacities;
      below = (framed at).below;
      places = length-replicate _ _;
      taken = refl;
      split = (framed at).none ∙ ap (λ x. slot_demands entries (length d.capacities) (pos 1) x)
          (sym (ones-none (length entries)));
    })

pub returns-clause-places : goal.returns-clause-places
returns-clause-places c = c.take_each.ensures.places

pub returns-clause-taken : goal.returns-clause-taken
returns-clause-taken c = rw (lists (goal.at.returns-clause-taken c).In_ok-kept) at
    c.take_each.ensures.taken
