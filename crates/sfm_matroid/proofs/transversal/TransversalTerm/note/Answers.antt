use Rattle.std.proofs.Common.{◌≡◌, ◌∙◌, ◌*ℤ◌, sym, to_z, of_z}
use mir.Syntax.{w128}
use Rattle.sfm_matroid.proofs.Fits.{capped_amounts}
use Rattle.sfm_matroid.proofs.Frames.{some_above}
use Rattle.sfm_matroid.proofs.Passed.{cap_passed, capacity_passed}
use Rattle.sfm_matroid.proofs.TransversalBases.{held_base}
use Rattle.sfm_matroid.proofs.transversal.TransversalTerm.note.Goals.{After-cap_of-cap}
use Rattle.sfm_matroid.proofs.transversal.TransversalTerm.note.Goals as goal

cap_is : (c : After-cap_of-cap)
    → to_z w128 (of_z w128 c.cap_of-cap.result) ≡ (c.args.at.now.q *ℤ c.args.self.now.w)
cap_is c = let s = c.args.self.now in cap_passed c.args.at.now.q s.w c.requires.factor s.given
    c.cap_of-cap.result c.cap_of-cap.ensures.value

pub split-requires : goal.split-requires
split-requires c =
    let s = c.args.self.now in
    let at = c.args.at.now in
    let r = c.requires in
    let cap = c.cap_of-cap.ensures in
    let before = (goal.at.split-requires c).After-cap_of-cap in
    let (m, exist) = some_above s.entries in
    rw s.framed (record {
      sized = r.entries ∙ sym s.same_count;
      amounts = capped_amounts _ _ (held_base s at.q m exist r.factor at.x.now r.entries
          r.base).capped;
      bounded = capacity_passed c.cap_of-cap.result cap.low cap.high;
      met = λ m below. rw (cap_is before)
          (held_base s at.q m below r.factor at.x.now r.entries r.base).met;
    })

pub returns : goal.returns
returns c = rw (c.args.self.now.framed, cap_is (goal.at.returns c).After-cap_of-cap) at
    c.split.ensures
