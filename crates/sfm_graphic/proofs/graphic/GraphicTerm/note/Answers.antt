use Rattle.std.proofs.Common.{◌≡◌, ◌∙◌, ◌*ℤ◌, length, to_z, of_z}
use Rattle.std.proofs.lemmas.Option.{none-some}
use mir.Syntax.{w128}
use Rattle.sfm_law.proofs.Fits.{product_low}
use Rattle.sfm_matroid.proofs.Fits.{capped_amounts}
use Rattle.sfm_matroid.proofs.Passed.{cap_passed}
use Rattle.sfm_graphic.proofs.GraphicBases.{capped_base, end_amounts}
use Rattle.sfm_graphic.proofs.GraphicRooms.{first_split}
use Rattle.sfm_graphic.proofs.graphic.GraphicTerm.note.Goals.{After-cap_of-cap}
use Rattle.sfm_graphic.proofs.graphic.GraphicTerm.note.Goals as goal

cap_is : (c : After-cap_of-cap)
    → to_z w128 (of_z w128 c.cap_of-cap.result) ≡ (c.args.at.now.q *ℤ c.args.self.now.w)
cap_is c = let s = c.args.self.now in cap_passed c.args.at.now.q s.w c.requires.factor s.given
    c.cap_of-cap.result c.cap_of-cap.ensures.value

pub end_demand-requires : goal.end_demand-requires
end_demand-requires c =
    let r = c.requires in
    let s = c.args.self.now in
    let cap = c.cap_of-cap.ensures in
    end_amounts s c.cap_of-cap.result cap.low cap.high c.args.at.now.x.now r.entries
    (capped_amounts _ _ (capped_base s c.args.at.now.q r.factor c.args.at.now.x.now r.entries
    r.base))

pub split_of-requires : goal.split_of-requires
split_of-requires c =
    let r = c.requires in
    let s = c.args.self.now in
    rw (
      c.in_ok-demand.ensures,
      s.of_ends,
      s.counted,
      cap_is (goal.at.split_of-requires c).After-cap_of-cap,
    )
    (first_split (length s.places) c.args.at.now.q s.w s.ends s.same_count
    (product_low c.args.at.now.q s.w r.factor s.low) c.args.at.now.x.now r.entries r.base)

pub returns : goal.returns
returns c =
    let s = c.args.self.now in
    record {
      split = c.in_ok-kept.ensures
          ∙ rw (s.of_ends, s.counted, cap_is (goal.at.returns c).After-cap_of-cap) at
          c.in_ok-demand.ensures;
      spare = λ k some. absurd (none-some k some);
      near = λ n k e f. absurd (none-some n e);
    }
