use Rattle.std.proofs.Common.{length, refl, ◌∙◌}
use Rattle.sfm_law.proofs.Fits.{product_low}
use Rattle.sfm_matroid.specs.declared.pair.SplitPair.{SplitPair}
use Rattle.sfm_matroid.proofs.Beside.{still_near}
use Rattle.sfm_matroid.proofs.Passed.{cap_passed}
use Rattle.sfm_matroid.proofs.TransversalBases.{reach_slots}
use Rattle.sfm_matroid.proofs.transversal.TransversalTerm.reach_by.Goals as goal

pub returns-clause-reached : goal.returns-clause-reached
returns-clause-reached c =
    let r = c.requires in
    let b = r.based in
    let n = r.noted in
    let s = c.args.self.now in
    let at = c.args.at.now in
    let row = rw (
      n.split,
      cap_passed at.q s.w b.factor s.given c.cap_of-cap.result
          c.cap_of-cap.ensures.value,
    ) at c.in_ok-row.ensures.row in
    reach_slots (length s.places) at.q s.w s.entries n.m n.below s.same_count
    (product_low at.q s.w b.factor s.low) at.x.now b.entries b.base c.args.lead.now.from r.from
    c.row.new.to c.in_ok-row.ensures.places row

pub returns-clause-noted : goal.returns-clause-noted
returns-clause-noted c =
    let n = c.requires.noted in
    let before = c.args.note.now.pair in
    let after : SplitPair = record {
      kept = c.row.new.kept;
      spare = before.spare;
      near = before.near;
    } in
    let same = c.in_ok-row.ensures.same in
    record {
      m = n.m;
      below = n.below;
      holds = n.holds;
      split = same ∙ n.split;
      spare = λ k some. rw same (n.spare k some);
      near = still_near before after _ refl refl same n.near;
    }
