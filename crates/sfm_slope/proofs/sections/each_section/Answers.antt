use Rattle.sfm_slope.proofs.Behind.{behind_all, behind_more, behind_none}
use Rattle.sfm_slope.proofs.sections.each_section.Goals as goal

pub loop-point-init : goal.loop-point-init
loop-point-init g c = record { search = c.requires.search; behind = behind_none c.requires.before }

pub loop-point-preserved : goal.loop-point-preserved
loop-point-preserved g c =
    let o = c.in_ok-section.ensures in
    record {
      search = o.search;
      behind = rw c.in_ok-push.ensures.items
          (behind_more c.args.found.now c.loop-point.point-index c.point-item.result
          c.in_ok-section.field-0 c.loop-point.breaks.items c.loop-point-test.true c.point-item.is
          c.loop-point.invariant.behind o.found);
    }

pub returns-clause-behind : goal.returns-clause-behind
returns-clause-behind g c = behind_all c.args.found.now c.loop-point.point-index
    c.loop-point.breaks.items c.loop-point-test.false c.loop-point.invariant.behind
