use Rattle.std.proofs.Common.{◌^◌, [], ◌∷◌, sym, subst}
use Rattle.std.proofs.lemmas.List.Elements.{All-nil, All-cons}
use Rattle.sfm_slope.proofs.Reached.{standing_over}
use Rattle.sfm_slope.proofs.Scaled.{small_from_abs}
use Rattle.sfm_slope.proofs.Behind.{behind_all, behind_more, behind_none}
use Rattle.sfm_slope.proofs.tree.leaves.Goals as goal

pub leaf-requires-clause-standing : goal.leaf-requires-clause-standing
leaf-requires-clause-standing g c =
    let point = c.point-item.result in
    standing_over c.requires.standing (point ∷ [])
    (λ P all. All-cons P point []
    (subst P (sym c.point-item.is) (all c.loop-point.point-index point c.loop-point-test.true))
    (All-nil P))

pub leaf-requires-clause-small : goal.leaf-requires-clause-small
leaf-requires-clause-small g c =
    small_from_abs (10 ^ 19) c.args.at.now.graph.bases
    (c.are_within.ensures.0 c.if-not-are_within.false)

pub loop-point-init : goal.loop-point-init
loop-point-init g c = record { search = c.requires.search; behind = behind_none c.requires.before }

pub loop-point-preserved : goal.loop-point-preserved
loop-point-preserved g c =
    let o = c.in_ok-leaf.ensures in
    record {
      search = o.search;
      behind = rw c.in_ok-push.ensures.items
          (behind_more c.args.found.now c.loop-point.point-index c.point-item.result
          c.in_ok-leaf.field-0 c.loop-point.breaks.items c.loop-point-test.true c.point-item.is
          c.loop-point.invariant.behind o.found);
    }

pub returns-clause-behind : goal.returns-clause-behind
returns-clause-behind g c = behind_all c.args.found.now c.loop-point.point-index
    c.loop-point.breaks.items c.loop-point-test.false c.loop-point.invariant.behind
