use Rattle.std.proofs.Common.{length}
use Rattle.sfm_reach.specs.Bits.{set_at}
use Rattle.sfm_reach.proofs.Options.{match_none}
use Rattle.sfm_reach.proofs.Searching.{IsLink, IsLook, ahead_below, search_begun, search_done, search_more, search_shrinks}
use Rattle.sfm_reach.proofs.reached.reached_from.Goals as goal
use Rattle.sfm_reach.proofs.reached.reached_from.Goals.{After-take_in}

-- one place is looked at, by its row
look : (c : After-take_in) → IsLook (length c.args.unions.now) (IsLink c.args.unions.now)
    c.args.firsts.now c.loop-e.found c.loop-e.ahead c.in-Some.e
    (set_at c.args.unions.now c.in-Some.e) c.remove.new.self c.take_in.new.found c.take_in.new.ahead
look c =
    let below = ahead_below _ _ _ _ _ c.loop-e.invariant c.in-Some.e c.in-Some.ensures.1 in
    let o = c.remove.ensures in
    record {
      so_far = c.loop-e.invariant;
      chosen = c.in-Some.ensures.1;
      tells = λ t. ((λ one. one), (λ one. one));
      links = λ t bit. c.requires.links c.in-Some.e t below bit;
      out = o.out;
      others = o.others;
      taken = c.take_in.ensures;
    }

pub loop-e-init : goal.loop-e-init
loop-e-init c = search_begun (length c.args.unions.now) (IsLink c.args.unions.now) c.args.firsts.now
    c.requires.firsts

pub bounds-unions-e : goal.bounds-unions-e
bounds-unions-e c = ahead_below (length c.args.unions.now) (IsLink c.args.unions.now)
    c.args.firsts.now c.loop-e.found c.loop-e.ahead c.loop-e.invariant c.in-Some.e
    c.in-Some.ensures.1

pub loop-e-preserved : goal.loop-e-preserved
loop-e-preserved c = search_more (look (goal.at.loop-e-preserved c).After-take_in)

pub loop-e-smaller : goal.loop-e-smaller
loop-e-smaller c = search_shrinks (look (goal.at.loop-e-smaller c).After-take_in)
    c.in-Some.ensures.0

pub returns : goal.returns
returns c = search_done c.args.unions.now c.args.firsts.now c.loop-e.found c.loop-e.ahead
    c.loop-e.invariant (match_none c.first.result _ _ c.first.ensures c.in_default.not-Some)
