use Rattle.std.proofs.Common.{◌≡◌, length, map, pos, ap, ◌∙◌, ◌^◌, FitsSigned, arith}
use Rattle.std.proofs.lemmas.Int.{ints, to_z-of_z}
use Rattle.std.proofs.lemmas.List.{length-map}
use mir.Syntax.{w128}
use Rattle.sfm_spec.specs.Families.{meanings, sized_shift}
use Rattle.sfm_sizes.proofs.Sized.{sized-small}
use Rattle.sfm_slope.proofs.Reached.{floor_below, ordered, reached_more}
use Rattle.sfm_slope.proofs.standing.stage_over.Given as given
use Rattle.sfm_slope.proofs.standing.stage_over.Goals as goal
use Rattle.sfm_slope.proofs.standing.stage_over.Goals.{After-deref-2}

-- the shifts of the whole numbers around the breakpoints
low_is : (g : given.Over) (c : After-deref-2 g)
    → c.deref.result.now ≡ sized_shift c.args.sizes.now c.floor_of.result
low_is g c =
    let small = c.floor_of.ensures.small in
    let f : FitsSigned w128 c.floor_of.result = omega (arith, ints, small.low, small.high) in
    let is : c.in_ok-low.low.items ≡ sized_shift c.args.sizes.now c.floor_of.result = simp to_z-of_z
    at c.in_ok-low.ensures in
    c.deref.ensures.value ∙ is

high_is : (g : given.Over) (c : After-deref-2 g)
    → c.deref-2.result.now ≡ sized_shift c.args.sizes.now c.ceiling_of.result
high_is g c =
    let small = c.ceiling_of.ensures.small in
    let f : FitsSigned w128 c.ceiling_of.result = omega (arith, ints, small.low, small.high) in
    let is : c.in_ok-high.high.items ≡ sized_shift c.args.sizes.now
    c.ceiling_of.result = simp to_z-of_z at c.in_ok-high.ensures in
    c.deref-2.ensures.value ∙ is

long : (g : given.Over) (c : After-deref-2 g) → length c.deref.result.now ≡ length c.args.sizes.now
long g c = ap length (low_is g c) ∙ length-map c.args.sizes.now _

pub run_stage-requires-clause-graph : goal.run_stage-requires-clause-graph
run_stage-requires-clause-graph g c =
    rw (long g (goal.at.run_stage-requires-clause-graph g c).After-deref-2)
    c.requires.standing.claimed

pub run_stage-requires-clause-order : goal.run_stage-requires-clause-order
run_stage-requires-clause-order g c =
    let at = (goal.at.run_stage-requires-clause-order g c).After-deref-2 in
    let lo = c.floor_of.result in
    let hi = c.ceiling_of.result in
    rw (low_is g at, high_is g at)
    (ordered c.args.sizes.now c.requires.sizes.positive lo hi
    (floor_below lo hi c.args.found.now c.requires.some c.floor_of.ensures.low
    c.ceiling_of.ensures.high))

pub run_stage-requires-clause-low : goal.run_stage-requires-clause-low
run_stage-requires-clause-low g c =
    let m = sized-small (10 ^ 19) _ c.args.sizes.now c.floor_of.result c.floor_of.ensures.small
    c.requires.sizes in
    rw (low_is g (goal.at.run_stage-requires-clause-low g c).After-deref-2) (omega (arith, ints, m))

pub run_stage-requires-clause-high : goal.run_stage-requires-clause-high
run_stage-requires-clause-high g c =
    let m = sized-small (10 ^ 19) _ c.args.sizes.now c.ceiling_of.result c.ceiling_of.ensures.small
    c.requires.sizes in
    rw (high_is g (goal.at.run_stage-requires-clause-high g c).After-deref-2)
    (omega (arith, ints, m))

pub returns : goal.returns
returns g c =
    let t = g.T.Term in
    let at = (goal.at.returns g c).After-deref-2 in
    let sizes = c.args.sizes.now in
    let before = c.args.at.now in
    let s = c.requires.standing in
    let e = c.in_ok-walks.ensures in
    let served = rw (low_is g at, high_is g at) at e.served in
    let few = c.requires.few in
    record {
      claimed = rw (long g at) at e.graph;
      small = e.small;
      few = omega (arith, few, e.few);
      reached = (reached_more sizes c.requires.sizes.positive
          (meanings t.places t.value_of c.args.terms.now) before.walks c.in_ok-walks.walks
          (map (λ x. t.start_of x (pos 1)) c.args.terms.now) before.graph.bases
          c.run_stage.new.graph.bases
          c.args.found.now c.floor_of.result c.ceiling_of.result s.reached served
          c.floor_of.ensures.low c.ceiling_of.ensures.high);
    }
