use Rattle.std.proofs.Common.{◌≡◌, ◌^◌, pos, ◌*ℤ◌, FitsSigned, arith}
use Rattle.std.proofs.lemmas.Int.{ints, to_z-of_z}
use mir.Syntax.{w128}
use Rattle.sfm_exchange.proofs.ClaimedGraphs.{shaped}
use Rattle.sfm_slope.proofs.Scaled.{factor-grains, rows-small, small_from_abs}
use Rattle.sfm_slope.proofs.least.multiply_warm.Given as given
use Rattle.sfm_slope.proofs.least.multiply_warm.Goals as goal
use Rattle.sfm_slope.proofs.least.multiply_warm.Goals.{After-grains}

pub restart_times-requires-clause-factor : goal.restart_times-requires-clause-factor
restart_times-requires-clause-factor g c =
    let fq : FitsSigned w128 c.args.q = c.ranges.q in
    simp to_z-of_z (factor-grains c.args.q c.requires.factor c.requires.few)

pub restart_times-requires-clause-graph : goal.restart_times-requires-clause-graph
restart_times-requires-clause-graph g c =
    rw c.requires.search.cold.are_spots.count c.requires.search.cold

pub restart_times-requires-clause-other : goal.restart_times-requires-clause-other
restart_times-requires-clause-other g c =
    rw c.requires.search.cold.are_spots.count c.requires.search.warm

pub restart_times-requires-clause-small : goal.restart_times-requires-clause-small
restart_times-requires-clause-small g c =
    let s = small_from_abs (10 ^ 19) c.args.search.now.warm.bases
    (c.are_within.ensures.0 c.if-are_within.true) in
    λ k d l i e lt. let b = s k d l i e
    lt in record { low = omega (arith, ints, b.low); high = omega (arith, ints, b.high) }

pub returns-then-are_within : goal.returns-then-are_within
returns-then-are_within g c =
    let fq : FitsSigned w128 c.args.q = c.ranges.q in
    let r = c.requires in
    let graph = simp to_z-of_z at
    (rw r.search.cold.are_spots.count at c.in_ok-restart_times.ensures.graph) in
    let bases = simp to_z-of_z at c.in_ok-restart_times.ensures.bases in
    record {
      search = record {
        first = r.search.first;
        begins = r.search.begins;
        warm = r.search.warm;
        cold = shaped graph;
        shift = r.search.shift;
      };
      graph = graph;
      small = rw bases (rows-small c.args.q c.args.search.now.warm.bases r.factor
          (small_from_abs (10 ^ 19) c.args.search.now.warm.bases
          (c.are_within.ensures.0 c.if-are_within.true)));
    }

-- 64 times the factor
grained : (g : given.Over) (c : After-grains g) → c.grains.result ≡ (c.args.q *ℤ pos 64)
grained g c = let fq : FitsSigned w128 c.args.q = c.ranges.q in simp to_z-of_z at
    c.grains.ensures.times

pub restart_first-requires : goal.restart_first-requires
restart_first-requires g c =
    let r = c.requires in
    let small = c.grains.ensures.small in
    let fg : FitsSigned w128 c.grains.result = omega (arith, ints, small.low, small.high) in
    simp to_z-of_z (record {
      factor = rw (grained g (goal.at.restart_first-requires g c).After-grains)
          (factor-grains c.args.q r.factor r.few);
      graph = rw r.search.cold.are_spots.count r.search.cold;
      first = rw r.search.cold.are_spots.count r.search.first;
      begins = r.search.begins;
    })

pub returns : goal.returns
returns g c =
    let r = c.requires in
    let small = c.grains.ensures.small in
    let fg : FitsSigned w128 c.grains.result = omega (arith, ints, small.low, small.high) in
    let o = c.in_ok-restart_first.ensures in
    let graph = rw (grained g (goal.at.returns g c).After-grains) at
    (simp to_z-of_z at (rw r.search.cold.are_spots.count at o.graph)) in
    record {
      search = record {
        first = r.search.first;
        begins = r.search.begins;
        warm = r.search.warm;
        cold = shaped graph;
        shift = r.search.shift;
      };
      graph = graph;
      small = o.small;
    }
