use Rattle.std.proofs.Common.{◌∙◌, arith}
use Rattle.std.proofs.lemmas.Int.{ints}
use Rattle.sfm_spec.specs.Families.{meanings}
use Rattle.sfm_slope.proofs.Reached.{reached_none}
use Rattle.sfm_slope.proofs.Scaled.{rows_once}
use Rattle.sfm_slope.proofs.Starts.{firsts_small}
use Rattle.sfm_slope.proofs.standing.first_standing.Goals as goal

pub graph_by-requires-clause-small : goal.graph_by-requires-clause-small
graph_by-requires-clause-small g c =
    let t = g.T.Term in
    let m = g.met.T.Term in
    rw c.requires.begins (firsts_small t.places t.value_of t.size_of m.submodular m.bounded _
    c.args.terms.now c.requires.first.bounded t.start_of m.starts_times m.starts_small)

pub returns : goal.returns
returns g c =
    let t = g.T.Term in
    let m = g.met.T.Term in
    let h = c.in_ok-graph.ensures in
    let same = h.bases ∙ (rows_once c.args.first.now.bases ∙ c.requires.begins) in
    let s = firsts_small t.places t.value_of t.size_of m.submodular m.bounded _ c.args.terms.now
    c.requires.first.bounded t.start_of m.starts_times m.starts_small in
    record {
      claimed = h.graph;
      small = rw same (λ k d l i e lt.
          let b = s k d l i e lt in record {
            low = omega (arith, ints, b.low);
            high = omega (arith, ints, b.high);
          });
      few = omega arith;
      reached = rw same (reached_none (meanings t.places t.value_of c.args.terms.now)
          c.args.sizes.now _ c.args._found.now);
    }
