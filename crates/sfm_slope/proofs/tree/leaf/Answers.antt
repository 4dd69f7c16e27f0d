use Rattle.std.proofs.Common.{rules, subst, arith}
use Rattle.sfm_spec.specs.Families.{meanings, sized_shift}
use Rattle.sfm_spec.specs.Walks.{IsWalkChain}
use Rattle.sfm_exchange.specs.Scaled.{rows_times}
use Rattle.sfm_exchange.proofs.Scaling.{starts_times}
use Rattle.sfm_slope.proofs.tree.leaf.Goals as goal

pub walk_on-requires-clause-chain : goal.walk_on-requires-clause-chain
walk_on-requires-clause-chain g c =
    let t = g.T.Term in
    let m = g.met.T.Term in
    let ts = meanings t.places t.value_of c.args.terms.now in
    let s = c.args.point.now.slope in
    let at = c.args.at.now in
    let shift = sized_shift c.args.sizes.now s.num in
    subst (λ z. IsWalkChain ts s.den shift at.walks z (rows_times s.den at.graph.bases))
    (starts_times t.start_of m.starts_times s.den c.args.terms.now)
    (c.requires.standing.reached 0 c.args.point.now (omega arith))

pub returns-in-Some-clause-found : goal.returns-in-Some-clause-found
returns-in-Some-clause-found g c =
    let s = rw c.in-Some.is at c.in_ok-bases.ensures.section in
    record {
      mark = search rules;
      bases = record {
        bases = s.bases;
        small = s.small;
        proves = s.proves;
        reached = s.reached;
        few = c.requires.range.few;
      };
    }
