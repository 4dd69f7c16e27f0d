use Rattle.std.proofs.Common.{◌^◌, ◌<◌, nat_abs, ℤ, pos, ◌≤ℤ◌, ◌<ℤ◌, ap, ◌∙◌, arith}
use Rattle.std.proofs.lemmas.Int.{ints}
use Rattle.sfm_spec.specs.Families.{meanings}
use Rattle.sfm_squares.specs.Level.{squares}
use Rattle.sfm_squares.proofs.LevelBack.{level_laws}
use Rattle.sfm_reach.proofs.Basing.{size_low}
use Rattle.sfm_exchange.proofs.ClaimedGraphs.{are_terms, whole_claimed}
use Rattle.sfm_walk.proofs.Starting.{sizes_bounded}
use Rattle.sfm_level.specs.Sums.{sums_of}
use Rattle.sfm_level.proofs.Bounds.{squares-low}
use Rattle.sfm_level.proofs.Kept.{entries-near, levelling_begun, squares-near}
use Rattle.sfm_level.proofs.Values.{sums_only}
use Rattle.sfm_level.proofs.passes.level_rows.Goals as goal

pub start_rows-requires-clause-bounded : goal.start_rows-requires-clause-bounded
start_rows-requires-clause-bounded g c =
    let t = g.T.Term in
    let m = g.met.T.Term in
    sizes_bounded t.places t.value_of t.size_of m.submodular m.bounded c.args.n c.args.terms.now
    c.requires.bounded

pub guide-requires : goal.guide-requires
guide-requires g c =
    let t = g.T.Term in
    let m = g.met.T.Term in
    let claimed = whole_claimed (record {
      bounded = c.requires.bounded;
      factor = record { low = omega (arith, ints); high = omega (arith, ints) };
      exact = c.in_ok-graph.ensures.graph;
    }) in
    levelling_begun t (λ x. t.start_of x (pos 1))
    (size_low t.places t.value_of t.size_of m.submodular m.bounded)
    (λ x. m.starts_small x (pos 1) (omega (arith, ints))) c.args.terms.now c.args.n
    c.in_ok-graph.graph claimed (c.in_ok-graph.ensures.bases ∙ c.in_ok-first_bases.ensures.starts)
    c.requires.sizes

pub returns-clause-bases : goal.returns-clause-bases
returns-clause-bases g c =
    rw c.into_bases.ensures c.in_ok-is_moved.ensures.graph.claimed.are_bases

pub returns-clause-small : goal.returns-clause-small
returns-clause-small g c =
    rw c.into_bases.ensures (entries-near c.in_ok-is_moved.ensures.graph (10 ^ 29) (omega arith))

pub returns-clause-none : goal.returns-clause-none
returns-clause-none g c =
    rw c.into_bases.ensures (c.in_ok-is_moved.ensures.none c.if-branch.false)

pub returns-clause-level : goal.returns-clause-level
returns-clause-level g c =
    let t = g.T.Term in
    let m = g.met.T.Term in
    let ts = meanings t.places t.value_of c.args.terms.now in
    let e = c.in_ok-is_moved.ensures in
    let claimed = e.graph.claimed in
    let laws = level_laws ts c.args.n c.is_moved.new.graph.bases
    (are_terms claimed m.family m.submodular) claimed.are_bases in
    rw c.into_bases.ensures (λ z sum. (laws.exact z sum).1 (e.none c.if-branch.false))

pub returns-clause-squares : goal.returns-clause-squares
returns-clause-squares g c =
    let t = g.T.Term in
    let ts = meanings t.places t.value_of c.args.terms.now in
    let near = squares-near c.in_ok-is_moved.ensures.graph in
    rw c.into_bases.ensures (λ z sum.
    let same = ap squares (sums_only ts c.args.n c.is_moved.new.graph.bases z sum) in
    rw same near)

less_far : (a b : ℤ) → pos 0 ≤ℤ a → a <ℤ b → nat_abs a < nat_abs b
less_far a b low less = omega (arith, ints, low, less)

pub loop-graph-smaller : goal.loop-graph-smaller
loop-graph-smaller g c =
    let t = g.T.Term in
    let ts = meanings t.places t.value_of c.args.terms.now in
    less_far _ _ (squares-low (sums_of ts c.args.n c.is_moved.new.graph.bases))
    (c.in_ok-is_moved.ensures.moved c.if-branch.true)
