use Rattle.std.proofs.Common.{◌≡◌, replicate, pos, rules, arith}
use Rattle.std.proofs.lemmas.Int.{ints}
use Rattle.std.proofs.lemmas.List.{length-replicate}
use Rattle.sfm_spec.specs.Bounds.{IsEntry}
use Rattle.sfm_extreme.specs.Reading.{IsReading}
use Rattle.sfm_extreme.proofs.Deficits.{even_small}
use Rattle.sfm_extreme.proofs.minimisers.minimisers_at.Given as given
use Rattle.sfm_extreme.proofs.minimisers.minimisers_at.Goals as goal
use Rattle.sfm_extreme.proofs.minimisers.minimisers_at.Goals.{In_ok-reading}

-- what was read off the graph, with no shift
reads : (g : given.Over) (c : In_ok-reading g) → let t = g.T.Term in
    IsReading t c.args.terms.now c.args.n (pos 1) (replicate c.args.n (pos 0))
    c.in_ok-reading.reading
reads g c =
    let n = c.args.n in
    let same : c.deref.result.now ≡ replicate n (pos 0) = search rules in
    (rw (same, length-replicate n (pos 0)) at c.in_ok-reading.ensures.reading) (pos 1)
    c.requires.whole

pub read_graph-requires-clause-whole : goal.read_graph-requires-clause-whole
read_graph-requires-clause-whole g c =
    let same : c.deref.result.now ≡ replicate c.args.n (pos 0) = search rules in
    (pos 1, rw (same, length-replicate c.args.n (pos 0)) c.requires.whole)

pub read_graph-requires-clause-shifts : goal.read_graph-requires-clause-shifts
read_graph-requires-clause-shifts g c =
    let zero : IsEntry (pos 0) = record { low = omega (arith, ints); high = omega (arith, ints) } in
    even_small c.deref.result.now c.args.n (pos 0) zero c.requires.whole.bounded.few (search rules)

pub read_graph-requires-clause-small : goal.read_graph-requires-clause-small
read_graph-requires-clause-small g c = c.requires.small

pub blocks_read-requires-clause-reading : goal.blocks_read-requires-clause-reading
blocks_read-requires-clause-reading g c =
    reads g (goal.at.blocks_read-requires-clause-reading g c).In_ok-reading

pub blocks_read-requires-clause-prove : goal.blocks_read-requires-clause-prove
blocks_read-requires-clause-prove g c = rw c.in_ok-reading.ensures.graph c.requires.prove

pub told_by-requires-clause-shifts : goal.told_by-requires-clause-shifts
told_by-requires-clause-shifts g c =
    let zero : IsEntry (pos 0) = record { low = omega (arith, ints); high = omega (arith, ints) } in
    even_small c.deref-2.result.now c.args.n (pos 0) zero c.requires.whole.bounded.few
    (search rules)
