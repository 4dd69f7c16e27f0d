use Rattle.std.proofs.Common.{map, replicate, pos, ◌≤ℤ◌, arith}
use Rattle.std.proofs.lemmas.Int.{ints}
use Rattle.std.proofs.lemmas.Result.{IfOk-weaker}
use Rattle.sfm_spec.specs.Blocks.{AreBlocks, Generate}
use Rattle.sfm_spec.specs.Families.{meanings, even_shift, AreTerms}
use Rattle.sfm_spec.proofs.Duality.{meanings-terms}
use Rattle.sfm_spec.proofs.Generated.{blocks_generate}
use Rattle.sfm_law.proofs.Lists.{placed-meanings}
use Rattle.sfm_exchange.proofs.Minimisers.{link_in}
use Rattle.sfm_exchange.proofs.WholeGraphs.{unions_count}
use Rattle.sfm_extreme.specs.Blocks.{block_of}
use Rattle.sfm_extreme.specs.Pulls.{AreBlocksBy}
use Rattle.sfm_extreme.proofs.Generating.{blocks_are}
use Rattle.sfm_extreme.proofs.Tellings.{tells}
use Rattle.sfm_extreme.proofs.grouping.blocks_read.Goals as goal

pub blocks_by-requires-clause-few : goal.blocks_by-requires-clause-few
blocks_by-requires-clause-few g c =
    let h = c.requires.reading in
    let few = h.whole.bounded.few in
    rw (c.deref.ensures.value, unions_count h.whole) few

pub blocks_by-requires-clause-links : goal.blocks_by-requires-clause-links
blocks_by-requires-clause-links g c =
    let m = g.met.T.Term in
    rw c.deref.ensures.value (link_in c.requires.reading.whole m.family m.submodular)

pub returns-clause-exact : goal.returns-clause-exact
returns-clause-exact g c =
    let t = g.T.Term in
    let m = g.met.T.Term in
    let n = c.args._n in
    let shift = replicate n (pos 0) in
    let ts = meanings t.places t.value_of c.args._terms.now in
    let reading = c.args.reading.now in
    let h = c.requires.reading in
    IfOk-weaker c.blocks_by.result _ (λ r. AreBlocks ts n (pos 1) shift (map block_of r.items))
    (λ r (k : AreBlocksBy reading.graph.now.unions.items c.union_with.new.self
    (map block_of r.items)).
    let told = tells h m.family m.submodular c.requires.prove c.union_with.new.self
    c.union_with.ensures k.rows k.pulls in
    blocks_are ts n (pos 1) shift _ k.rows told k.firsts k.are_firsts (map block_of r.items)
    k.grouped) (rw c.deref.ensures.value at c.blocks_by.ensures)

pub returns-clause-generate : goal.returns-clause-generate
returns-clause-generate g c =
    let t = g.T.Term in
    let m = g.met.T.Term in
    let n = c.args._n in
    let ts = meanings t.places t.value_of c.args._terms.now in
    let fit : AreTerms n ts = meanings-terms n t.places t.value_of m.family m.submodular
    c.args._terms.now (placed-meanings n t.places t.value_of c.args._terms.now
    c.requires.reading.whole.bounded.placed) in
    let low : pos 0 ≤ℤ pos 1 = omega (arith, ints) in
    IfOk-weaker c.blocks_by.result _
    (λ r. Generate ts n (pos 1) (even_shift n (pos 0)) (map block_of r.items))
    (λ r (h : AreBlocks ts n (pos 1) (even_shift n (pos 0)) (map block_of r.items)).
    blocks_generate ts n (pos 1) (even_shift n (pos 0)) low fit (map block_of r.items) h)
    (returns-clause-exact g c)
