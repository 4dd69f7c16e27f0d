use Rattle.std.proofs.Common.{Some, ap, ◌∙◌}
use Rattle.sfm_spec.specs.Families.{meanings}
use Rattle.sfm_exchange.proofs.ClaimedGraphs.{are_terms, have_links, over}
use Rattle.sfm_stage.proofs.Chains.{serving_none}
use Rattle.sfm_stage.proofs.Moving.{seen_course}
use Rattle.sfm_stage.proofs.stage.look.Goals as goal

pub returns-then-not-proved-clause-graph : goal.returns-then-not-proved-clause-graph
returns-then-not-proved-clause-graph g c =
    over c.requires.graph c.in_ok-proved.ensures.still.claimed

pub returns-then-not-proved-clause-serving : goal.returns-then-not-proved-clause-serving
returns-then-not-proved-clause-serving g c =
    let t = g.T.Term in
    rw c.in_ok-proved.ensures.still.bases
    (serving_none (meanings t.places t.value_of c.args.terms.now) c.args._low.now
    c.args._high.now c.args.graph.now.bases)

pub advance-requires-clause-course : goal.advance-requires-clause-course
advance-requires-clause-course g c =
    let m = g.met.T.Term in
    let h = c.requires.graph in
    let fit = are_terms h m.family m.submodular in
    let sought = c.in_ok-led.ensures in
    let seen = sought.seen (c.in-Some.is ∙ ap Some c.if-not-led.false) in
    let movable = rw c.deref.ensures.value at
    (c.in_ok-proved.ensures.proved c.if-not-proved.false) in
    rw c.in_ok-proved.ensures.still.bases
    (seen_course sought.kept fit h.are_bases (have_links h fit) seen movable)
