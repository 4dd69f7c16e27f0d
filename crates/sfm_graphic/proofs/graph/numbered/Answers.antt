use Rattle.std.proofs.Common.{◌≡◌, ◌∙◌, [], ap, length, sym, arith}
use Rattle.sfm_graphic.specs.Ends.{edges_of}
use Rattle.sfm_graphic.specs.Numbered.{vertex_count}
use Rattle.sfm_graphic.proofs.Labels.{length-edges}
use Rattle.sfm_graphic.proofs.Numbers.{few_vertices, length-numbered, numbered_below}
use Rattle.sfm_graphic.proofs.graph.numbered.Goals as goal

pub invariant_of-result-clause-few : goal.invariant_of-result-clause-few
invariant_of-result-clause-few c =
    let edges = edges_of c.args.ends.now in
    let same = sym (length-edges c.in_ok-numbers.numbers.items)
    ∙ (ap length c.in_ok-numbers.ensures
    ∙ (length-numbered edges [] ∙ length-edges c.args.ends.now)) in
    let own = ap length c.from_vec.ensures in
    omega (arith, same, own, c.requires)

pub invariant_of-result-clause-below : goal.invariant_of-result-clause-below
invariant_of-result-clause-below c =
    let edges = edges_of c.args.ends.now in
    let count : c.len-count.result ≡ vertex_count edges = c.len-count.ensures
    ∙ (c.in_ok-vertices.vertices.ok.0 ∙ ap length c.in_ok-vertices.ensures) in
    rw (c.from_vec.ensures, c.in_ok-numbers.ensures, count) (numbered_below edges [])

pub invariant_of-result-clause-small : goal.invariant_of-result-clause-small
invariant_of-result-clause-small c =
    let edges = edges_of c.args.ends.now in
    let count : c.len-count.result ≡ vertex_count edges = c.len-count.ensures
    ∙ (c.in_ok-vertices.vertices.ok.0 ∙ ap length c.in_ok-vertices.ensures) in
    let few = few_vertices edges in
    let l = length-edges c.args.ends.now in
    omega (arith, count, few, l, c.requires)
