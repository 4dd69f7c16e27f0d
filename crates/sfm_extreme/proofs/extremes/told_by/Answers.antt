use Rattle.std.proofs.Common.{length, ◌∙◌, rules, FitsSigned}
use Rattle.std.proofs.lemmas.Int.{to_z-of_z}
use mir.Syntax.{w128}
use Rattle.sfm_spec.specs.Families.{meanings, Prove}
use Rattle.sfm_spec.specs.Walks.{Joins}
use Rattle.sfm_spec.proofs.Proving.{no_join}
use Rattle.sfm_law.proofs.Rests.{rest-total}
use Rattle.sfm_exchange.proofs.Minimisers.{greatest, least, proves}
use Rattle.sfm_reach.proofs.Options.{match_none, match_some}
use Rattle.sfm_exchange.proofs.WholeGraphs.{are_terms, low}
use Rattle.sfm_extreme.proofs.Deficits.{deficit_by_rest, value_by_prove}
use Rattle.sfm_extreme.proofs.extremes.told_by.Goals as goal

pub returns-in-Some : goal.returns-in-Some
returns-in-Some g c =
    let t = g.T.Term in
    let m = g.met.T.Term in
    let fq : FitsSigned w128 c.args.q = c.ranges.q in
    let q = c.args.q in
    let shift = c.args.shift.now in
    let ts = meanings t.places t.value_of c.args.terms.now in
    let graph = c.args.reading.now.graph.now in
    let h = c.requires.reading in
    let walk = c.in-Some.walk in
    let joins : Joins ts q shift graph.bases walk.first walk.steps = simp to_z-of_z at
    (match_some c.in_ok-joins.joins walk _ _ c.in_ok-joins.ensures c.in-Some.is) in (
      joins,
      (
        (λ no'. absurd no'),
        (λ prove. no_join ts graph.bases (length shift) q shift (low h.whole)
            (are_terms h.whole m.family m.submodular) h.whole.exact.are_bases prove walk.first
            walk.steps joins),
      ),
    )

pub deficit_of-requires : goal.deficit_of-requires
deficit_of-requires g c =
    let t = g.T.Term in
    let h = c.requires.reading in
    let b = h.whole.bounded in
    rw c.deref.ensures.value (rest-total t.places t.value_of c.args.terms.now c.args.shift.now
    c.args.reading.now.graph.now.bases c.args.reading.now.z.items h.is_rest c.requires.small
    b.few_places b.few c.requires.shifts)

pub returns-in_ok-greatest-in-None : goal.returns-in_ok-greatest-in-None
returns-in_ok-greatest-in-None g c =
    let t = g.T.Term in
    let m = g.met.T.Term in
    let fq : FitsSigned w128 c.args.q = c.ranges.q in
    let n = length c.args.shift.now in
    let q = c.args.q in
    let shift = c.args.shift.now in
    let ts = meanings t.places t.value_of c.args.terms.now in
    let reading = c.args.reading.now in
    let graph = reading.graph.now in
    let h = c.requires.reading in
    let prove : Prove ts n q shift graph.bases = proves h.whole m.family m.submodular h.count
    h.is_rest h.signed (simp to_z-of_z at
    (match_none c.in_ok-joins.joins _ _ c.in_ok-joins.ensures (λ x e. cc))) in
    let least_is = least h.whole m.family m.submodular h.count h.is_rest h.signed prove
    reading.reached c.in_ok-least-in-None.least c.in_ok-least-in-None.ensures h.reached_are in
    let greatest_is = greatest h.whole m.family m.submodular h.count h.is_rest h.signed prove
    reading.leading c.in_ok-outside-in-None.outside c.in_ok-outside-in-None.ensures
    h.leading_are in
    let value = rw c.deref.ensures.value at c.deficit_of.ensures in
    let by = deficit_by_rest ts shift graph.bases reading.z.items h.is_rest in
    let worth = value_by_prove ts n q shift graph.bases c.in_ok-least-in-None.least prove
    least_is.minimiser in
    let fv : FitsSigned w128 c.deficit_of.result = search rules in (
      (
        least_is,
        rw c.in_ok-greatest-in-None.ensures greatest_is,
        simp to_z-of_z (value ∙ (by ∙ worth)),
      ),
      ((λ _. prove), (λ _. tt)),
    )
