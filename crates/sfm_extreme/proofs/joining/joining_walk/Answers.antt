use Rattle.std.proofs.Common.{ℕ, ◌<◌, length, subst, sym, ◌∙◌}
use Rattle.sfm_spec.specs.Families.{meanings}
use Rattle.sfm_spec.specs.Walks.{AreSteps, Joins}
use Rattle.sfm_exchange.specs.Hops.{steps_of}
use Rattle.sfm_exchange.specs.Levels.{AreClosed, IsFirst}
use Rattle.sfm_exchange.specs.Reach.{IsTable, table_at}
use Rattle.sfm_exchange.specs.Spots.{AreSpots}
use Rattle.sfm_exchange.specs.Unions.{IsReadable}
use Rattle.sfm_exchange.proofs.Following.{length-steps_of}
use Rattle.sfm_exchange.proofs.Joining.{joins_along}
use Rattle.sfm_exchange.proofs.Minimisers.{none}
use Rattle.sfm_reach.proofs.Options.{match_none, match_some}
use Rattle.sfm_exchange.proofs.Telling.{hops_steps, tables_readable}
use Rattle.sfm_exchange.proofs.WholeGraphs.{are_terms, counted, low, spot_rows, unions_count}
use Rattle.sfm_extreme.proofs.joining.joining_walk.Goals as goal

pub find_levels-requires-clause-few : goal.find_levels-requires-clause-few
find_levels-requires-clause-few g c =
    let h = c.requires in let few = h.whole.bounded.few in rw (c.deref-3.ensures.value, h.count) few

pub find_levels-requires-clause-count : goal.find_levels-requires-clause-count
find_levels-requires-clause-count g c =
    let h = c.requires in rw (c.deref-2.ensures.value, c.deref-3.ensures.value)
    (unions_count h.whole ∙ sym h.count)

pub find_levels-requires-clause-turned : goal.find_levels-requires-clause-turned
find_levels-requires-clause-turned g c =
    rw (c.deref.ensures.value, c.deref-2.ensures.value) c.requires.whole.exact.are_turned

pub find_levels-requires-clause-signs : goal.find_levels-requires-clause-signs
find_levels-requires-clause-signs g c = rw c.deref-3.ensures.value c.requires.signed

pub follow-requires-clause-spots : goal.follow-requires-clause-spots
follow-requires-clause-spots g c =
    let t = g.T.Term in
    let h = c.requires.whole in
    let S : ℕ → Type 0 = λ k. AreSpots (meanings t.places t.value_of c.args.terms.now) k
    c.args.reading.now.graph.now.spots.items in
    subst S (sym (unions_count h)) h.exact.are_spots

pub follow-requires-clause-rows : goal.follow-requires-clause-rows
follow-requires-clause-rows g c = spot_rows c.requires.whole

pub follow-requires-clause-unions : goal.follow-requires-clause-unions
follow-requires-clause-unions g c = c.requires.whole.exact.are_unions

pub follow-requires-clause-placed : goal.follow-requires-clause-placed
follow-requires-clause-placed g c =
    let t = g.T.Term in
    let m = g.met.T.Term in
    let h = c.requires.whole in
    let graph = c.args.reading.now.graph.now in
    let ts = meanings t.places t.value_of c.args.terms.now in
    let each : (i : ℕ) → i < length c.args.terms.now → IsReadable ts graph.rows.items i = λ i l.
    tables_readable ts graph.bases (length c.args._shift.now) c.args._q (low h)
    (are_terms h m.family m.submodular) h.exact.are_bases h.bounded.few graph.rows.items i
    (rw (counted h) l) (h.exact.tables i l) in
    each

pub follow-requires-clause-first : goal.follow-requires-clause-first
follow-requires-clause-first g c =
    let h = c.requires in
    let graph = c.args.reading.now.graph.now in
    let z = c.args.reading.now.z.items in
    let F : ℕ → Type 0 = λ k. IsFirst k graph.unions.items z c.find_levels.new.levels.items
    c.in-Some.first in
    let begin = rw (c.deref-2.ensures.value, c.deref-3.ensures.value) at
    (match_some c.in_ok-found.found c.in-Some.first _ _ c.in_ok-found.ensures c.in-Some.is) in
    rw (c.deref-in-Some.ensures.value, c.deref-in-Some-2.ensures.value)
    (subst F (h.count ∙ sym (unions_count h.whole)) begin)

pub returns-in-Some : goal.returns-in-Some
returns-in-Some g c =
    let t = g.T.Term in
    let m = g.met.T.Term in
    let h = c.requires in
    let graph = c.args.reading.now.graph.now in
    let z = c.args.reading.now.z.items in
    let n = length c.args._shift.now in
    let ts = meanings t.places t.value_of c.args.terms.now in
    let fit = are_terms h.whole m.family m.submodular in
    let levels = c.find_levels.new.levels.items in
    let first = c.in-Some.first in
    let F : ℕ → Type 0 = λ k. IsFirst k graph.unions.items z levels first in
    let begin : IsFirst n graph.unions.items z levels first = subst F h.count
    (rw (c.deref-2.ensures.value, c.deref-3.ensures.value) at
    (match_some c.in_ok-found.found first _ _ c.in_ok-found.ensures c.in-Some.is)) in
    let hops = c.follow.new.hops.items in
    let e = c.in_ok-follow-in-Some.ensures in
    let right : (i : ℕ) → i < length ts
    → IsTable ts c.args._q graph.bases i (table_at graph.rows.items i) =
    λ i l. h.whole.exact.tables i (rw (counted h.whole) at l) in
    let fits : AreSteps ts c.args._q graph.bases first (steps_of hops) = hops_steps ts graph.bases n
    c.args._q fit graph.rows.items right first hops e.hops in
    let joins : Joins ts c.args._q c.args._shift.now graph.bases first (steps_of hops) = joins_along
    ts graph.bases n c.args._q c.args._shift.now z (low h.whole) fit h.whole.exact.are_bases
    h.count h.is_rest graph.unions.items levels first begin
    (steps_of hops) (rw (length-steps_of hops) e.some) fits
    (rw c.deref-in-Some-2.ensures.value at e.last) in
    rw (c.in_ok-steps-in-Some.ensures, c.deref-in-Some-3.ensures.value) joins

pub returns : goal.returns
returns g c =
    let m = g.met.T.Term in
    let h = c.requires in
    let graph = c.args.reading.now.graph.now in
    let z = c.args.reading.now.z.items in
    let n = length c.args._shift.now in
    let levels = c.find_levels.new.levels.items in
    let C : ℕ → Type 0 = λ k. AreClosed k graph.unions.items z levels in
    let closed : AreClosed n graph.unions.items z levels = subst C h.count
    (rw (c.deref-2.ensures.value, c.deref-3.ensures.value) at
    (match_none c.in_ok-found.found _ _ c.in_ok-found.ensures (λ x e. cc))) in
    none h.whole m.family m.submodular h.count h.is_rest h.signed levels closed
