use Rattle.std.proofs.Common.{ℕ, length, refl, sym, subst, ◌∙◌, FitsSigned}
use Rattle.std.proofs.lemmas.Bool.{false≢true}
use Rattle.std.proofs.lemmas.Int.{to_z-of_z}
use mir.Syntax.{w128}
use Rattle.sfm_spec.specs.Families.{meanings}
use Rattle.sfm_exchange.specs.Levels.{AreClosed, IsFirst, depth_of}
use Rattle.sfm_exchange.specs.Spots.{AreSpots}
use Rattle.sfm_exchange.proofs.Telling.{claims_readable}
use Rattle.sfm_exchange.proofs.ClaimedGraphs.{are_terms, claims_in, counted, have_links, low, shaped, spot_rows, unions_count}
use Rattle.sfm_exchange.proofs.Still.{over_word, ready}
use Rattle.sfm_exchange.proofs.Joining.{none_joins}
use Rattle.sfm_reach.proofs.Options.{match_none, match_some}
use Rattle.sfm_walk.proofs.Advancing.{least_walk, sought_walk}
use Rattle.sfm_walk.proofs.Labelling.{labels_found}
use Rattle.sfm_walk.proofs.Running.{goes_on}
use Rattle.sfm_walk.proofs.walk.searched_walk.Given as given
use Rattle.sfm_walk.proofs.walk.searched_walk.Goals as goal
use Rattle.sfm_walk.proofs.walk.searched_walk.Goals.{In-Some}

-- the place that the search found is the first of a walk
is_first : (g : given.Over) (c : In-Some g)
    → IsFirst (length c.args._shift.now) c.loop-first.graph.unions.items c.loop-first.run.z.items
    c.find_levels.new.levels.items c.in-Some.first
is_first g c =
    let F : ℕ → Type 0 = λ k. IsFirst k c.loop-first.graph.unions.items c.loop-first.run.z.items
    c.find_levels.new.levels.items c.in-Some.first in
    subst F c.loop-first.invariant.0.at.is_rest.places
    (rw (c.deref-in-loop-first.ensures.value, c.deref-in-loop-first-2.ensures.value) at
    (match_some c.in_ok-first.field-0 c.in-Some.first _ _ c.in_ok-first.ensures c.in-Some.is))

pub loop-first-init : goal.loop-first-init
loop-first-init g c =
    let fq : FitsSigned w128 c.args.q = c.ranges.q in
    (simp to_z-of_z c.requires, refl)

pub follow-requires-clause-spots : goal.follow-requires-clause-spots
follow-requires-clause-spots g c =
    let t = g.T.Term in
    let h = c.loop-first.invariant.0.claimed in
    subst (λ k. AreSpots (meanings t.places t.value_of c.args.terms.now) k
    c.loop-first.graph.spots.items) (sym (unions_count h)) h.are_spots

pub follow-requires-clause-rows : goal.follow-requires-clause-rows
follow-requires-clause-rows g c = spot_rows c.loop-first.invariant.0.claimed

pub follow-requires-clause-unions : goal.follow-requires-clause-unions
follow-requires-clause-unions g c = c.loop-first.invariant.0.claimed.are_unions

pub follow-requires-clause-placed : goal.follow-requires-clause-placed
follow-requires-clause-placed g c = λ i l.
    let h = c.loop-first.invariant.0.claimed in
    let m = g.met.T.Term in
    claims_readable _ _ _ _ (are_terms h m.family m.submodular) c.loop-first.graph.rows.items
    (claims_in h) h.bounded.few i (rw (counted h) l)

pub follow-requires-clause-first : goal.follow-requires-clause-first
follow-requires-clause-first g c =
    let unions = c.loop-first.graph.unions.items in
    let first = is_first g (goal.at.follow-requires-clause-first g c).In-Some in
    rw (c.deref-in-Some.ensures.value, c.deref-in-Some-2.ensures.value)
    (subst (λ k. IsFirst k unions c.loop-first.run.z.items c.find_levels.new.levels.items
    c.in-Some.first) (sym (unions_count c.loop-first.invariant.0.claimed)) first)

pub prove_walk-requires-clause-ready : goal.prove_walk-requires-clause-ready
prove_walk-requires-clause-ready g c = let h = c.loop-first.invariant.0 in ready h.claimed h.small

pub prove_walk-requires-clause-told : goal.prove_walk-requires-clause-told
prove_walk-requires-clause-told g c =
    (c.in-Some.first, rw c.deref-in-Some-3.ensures.value c.in_ok-follow.ensures.hops)

pub loop-first-smaller : goal.loop-first-smaller
loop-first-smaller g c = c.in_ok-proved.ensures.refused c.if-proved.false

pub loop-first-preserved : goal.loop-first-preserved
loop-first-preserved g c =
    let fq : FitsSigned w128 c.args.q = c.ranges.q in
    let inv = simp to_z-of_z at c.loop-first.invariant in
    let o = c.in_ok-proved.ensures.still in
    simp to_z-of_z (
      goes_on inv.0 (over_word inv.0.claimed o.claimed) o.bases refl refl,
      o.bases ∙ inv.1,
    )

pub returns-then-proved : goal.returns-then-proved
returns-then-proved g c =
    let m = g.met.T.Term in
    let fq : FitsSigned w128 c.args.q = c.ranges.q in
    let inv = simp to_z-of_z at c.loop-first.invariant in
    let h = inv.0.claimed in
    let fit = are_terms h m.family m.submodular in
    let rest = inv.0.at.is_rest in
    let links = have_links h fit in
    let tables = c.loop-first.graph.rows.items in
    let levels = c.find_levels.new.levels.items in
    let first = c.in-Some.first in
    let found = is_first g (goal.at.returns-then-proved g c).In-Some in
    let hops = c.follow.new.hops.items in
    let e = c.in_ok-follow.ensures in
    let o = c.in_ok-proved.ensures in
    let v = c.deref-in-Some-2.ensures.value in
    let sought = sought_walk _ _ _ _ _ _ (low h) fit h.are_bases rest.places rest
    c.loop-first.graph.unions.items links levels first found tables (claims_in h) hops e.some
    e.hops (rw v at e.falls) (rw v at e.least) (rw v at e.last) in
    let movable = rw c.deref-in-Some-3.ensures.value at
    (simp to_z-of_z at (o.proved c.if-proved.true)) in
    record {
      running = goes_on inv.0 (over_word h o.still.claimed) o.still.bases refl refl;
      bases = o.still.bases ∙ inv.1;
      next = λ _. rw o.still.bases (record {
        walk = least_walk _ _ _ _ _ _ (low h) fit h.are_bases rest.places rest tables
            (depth_of levels) first hops sought movable;
        labels = labels_found _ _ _ _ _ _ (low h) fit h.are_bases c.loop-first.graph.unions.items
            links rest.places rest levels first found;
      });
      ends = λ no. absurd (false≢true (sym no));
    }

pub returns : goal.returns
returns g c =
    let m = g.met.T.Term in
    let fq : FitsSigned w128 c.args.q = c.ranges.q in
    let inv = simp to_z-of_z at c.loop-first.invariant in
    let h = inv.0.claimed in
    let rest = inv.0.at.is_rest in
    let unions = c.loop-first.graph.unions.items in
    let levels = c.find_levels.new.levels.items in
    let shut = match_none c.in_ok-first.field-0 _ _ c.in_ok-first.ensures c.in_default.not-Some in
    let closed : AreClosed (length c.args._shift.now) unions c.loop-first.run.z.items
    levels = subst (λ n. AreClosed n unions c.loop-first.run.z.items levels) rest.places
    (rw (c.deref-in-loop-first.ensures.value, c.deref-in-loop-first-2.ensures.value) at shut) in
    let fit = are_terms h m.family m.submodular in
    record {
      running = goes_on inv.0 h refl refl refl;
      bases = inv.1;
      next = λ yes. absurd (false≢true yes);
      ends = λ _. none_joins _ _ _ _ _ _ (low h) fit h.are_bases rest.places rest unions levels
          (have_links h fit) closed;
    }

pub find_levels-requires-clause-few : goal.find_levels-requires-clause-few
find_levels-requires-clause-few g c =
    rw (c.deref-in-loop-first-2.ensures.value, c.loop-first.invariant.0.at.is_rest.places)
    c.loop-first.invariant.0.claimed.bounded.few

pub find_levels-requires-clause-count : goal.find_levels-requires-clause-count
find_levels-requires-clause-count g c =
    rw (
      c.deref-in-loop-first.ensures.value,
      c.deref-in-loop-first-2.ensures.value,
      c.loop-first.invariant.0.at.is_rest.places,
    )
    (shaped c.loop-first.invariant.0.claimed).union_count

pub find_levels-requires-clause-turned : goal.find_levels-requires-clause-turned
find_levels-requires-clause-turned g c =
    rw (c.deref-in-loop-first.ensures.value, c.deref.ensures.value)
    c.loop-first.invariant.0.claimed.are_turned

pub find_levels-requires-clause-signs : goal.find_levels-requires-clause-signs
find_levels-requires-clause-signs g c =
    rw c.deref-in-loop-first-2.ensures.value c.loop-first.invariant.0.at.signs
