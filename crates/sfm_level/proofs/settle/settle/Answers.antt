use Rattle.std.proofs.Common.{◌≡◌, ◌^◌, ℕ, List, length, replicate, ℤ, pos, rules, ap, subst, ◌∙◌, arith}
use Rattle.std.proofs.lemmas.Int.{ints}
use Rattle.std.proofs.lemmas.List.{length-replicate}
use Rattle.sfm_spec.specs.Bounds.{IsAtMost}
use Rattle.sfm_spec.specs.Families.{meanings, even_shift, AreTerms}
use Rattle.sfm_spec.specs.Walks.{Step, Joins, IsWalkChain}
use Rattle.sfm_exchange.specs.Graph.{IsClaimed}
use Rattle.sfm_exchange.proofs.ClaimedGraphs.{are_terms}
use Rattle.sfm_walk.specs.Counted.{IsCounted}
use Rattle.sfm_walk.specs.Spread.{AreSpread}
use Rattle.sfm_walk.proofs.Starting.{even_small}
use Rattle.sfm_level.proofs.Kept.{entries-near, gap-near, levelling_after, squares_fall}
use Rattle.sfm_level.proofs.settle.settle.Given as given
use Rattle.sfm_level.proofs.settle.settle.Goals as goal
use Rattle.sfm_level.proofs.settle.settle.Goals.{In_ok-z}

-- what the walks are told to have done, at the even shift
even : (g : given.Over) (c : In_ok-z g) (P : ℕ → List ℤ → Type 0)
    → P (length c.deref.result.now) c.deref.result.now → P c.args.n (even_shift c.args.n c.args.t)
even g c P h =
    let same : c.deref.result.now ≡ replicate c.args.n c.args.t = search rules in
    rw (same, length-replicate c.args.n c.args.t) at h

counted : (g : given.Over) (c : In_ok-z g) → let t = g.T.Term in
    IsCounted (meanings t.places t.value_of c.args.terms.now) c.args.n (pos 1)
    (even_shift c.args.n c.args.t) c.args.graph.now.bases c.improve_from.new.graph.bases
    c.args.steps.now c.improve_from.new.steps
counted g c =
    let t = g.T.Term in
    even g c (λ n shift. IsCounted (meanings t.places t.value_of c.args.terms.now) n (pos 1) shift
    c.args.graph.now.bases c.improve_from.new.graph.bases c.args.steps.now
    c.improve_from.new.steps) c.in_ok-z.ensures.improved.counted

fit : (g : given.Over) (c : In_ok-z g) → let t = g.T.Term in
    AreTerms c.args.n (meanings t.places t.value_of c.args.terms.now)
fit g c = let m = g.met.T.Term in are_terms c.requires.graph.claimed m.family m.submodular

pub improve_from-requires-clause-shifts : goal.improve_from-requires-clause-shifts
improve_from-requires-clause-shifts g c =
    let r = c.requires in
    let slope : IsAtMost (10 ^ 24) c.args.t = record {
      low = omega (arith, ints, r.slope.low);
      high = omega (arith, ints, r.slope.high);
    } in
    even_small c.deref.result.now c.args.n c.args.t slope r.graph.claimed.bounded.few
    (search rules)

pub improve_from-requires-clause-small : goal.improve_from-requires-clause-small
improve_from-requires-clause-small g c = entries-near c.requires.graph (10 ^ 29) (omega arith)

pub improve_from-requires-clause-gap : goal.improve_from-requires-clause-gap
improve_from-requires-clause-gap g c =
    let r = c.requires in
    let same : c.deref.result.now ≡ replicate c.args.n c.args.t = search rules in
    rw (same, length-replicate c.args.n c.args.t)
    (gap-near r.graph r.graph.claimed.bounded.few c.args.t r.slope)

pub improve_from-requires-clause-graph : goal.improve_from-requires-clause-graph
improve_from-requires-clause-graph g c =
    let same : c.deref.result.now ≡ replicate c.args.n c.args.t = search rules in
    rw (same, length-replicate c.args.n c.args.t) c.requires.graph.claimed

pub returns-clause-graph : goal.returns-clause-graph
returns-clause-graph g c =
    let t = g.T.Term in
    let ts = meanings t.places t.value_of c.args.terms.now in
    let d = goal.at.returns-clause-graph g c in
    let k = counted g d.In_ok-z in
    let after = c.improve_from.new.graph in
    levelling_after c.requires.graph (fit g d.In_ok-z) c.args.t k.0 after k.2
    (even g d.In_ok-z (λ n shift. IsClaimed t c.args.terms.now n
    (pos 1) after) c.in_ok-z.ensures.improved.graph)
    (even g d.In_ok-z (λ n shift. AreSpread ts n shift c.args.graph.now.bases after.bases)
    c.in_ok-z.ensures.improved.spread)

pub returns-clause-places : goal.returns-clause-places
returns-clause-places g c =
    let same : c.deref.result.now ≡ replicate c.args.n c.args.t = search rules in
    c.in_ok-z.ensures.improved.rest.places ∙ (ap length same ∙ length-replicate c.args.n c.args.t)

pub returns-clause-moved : goal.returns-clause-moved
returns-clause-moved g c =
    λ some.
    let d = goal.at.returns-clause-moved g c in
    let k = counted g d.In_ok-z in
    let none = c.requires.none in
    squares_fall c.requires.graph (fit g d.In_ok-z) c.args.t k.0 c.improve_from.new.graph k.2
    (omega (arith, k.3, none, some))

pub returns-clause-still : goal.returns-clause-still
returns-clause-still g c =
    λ nothing.
    let t = g.T.Term in
    let ts = meanings t.places t.value_of c.args.terms.now in
    let d = goal.at.returns-clause-still g c in
    let k = counted g d.In_ok-z in
    let none = c.requires.none in
    let zero : k.0 ≡ 0 = omega (arith, k.3, none, nothing) in
    let before = c.args.graph.now.bases in
    let after = c.improve_from.new.graph.bases in
    let same : after ≡ before
    = subst (λ m. IsWalkChain ts (pos 1) (even_shift c.args.n c.args.t) m before after) zero k.2 in
    let ends = even g d.In_ok-z (λ n shift. (first : ℕ) (steps : List Step)
    → Joins ts (pos 1) shift after first steps → ⊥) c.in_ok-z.ensures.improved.optimal.ends in
    record { same = same; ends = rw same at ends }
