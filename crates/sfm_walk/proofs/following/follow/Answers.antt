use Rattle.std.proofs.Common.{◌≡◌, ℕ, suc, ◌<◌, ◌*◌, ◌^◌, ◌++◌, ◌∷◌, [], List, length, map, take, drop, get_or, pos, ◌≤ℤ◌, sym, ap, subst, ◌∙◌, arith, FitsSigned}
use Rattle.std.proofs.lemmas.Int.{ints, to_z-of_z}
use Rattle.std.proofs.lemmas.List.{map_more, take_all}
use Rattle.std.specs.List.{All}
use Rattle.std.proofs.lemmas.List.Elements.{All-get_or}
use mir.Syntax.{w128}
use Rattle.sfm_spec.specs.Sets.{Has}
use Rattle.sfm_spec.specs.Bounds.{IsAtMost}
use Rattle.sfm_spec.specs.Families.{Meaning, meanings, AreTerms}
use Rattle.sfm_spec.specs.Labels.{FallsAlong}
use Rattle.sfm_spec.specs.Walks.{Step, AllCanMove, CanMove, IsWalkMove, base_at, last_of, term_at}
use Rattle.sfm_spec.proofs.Duality.{meanings-terms}
use Rattle.sfm_spec.proofs.Gain.{bases_kept}
use Rattle.sfm_spec.proofs.Walks.{terms-at}
use Rattle.sfm_law.specs.Walk.{step_of}
use Rattle.sfm_law.proofs.Lists.{length-meanings, meanings-at, placed-meanings}
use Rattle.sfm_walk.proofs.Falling.{has_or_not, shortest_falls}
use Rattle.sfm_walk.proofs.Stepping.{last_append, map_split, next, next_count, next_length, stepped, stepped_small}
use Rattle.sfm_walk.proofs.following.follow.Given as given
use Rattle.sfm_walk.proofs.following.follow.Goals as goal
use Rattle.sfm_walk.proofs.following.follow.Goals.{After-elements, After-loop-to, In-loop-to}

-- the steps before the next one, that step and those behind it
abbrev before : (g : given.Over) → In-loop-to g → List Step
before g c = map step_of (take c.loop-to.to-index c.as_slice-to-items.result.now)

abbrev step : (g : given.Over) → In-loop-to g → Step
step g c = step_of (get_or c.as_slice-to-items.result.now c.loop-to.to-index (0, 0))

abbrev behind : (g : given.Over) → In-loop-to g → List Step
behind g c = map step_of (drop (suc c.loop-to.to-index) c.as_slice-to-items.result.now)

-- the walk in these parts
split : (g : given.Over) (c : In-loop-to g)
    → c.args.walk.now.steps ≡ before g c ++ step g c ∷ behind g c
split g c =
    sym c.as_slice-to-items.ensures
    ∙ map_split step_of c.as_slice-to-items.result.now c.loop-to.to-index (0, 0) c.loop-to-test.true

-- what is known before the next step
record IsNext (g : given.Over) (c : In-loop-to g) : Type 0 where
  n : ℕ
  fit : let t = g.T.Term in AreTerms n (meanings t.places t.value_of c.args.terms.now)
  moved : let t = g.T.Term in IsWalkMove (meanings t.places t.value_of c.args.terms.now)
      c.args.bases.now c.args.walk.now.first (before g c) c.args.a c.loop-to.bases
  can : let t = g.T.Term in AllCanMove (meanings t.places t.value_of c.args.terms.now) c.args._q
      c.args.bases.now c.args.walk.now.first (before g c ++ step g c ∷ behind g c) c.args.a
  one : pos 1 ≤ℤ c.args.a
  high : c.args.a ≤ℤ pos (10 ^ 30)
  low : pos 0 ≤ℤ c.args._q

known : (g : given.Over) (c : In-loop-to g) → IsNext g c
known g c =
    let t = g.T.Term in
    let m = g.met.T.Term in
    let fq : FitsSigned w128 c.args._q = c.ranges._q in
    let fa : FitsSigned w128 c.args.a = c.ranges.a in
    let r = c.requires in
    let (n, b) = r.bounded in
    let terms = c.args.terms.now in
    let factor = r.factor.low in
    record {
      n = n;
      fit = meanings-terms n t.places t.value_of m.family m.submodular terms
          (placed-meanings n t.places t.value_of terms b.placed);
      moved = simp to_z-of_z at c.loop-to.invariant.moved;
      can = rw (split g c) at r.can;
      one = r.low;
      high = r.high;
      low = omega (arith, ints, factor);
    }

-- the next step can move
can : (g : given.Over) (c : In-loop-to g) → let t = g.T.Term in
    CanMove (meanings t.places t.value_of c.args.terms.now) c.args._q c.args.bases.now
    (last_of c.args.walk.now.first (before g c)) (step g c) c.args.a
can g c =
    let t = g.T.Term in
    let k = known g c in
    let o = k.one in
    next (meanings t.places t.value_of c.args.terms.now) k.n c.args._q k.fit c.args.bases.now
    c.requires.bases c.args.walk.now.first c.args.a (omega (arith, ints, o)) (before g c)
    (step g c) (behind g c) k.can c.loop-to.bases k.moved

inside : (g : given.Over) (c : In-loop-to g) → (step g c).term < length c.args.terms.now
inside g c =
    let t = g.T.Term in
    rw (length-meanings t.places t.value_of c.args.terms.now) at (can g c).in_range

row_in : (g : given.Over) (c : In-loop-to g) → (step g c).term < length c.loop-to.bases
row_in g c =
    let t = g.T.Term in
    let k = known g c in
    let o = k.one in
    next_count (meanings t.places t.value_of c.args.terms.now) k.n c.args._q k.fit
    c.args.bases.now c.requires.bases c.args.walk.now.first c.args.a (omega (arith, ints, o))
    (before g c) (step g c) (behind g c) k.can c.loop-to.bases k.moved

sized : (g : given.Over) (c : In-loop-to g) → let t = g.T.Term in
    length (base_at c.loop-to.bases (step g c).term)
    ≡ length (term_at (meanings t.places t.value_of c.args.terms.now) (step g c).term).places
sized g c =
    let t = g.T.Term in
    let k = known g c in
    let o = k.one in
    next_length (meanings t.places t.value_of c.args.terms.now) k.n c.args._q k.fit
    c.args.bases.now c.requires.bases c.args.walk.now.first c.args.a (omega (arith, ints, o))
    (before g c) (step g c) (behind g c) k.can c.loop-to.bases k.moved

-- the places of its term
places_are : (g : given.Over) (c : After-elements g)
    → (get_or c.as_slice-to-items.result.now c.loop-to.to-index (0, 0)).1 < length c.args.terms.now
    → let t = g.T.Term in (term_at (meanings t.places t.value_of c.args.terms.now)
    (get_or c.as_slice-to-items.result.now c.loop-to.to-index (0, 0)).1).places
    ≡ c.elements.result.now
places_are g c l =
    let t = g.T.Term in
    let m = meanings-at t.places t.value_of c.args.terms.now
    (get_or c.as_slice-to-items.result.now c.loop-to.to-index (0, 0)).1
    c.index-terms-term.result l c.index-terms-term.is in
    ap (λ (u : Meaning). u.places) m ∙ sym c.elements.ensures

pub exchange_places-requires-clause-inside : goal.exchange_places-requires-clause-inside
exchange_places-requires-clause-inside g c =
    row_in g (goal.at.exchange_places-requires-clause-inside g c).In-loop-to

pub bounds-terms-term : goal.bounds-terms-term
bounds-terms-term g c = inside g (goal.at.bounds-terms-term g c).In-loop-to

pub offset_bounds-terms-term : goal.offset_bounds-terms-term
offset_bounds-terms-term g c =
    let l = inside g (goal.at.offset_bounds-terms-term g c).In-loop-to in
    omega (arith, l)

pub exchange_places-requires-clause-sized : goal.exchange_places-requires-clause-sized
exchange_places-requires-clause-sized g c =
    let at = goal.at.exchange_places-requires-clause-sized g c in
    let places = places_are g at.After-elements (inside g at.In-loop-to) in
    sized g at.In-loop-to ∙ ap length places

pub exchange_places-requires-clause-from : goal.exchange_places-requires-clause-from
exchange_places-requires-clause-from g c =
    let at = goal.at.exchange_places-requires-clause-from g c in
    let places = places_are g at.After-elements (inside g at.In-loop-to) in
    let can = can g at.In-loop-to in
    (can.u, rw places at can.u_in, rw places at can.begins ∙ sym c.loop-to.invariant.at)

pub exchange_places-requires-clause-to : goal.exchange_places-requires-clause-to
exchange_places-requires-clause-to g c =
    let at = goal.at.exchange_places-requires-clause-to g c in
    let places = places_are g at.After-elements (inside g at.In-loop-to) in
    let can = can g at.In-loop-to in
    (can.v, rw places at can.v_in, rw places at can.ends)

pub exchange_places-requires-clause-apart : goal.exchange_places-requires-clause-apart
exchange_places-requires-clause-apart g c same =
    let at = (goal.at.exchange_places-requires-clause-apart g c).In-loop-to in
    let t = g.T.Term in
    let k = known g at in
    let can = can g at in
    let distinct = (terms-at k.n (meanings t.places t.value_of c.args.terms.now) (step g at).term
    k.fit can.in_range).placed.distinct in
    can.apart (distinct can.u can.v can.u_in can.v_in
    (can.begins ∙ (sym c.loop-to.invariant.at ∙ (same ∙ sym can.ends))))

pub exchange_places-requires-clause-small : goal.exchange_places-requires-clause-small
exchange_places-requires-clause-small g c =
    let at = (goal.at.exchange_places-requires-clause-small g c).In-loop-to in
    let t = g.T.Term in
    let r = c.requires in
    let k = known g at in
    let o = k.one in
    let ts = meanings t.places t.value_of c.args.terms.now in
    let first = c.args.walk.now.first in
    let (to, apart, shortest) = r.walk in
    let (d, along) = shortest_falls ts c.args.bases.now k.n c.args._q k.low k.fit r.bases (Has to)
    (λ e. has_or_not to e) first c.args.walk.now.steps shortest apart in
    let falls : FallsAlong d first (before g at ++ step g at ∷ behind g at)
    = subst (λ xs. FallsAlong d first xs) (split g at) along in
    let small = stepped_small ts k.n c.args._q k.fit c.args.bases.now r.bases first c.args.a
    (omega (arith, ints, o)) d (before g at) (step g at ∷ behind g at) falls r.small k.high
    c.loop-to.bases k.moved in
    All-get_or (λ x. All (IsAtMost (2 * 10 ^ 30)) x) c.loop-to.bases (step g at).term []
    (row_in g at) small

pub loop-to-preserved : goal.loop-to-preserved
loop-to-preserved g c =
    let at = goal.at.loop-to-preserved g c in
    let l = at.In-loop-to in
    let t = g.T.Term in
    let fa : FitsSigned w128 c.args.a = c.ranges.a in
    let k = known g l in
    let o = k.one in
    let ts = meanings t.places t.value_of c.args.terms.now in
    let first = c.args.walk.now.first in
    let items = c.as_slice-to-items.result.now in
    let i = c.loop-to.to-index in
    let term = (get_or items i (0, 0)).1 in
    let places = places_are g at.After-elements (inside g l) in
    let (u, v, lu, lv, begins, ends, is) = c.exchange_places.ensures in
    let more = map_more step_of items i (0, 0) c.loop-to-test.true in
    let after = stepped ts k.n c.args._q k.fit c.args.bases.now c.requires.bases first c.args.a
    (omega (arith, ints, o)) (before g l) (step g l) (behind g l) k.can c.loop-to.bases k.moved
    u v (rw places lu) (rw places lv) (rw places (begins ∙ c.loop-to.invariant.at))
    (rw places ends) in
    simp to_z-of_z (record {
      at = rw more (sym (last_append first (before g l) (step g l ∷ [])));
      moved = rw (simp to_z-of_z at is, more) after;
    })

-- all steps have moved
all_moved : (g : given.Over) (c : After-loop-to g) → let t = g.T.Term in
    IsWalkMove (meanings t.places t.value_of c.args.terms.now) c.args.bases.now
    c.args.walk.now.first c.args.walk.now.steps c.args.a c.loop-to.bases
all_moved g c =
    let fa : FitsSigned w128 c.args.a = c.ranges.a in
    let items = c.as_slice-to-items.result.now in
    let end = c.loop-to-test.false in
    let all = take_all c.loop-to.to-index items (omega (arith, end)) in
    rw (all, c.as_slice-to-items.ensures) at (simp to_z-of_z at c.loop-to.invariant.moved)

pub returns-clause-moved : goal.returns-clause-moved
returns-clause-moved g c = all_moved g c

pub returns-clause-bases : goal.returns-clause-bases
returns-clause-bases g c =
    let t = g.T.Term in
    let m = g.met.T.Term in
    let r = c.requires in
    let (n, b) = r.bounded in
    let terms = c.args.terms.now in
    let ts = meanings t.places t.value_of terms in
    let fit = meanings-terms n t.places t.value_of m.family m.submodular terms
    (placed-meanings n t.places t.value_of terms b.placed) in
    let factor = r.factor.low in
    let first = c.args.walk.now.first in
    let (to, apart, shortest) = r.walk in
    bases_kept ts c.args.bases.now n c.args._q (omega (arith, ints, factor)) fit r.bases first
    c.args.walk.now.steps c.args.a r.low r.can (Has to) shortest
    (λ same. apart (subst (Has to) (sym same) shortest.arrives)) c.loop-to.bases (all_moved g c)
