use Rattle.std.proofs.Common.{◌≡◌, ◌+◌, ◌<◌, length, refl, ◌∙◌, arith, FitsSigned}
use Rattle.std.proofs.lemmas.Int.{to_z-of_z}
use mir.Syntax.{w128}
use Rattle.sfm_spec.specs.Families.{meanings}
use Rattle.sfm_spec.specs.Walks.{last_of}
use Rattle.sfm_exchange.specs.Hops.{steps_of}
use Rattle.sfm_exchange.specs.Levels.{IsAtLast, depth_of}
use Rattle.sfm_exchange.proofs.Telling.{claims_readable}
use Rattle.sfm_exchange.proofs.ClaimedGraphs.{are_terms, claims_in, counted, have_links, low, spot_rows, unions_count}
use Rattle.sfm_exchange.proofs.Still.{over_word, ready}
use Rattle.sfm_reach.specs.Bits.{bit_in}
use Rattle.sfm_walk.proofs.Advancing.{least_walk}
use Rattle.sfm_walk.proofs.Labelling.{IsBlocked, blocked, ended, labels_raised, sought_by_labels}
use Rattle.sfm_walk.proofs.Running.{goes_on}
use Rattle.sfm_walk.proofs.labels.kept_walk.Given as given
use Rattle.sfm_walk.proofs.labels.kept_walk.Goals as goal
use Rattle.sfm_walk.proofs.labels.kept_walk.Goals.{In-Some, In-Some-stuck_at}

-- the place at which it begins stands in the last level, and z < 0 there
begins : (g : given.Over) (c : In-Some g) → (1 < length c.loop.run.levels.items)
    × IsAtLast c.loop.run.levels.items c.in-Some.first
    × (bit_in c.loop.run.signs.under c.in-Some.first ≡ 1)
begins g c = rw c.deref.ensures.value at (c.first_kept.ensures c.in-Some.first c.in-Some.is)

pub descend-requires-clause-rows : goal.descend-requires-clause-rows
descend-requires-clause-rows g c = spot_rows c.loop.invariant.0.claimed

pub descend-requires-clause-placed : goal.descend-requires-clause-placed
descend-requires-clause-placed g c = λ i l.
    let h = c.loop.invariant.0.claimed in
    let m = g.met.T.Term in
    claims_readable _ _ _ _ (are_terms h m.family m.submodular) c.loop.graph.rows.items
    (claims_in h) h.bounded.few i (rw (counted h) l)

pub descend-requires-clause-first : goal.descend-requires-clause-first
descend-requires-clause-first g c =
    rw c.deref-in-loop.ensures.value
    (begins g (goal.at.descend-requires-clause-first g c).In-Some).1

pub stuck_at-requires : goal.stuck_at-requires
stuck_at-requires g c = λ none.
    let h = c.loop.invariant.0.claimed in
    let few = h.bounded.few in
    let (some, last, under) = begins g (goal.at.stuck_at-requires g c).In-Some in
    let at = rw (none, c.deref-in-loop.ensures.value) at c.in_ok-end.ensures.end in
    let below = c.loop.invariant.2.parted.below 0
    (last_of c.in-Some.first (steps_of c.descend.new.hops.items)) (omega (arith, some)) at.0 in
    rw c.last.ensures (omega (arith, below, few))

pub prove_walk-requires-clause-ready : goal.prove_walk-requires-clause-ready
prove_walk-requires-clause-ready g c = let h = c.loop.invariant.0 in ready h.claimed h.small

-- where no walk is found by the levels
is_blocked : (g : given.Over) (c : In-Some-stuck_at g)
    → IsBlocked (meanings g.T.Term.places g.T.Term.value_of c.args.terms.now) c.args._shift.now
    c.loop.graph.bases c.loop.graph.unions.items c.loop.run.levels.items c.in-Some-stuck_at.stuck
is_blocked g c =
    let inv = c.loop.invariant in
    let (some, last, under) = begins g (goal.at.In-Some-stuck_at g c).In-Some in
    let places = inv.0.at.is_rest.places in
    let at = rw (c.deref-in-loop.ensures.value, ← c.last.ensures) at c.in_ok-end.ensures.end in
    blocked _ _ _ c.loop.run.z.items inv.0.at.is_rest c.loop.run.signs inv.0.at.signs
    c.loop.graph.unions.items c.loop.run.levels.items c.last.result
    (length c.descend.new.hops.items + 1 ≡ length c.loop.run.levels.items) c.in_ok-end.end
    c.stuck_at.result c.in-Some-stuck_at.stuck
    c.in-Some-stuck_at.is c.stuck_at.ensures.stuck c.stuck_at.ensures.over (omega (arith, some))
    (λ here. let b = inv.2.parted.below 0 c.last.result (omega (arith, some))
    here in omega (arith, b, places)) at

pub raise_label-requires-clause-place : goal.raise_label-requires-clause-place
raise_label-requires-clause-place g c =
    let b = is_blocked g (goal.at.raise_label-requires-clause-place g c).In-Some-stuck_at in
    let inv = c.loop.invariant in
    let below = inv.2.parted.below c.in-Some-stuck_at.stuck.level c.in-Some-stuck_at.stuck.place
    b.level_in b.has in
    rw c.deref-in-Some-stuck_at.ensures.value (omega (arith, below, unions_count inv.0.claimed))

pub raise_label-requires-clause-few : goal.raise_label-requires-clause-few
raise_label-requires-clause-few g c =
    let inv = c.loop.invariant in
    let few = inv.0.claimed.bounded.few in
    rw c.deref-in-Some-stuck_at.ensures.value (omega (arith, few, unions_count inv.0.claimed))

pub raise_label-requires-clause-level : goal.raise_label-requires-clause-level
raise_label-requires-clause-level g c =
    (is_blocked g (goal.at.raise_label-requires-clause-level g c).In-Some-stuck_at).level_in

pub raise_label-requires-clause-once : goal.raise_label-requires-clause-once
raise_label-requires-clause-once g c =
    let b = is_blocked g (goal.at.raise_label-requires-clause-once g c).In-Some-stuck_at in
    λ j lj has. c.loop.invariant.2.parted.apart j c.in-Some-stuck_at.stuck.level
    c.in-Some-stuck_at.stuck.place lj b.level_in has b.has

pub loop-preserved-in-Some-stuck_at : goal.loop-preserved-in-Some-stuck_at
loop-preserved-in-Some-stuck_at g c =
    let m = g.met.T.Term in
    let fq : FitsSigned w128 c.args.q = c.ranges.q in
    let b = is_blocked g (goal.at.loop-preserved-in-Some-stuck_at g c).In-Some-stuck_at in
    let inv = simp to_z-of_z at c.loop.invariant in
    let h = inv.0.claimed in
    let fit = are_terms h m.family m.submodular in
    let stuck = c.in-Some-stuck_at.stuck in
    let raised = rw c.deref-in-Some-stuck_at.ensures.value at c.raise_label.ensures in
    simp to_z-of_z (
      goes_on inv.0 h refl refl refl,
      inv.1,
      labels_raised _ _ _ _ _ c.loop.run.z.items (low h) fit h.are_bases c.loop.graph.unions.items
          (have_links h fit) c.loop.run.levels.items c.raise_label.new.levels.items stuck.place
          stuck.level inv.2 b.level_in b.has b.none b.not_over raised,
    )

pub loop-preserved : goal.loop-preserved
loop-preserved g c =
    let fq : FitsSigned w128 c.args.q = c.ranges.q in
    let inv = simp to_z-of_z at c.loop.invariant in
    let o = c.in_ok-prove_walk.ensures.still in
    simp to_z-of_z (
      goes_on inv.0 (over_word inv.0.claimed o.claimed) o.bases refl refl,
      o.bases ∙ inv.1,
      rw o.bases inv.2,
    )

pub returns-in_default-clause-running : goal.returns-in_default-clause-running
returns-in_default-clause-running g c =
    let fq : FitsSigned w128 c.args.q = c.ranges.q in
    let h = simp to_z-of_z at c.loop.invariant.0 in
    goes_on h h.claimed refl refl refl

pub returns-then-branch-clause-running : goal.returns-then-branch-clause-running
returns-then-branch-clause-running g c =
    let fq : FitsSigned w128 c.args.q = c.ranges.q in
    let h = simp to_z-of_z at c.loop.invariant.0 in
    let o = c.in_ok-prove_walk.ensures.still in
    goes_on h (over_word h.claimed o.claimed) o.bases refl refl

pub returns-then-branch-clause-next : goal.returns-then-branch-clause-next
returns-then-branch-clause-next g c = λ _.
    let m = g.met.T.Term in
    let fq : FitsSigned w128 c.args.q = c.ranges.q in
    let inv = simp to_z-of_z at c.loop.invariant in
    let h = inv.0.claimed in
    let fit = are_terms h m.family m.submodular in
    let rest = inv.0.at.is_rest in
    let signs = inv.0.at.signs in
    let levels = c.loop.run.levels.items in
    let first = c.in-Some.first in
    let hops = c.descend.new.hops.items in
    let (some, at_last, under) = begins g (goal.at.returns-then-branch-clause-next g c).In-Some in
    let e = c.in_ok-end.ensures in
    let v = c.deref-in-loop.ensures.value in
    let (over, here, count) = ended _ _ _ c.loop.run.z.items rest c.loop.run.signs signs
    c.loop.graph.unions.items levels c.last.result (length hops + 1 ≡ length levels)
    c.in_ok-end.end c.stuck_at.result c.in_default-stuck_at.is c.stuck_at.ensures.stuck
    c.stuck_at.ensures.over (rw (v, ← c.last.ensures) at e.end) in
    let sought = sought_by_labels _ _ _ _ _ c.loop.run.z.items fit c.loop.graph.rows.items
    (claims_in h) levels first hops inv.2 (omega (arith, count, some)) e.hops (rw v at e.falls)
    (rw v at e.least) (omega (arith, some)) (rw c.last.ensures at here)
    ((signs.below first).0 under).1
    (rw c.last.ensures at ((signs.above c.last.result).0 over).1) in
    let movable = rw c.deref-in-loop-2.ensures.value at
    (simp to_z-of_z at (c.in_ok-prove_walk.ensures.proved c.if-branch.true)) in
    rw c.in_ok-prove_walk.ensures.still.bases (record {
      walk = least_walk _ _ _ _ _ _ (low h) fit h.are_bases rest.places rest c.loop.graph.rows.items
          (depth_of levels) first hops sought movable;
      labels = inv.2;
    })
