use Rattle.std.proofs.Common.{◌↔◌, IsTrue, refl, pos, set, arith}
use Rattle.std.proofs.lemmas.Bool.{both_ways, false≢true}
use Rattle.std.proofs.lemmas.Int.{ints}
use Rattle.sfm_assign.specs.Splits.{CanBeMet}
use Rattle.sfm_graphic.specs.Cuts.{IsWithinEnds}
use Rattle.sfm_graphic.specs.Ends.{edges_of}
use Rattle.sfm_graphic.specs.Numbered.{IsTail, end_lists}
use Rattle.sfm_matroid.proofs.Fits.{amounts_count}
use Rattle.sfm_graphic.proofs.Freed.{freed_met, freed_next, met_freed}
use Rattle.sfm_graphic.proofs.testing.passes_tail.Goals.{In_ok-can_bring}
use Rattle.sfm_graphic.proofs.testing.passes_tail.Goals as goal

pub returns-then-not-is_tail : goal.returns-then-not-is_tail
returns-then-not-is_tail c =
    let is = rw c.as_slice.ensures at c.is_tail.ensures in
    record {
      told = (
        (λ t tail. absurd (both_ways c.is_tail.result c.if-not-is_tail.true (is.1 tail))),
        (λ h. refl),
      );
      over = λ t. c.requires.over;
      held = λ t. c.requires.held;
    }

-- a is a tail
tail : (c : In_ok-can_bring) → IsTail (edges_of c.args.trial.now.graph.now.ends) c.args.a
tail c = let is = rw c.as_slice.ensures at c.is_tail.ensures in is.0 c.if-not-is_tail.false

-- what the split tells
told : (c : In_ok-can_bring) → IsTrue c.in_ok-can_bring.field-0
    ↔ CanBeMet c.args.trial.now.x.now (end_lists (edges_of c.args.trial.now.graph.now.ends))
    (set c.args.held.now c.args.a (pos 0))
told c = rw c.requires.over.lists at c.in_ok-can_bring.ensures.told

-- where it can be brought there, the test is passed
within : (c : In_ok-can_bring) → IsTrue c.in_ok-can_bring.field-0
    → IsWithinEnds (edges_of c.args.trial.now.graph.now.ends) c.args.trial.now.graph.now.vertices
    c.args.trial.now.most c.args.trial.now.x.now c.args.a
within c can =
    let t = c.args.trial.now in
    let g = t.graph.now in
    let r = c.requires in
    let all = r.amounts in
    met_freed (edges_of g.ends) g.vertices g.below t.most all.low t.x.now all.sized c.args.held.now
    r.held c.args.a r.vertex ((told c).0 can)

pub returns-then-not-branch-clause-told : goal.returns-then-not-branch-clause-told
returns-then-not-branch-clause-told c =
    let at = (goal.at.returns-then-not-branch-clause-told c).In_ok-can_bring in
    let t = c.args.trial.now in
    let g = t.graph.now in
    let r = c.requires in
    let all = r.amounts in (
      (λ t. absurd (false≢true t)),
      (λ h. absurd (both_ways _ c.if-not-branch.true
          ((told at).1 (freed_met (edges_of g.ends) g.vertices g.below t.most all.low t.x.now
          all.sized c.args.held.now r.held c.args.a r.vertex (amounts_count t.x.now all.amounts)
          (h (tail at)))))),
    )

pub returns-clause-told : goal.returns-clause-told
returns-clause-told c = (
  (λ t tail. within (goal.at.returns-clause-told c).In_ok-can_bring c.if-not-branch.false),
  (λ h. refl),
)

pub returns-clause-held : goal.returns-clause-held
returns-clause-held c = λ y.
    let t = c.args.trial.now in
    let g = t.graph.now in
    let r = c.requires in
    let all = r.amounts in
    freed_next (edges_of g.ends) g.vertices g.below t.most all.low t.x.now all.sized c.args.held.now
    r.held c.args.a r.vertex (pos 1000000000000000000000000)
    (record { low = omega (arith, ints); high = omega (arith, ints) }) all.high
    (within (goal.at.returns-clause-held c).In_ok-can_bring c.if-not-branch.false)
