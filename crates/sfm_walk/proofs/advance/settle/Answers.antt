use Rattle.std.proofs.Common.{◌≡◌, ◌++◌, length, take, drop, subst, sym, ap, ◌∙◌, FitsSigned}
use Rattle.std.proofs.lemmas.Int.{to_z-of_z}
use Rattle.std.proofs.lemmas.List.{take_at}
use mir.Syntax.{w128}
use Rattle.sfm_spec.specs.Terms.{exchanged}
use Rattle.sfm_spec.specs.Walks.{last_of}
use Rattle.sfm_spec.proofs.Sums.{length-exchanged}
use Rattle.sfm_exchange.specs.Hops.{steps_of}
use Rattle.sfm_exchange.specs.Signs.{AreMoved}
use Rattle.sfm_walk.proofs.advance.settle.Goals as goal
use Rattle.sfm_walk.proofs.advance.settle.Goals.{After-move_rest}

-- z once the walk has moved a
moved : (c : After-move_rest) → let run = c.args.run.now in c.move_rest.new.z ≡ exchanged
    run.z.items run.path.first (last_of run.path.first (steps_of run.path.hops.items)) c.args.a
moved c =
    let fa : FitsSigned w128 c.args.a = c.ranges.a in
    rw (c.deref_mut.ensures.value, c.last-last.ensures) at (simp to_z-of_z at c.move_rest.ensures)

-- it has as many entries as before
same : (c : After-move_rest) → length c.move_rest.new.z ≡ length c.args.run.now.z.items
same c = let run = c.args.run.now in ap length (moved c)
    ∙ length-exchanged run.z.items run.path.first
    (last_of run.path.first (steps_of run.path.hops.items)) c.args.a

-- so it is all that is kept
whole : (c : After-move_rest) → let run = c.args.run.now in take run.z.len
    (c.move_rest.new.z ++ drop (length c.move_rest.new.z) run.z.items) ≡ c.move_rest.new.z
whole c = let z = c.args.run.now.z in take_at c.move_rest.new.z
    (drop (length c.move_rest.new.z) z.items) z.len (same c ∙ sym z.ok.0)

pub move_rest-requires-clause-last : goal.move_rest-requires-clause-last
move_rest-requires-clause-last c =
    rw (c.deref_mut.ensures.value, c.last-last.ensures) c.requires.last

pub move_rest-requires-clause-apart : goal.move_rest-requires-clause-apart
move_rest-requires-clause-apart c = rw c.last-last.ensures c.requires.apart

pub move_rest-requires-clause-under : goal.move_rest-requires-clause-under
move_rest-requires-clause-under c =
    let fa : FitsSigned w128 c.args.a = c.ranges.a in
    simp to_z-of_z (rw c.deref_mut.ensures.value c.requires.under)

pub move_rest-requires-clause-over : goal.move_rest-requires-clause-over
move_rest-requires-clause-over c =
    let fa : FitsSigned w128 c.args.a = c.ranges.a in
    simp to_z-of_z (rw (c.deref_mut.ensures.value, c.last-last.ensures) c.requires.over)

pub move_signs-requires-clause-few : goal.move_signs-requires-clause-few
move_signs-requires-clause-few c =
    let at = (goal.at.move_signs-requires-clause-few
    c).After-move_rest in rw (c.deref.ensures.value, whole at, same at) c.requires.few

pub move_signs-requires-clause-first : goal.move_signs-requires-clause-first
move_signs-requires-clause-first c =
    let at = (goal.at.move_signs-requires-clause-first
    c).After-move_rest in rw (c.deref.ensures.value, whole at, same at) c.requires.first

pub move_signs-requires-clause-last : goal.move_signs-requires-clause-last
move_signs-requires-clause-last c =
    let at = (goal.at.move_signs-requires-clause-last
    c).After-move_rest in rw (c.deref.ensures.value, whole at, same at, c.last-last.ensures)
    c.requires.last

pub returns-clause-z : goal.returns-clause-z
returns-clause-z c = let at = (goal.at.returns-clause-z c).After-move_rest in rw (whole at)
    (moved at)

pub returns-clause-signs : goal.returns-clause-signs
returns-clause-signs c = λ ends are.
    let run = c.args.run.now in
    let at = (goal.at.returns-clause-signs c).After-move_rest in
    let signs = rw (c.deref.ensures.value, whole at, c.last-last.ensures) at c.move_signs.ensures in
    rw (whole at) (signs run.z.items are
    (subst (λ y. AreMoved run.z.items y run.path.first
    (last_of run.path.first (steps_of run.path.hops.items))) (sym (moved at)) ends))
