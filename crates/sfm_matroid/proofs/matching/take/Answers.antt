use Rattle.std.proofs.Common.{◌≡◌, ◌≢◌, ◌<◌, length, pos, sym, ap, ◌∙◌, arith, to_z, of_z, FitsSigned}
use Rattle.std.proofs.lemmas.Int.{ints, to_z-of_z}
use mir.Syntax.{w128}
use Rattle.sfm_matroid.proofs.Matched.{matched_leave, matched_none, matched_pass, matched_place, matched_take}
use Rattle.sfm_matroid.proofs.matching.take.Goals as goal
use Rattle.sfm_matroid.proofs.matching.take.Goals.{else-contains-via-then-contains+in_ok-grow+else-branch-eq1, else-contains-via-else-contains}

pub contains-requires : goal.contains-requires
contains-requires c = c.requires.place

pub grow-requires-clause-place : goal.grow-requires-clause-place
grow-requires-clause-place c =
    let lt : c.args.e < length c.args.kept.now.demand.lists = omega (
      arith,
      c.requires.place,
      c.requires.sized,
    ) in
    matched_place _ _ c.args.e lt _ _ c.requires.taken

pub grow-requires-clause-small : goal.grow-requires-clause-small
grow-requires-clause-small c =
    let lt : c.args.e < length c.args.kept.now.demand.lists = omega (
      arith,
      c.requires.place,
      c.requires.sized,
    ) in
    rw (matched_none _ _ c.args.e lt _ _ c.requires.taken)
    (record { low = omega (arith, ints); high = omega (arith, ints) })

pub insert-requires : goal.insert-requires
insert-requires c = let h = c.requires.taken.places in omega (
  arith,
  h,
  c.requires.place,
  c.requires.sized,
)

pub returns-then-branch-eq1 : goal.returns-then-branch-eq1
returns-then-branch-eq1 c =
    let lt : c.args.e < length c.args.kept.now.demand.lists = omega (
      arith,
      c.requires.place,
      c.requires.sized,
    ) in
    let g = c.in_ok-grow.field-0 in
    let most = c.in_ok-grow.ensures.most in
    let low = most.low in
    let high = most.high in
    let fg : FitsSigned w128 g = omega (arith, ints, low, high) in
    let one : g ≡ pos 1 = simp to_z-of_z at (ap (to_z w128) c.if-branch-eq1.true) in
    rw (c.in_ok-grow.ensures.grown, c.insert.ensures)
    (matched_take _ _ c.args.e lt _ _ c.requires.taken g most
    (sym c.contains.ensures ∙ c.if-contains.true) one)

pub returns-else-contains : goal.returns-else-contains
returns-else-contains c =
    let lt : c.args.e < length c.args.kept.now.demand.lists = omega (
      arith,
      c.requires.place,
      c.requires.sized,
    ) in
    elim c.else-contains.branch [
      | else-contains-via-then-contains+in_ok-grow+else-branch-eq1 w ↦
          let g = w.in_ok-grow.field-0 in
          let ne : g ≢ pos 1 = λ is. w.if-branch-eq1.false (ap (of_z w128) is) in
          rw (ap (λ k. k.demand) w.kept-is ∙ w.in_ok-grow.ensures.grown)
          (matched_leave _ _ c.args.e lt _ _ c.requires.taken g w.in_ok-grow.ensures.most ne)
      | else-contains-via-else-contains w ↦
          rw (ap (λ k. k.demand) w.kept-is)
          (matched_pass _ _ c.args.e lt _ _ c.requires.taken
          (sym c.contains.ensures ∙ w.if-contains.false))
    ]
