use Rattle.std.proofs.Common.{◌≡◌, ◌≤◌, get_or, pos, refl, arith, FitsSigned, ⊎_elim}
use Rattle.std.proofs.lemmas.Bool.{false≢true, cases_lt}
use Rattle.std.proofs.lemmas.Int.{ints, to_z-of_z}
use Rattle.std.proofs.lemmas.List.Elements.{All-get_or}
use mir.Syntax.{w128}
use Rattle.sfm_spec.specs.Bounds.{IsEntry}
use Rattle.sfm_law.proofs.Writes.{entry_fits}
use Rattle.sfm_concave.proofs.concave.Concave.is_within_by.Goals as goal
use Rattle.sfm_concave.proofs.concave.Concave.is_within_by.Goals.{After-slack_above}

-- the entry is a number of 128 bits
entry : (c : After-slack_above) → FitsSigned w128 (get_or c.args.x.now c.loop-a.a-index (pos 0))
entry c = entry_fits _ (All-get_or IsEntry c.args.x.now c.loop-a.a-index (pos 0) c.loop-a-test.true
    c.requires.small)

pub returns-then-slack_above-lt0 : goal.returns-then-slack_above-lt0
returns-then-slack_above-lt0 c =
    let fq : FitsSigned w128 c.args.q = c.ranges.q in
    let fa = entry (goal.at.returns-then-slack_above-lt0 c).After-slack_above in
    let fs : FitsSigned w128 c.slack_above.result = record { sfits = c.slack_above.type_inv } in
    let e = simp to_z-of_z at c.slack_above.ensures in
    let less = simp to_z-of_z at c.if-slack_above-lt0.true in (
      (λ t. absurd (false≢true t)),
      (λ all. let z = all c.loop-a.a-index
          c.loop-a-test.true in absurd (omega (arith, ints, less, e, z))),
    )

pub loop-a-preserved : goal.loop-a-preserved
loop-a-preserved c =
    let i = c.loop-a.a-index in
    let fq : FitsSigned w128 c.args.q = c.ranges.q in
    let fa = entry (goal.at.loop-a-preserved c).After-slack_above in
    let fs : FitsSigned w128 c.slack_above.result = record { sfits = c.slack_above.type_inv } in
    let e = simp to_z-of_z at c.slack_above.ensures in
    let some = simp to_z-of_z at c.if-slack_above-lt0.false in
    let inv = simp to_z-of_z at c.loop-a.invariant in
    simp to_z-of_z (λ w lt. ⊎_elim (λ l. inv w l)
    (λ (ge : i ≤ w). let same : w ≡ i = omega arith in rw same (omega (arith, ints, e, some)))
    (cases_lt w i))

pub returns : goal.returns
returns c =
    let fq : FitsSigned w128 c.args.q = c.ranges.q in
    let inv = simp to_z-of_z at c.loop-a.invariant in
    ((λ t w lt. inv w (omega (arith, lt, c.loop-a-test.false))), (λ all. refl))
