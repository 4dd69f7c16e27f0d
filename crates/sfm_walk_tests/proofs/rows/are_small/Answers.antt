use Rattle.std.proofs.Common.{◌≡◌, [], refl, ⊎_elim, subst, arith}
use Rattle.std.proofs.lemmas.Bool.{cases_lt}
use Rattle.std.proofs.lemmas.List.Elements.{All-from_get_or}
use Rattle.std.specs.List.{All}
use Rattle.sfm_spec.specs.Bounds.{IsEntry}
use Rattle.sfm_spec.specs.Walks.{base_at}
use Rattle.sfm_walk_tests.proofs.rows.are_small.Goals as goal

pub loop-i-preserved : goal.loop-i-preserved
loop-i-preserved c = λ j l.
    let i = c.loop-i.i in
    let here : All IsEntry (base_at c.args.rows.now i) = rw c.row.ensures at
    (c.if-not-are_entries.ensures.0 refl) in
    ⊎_elim
    (λ lt. c.loop-i.invariant j lt)
    (λ ge. let is : i ≡ j = omega arith in subst (λ k. All IsEntry (base_at c.args.rows.now k)) is
    here)
    (cases_lt j i)

pub returns : goal.returns
returns c = λ t.
    let end = c.loop-i-test.false in
    All-from_get_or (λ x. All IsEntry x) c.args.rows.now []
    (λ j l. c.loop-i.invariant j (omega (arith, l, end)))
