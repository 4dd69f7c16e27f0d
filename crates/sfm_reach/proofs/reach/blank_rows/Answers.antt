use Rattle.std.proofs.Common.{◌≡◌, length, refl, ap, ◌∙◌, arith}
use Rattle.sfm_reach.proofs.Noting.{sized_all, sized_push}
use Rattle.sfm_reach.proofs.reach.blank_rows.Goals as goal

pub returns : goal.returns
returns g c =
    let t = g.T.Term in
    let done : c.loop-term.term-index ≡ length
    c.args.terms.now = omega (arith, c.loop-term.auto.term-index-end, c.loop-term-test.false) in
    sized_all t.places c.args.terms.now c.loop-term.rows.items (rw done at c.loop-term.invariant)

pub loop-term-init : goal.loop-term-init
loop-term-init g c = rw c.in_ok-rows.ensures.items
    (record { count = refl; lengths = λ i l. absurd (omega (arith, l)) })

pub loop-term-preserved : goal.loop-term-preserved
loop-term-preserved g c =
    let t = g.T.Term in
    rw c.in_ok-push.ensures.items
    (sized_push t.places c.args.terms.now c.loop-term.term-index c.loop-term.rows.items
    c.term-item.result _ c.loop-term-test.true c.loop-term.invariant c.term-item.is
    (c.in_ok-blank.ensures ∙ ap length c.elements.ensures))
